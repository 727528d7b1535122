-- Whether a type is an interface, by what its underlying type comes to.
use Rattle.std.proofs.Common.{◌≡◌, Option, refl, ap, ◌∙◌}
use Rattle.go_term.specs.Types.{TypeData}
use Rattle.go_constructs.specs.Operators.Sorts.{sort_found, sort_of}
use Rattle.go_judge.specs.Headers.{Headers}
use Rattle.go_judge.specs.Quests.{Asked, Decided, Lacks, run}
use Rattle.go_judge.specs.Types.Forms.{underlying_over}
use Rattle.go_ops.proofs.AskedLemmas.{under-asked}
use Rattle.go_ops.specs.AskedSorts.{asked_map}
use Rattle.go_report.specs.Finals.Untyped.{is_interface_asked}
use Rattle.go_final.specs.Interfaces.{is_interface_form}

form-asked : (asked : Asked (Option TypeData)) → is_interface_asked (asked_map sort_found asked) ≡ is_interface_form asked
form-asked (Decided found) = refl
form-asked (Lacks d) = refl

pub interface-asked : (headers : Headers) (t : TypeData) → is_interface_asked (run headers (sort_of t)) ≡ is_interface_form (underlying_over headers t)
interface-asked headers t = ap is_interface_asked (under-asked headers t sort_found) ∙ form-asked (underlying_over headers t)
