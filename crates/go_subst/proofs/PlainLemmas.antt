-- Headers that are answered, as long as types are terms.
use Rattle.std.proofs.Common.{◌≡◌, Option, Some, sym, ap, ◌∙◌, subst}
use Rattle.std.specs.Prelude.{IfSome}
use Rattle.std.specs.Option.{option_map}
use Rattle.go_term.specs.Types.{TypeData}
use Rattle.go_term.specs.View.{type_of}
use Rattle.go_term.specs.declared.term.Term.{Term}
use Rattle.go_judge.specs.declared.header.Header.{Header}
use Rattle.go_judge.specs.Records.{HeaderData, header_as}
use Rattle.go_judge.specs.Types.Own.{IsOwnHeader}
use Rattle.go_judge.proofs.OwnDataLemmas.{header_agrees}

-- a header that is answered is the one that is there, read by its terms
pub answered : {own : Term → Type 0} {tree : Term → TypeData} {there : Option HeaderData} → ((t : Term) → own t → tree t ≡ type_of t) → (o : Option Header) (h : Header) → o ≡ Some h
    → IfSome o (IsOwnHeader own) → option_map (header_as tree) o ≡ there → Some (header_as type_of h) ≡ there
answered {own} {tree} plain o h is has answer =
    sym (ap Some (header_agrees own type_of tree plain h (subst (λ (x : Option Header). IfSome x (IsOwnHeader own)) is has)))
    ∙ sym (ap (option_map (header_as tree)) is)
    ∙ answer
