use Rattle.std.proofs.Common.{◌≡◌, true}
use Rattle.go_same_laws.proofs.NamedLawLemmas.{lacks_named}
use Rattle.go_same_laws.proofs.laws.lacks_what_is_named.Goals as goal

pub returns : goal.returns
returns c = λ good headers known. lacks_named (λ d. good d ≡ true) headers known
