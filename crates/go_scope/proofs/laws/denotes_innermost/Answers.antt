use Rattle.go_scope.proofs.LawLemmas.{is_innermost, innermost_is_found}
use Rattle.go_scope.proofs.laws.denotes_innermost.Goals as goal

pub returns : goal.returns
returns c = λ regions o r. (is_innermost regions o r, innermost_is_found regions o r)
