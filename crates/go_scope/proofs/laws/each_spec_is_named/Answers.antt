use Rattle.go_scope.proofs.WholeImportLemmas.{whole_imports}
use Rattle.go_scope.proofs.laws.each_spec_is_named.Goals as goal

pub returns : goal.returns
returns c = λ m k p is at. whole_imports m is k p at
