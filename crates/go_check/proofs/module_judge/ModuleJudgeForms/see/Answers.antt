use Rattle.go_check.proofs.TypeLemmas.{seen_any}
use Rattle.go_check.proofs.module_judge.ModuleJudgeForms.see.Goals as goal

pub returns-clause-own : goal.returns-clause-own
returns-clause-own c = seen_any _
