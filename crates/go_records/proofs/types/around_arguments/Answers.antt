use Rattle.go_records.proofs.TypeLemmas.{some_arguments}
use Rattle.go_records.proofs.types.around_arguments.Goals as goal

pub returns-in-len1-up : goal.returns-in-len1-up
returns-in-len1-up c = λ objects. some_arguments objects c.args.terms.now c.in-len1-up.len_at_least
