use Rattle.go_records.proofs.TypeLemmas.{one_result, some_results}
use Rattle.go_records.proofs.types.around_results.Goals as goal

pub returns-in-len1 : goal.returns-in-len1
returns-in-len1 c = λ objects. one_result objects c.args.terms.now c.in-len1.len_at_least c.in-len1.len_below

pub returns-in-len2-up : goal.returns-in-len2-up
returns-in-len2-up c = λ objects. some_results objects c.args.terms.now c.in-len2-up.len_at_least
