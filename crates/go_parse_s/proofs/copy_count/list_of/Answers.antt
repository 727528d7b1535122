use Rattle.go_parse_s.proofs.CountLemmas.{list_before}
use Rattle.go_parse_s.proofs.copy_count.list_of.Goals as goal

pub returns-else-spec-gt0 : goal.returns-else-spec-gt0
returns-else-spec-gt0 c = λ t before h q. list_before c.args.spec t c.args.list before c.if-spec-gt0.false h q
