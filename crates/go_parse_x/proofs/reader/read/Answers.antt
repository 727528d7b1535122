use Rattle.go_parse_x.proofs.AnswerLemmas.{memory_before}
use Rattle.go_parse_x.proofs.reader.read.Goals as goal

pub returns-then-is_err-clause-answer : goal.returns-then-is_err-clause-answer
returns-then-is_err-clause-answer c = λ front low ready. memory_before c.args.cursor.now c.args.pending.now front low ready _ _
