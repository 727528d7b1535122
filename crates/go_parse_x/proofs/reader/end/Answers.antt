use Rattle.go_parse_x.specs.Answers.{spot_of}
use Rattle.go_parse_x.specs.Pieces.{open_view}
use Rattle.go_parse_x.proofs.PieceLemmas.{piece_is, no_file}
use Rattle.go_parse_x.proofs.AnswerLemmas.{memory_answer, asked_answer, unfinished_answer, whole_answer}
use Rattle.go_parse_x.proofs.reader.end.Goals as goal

pub returns-then-ends_asked-clause-answer : goal.returns-then-ends_asked-clause-answer
returns-then-ends_asked-clause-answer c = λ front low o.
    asked_answer _ (open_view c.args.pending.now) (piece_is c.args.pending.now.reading) front low _ (spot_of c.args.cursor.now) o _ _ c.args.token (no_file c.args.pending.now.reading c.requires.piece) c.requires.next c.requires.last (rw c.if-ends_asked.true at c.ends_asked.ensures)

pub returns-in-Ok-true-clause-answer : goal.returns-in-Ok-true-clause-answer
returns-in-Ok-true-clause-answer c = λ front low o.
    whole_answer _ (open_view c.args.pending.now) (piece_is c.args.pending.now.reading) front low _ (spot_of c.args.cursor.now) o _ _ c.args.token (no_file c.args.pending.now.reading c.requires.piece) c.requires.next c.requires.last (rw c.if-ends_asked.false at c.ends_asked.ensures) _ (rw c.in-Ok-true.field-0-test at c.in-Ok-true.ensures.whole) _ (c.in-Ok-true.ensures.numbers low o.rises) _ c.whole.ensures.node c.whole.ensures.numbers c.whole.ensures.anew

pub returns-in-Ok-false-clause-answer : goal.returns-in-Ok-false-clause-answer
returns-in-Ok-false-clause-answer c = λ front low o.
    unfinished_answer _ (open_view c.args.pending.now) (piece_is c.args.pending.now.reading) front low _ (spot_of c.args.cursor.now) o _ _ c.args.token (no_file c.args.pending.now.reading c.requires.piece) c.requires.next c.requires.last (rw c.if-ends_asked.false at c.ends_asked.ensures) (rw c.in-Ok-false.field-0-test at c.in-Ok-false.ensures.whole)

pub returns-in-Err-clause-answer : goal.returns-in-Err-clause-answer
returns-in-Err-clause-answer c = λ front low o.
    memory_answer _ (open_view c.args.pending.now) (piece_is c.args.pending.now.reading) front low _ (spot_of c.args.cursor.now) o _ _
