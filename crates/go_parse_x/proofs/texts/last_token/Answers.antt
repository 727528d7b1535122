use Rattle.std.proofs.Common.{refl, ap}
use Rattle.go_parse_x.specs.Answers.{spot_of}
use Rattle.go_parse_x.specs.Tables.Lines.{sides}
use Rattle.go_parse_x.specs.Tables.Opened.{frames, numbers}
use Rattle.go_parse_x.specs.Pieces.{open_view}
use Rattle.go_parse_x.specs.Targets.{piece}
use Rattle.go_parse_x.proofs.PieceLemmas.{piece_is}
use Rattle.go_parse_x.proofs.TextLemmas.{stuck_text, end_text}
use Rattle.go_parse_x.proofs.texts.last_token.Goals as goal

pub returns-in-Ok-Passed-clause-answer : goal.returns-in-Ok-Passed-clause-answer
returns-in-Ok-Passed-clause-answer c = λ tokens low o.
    let t = rw c.in-Ok-Passed.field-0-is at c.in-Ok-Passed.ensures.turn in
    end_text _ (open_view c.args.pending.now) (piece_is c.args.pending.now.reading) (ap piece c.requires.file) tokens low _ (spot_of c.args.cursor.now) o _ refl c.requires.next t.0 (sides c.settle.new.todo.items) (frames c.settle.new.opened.items) c.requires.end t.1 t.2 t.3 (numbers c.settle.new.opened.items) c.settle.new.number c.root.new.cursor.number (c.in-Ok-Passed.ensures.numbers low o.rises) c.root.result c.root.ensures.high c.root.ensures.fits c.root.ensures.tree c.root.ensures.numbers

pub returns-in-Ok-Stuck-clause-answer : goal.returns-in-Ok-Stuck-clause-answer
returns-in-Ok-Stuck-clause-answer c = λ tokens low o.
    let t = rw c.in-Ok-Stuck.field-0-is at c.in-Ok-Stuck.ensures.turn in
    stuck_text _ (open_view c.args.pending.now) (piece_is c.args.pending.now.reading) (ap piece c.requires.file) tokens low _ (spot_of c.args.cursor.now) o _ refl c.requires.next t
