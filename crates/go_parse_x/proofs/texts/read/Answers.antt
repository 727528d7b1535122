use Rattle.std.proofs.Common.{[], refl, sym, ap, subst, arith}
use Rattle.go_parse_x.specs.Answers.{spot_of}
use Rattle.go_parse_x.specs.Pieces.{View, IsOpen, new_view}
use Rattle.go_parse_x.specs.Targets.{piece}
use Rattle.go_parse_x.proofs.OpenLemmas.{first_open, new_open}
use Rattle.go_parse_x.proofs.PieceLemmas.{piece_is}
use Rattle.go_parse_x.proofs.TextLemmas.{memory_here, ok_fact}
use Rattle.go_parse_x.proofs.texts.read.Goals as goal

pub returns-then-is_err-clause-answer : goal.returns-then-is_err-clause-answer
returns-then-is_err-clause-answer c =
    let k = c.args.cursor.now in
    let o = new_open k.bytes.now c.args.pending.now k.number k.number k.at k.last c.requires.anew (omega arith) in
    memory_here _ _ (new_view c.args.pending.now) (piece_is c.args.pending.now.reading) _ [] _ _ _ (spot_of k) refl (ap piece c.requires.file) refl (refl, refl) o

pub read_tokens-requires-clause-open : goal.read_tokens-requires-clause-open
read_tokens-requires-clause-open c =
    let k = c.args.cursor.now in
    let o = first_open k.bytes.now c.args.pending.now k.number k.number k.at k.last c.requires.anew (omega arith) in
    let P : View → Type 0 = λ v. IsOpen k.bytes.now v [] k.number k.number k.at k.last in
    let view = ok_fact c.begin.result c.begin.ensures.view (rw c.if-is_err.false at c.is_err.ensures.value) in
    subst P (sym view) o
