use Rattle.std.proofs.Common.{ℕ, ◌≡◌, true, false, List, ◌++◌, length}
use Rattle.go_parse_x.specs.Targets.{piece}
use Rattle.go_tree.specs.declared.token.Token.{Token}
use Rattle.go_scan.specs.Weight.{scan_weight}
use Rattle.go_parse_x.specs.Tables.Lines.{sides}
use Rattle.go_parse_x.specs.Pieces.{PassesNoBlock, open_view, IsOpen}
use Rattle.go_tree.specs.Lexical.Scan.{Stand}
use Rattle.go_parse_x.specs.Machine.Turns.{IsSolid}
use Rattle.go_parse_x.proofs.reader.go_on.Given as goal

abbrev pub invariant-loop-lex : goal.invariant-loop-lex
invariant-loop-lex l = record {
  solid : IsSolid (sides l.pending.todo.items);
  begun : l.pending.begun ≡ true;
  awaits : l.pending.awaits ≡ false;
  text : (l.cursor.bytes.now ≡ l.fn.cursor.bytes.now) × (l.cursor.fault ≡ l.fn.cursor.fault);
  same_piece : (l.pending.reading ≡ l.fn.pending.reading) × (l.pending.free ≡ l.fn.pending.free);
  still_open : (front : List Token) (low : ℕ) → IsOpen l.fn.cursor.bytes.now (open_view l.fn.pending) front low l.fn.cursor.number l.fn.cursor.at l.fn.cursor.last → (us : List Token) × Stand l.fn.cursor.bytes.now l.fn.cursor.at l.fn.cursor.last us l.cursor.at l.cursor.last × PassesNoBlock l.fn.cursor.bytes.now (piece l.fn.pending.reading) front us × IsOpen l.cursor.bytes.now (open_view l.pending) (front ++ us) low l.cursor.number l.cursor.at l.cursor.last;
}

abbrev pub decreases-loop-lex : goal.decreases-loop-lex
decreases-loop-lex l = scan_weight (length l.cursor.bytes.now) l.cursor.at l.cursor.last
