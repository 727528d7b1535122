use Rattle.std.proofs.Common.{◌≡◌, List, length}
use Rattle.go_tree.specs.declared.token.Token.{Token}
use Rattle.go_scan.specs.Weight.{scan_weight}
use Rattle.go_parse_x.specs.Pieces.{open_view, IsOpen}
use Rattle.go_tree.specs.Lexical.Scan.{Stand}
use Rattle.go_parse_x.proofs.texts.read_tokens.Given as goal

abbrev pub invariant-loop-lex : goal.invariant-loop-lex
invariant-loop-lex l = record {
  text : l.cursor.bytes.now ≡ l.fn.cursor.bytes.now;
  same_fault : l.cursor.fault ≡ l.fn.cursor.fault;
  same_piece : (l.pending.reading ≡ l.fn.pending.reading) × (l.pending.free ≡ l.fn.pending.free);
  still_open : (us : List Token) × Stand l.fn.cursor.bytes.now l.fn.cursor.at l.fn.cursor.last us l.cursor.at l.cursor.last × IsOpen l.cursor.bytes.now (open_view l.pending) us l.fn.cursor.number l.cursor.number l.cursor.at l.cursor.last;
}

abbrev pub decreases-loop-lex : goal.decreases-loop-lex
decreases-loop-lex l = scan_weight (length l.cursor.bytes.now) l.cursor.at l.cursor.last
