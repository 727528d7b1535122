-- Lemmas on tokens: each has a byte.
use Rattle.std.proofs.Common.{ℕ, ◌<◌, ◌≤◌, List, length, arith}
use Rattle.go_tree.specs.declared.token.TokenKind.{TokenKind}
use Rattle.go_tree.specs.Lexical.Tokens.{IsToken}
use Rattle.go_tree.proofs.CharacterRunLemmas.{run_from}
use Rattle.go_scan.proofs.WordLemmas.{word_within}
use Rattle.go_scan.proofs.QuotedLemmas.{rune_lit_within, interpreted_lit_within}
use Rattle.go_scan.proofs.RawLemmas.{raw_lit_within}
use Rattle.go_scan.proofs.LexemeLemmas.{Form, form_of, slice_len}

form_moves : (bytes : List ℕ) (kind : TokenKind) (from to : ℕ) → to ≤ length bytes → Form bytes kind from to → from < to
form_moves bytes kind from to le (Form.word k w o) = (word_within bytes from to w).0
form_moves bytes kind from to le (Form.number r k) = let past = run_from r.1 in omega (arith, past)
form_moves bytes kind from to le (Form.rune k h) = let w = (rune_lit_within bytes from to h).0 in omega (arith, w)
form_moves bytes kind from to le (Form.interpreted k h) = let w = (interpreted_lit_within bytes from to h).0 in omega (arith, w)
form_moves bytes kind from to le (Form.raw k h) = let w = (raw_lit_within bytes from to h).0 in omega (arith, w)
form_moves bytes kind from to le (Form.spelled s) = let len = slice_len bytes from to le in let some = s.1 in omega (arith, len, some)

pub token_moves : (bytes : List ℕ) (kind : TokenKind) (from to : ℕ) → to ≤ length bytes → IsToken bytes kind from to → from < to
token_moves bytes kind from to le h = form_moves bytes kind from to le (form_of bytes kind from to h)
