-- Lemmas on identifiers: where one ends.
use Rattle.std.proofs.Common.{◌≡◌, ℕ, ◌+◌, ◌<◌, ◌≤◌, Bool, true, List, length, Some, arith}
use Rattle.go_tree.specs.Lexical.Characters.{decoded_at, is_letter, is_letter_or_digit, Run, Ends}
use Rattle.go_tree.specs.Lexical.Tokens.{IsWord}
use Rattle.go_tree.proofs.CharacterRunLemmas.{char_lies, run_from, run_within, run_longest}

abbrev pub in_word : ℕ → ℕ → Bool
in_word = λ before c. is_letter_or_digit c

-- the first letter of a word, with its length
pub letter_lies : (bytes : List ℕ) (at c len : ℕ) → (decoded_at bytes at).char ≡ Some c → len ≡ (decoded_at bytes at).size → (0 < len) × (at + len ≤ length bytes)
letter_lies bytes at c len char size = let l = char_lies bytes at c char in (rw size l.some, rw size l.within)

pub word_by_run : (bytes : List ℕ) (from c len to : ℕ) → (decoded_at bytes from).char ≡ Some c → len ≡ (decoded_at bytes from).size → is_letter c ≡ true → Run in_word bytes (from + len) to → IsWord bytes from to
word_by_run bytes from c len to char size letter r = record { first = c; char = char; letter = letter; others = rw size at r }

pub word_longest : (bytes : List ℕ) (from len to : ℕ) → len ≡ (decoded_at bytes from).size → Run in_word bytes (from + len) to → Ends in_word bytes to → (n : ℕ) → IsWord bytes from n → n ≤ to
word_longest bytes from len to size r e n w = run_longest (rw size at r) e w.others

-- a word lies within the text, and has a byte
pub word_within : (bytes : List ℕ) (from to : ℕ) → IsWord bytes from to → (from < to) × (to ≤ length bytes)
word_within bytes from to w =
    let l = char_lies bytes from w.first w.char in
    let past = run_from w.others in
    (omega (arith, l.some, past), run_within l.within w.others)
