-- Where the tree of a file starts: at its first token, up to which stand blanks and comments alone.
use Rattle.std.proofs.Common.{◌≡◌, ℕ, false, List, [], ◌∷◌, None, refl, subst, sym, ap, ◌∙◌}
use Rattle.go_tree.specs.declared.token.Token.{Token}
use Rattle.go_tree.specs.Lexical.Scan.{Scan, ScanFrom, IsNext, IsPlace, IsFirst, ends, newline, written, Gap}
use Rattle.go_tree.specs.Tree.{Tree, branch, start_of}
use Rattle.go_tree.specs.Grammar.Trees.Spans.{HasRun}
use Rattle.go_tree.proofs.GrammarSpans.{file_lem}
use Rattle.go_text.specs.Copies.{with_copies}
use Rattle.go_text.specs.Files.{IsFileOf}
use Rattle.go_text.specs.Numbers.{numbered}

-- blanks and comments lead up to the first token
gap_to : (bytes : List ℕ) (t : Token) → IsNext bytes 0 None t → Gap false bytes 0 t.start
gap_to bytes t h = to_first h.place h.is_place h.first
  where
    to_first : (place : ℕ) → IsPlace bytes 0 None place → IsFirst bytes None place t → Gap false bytes 0 t.start
    to_first place p (ends a k s e) = subst (Gap false bytes 0) (sym s) p.gap
    to_first place p (newline k space n) = absurd (p.whole t.end (space, λ stops. cc))
    to_first place p (written no_space start long) = subst (Gap false bytes 0) (sym start) p.gap

first_next : (bytes : List ℕ) (tokens : List Token) (t : Token) (ts : List Token) → tokens ≡ t ∷ ts → Scan bytes tokens → IsNext bytes 0 None t
first_next bytes tokens t ts e s = next ts (subst (Scan bytes) e s)
  where
    next : (us : List Token) → ScanFrom bytes 0 None (t ∷ us) → IsNext bytes 0 None t
    next [] h = h.0
    next (u ∷ us) h = h.0

start_of-written : (n : ℕ) (t : Tree) → start_of (numbered n (with_copies t)) ≡ start_of t
start_of-written n (branch id from to kind text parts) = refl

gap_of : (bytes : List ℕ) (tokens : List Token) (t : Tree) → Scan bytes tokens → HasRun tokens t → Gap false bytes 0 (start_of t)
gap_of bytes tokens (branch id from to kind text parts) s h = subst (Gap false bytes 0) (sym h.0.starts) (gap_to bytes h.0.first (first_next bytes tokens h.0.first h.0.others h.0.are s))

pub file_gap : (bytes : List ℕ) (first : ℕ) (tree : Tree) → IsFileOf bytes first tree → Gap false bytes 0 (start_of tree)
file_gap bytes first tree f = subst (Gap false bytes 0) (sym (ap start_of f.tree_is ∙ start_of-written first f.written)) (gap_of bytes f.tokens f.written f.scan (file_lem bytes f.tokens f.written f.derives))
