use Rattle.std.proofs.Common.{◌≡◌, ◌+◌, ◌∷◌, [], slice_index, sym, ◌∙◌, arith}
use Rattle.go_tree.specs.Lexical.Tokens.{spelling}
use Rattle.go_scan.proofs.SpelledLemmas.{slice_two, two_within}
use Rattle.go_scan.proofs.marks.mark.Goals as goal

pub returns-in-Some-mark_of_two-clause-some : goal.returns-in-Some-mark_of_two-clause-some
returns-in-Some-mark_of_two-clause-some c =
    let bytes = c.args.bytes.now in
    let from = c.args.from in
    let e : spelling c.in-Some-mark_of_two.kind ≡ slice_index bytes from ∷ (slice_index bytes (from + 1) ∷ []) = rw c.byte_at-b.ensures at c.in-Some-mark_of_two.ensures.some in
    let w = two_within bytes from 0 c.in-Some-mark_of_two.kind c.requires.within e in
    let s = slice_two bytes from w in
    ((e ∙ sym s, rw s (omega arith)), omega arith, w)
