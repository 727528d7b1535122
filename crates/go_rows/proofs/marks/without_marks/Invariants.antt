use Rattle.std.proofs.Common.{◌≡◌, ℕ, [], length}
use Rattle.bstr.specs.Find.{OccursAt}
use Rattle.std.specs.Prelude.{codes}
use Rattle.go_rows.proofs.marks.without_marks.Given as goal

-- where no mark opens, nothing is taken yet
abbrev pub invariant-loop-before : goal.invariant-loop-before
invariant-loop-before l =
    ((k : ℕ) → OccursAt l.text (codes "/*!") k → ⊥) → (l.rest ≡ l.text) × (l.marked.bytes.items ≡ [])

abbrev pub decreases-loop-before : goal.decreases-loop-before
decreases-loop-before l = length l.rest
