-- Lines of steps: a place read deep enough is the right side that stands there.
use Rattle.std.proofs.Common.{ℕ, zero, suc, ◌+◌, ◌≤◌, ◌≡◌, List, Option, None, Some, length, slice_get, refl, sym, ◌∙◌, arith}
use Rattle.std.proofs.lemmas.Option.{slice_get_past}
use Rattle.go_tree.specs.declared.production.Production.{Production}
use Rattle.go_tree.specs.Grammar.RightSide as r
use Rattle.go_tree.specs.Grammar.RightSide.{RightSide}
use Rattle.go_parse_x.specs.declared.line.Step.{Step}
use Rattle.go_parse_x.specs.declared.line.Step.TheVariants.{Pass, Open, Reopen, Adopt, CheckType, Close, Call, Nothing, Seq, Or, Many, When}
use Rattle.go_parse_x.specs.Tables.Lines.{from_step, from_option, decode, side_at}

-- nothing stands outside a line
past : (depth : ℕ) (line : List Step) (at : ℕ) → length line ≤ at → decode depth line at ≡ r.Nothing
past zero line at h = refl
past (suc depth) line at h = rw (slice_get_past line at h) refl

-- two ways to read the parts agree
same_step : (p q : ℕ → RightSide Production) (step : Step) → ((further : ℕ) → p further ≡ q further) → from_step p step ≡ from_step q step
same_step p q (Pass kind) h = refl
same_step p q Open h = refl
same_step p q Reopen h = refl
same_step p q Adopt h = refl
same_step p q CheckType h = refl
same_step p q (Close kind) h = refl
same_step p q (Call n) h = refl
same_step p q Nothing h = refl
same_step p q (Seq n) h = rw (h 0) (rw (h n) refl)
same_step p q (Or n set) h = rw (h 0) (rw (h n) refl)
same_step p q (Many set) h = rw (h 0) refl
same_step p q (When asked n) h = rw (h 0) (rw (h n) refl)

same_option : (p q : ℕ → RightSide Production) (step : Option Step) → ((further : ℕ) → p further ≡ q further) → from_option p step ≡ from_option q step
same_option p q None h = refl
same_option p q (Some step) h = same_step p q step h

-- each depth that reaches the end of the line reads the same
deep : (d e : ℕ) (line : List Step) (at : ℕ) → length line ≤ at + d → length line ≤ at + e → decode d line at ≡ decode e line at
deep zero e line at h i = sym (past e line at (omega (arith, h)))
deep (suc d) zero line at h i = past (suc d) line at (omega (arith, i))
deep (suc d) (suc e) line at h i =
    same_option (λ further. decode d line (at + 1 + further)) (λ further. decode e line (at + 1 + further)) (slice_get line at) (λ further. deep d e line (at + 1 + further) (omega (arith, h)) (omega (arith, i)))

-- a place by its step and the places behind it
pub side_of_step : (line : List Step) (at : ℕ) (step : Step) → slice_get line at ≡ Some step → side_at line at ≡ from_step (λ further. side_at line (at + 1 + further)) step
side_of_step line at step h =
    let e : side_at line at ≡ decode (suc (length line)) line at = deep (length line) (suc (length line)) line at (omega arith) (omega arith) in
    let f : decode (suc (length line)) line at ≡ from_step (λ further. side_at line (at + 1 + further)) step = rw h refl in
    e ∙ f

-- outside the line there is nothing
pub nothing_past : (line : List Step) (at : ℕ) → slice_get line at ≡ None → side_at line at ≡ r.Nothing
nothing_past line at h =
    let e : side_at line at ≡ decode (suc (length line)) line at = deep (length line) (suc (length line)) line at (omega arith) (omega arith) in
    let f : decode (suc (length line)) line at ≡ r.Nothing = rw h refl in
    e ∙ f
