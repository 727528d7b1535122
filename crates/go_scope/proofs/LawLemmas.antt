-- The region that lies inside all others that hold an occurrence.
use Rattle.std.proofs.Common.{◌≡◌, ℕ, ◌+◌, ◌==◌, Bool, true, false, not, cond, Some, List, [], ◌∷◌, ◌++◌, filter, find, count_by, refl, sym, ap, ◌∙◌, zero-add, arith}
use Rattle.std.proofs.lemmas.Bool.Decides.{nat_tests}
use Rattle.std.proofs.lemmas.List.{append_assoc}
use Rattle.std.proofs.lemmas.List.Sums.{sum_by-append}
use Rattle.go_module.specs.declared.block.Block.{Block}
use Rattle.go_module.specs.declared.block.Block.TheVariants.{Universe, Package, File}
use Rattle.go_module.specs.declared.block.Occurrence.{Occurrence}
use Rattle.go_module.specs.declared.block.Region.{Region}
use Rattle.go_module.specs.Names.Blocks.{lies_inside}
use Rattle.go_module.specs.Names.Regions.{holds, lies_inside_others, resolution}
use Rattle.go_scope.specs.Laws.{LiesInsideAll, IsInnermost}

-- a block lies not inside itself, and of two blocks at most one lies inside the other
self_outside : (b : Block) → lies_inside b b ≡ false
self_outside Universe = refl
self_outside Package = refl
self_outside (File file) = refl

one_inside : (a b : Block) → lies_inside a b ≡ true → lies_inside b a ≡ false
one_inside Universe b e = cc
one_inside Package Universe e = refl
one_inside Package Package e = cc
one_inside Package (File file) e = cc
one_inside (File own) Universe e = refl
one_inside (File own) Package e = refl
one_inside (File own) (File file) e = cc

count_cons : {X : Type 0} (p : X → Bool) (x : X) (xs : List X) → count_by p (x ∷ xs) ≡ cond (p x) 1 0 + count_by p xs
count_cons p x xs = sum_by-append (λ y. cond (p y) 1 0) (x ∷ []) xs ∙ ap (λ n. n + count_by p xs) (zero-add (cond (p x) 1 0))

count_split : {X : Type 0} (p : X → Bool) (before after : List X) (x : X) → count_by p (before ++ x ∷ after) ≡ count_by p before + (cond (p x) 1 0 + count_by p after)
count_split p before after x = sum_by-append (λ y. cond (p y) 1 0) before (x ∷ after) ∙ ap (λ n. count_by p before + n) (count_cons p x after)

-- it lies inside all of these where it lies outside none
inside_all : (r : Region) (xs : List Region) → count_by (λ other. not (lies_inside r.block other.block)) xs ≡ 0 → LiesInsideAll r xs
inside_all r [] none = tt
inside_all r (x ∷ xs) none = by_place (lies_inside r.block x.block) refl (sym (count_cons (λ other. not (lies_inside r.block other.block)) x xs) ∙ none) (inside_all r xs) where
  by_place : (b : Bool) → lies_inside r.block x.block ≡ b → cond (not (lies_inside r.block x.block)) 1 0 + count_by (λ other. not (lies_inside r.block other.block)) xs ≡ 0 → (count_by (λ other. not (lies_inside r.block other.block)) xs ≡ 0 → LiesInsideAll r xs) → (lies_inside r.block x.block ≡ true) × LiesInsideAll r xs
  by_place true e total go_on = (e, go_on (let here : cond (not true) 1 0 + count_by (λ other. not (lies_inside r.block other.block)) xs ≡ 0 = ap (λ b. cond (not b) 1 0 + count_by (λ other. not (lies_inside r.block other.block)) xs) (sym e) ∙ total in omega arith))
  by_place false e total go_on = absurd (let here : cond (not false) 1 0 + count_by (λ other. not (lies_inside r.block other.block)) xs ≡ 0 = ap (λ b. cond (not b) 1 0 + count_by (λ other. not (lies_inside r.block other.block)) xs) (sym e) ∙ total in omega arith)

none_outside : (r : Region) (xs : List Region) → LiesInsideAll r xs → count_by (λ other. not (lies_inside r.block other.block)) xs ≡ 0
none_outside r [] all = refl
none_outside r (x ∷ xs) all =
    count_cons (λ other. not (lies_inside r.block other.block)) x xs
    ∙ (λ j. cond (not (all.0 j)) 1 0 + none_outside r xs all.1 j)

-- where something is found, and what is found
record Found (test : Region → Bool) (xs : List Region) (r : Region) : Type 0 where
  before : List Region
  after : List Region
  is : xs ≡ before ++ r ∷ after
  passes : test r ≡ true

found : (test : Region → Bool) (xs : List Region) (r : Region) → find test xs ≡ Some r → Found test xs r
found test [] r e = cc
found test (x ∷ xs) r e = by_test (test x) refl e (found test xs r) where
  by_test : (b : Bool) → test x ≡ b → cond b (Some x) (find test xs) ≡ Some r → (find test xs ≡ Some r → Found test xs r) → Found test (x ∷ xs) r
  by_test true passes here go_on = let same : x ≡ r = cc in record { before = []; after = xs; is = ap (λ (y : Region). y ∷ xs) same; passes = ap test (sym same) ∙ passes }
  by_test false fails later go_on = let rest = go_on later in record { before = x ∷ rest.before; after = rest.after; is = ap (λ ys. x ∷ ys) rest.is; passes = rest.passes }

abbrev AllFail : (Region → Bool) → List Region → Type 0
AllFail test [] = Unit {0}
AllFail test (x ∷ xs) = (test x ≡ false) × AllFail test xs

found_behind : (test : Region → Bool) (before after : List Region) (r : Region) → AllFail test before → test r ≡ true → find test (before ++ r ∷ after) ≡ Some r
found_behind test [] after r fail passes = ap (λ b. cond b (Some r) (find test after)) passes
found_behind test (x ∷ before) after r fail passes = ap (λ b. cond b (Some x) (find test (before ++ r ∷ after))) fail.0 ∙ found_behind test before after r fail.1 passes

-- two lie outside: one that holds another inside it, and that other
two_outside : (a m n : ℕ) → (a + (1 + (m + (1 + n))) == 1) ≡ false
two_outside a m n = grind (arith, nat_tests)

others_fail : (all front rest after : List Region) (r : Region) → all ≡ front ++ (rest ++ r ∷ after) → LiesInsideAll r rest → AllFail (lies_inside_others all) rest
others_fail all front [] after r is inside = tt
others_fail all front (s ∷ rest) after r is inside =
    let out = λ (other : Region). not (lies_inside s.block other.block) in
    let itself : not (lies_inside s.block s.block) ≡ true = ap not (self_outside s.block) in
    let other : not (lies_inside s.block r.block) ≡ true = ap not (one_inside r.block s.block inside.0) in
    let counted : count_by out all ≡ count_by out front + (1 + (count_by out rest + (1 + count_by out after))) =
    ap (count_by out) is
    ∙ count_split out front (rest ++ r ∷ after) s
    ∙ (λ j. count_by out front + (cond (itself j) 1 0 + count_split out rest after r j))
    ∙ (λ j. count_by out front + (1 + (count_by out rest + (cond (other j) 1 0 + count_by out after)))) in (
      ap (λ n. n == 1) counted ∙ two_outside (count_by out front) (count_by out rest) (count_by out after),
      others_fail all (front ++ s ∷ []) rest after r (is ∙ sym (append_assoc front (s ∷ []) (rest ++ r ∷ after))) inside.1,
    )

front_inside : (r : Region) (xs ys : List Region) → LiesInsideAll r (xs ++ ys) → LiesInsideAll r xs
front_inside r [] ys all = tt
front_inside r (x ∷ xs) ys all = (all.0, front_inside r xs ys all.1)

-- the region that is found is the innermost
pub is_innermost : (regions : List Region) (o : Occurrence) (r : Region) → resolution regions o ≡ Some r → IsInnermost regions o r
is_innermost regions o r e =
    let all = filter (holds o) regions in
    let out = λ (other : Region). not (lies_inside r.block other.block) in
    let at = found (lies_inside_others all) all r e in
    let itself : not (lies_inside r.block r.block) ≡ true = ap not (self_outside r.block) in
    let one : count_by out all ≡ 1 = (let passes : (count_by out all == 1) ≡ true = at.passes in grind (arith, nat_tests)) in
    let split : count_by out all ≡ count_by out at.before + (1 + count_by out at.after) = ap (count_by out) at.is ∙ count_split out at.before at.after r ∙ (λ j. count_by out at.before + (cond (itself j) 1 0 + count_by out at.after)) in
    let both : count_by out (at.before ++ at.after) ≡ 0 = sum_by-append (λ y. cond (out y) 1 0) at.before at.after ∙ (let sums : count_by out at.before + count_by out at.after ≡ 0 = omega arith in sums) in
    record { before = at.before; after = at.after; held = at.is; inside = inside_all r (at.before ++ at.after) both }

-- the innermost is found
pub innermost_is_found : (regions : List Region) (o : Occurrence) (r : Region) → IsInnermost regions o r → resolution regions o ≡ Some r
innermost_is_found regions o r is =
    let all = filter (holds o) regions in
    let out = λ (other : Region). not (lies_inside r.block other.block) in
    let itself : not (lies_inside r.block r.block) ≡ true = ap not (self_outside r.block) in
    let none : count_by out (is.before ++ is.after) ≡ 0 = none_outside r (is.before ++ is.after) is.inside in
    let sums : count_by out is.before + count_by out is.after ≡ 0 = sym (sum_by-append (λ y. cond (out y) 1 0) is.before is.after) ∙ none in
    let split : count_by out all ≡ count_by out is.before + (1 + count_by out is.after) = ap (count_by out) is.held ∙ count_split out is.before is.after r ∙ (λ j. count_by out is.before + (cond (itself j) 1 0 + count_by out is.after)) in
    let one : count_by out all ≡ 1 = omega arith in
    let passes : (count_by out all == 1) ≡ true = ap (λ n. n == 1) one in
    ap (find (lies_inside_others all)) is.held
    ∙ found_behind (lies_inside_others all) is.before is.after r (others_fail all [] is.before is.after r is.held (front_inside r is.before is.after is.inside)) passes
