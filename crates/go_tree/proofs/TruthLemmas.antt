-- Truth values of tests over right sides. In what follows a and c say that a part is so, b and d that a part can be empty,
-- and f that what stands behind is so.
use Rattle.std.proofs.Common.{◌≡◌, Bool, true, false, refl, ◌||◌, ◌&&◌}
use Rattle.std.proofs.lemmas.Bool.{and_from, or_left, or_right}
use Rattle.go_tree.proofs.DecidedTests.{implied, is_false}

pub implies : (a b : Bool) → implied a b ≡ true → a ≡ true → b ≡ true
implies true b h e = h
implies false b h e = cc

pub falsely : (a : Bool) → is_false a ≡ true → a ≡ false
falsely true h = cc
falsely false h = refl

-- one behind the other
pub seq_starts : (a b c d f : Bool) → (a || (b && (c || (d && f)))) ≡ true → ((a || (b && c)) || ((b && d) && f)) ≡ true
seq_starts true b c d f h = refl
seq_starts false true true d f h = refl
seq_starts false true false d f h = h
seq_starts false false c d f h = h

-- the first of two alternatives
pub left_starts : (a b c d f : Bool) → (a || (b && f)) ≡ true → ((a || c) || ((b || d) && f)) ≡ true
left_starts true b c d f h = refl
left_starts false true true d f h = refl
left_starts false true false d f h = h
left_starts false false c d f h = cc

-- the second of two alternatives
pub right_starts : (a b c d f : Bool) → (c || (d && f)) ≡ true → ((a || c) || ((b || d) && f)) ≡ true
right_starts true b c d f h = refl
right_starts false b true d f h = refl
right_starts false true false true f h = h
right_starts false true false false f h = cc
right_starts false false false d f h = h

-- a production whose table says so
pub call_starts : (a b c d f : Bool) → (a ≡ true → c ≡ true) → (b ≡ true → d ≡ true) → (a || (b && f)) ≡ true → (c || (d && f)) ≡ true
call_starts true b c d f p q h = rw (p refl) refl
call_starts false true c d f p q h = or_right c (d && f) (and_from d f (q refl) h)
call_starts false false c d f p q h = cc

-- what is repeated
pub again_starts : (a b f : Bool) → (a || (b && (a || f))) ≡ true → (a || f) ≡ true
again_starts true b f h = refl
again_starts false true f h = h
again_starts false false f h = cc

-- the first of two that a look ahead (l) decides; n: it may miss
pub chosen_starts : (l n a b c d f : Bool) → l ≡ true → (a || (b && f)) ≡ true → (((l && a) || (n && c)) || ((b || d) && f)) ≡ true
chosen_starts true n true b c d f e h = refl
chosen_starts true n false true c d f e h = or_right (n && c) f h
chosen_starts true n false false c d f e h = cc
chosen_starts false n a b c d f e h = cc

-- the second of them
pub passed_by_starts : (l n a b c d f : Bool) → n ≡ true → (c || (d && f)) ≡ true → (((l && a) || (n && c)) || ((b || d) && f)) ≡ true
passed_by_starts l true a b true d f e h = or_left ((l && a) || true) ((b || d) && f) (or_right (l && a) true refl)
passed_by_starts l true a b false true f e h = or_right ((l && a) || false) ((b || true) && f) (and_from (b || true) f (or_right b true refl) h)
passed_by_starts l true a b false false f e h = cc
passed_by_starts l false a b c d f e h = cc

-- what stands behind is replaced
pub later_starts : (a b x y : Bool) → (x ≡ true → y ≡ true) → (a || (b && x)) ≡ true → (a || (b && y)) ≡ true
later_starts true b x y f h = refl
later_starts false true x y f h = f h
later_starts false false x y f h = cc

-- a part that is not empty
pub begins_so : (a b c : Bool) → b ≡ false → (a || (b && c)) ≡ true → a ≡ true
begins_so true b c h k = refl
begins_so false true c h k = cc
begins_so false false c h k = k
