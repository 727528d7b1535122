-- Places of packages in an order, and orders of which some packages are left out.
use Rattle.std.proofs.Common.{◌≡◌, ℕ, zero, suc, ◌+◌, ◌<◌, ◌≤◌, Bool, true, false, not, cond, ◌==◌, List, [], ◌∷◌, ◌++◌, Option, Some, None, length, get_or, take, drop, replicate, refl, sym, ap, ◌∙◌, subst, ⊎_elim, nat_lt, arith}
use Rattle.std.specs.Prelude.{position}
use Rattle.std.specs.List.{position_or_len}
use Rattle.std.specs.Option.{option_or}
use Rattle.std.proofs.lemmas.Bool.{cases_eq}
use Rattle.std.proofs.lemmas.Bool.Decides.{nat_tests}
use Rattle.std.proofs.lemmas.List.{length-set, length-take-le, take_at, take_more}
use Rattle.go_load.specs.Packages.Assembly.{put_first, slot_at}
use Rattle.go_load.proofs.SlotLemmas.{slot-here, slot-other, Once}

-- a list that was written whole
pub written_whole : {X : Type 0} (old new : List X) (n : ℕ) → length new ≡ length old → n ≡ length old → take n (new ++ drop (length new) old) ≡ new
written_whole old new n same is = take_at new (drop (length new) old) n (same ∙ sym is)

-- the first place behind an element

abbrev behind : Option ℕ → Option ℕ
behind None = None
behind (Some k) = Some (suc k)

behind-cond : (n len : ℕ) → cond (nat_lt (1 + n) (suc len)) (Some (1 + n)) None ≡ behind (cond (nat_lt n len) (Some n) None)
behind-cond n len = behind-test (nat_lt n len) (nat_lt (1 + n) (suc len)) (grind (arith, nat_tests))
  where
    behind-test : (b c : Bool) → c ≡ b → cond c (Some (1 + n)) None ≡ behind (cond b (Some n) None)
    behind-test true c e = ap (λ t. cond t (Some (1 + n)) None) e ∙ ap Some (let s : 1 + n ≡ suc n = omega arith in s)
    behind-test false c e = ap (λ t. cond t (Some (1 + n)) None) e

position-by : (b : Bool) (n len : ℕ) → cond (nat_lt (cond (not b) (1 + n) 0) (suc len)) (Some (cond (not b) (1 + n) 0)) None ≡ cond b (Some 0) (behind (cond (nat_lt n len) (Some n) None))
position-by true n len = ap (λ t. cond t (Some 0) None) (let t : nat_lt 0 (suc len) ≡ true = grind (arith, nat_tests) in t)
position-by false n len = behind-cond n len

position-cons : (p : ℕ → Bool) (x : ℕ) (xs : List ℕ) → position p (x ∷ xs) ≡ cond (p x) (Some 0) (behind (position p xs))
position-cons p x xs = position-by (p x) (position_or_len p xs) (length xs)

-- with one more element

behind-or : (b c : Bool) (o : Option ℕ) (n : ℕ) → cond b (Some 0) (behind (option_or o (cond c (Some n) None))) ≡ option_or (cond b (Some 0) (behind o)) (cond c (Some (suc n)) None)
behind-or true c o n = refl
behind-or false c (Some k) n = refl
behind-or false true None n = refl
behind-or false false None n = refl

position-push : (p : ℕ → Bool) (xs : List ℕ) (x : ℕ) → position p (xs ++ x ∷ []) ≡ option_or (position p xs) (cond (p x) (Some (length xs)) None)
position-push p [] x = position-cons p x []
position-push p (y ∷ xs) x =
    position-cons p y (xs ++ x ∷ [])
    ∙ ap (λ (o : Option ℕ). cond (p y) (Some 0) (behind o)) (position-push p xs x)
    ∙ behind-or (p y) (p x) (position p xs) (length xs)
    ∙ ap (λ (o : Option ℕ). option_or o (cond (p x) (Some (suc (length xs))) None)) (sym (position-cons p y xs))

-- the table of places

or-none : (o : Option ℕ) → option_or o None ≡ o
or-none None = refl
or-none (Some n) = refl

put-slot : (places : List (Option ℕ)) (p n q : ℕ) → p < length places → slot_at (put_first places p n) q ≡ option_or (slot_at places q) (cond (p == q) (Some n) None)
put-slot places p n q lt =
    ⊎_elim
    (λ (same : p ≡ q).
    let yes_test : (p == q) ≡ true = grind (arith, nat_tests) in
    subst (λ m. slot_at (put_first places p n) m ≡ option_or (slot_at places m) (Some n)) same (slot-here places p (option_or (slot_at places p) (Some n)) lt)
    ∙ ap (λ b. option_or (slot_at places q) (cond b (Some n) None)) (sym yes_test))
    (λ (apart : p ≡ q → ⊥).
    let no_test : (p == q) ≡ false = grind (arith, nat_tests) in
    slot-other places p q (option_or (slot_at places p) (Some n)) apart
    ∙ sym (or-none (slot_at places q))
    ∙ ap (λ b. option_or (slot_at places q) (cond b (Some n) None)) (sym no_test))
    (cases_eq p q)

pub slot-none : (n q : ℕ) → slot_at {X = ℕ} (replicate n None) q ≡ None
slot-none zero q = refl
slot-none (suc n) zero = refl
slot-none (suc n) (suc q) = slot-none n q

-- one more package of the order
pub place_more : (order : List ℕ) (i p : ℕ) (old new : List (Option ℕ)) → i < length order → p ≡ get_or order i 0 → p < length old → new ≡ put_first old p i → ((q : ℕ) → slot_at old q ≡ position (λ r. r == q) (take i order)) → (q : ℕ) → slot_at new q ≡ position (λ r. r == q) (take (i + 1) order)
place_more order i p old new lt is inside now so_far q =
    let len : length (take i order) ≡ i = length-take-le i order (let le : i ≤ length order = omega arith in le) in
    ap (λ (places : List (Option ℕ)). slot_at places q) now
    ∙ put-slot old p i q inside
    ∙ ap (λ (o : Option ℕ). option_or o (cond (p == q) (Some i) None)) (so_far q)
    ∙ ap (λ n. option_or (position (λ r. r == q) (take i order)) (cond (p == q) (Some n) None)) (sym len)
    ∙ sym (position-push (λ r. r == q) (take i order) p)
    ∙ ap (λ r. position (λ s. s == q) (take i order ++ r ∷ [])) is
    ∙ ap (position (λ r. r == q)) (sym (take_more order i 0 lt))

pub length-put : (places : List (Option ℕ)) (p n : ℕ) → length (put_first places p n) ≡ length places
length-put places p n = length-set places p (option_or (slot_at places p) (Some n))

-- a list where no two places have one number has each once
pub once_from : (xs : List ℕ) → ((i k : ℕ) → i < k → k < length xs → get_or xs i 0 ≡ get_or xs k 0 → ⊥) → Once xs
once_from [] apart = tt
once_from (x ∷ xs) apart = (
  λ has.
      let lt = has.1 in
      apart 0 (suc has.0) (omega arith) (omega (arith, lt)) (sym (read xs has.0 x lt has.2)),
  once_from xs (λ i k below within. apart (suc i) (suc k) (omega arith) (omega arith)),
)
  where
    read : (xs : List ℕ) (k x : ℕ) → k < length xs → get_or xs k x ≡ x → get_or xs k 0 ≡ x
    read [] k x lt e = absurd (omega arith)
    read (y ∷ xs) zero x lt e = e
    read (y ∷ xs) (suc k) x lt e = read xs k x (omega arith) e
