-- Lists of which only those elements are left that pass a test: what stands before an element there.
use Rattle.std.proofs.Common.{◌≡◌, ℕ, zero, suc, ◌<◌, ◌≤◌, Bool, true, false, cond, ◌==◌, List, [], ◌∷◌, Option, Some, None, length, map, get_or, take, refl, sym, ap, ◌∙◌, subst, ⊎_elim, arith}
use Rattle.std.specs.Prelude.{filter, position, slice_get}
use Rattle.std.specs.List.{Contains, cons_option, filter_map}
use Rattle.std.proofs.lemmas.Bool.{cases_lt, false≢true}
use Rattle.std.proofs.lemmas.Bool.Decides.{nat_tests}
use Rattle.std.proofs.lemmas.List.{get_or-take, length-take}
use Rattle.std.proofs.lemmas.List.Elements.{Contains-get_or}
use Rattle.std.proofs.lemmas.List.Quantifiers.{position-Some}
use Rattle.std.proofs.lemmas.Option.{slice_get_within, get_or_from_slice_get, same_Some, none-some}
use Rattle.go_module.proofs.MemberLemmas.{cons_cases, contains_head, contains_tail, contains_none}
use Rattle.go_load.proofs.SlotLemmas.{Once, keeps, passes}

-- what a list of results has at a place
pub result_at : {X Y : Type 0} (f : X → Y) (xs : List X) (k : ℕ) (y : Y) → slice_get (map f xs) k ≡ Some y → (x : X) × (slice_get xs k ≡ Some x) × (f x ≡ y)
result_at f [] k y e = absurd (none-some y e)
result_at f (x ∷ xs) zero y e = (x, refl, same_Some (f x) y e)
result_at f (x ∷ xs) (suc k) y e = result_at f xs k y e

-- where a result comes from
from-by : {X : Type 0} (f : X → Option ℕ) (x : X) (o : Option ℕ) (xs : List X) (i : ℕ) → f x ≡ o → (Contains (filter_map f xs) i → (y : X) × Contains xs y × (f y ≡ Some i)) → Contains (cons_option o (filter_map f xs)) i → (y : X) × Contains (x ∷ xs) y × (f y ≡ Some i)
from-by f x None xs i e rest h = let r = rest h in (r.0, contains_tail x xs r.0 r.1, r.2)
from-by {X} f x (Some n) xs i e rest h =
    ⊎_elim
    (λ (same : n ≡ i). (x, contains_head x xs x refl, e ∙ ap (λ (m : ℕ). Some m) same))
    (λ (has : Contains (filter_map f xs) i). let r = rest has in (r.0, contains_tail x xs r.0 r.1, r.2))
    (cons_cases n (filter_map f xs) i h)

pub result_from : {X : Type 0} (f : X → Option ℕ) (xs : List X) (i : ℕ) → Contains (filter_map f xs) i → (x : X) × Contains xs x × (f x ≡ Some i)
result_from f [] i h = absurd (contains_none i h)
result_from f (x ∷ xs) i h = from-by f x (f x) xs i refl (λ has. result_from f xs i has) h

-- what is left before an element is what is left of what stood before it
pub record FrontIs (m : ℕ → Bool) (xs : List ℕ) (k n : ℕ) : Type 0 where
  pub place : ℕ
  pub at : slice_get xs place ≡ Some n
  pub front : take k (filter m xs) ≡ filter m (take place xs)

front-by : (m : ℕ → Bool) (x : ℕ) (xs : List ℕ) (k n : ℕ) (b : Bool) → m x ≡ b → ((k : ℕ) → slice_get (filter m xs) k ≡ Some n → FrontIs m xs k n) → slice_get (cond b (x ∷ filter m xs) (filter m xs)) k ≡ Some n → FrontIs m (x ∷ xs) k n
front-by m x xs zero n true e rest at = record { place = 0; at = at; front = refl }
front-by m x xs (suc k) n true e rest at =
    let r = rest k at in
    record {
      place = suc r.place;
      at = r.at;
      front = ap (λ b. take (suc k) (cond b (x ∷ filter m xs) (filter m xs))) e ∙ ap (λ ys. x ∷ ys) r.front ∙ ap (λ b. cond b (x ∷ filter m (take r.place xs)) (filter m (take r.place xs))) (sym e);
    }
front-by m x xs k n false e rest at =
    let r = rest k at in
    record {
      place = suc r.place;
      at = r.at;
      front = ap (λ b. take k (cond b (x ∷ filter m xs) (filter m xs))) e ∙ r.front ∙ ap (λ b. cond b (x ∷ filter m (take r.place xs)) (filter m (take r.place xs))) (sym e);
    }

pub front_is : (m : ℕ → Bool) (xs : List ℕ) (k n : ℕ) → slice_get (filter m xs) k ≡ Some n → FrontIs m xs k n
front_is m [] k n e = absurd (none-some n e)
front_is m (x ∷ xs) k n e = front-by m x xs k n (m x) refl (λ j at. front_is m xs j n at) e

-- what stands in a front has its first place there
pub first_in_front : (xs : List ℕ) (k q i : ℕ) → Contains (take k xs) q → position (λ p. p == q) xs ≡ Some i → i < k
first_in_front xs k q i has found =
    let p : ℕ → Bool = λ r. r == q in
    let first = position-Some p xs i q found in
    let n = has.0 in
    let short : length (take k xs) ≤ k = omega (arith, length-take k xs) in
    let below : n < k = (let lt = has.1 in omega (arith, lt, short)) in
    let read : get_or xs n q ≡ q = sym (get_or-take k xs n q below) ∙ has.2 in
    let test : p (get_or xs n q) ≡ true = ap p read ∙ (let t : (q == q) ≡ true = grind (arith, nat_tests) in t) in
    ⊎_elim
    (λ (lt : n < i). absurd (false≢true (sym (first.2 n lt) ∙ test)))
    (λ (le : i ≤ n). (let lt : i < k = omega (arith, le, below) in lt))
    (cases_lt n i)

-- what has a place in what is left passes the test
pub placed_passes : (m : ℕ → Bool) (xs : List ℕ) (q i : ℕ) → position (λ p. p == q) (filter m xs) ≡ Some i → m q ≡ true
placed_passes m xs q i found =
    let list = filter m xs in
    let first = position-Some (λ p. p == q) list i q found in
    let same : get_or list i q ≡ q = (let t = first.1 in grind (arith, nat_tests)) in
    subst (λ r. m r ≡ true) same (passes m xs (get_or list i q) (Contains-get_or list i q first.0)).1

-- what stands before an element and passes has its place before the element's place
pub stands_before : (m : ℕ → Bool) (xs : List ℕ) (k n q i : ℕ) (f : FrontIs m xs k n) → Contains (take f.place xs) q → position (λ p. p == q) (filter m xs) ≡ Some i → i < k
stands_before m xs k n q i f has found =
    first_in_front (filter m xs) k q i (subst (λ (ys : List ℕ). Contains ys q) (sym f.front) (keeps m (take f.place xs) q has (placed_passes m xs q i found))) found

-- each number of a list that has each once has one place
at_has : (xs : List ℕ) (k n : ℕ) → slice_get xs k ≡ Some n → Contains xs n
at_has xs k n e = (k, slice_get_within xs k n e, get_or_from_slice_get xs k n n e)

pub one_place_of : (xs : List ℕ) (j k n : ℕ) → Once xs → slice_get xs j ≡ Some n → slice_get xs k ≡ Some n → j ≡ k
one_place_of [] j k n once a b = absurd (none-some n a)
one_place_of (x ∷ xs) zero zero n once a b = refl
one_place_of (x ∷ xs) zero (suc k) n once a b = absurd (once.0 (subst (Contains xs) (sym (same_Some x n a)) (at_has xs k n b)))
one_place_of (x ∷ xs) (suc j) zero n once a b = absurd (once.0 (subst (Contains xs) (sym (same_Some x n b)) (at_has xs j n a)))
one_place_of (x ∷ xs) (suc j) (suc k) n once a b = ap suc (one_place_of xs j k n once.1 a b)
