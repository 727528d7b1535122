-- Lists: what holds of each element, and where an element stands.
use Rattle.std.proofs.Common.{◌≡◌, ℕ, ◌+◌, ◌<◌, zero, suc, Bool, true, false, Contains, None, Some, List, [], ◌∷◌, ◌++◌, ◌⊎◌, inl, inr, get_or, length, map, take, refl, sym, ap, subst, ◌∙◌, arith}
use Rattle.std.specs.Prelude.{◌||◌, Result, Ok, Err, OnOk, slice_get}
use Rattle.std.specs.List.{AllByRecursion, list_any}
use Rattle.std.specs.Option.{option_map}
use Rattle.std.proofs.lemmas.List.{map-append, take_more}
use Rattle.std.proofs.lemmas.Option.{get_or_from_slice_get, slice_get-get_or, slice_get-map, slice_get_within}
use Rattle.go_module.proofs.MemberLemmas.{cons_cases, contains_head, contains_none, contains_tail}

pub all-joined : {X : Type 0} (P : X → Type 0) (xs ys : List X) → AllByRecursion P xs → AllByRecursion P ys → AllByRecursion P (xs ++ ys)
all-joined P [] ys all also = also
all-joined P (x ∷ xs) ys all also = (all.0, all-joined P xs ys all.1 also)

pub all-weaker : {X : Type 0} (P Q : X → Type 0) → ((x : X) → P x → Q x) → (xs : List X) → AllByRecursion P xs → AllByRecursion Q xs
all-weaker P Q each [] all = tt
all-weaker P Q each (x ∷ xs) all = (each x all.0, all-weaker P Q each xs all.1)

-- two views that agree on each element
pub map-agrees : {X Y : Type 0} (P : X → Type 0) (f g : X → Y) → ((x : X) → P x → f x ≡ g x) → (xs : List X) → AllByRecursion P xs → map f xs ≡ map g xs
map-agrees P f g each [] all = refl
map-agrees P f g each (x ∷ xs) all = let one = each x all.0 in let rest = map-agrees P f g each xs all.1 in cc

-- what holds of each holds at a place
pub all-at : {X : Type 0} (P : X → Type 0) (xs : List X) (i : ℕ) (x : X) → slice_get xs i ≡ Some x → AllByRecursion P xs → P x
all-at P [] i x e all = absurd (let never : None ≡ Some x = e in cc)
all-at P (y ∷ xs) zero x e all = let some : Some y ≡ Some x = e in let same : y ≡ x = cc in subst P same all.0
all-at P (y ∷ xs) (suc i) x e all = all-at P xs i x e all.1

-- an element and its place
pub contains-at : {X : Type 0} (xs : List X) (i : ℕ) (x : X) → slice_get xs i ≡ Some x → Contains xs x
contains-at xs i x e = (i, slice_get_within xs i x e, get_or_from_slice_get xs i x x e)

pub at-contains : {X : Type 0} (xs : List X) (x : X) → Contains xs x → (i : ℕ) × (i < length xs) × (slice_get xs i ≡ Some x)
at-contains [] x h = absurd (contains_none x h)
at-contains {X} (y ∷ xs) x h = by_cases (cons_cases y xs x h) (at-contains xs x)
  where
    by_cases : (y ≡ x) ⊎ Contains xs x → (Contains xs x → (i : ℕ) × (i < length xs) × (slice_get xs i ≡ Some x)) → (i : ℕ) × (i < length (y ∷ xs)) × (slice_get (y ∷ xs) i ≡ Some x)
    by_cases (inl same) later = (0, omega arith, ap Some same)
    by_cases (inr there) later = let at = later there in (suc at.0, (let lt = at.1 in omega (arith, lt)), at.2)

-- a place below the first list's length, of two lists
pub at-before : {X : Type 0} (xs ys : List X) (i : ℕ) (x : X) → i < length xs → slice_get (xs ++ ys) i ≡ Some x → slice_get xs i ≡ Some x
at-before [] ys i x lt e = absurd (omega (arith, lt))
at-before (z ∷ xs) ys zero x lt e = e
at-before (z ∷ xs) ys (suc i) x lt e = at-before xs ys i x (omega (arith, lt)) e

-- whether any passes a test
pub any-contains : {X : Type 0} (test : X → Bool) (xs : List X) → list_any test xs ≡ true → (x : X) × Contains xs x × (test x ≡ true)
any-contains test [] e = absurd (let never : false ≡ true = e in cc)
any-contains {X} test (x ∷ xs) e = by_test (test x) refl (any-contains test xs) e
  where
    by_test : (b : Bool) → test x ≡ b → (list_any test xs ≡ true → (y : X) × Contains xs y × (test y ≡ true)) → (b || list_any test xs) ≡ true → (y : X) × Contains (x ∷ xs) y × (test y ≡ true)
    by_test true here later e = (x, contains_head x xs x refl, here)
    by_test false here later e = let found = later e in (found.0, contains_tail x xs found.0 found.1, found.2)

pub contains-any : {X : Type 0} (test : X → Bool) (xs : List X) (x : X) → Contains xs x → test x ≡ true → list_any test xs ≡ true
contains-any test [] x h e = absurd (contains_none x h)
contains-any {X} test (y ∷ xs) x h e = by_cases (cons_cases y xs x h) (contains-any test xs x)
  where
    behind : (b : Bool) (rest : Bool) → rest ≡ true → (b || rest) ≡ true
    behind true rest e = refl
    behind false rest e = e

    by_cases : (y ≡ x) ⊎ Contains xs x → (Contains xs x → test x ≡ true → list_any test xs ≡ true) → list_any test (y ∷ xs) ≡ true
    by_cases (inl same) later = ap (λ b. b || list_any test xs) (ap test same ∙ e)
    by_cases (inr there) later = behind (test y) (list_any test xs) (later there e)

-- an item of a slice: what holds of each holds of it, and it is the next of those that were taken
module _ {X : Type 0} (xs : List X) (i : ℕ) (x : X) (lt : i < length xs) (at : x ≡ get_or xs i x) where
  pub all-item : (P : X → Type 0) → AllByRecursion P xs → P x
  all-item P all = all-at P xs i x (slice_get-get_or xs i x lt ∙ ap Some (sym at)) all

  pub viewed-at : {Y : Type 0} (f : X → Y) (y : Y) → slice_get (map f xs) i ≡ Some y → f x ≡ y
  viewed-at f y there =
      let some : Some (f x) ≡ Some y = sym (slice_get-map f xs i ∙ ap (option_map f) (slice_get-get_or xs i x lt ∙ ap Some (sym at))) ∙ there in
      cc

  pub taken-more : {Y : Type 0} (f : X → Y) → map f (take i xs) ++ f x ∷ [] ≡ map f (take (i + 1) xs)
  taken-more f = sym (ap (map f) (take_more xs i x lt ∙ ap (λ y. take i xs ++ y ∷ []) (sym at)) ∙ map-append f (take i xs) (x ∷ []))

-- a place of a list has an element
pub at-place : {X : Type 0} (xs : List X) (i : ℕ) → i < length xs → (x : X) × (slice_get xs i ≡ Some x)
at-place [] i lt = absurd (omega (arith, lt))
at-place (x ∷ xs) zero lt = (x, refl)
at-place (x ∷ xs) (suc i) lt = at-place xs i (omega (arith, lt))

-- of a result that is Ok
pub on_ok : {X E : Type 0} (r : Result X E) (P : Type 0) → P → OnOk r P
on_ok (Ok x) P holds = holds
on_ok (Err e) P holds = tt

pub on_ok_both : {X E : Type 0} (r : Result X E) (P Q R : Type 0) → (P → Q → R) → OnOk r P → OnOk r Q → OnOk r R
on_ok_both (Ok x) P Q R both p q = both p q
on_ok_both (Err e) P Q R both p q = tt
