-- What is taken at places, one after another, and lists that have each number once.
use Rattle.std.proofs.Common.{◌≡◌, ℕ, zero, suc, ◌+◌, ◌<◌, ◌≤◌, Bool, true, false, cond, List, [], ◌∷◌, ◌++◌, Option, Some, None, length, map, get_or, take, refl, sym, ap, ◌∙◌, subst, ⊎_elim, append_assoc, arith}
use Rattle.std.specs.Prelude.{filter, option_to_list, slice_get, slice_set, unwrap_or}
use Rattle.std.specs.List.{Contains, cons_option, filter_map, range_with_len}
use Rattle.std.specs.Option.{option_map}
use Rattle.std.proofs.lemmas.Bool.{false≢true}
use Rattle.std.proofs.lemmas.List.{take_more}
use Rattle.std.proofs.lemmas.List.Elements.{filter_map-append}
use Rattle.go_load.specs.Packages.Assembly.{slot_at, taken, cleared}
use Rattle.go_module.proofs.MemberLemmas.{cons_cases, contains_head, contains_tail, contains_none}

get-set_other : {X : Type 0} (xs : List X) (i j : ℕ) (y : X) → (i ≡ j → ⊥) → slice_get (slice_set xs i y) j ≡ slice_get xs j
get-set_other [] i j y apart = refl
get-set_other (x ∷ xs) zero zero y apart = absurd (apart refl)
get-set_other (x ∷ xs) zero (suc j) y apart = refl
get-set_other (x ∷ xs) (suc i) zero y apart = refl
get-set_other (x ∷ xs) (suc i) (suc j) y apart = get-set_other xs i j y (λ e. apart (ap suc e))

-- what stands at another place stays
pub slot-other : {X : Type 0} (slots : List (Option X)) (i j : ℕ) (o : Option X) → (i ≡ j → ⊥) → slot_at (slice_set slots i o) j ≡ slot_at slots j
slot-other {X} slots i j o apart = ap (λ (found : Option (Option X)). unwrap_or found None) (get-set_other slots i j o apart)

-- what is put at a place stands there
pub slot-here : {X : Type 0} (slots : List (Option X)) (i : ℕ) (o : Option X) → i < length slots → slot_at (slice_set slots i o) i ≡ o
slot-here [] i o lt = absurd (omega arith)
slot-here (x ∷ slots) zero o lt = refl
slot-here (x ∷ slots) (suc i) o lt = slot-here slots i o (omega arith)

pub slot-past : {X : Type 0} (slots : List (Option X)) (i : ℕ) → length slots ≤ i → slot_at slots i ≡ None
slot-past [] i le = refl
slot-past (x ∷ slots) zero le = absurd (omega arith)
slot-past (x ∷ slots) (suc i) le = slot-past slots i (omega arith)

pub set-past : {X : Type 0} (xs : List X) (i : ℕ) (y : X) → length xs ≤ i → slice_set xs i y ≡ xs
set-past [] i y le = refl
set-past (x ∷ xs) zero y le = absurd (omega arith)
set-past (x ∷ xs) (suc i) y le = ap (λ r. x ∷ r) (set-past xs i y (omega arith))

-- what stands at a place, by what it stands for
pub slot-map : {X Y : Type 0} (f : X → Y) (slots : List (Option X)) (i : ℕ) → slot_at (map (option_map f) slots) i ≡ option_map f (slot_at slots i)
slot-map f [] i = refl
slot-map f (x ∷ slots) zero = refl
slot-map f (x ∷ slots) (suc i) = slot-map f slots i

pub slot-read : {X : Type 0} (slots : List (Option X)) (i : ℕ) (o : Option X) → i < length slots → o ≡ get_or slots i o → slot_at slots i ≡ o
slot-read [] i o lt e = absurd (omega arith)
slot-read (x ∷ slots) zero o lt e = sym e
slot-read (x ∷ slots) (suc i) o lt e = slot-read slots i o (omega arith) e

-- at first all are there
pub slot-all : {X : Type 0} (files : List X) (i : ℕ) → slot_at (map (λ x. Some x) files) i ≡ slice_get files i
slot-all [] i = refl
slot-all (x ∷ files) zero = refl
slot-all (x ∷ files) (suc i) = slot-all files i

pub all-views : {X Y : Type 0} (f : X → Y) (files : List X) → map (option_map f) (map (λ x. Some x) files) ≡ map (λ y. Some y) (map f files)
all-views f [] = refl
all-views f (x ∷ files) = ap (λ r. Some (f x) ∷ r) (all-views f files)

pub cons-option : {X : Type 0} (xs : List X) (o : Option X) (ys : List X) → (xs ++ option_to_list o) ++ ys ≡ xs ++ cons_option o ys
cons-option xs None ys = append_assoc xs [] ys
cons-option xs (Some x) ys = append_assoc xs (x ∷ []) ys

-- each number stands once
abbrev pub Once : List ℕ → Type 0
Once [] = Unit {0}
Once (x ∷ xs) = (Contains xs x → ⊥) × Once xs

-- what passes a test stands in the list, and passes

passes-by : (p : ℕ → Bool) (x : ℕ) (xs : List ℕ) (y : ℕ) (b : Bool) → p x ≡ b → (Contains (filter p xs) y → Contains xs y × (p y ≡ true)) → Contains (cond b (x ∷ filter p xs) (filter p xs)) y → Contains (x ∷ xs) y × (p y ≡ true)
passes-by p x xs y true e rest h =
    ⊎_elim
    (λ (same : x ≡ y). (contains_head x xs y same, ap p (sym same) ∙ e))
    (λ (has : Contains (filter p xs) y). let r = rest has in (contains_tail x xs y r.0, r.1))
    (cons_cases x (filter p xs) y h)
passes-by p x xs y false e rest h = let r = rest h in (contains_tail x xs y r.0, r.1)

pub passes : (p : ℕ → Bool) (xs : List ℕ) (y : ℕ) → Contains (filter p xs) y → Contains xs y × (p y ≡ true)
passes p [] y h = absurd (contains_none y h)
passes p (x ∷ xs) y h = passes-by p x xs y (p x) refl (λ has. passes p xs y has) h

-- what stands in the list and passes is among what passes

keeps-by : (p : ℕ → Bool) (x : ℕ) (xs : List ℕ) (y : ℕ) (b : Bool) → p x ≡ b → (Contains xs y → Contains (filter p xs) y) → Contains (x ∷ xs) y → p y ≡ true → Contains (cond b (x ∷ filter p xs) (filter p xs)) y
keeps-by p x xs y true e rest h good =
    ⊎_elim
    (λ (same : x ≡ y). contains_head x (filter p xs) y same)
    (λ (has : Contains xs y). contains_tail x (filter p xs) y (rest has))
    (cons_cases x xs y h)
keeps-by p x xs y false e rest h good =
    ⊎_elim
    (λ (same : x ≡ y). absurd (false≢true (sym e ∙ ap p same ∙ good)))
    (λ (has : Contains xs y). rest has)
    (cons_cases x xs y h)

pub keeps : (p : ℕ → Bool) (xs : List ℕ) (y : ℕ) → Contains xs y → p y ≡ true → Contains (filter p xs) y
keeps p [] y h good = absurd (contains_none y h)
keeps p (x ∷ xs) y h good = keeps-by p x xs y (p x) refl (λ has. keeps p xs y has good) h good

once-by : (p : ℕ → Bool) (x : ℕ) (xs : List ℕ) (b : Bool) → (Contains xs x → ⊥) → Once (filter p xs) → Once (cond b (x ∷ filter p xs) (filter p xs))
once-by p x xs true apart rest = (λ has. apart (passes p xs x has).0, rest)
once-by p x xs false apart rest = rest

pub once-filter : (p : ℕ → Bool) (xs : List ℕ) → Once xs → Once (filter p xs)
once-filter p [] once = tt
once-filter p (x ∷ xs) once = once-by p x xs (p x) once.0 (once-filter p xs once.1)

from_start : (a n y : ℕ) → Contains (range_with_len a n) y → a ≤ y
from_start a zero y h = absurd (contains_none y h)
from_start a (suc n) y h =
    ⊎_elim
    (λ (same : a ≡ y). let le : a ≤ y = omega arith in le)
    (λ (has : Contains (range_with_len (a + 1) n) y). let le : a + 1 ≤ y = from_start (a + 1) n y has in omega arith)
    (cons_cases a (range_with_len (a + 1) n) y h)

pub once-range : (a n : ℕ) → Once (range_with_len a n)
once-range a zero = tt
once-range a (suc n) = (λ has. (let le : a + 1 ≤ a = from_start (a + 1) n a has in omega arith), once-range (a + 1) n)

-- each place is taken once: so each has what is there
pub taken-whole : {X : Type 0} (files : List X) (row : List ℕ) (slots : List (Option X)) → Once row → ((j : ℕ) → Contains row j → slot_at slots j ≡ slice_get files j) → taken slots row ≡ filter_map (slice_get files) row
taken-whole files [] slots once here = refl
taken-whole {X} files (k ∷ row) slots once here =
    ap (λ (o : Option X). cons_option o (taken (slice_set slots k None) row)) (here k (contains_head k row k refl))
    ∙ ap (cons_option (slice_get files k)) (taken-whole files row (slice_set slots k None) once.1 (λ j h.
    slot-other slots k j None (λ e. once.0 (subst (Contains row) (sym e) h)) ∙ here j (contains_tail k row j h)))

-- what stands at other places stays
pub cleared-other : {X : Type 0} (row : List ℕ) (slots : List (Option X)) (j : ℕ) → (Contains row j → ⊥) → slot_at (cleared slots row) j ≡ slot_at slots j
cleared-other [] slots j out = refl
cleared-other (k ∷ row) slots j out =
    cleared-other row (slice_set slots k None) j (λ h. out (contains_tail k row j h))
    ∙ slot-other slots k j None (λ e. out (contains_head k row j e))

-- what a test gives of one more number
pub filter_map-push : (f : ℕ → Option ℕ) (xs : List ℕ) (i : ℕ) (old new : List ℕ) (o : Option ℕ) → i < length xs → o ≡ f (get_or xs i 0) → old ≡ filter_map f (take i xs) → new ≡ old ++ option_to_list o → new ≡ filter_map f (take (i + 1) xs)
filter_map-push f xs i old new o lt is so_far now =
    now
    ∙ (λ n. so_far n ++ option_to_list (is n))
    ∙ ap (λ ys. filter_map f (take i xs) ++ ys) (one (f (get_or xs i 0)))
    ∙ sym (filter_map-append f (take i xs) (get_or xs i 0 ∷ []))
    ∙ ap (filter_map f) (sym (take_more xs i 0 lt))
  where
    one : (o : Option ℕ) → option_to_list o ≡ cons_option o []
    one None = refl
    one (Some x) = refl
