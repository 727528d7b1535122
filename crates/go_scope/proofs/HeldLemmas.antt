-- What is held of the names of a block: where each is declared first, and whether again.
use Rattle.std.specs.Prelude.{if◌then◌else◌, slice_get, filter, find, count_by}
use Rattle.std.proofs.Common.{◌≡◌, ℕ, suc, ◌+◌, ◌<◌, ◌≤◌, Bool, true, false, cond, not, ◌||◌, Option, Some, None, is_some, List, [], ◌∷◌, ◌++◌, length, get_or, take, nat_lt, eqb, Bor, refl, sym, ap, ◌∙◌, arith, length-append}
use Rattle.std.specs.List.{list_any, position_or_len}
use Rattle.std.proofs.lemmas.Bool.Decides.{nat_tests}
use Rattle.std.specs.Map.{lookup}
use Rattle.std.specs.Option.{option_map, option_copied, IfSome}
use Rattle.std.proofs.lemmas.Bool.{ne_eqb, eq-eqb, lt-ltb, le-ltb, ltb-true, ltb-false}
use Rattle.std.proofs.lemmas.List.{take_more, length-take}
use Rattle.std.proofs.lemmas.List.Folds.{find_at, position_or_len_push}
use Rattle.std.proofs.lemmas.List.Sums.{length-filter, prefix_len-le-length, sum_by_push}
use Rattle.std.proofs.lemmas.Option.{slice_get_past, slice_get_read}
use Rattle.go_module.specs.declared.block.Region.{Region}
use Rattle.go_module.specs.Modules.Paths.{same_text}
use Rattle.go_module.specs.Names.Rules.BlockRules.{is_repeated}
use Rattle.go_module.specs.Names.Regions.{has_name}
use Rattle.go_scope.specs.declared.held.Held.{Held}
use Rattle.go_scope.specs.Held.{held_of, ArePlaces, only_of, declared_at, with_place}

-- the first place is within the list where an element passes

within_step : (b : Bool) (m n : ℕ) (rest : Bool) → nat_lt m n ≡ rest → nat_lt (cond (not b) (1 + m) 0) (suc n) ≡ (b || rest)
within_step true m n rest e = lt-ltb 0 (suc n) (omega arith)
within_step false m n rest e = sym (sym e ∙ grind (arith, nat_tests))

pub within_any : {X : Type 0} (p : X → Bool) (xs : List X) → nat_lt (position_or_len p xs) (length xs) ≡ list_any p xs
within_any p [] = refl
within_any p (x ∷ xs) = within_step (p x) (position_or_len p xs) (length xs) (list_any p xs) (within_any p xs)

some_step : (b : Bool) (x : Region) (rest : Bool) (xs : List Region) → rest ≡ nat_lt 0 (length xs) → (b || rest) ≡ nat_lt 0 (length (cond b (x ∷ xs) xs))
some_step true x rest xs e = sym (lt-ltb 0 (length (x ∷ xs)) (omega arith))
some_step false x rest xs e = e

some_filtered : (p : Region → Bool) (xs : List Region) → list_any p xs ≡ nat_lt 0 (length (filter p xs))
some_filtered p [] = refl
some_filtered p (x ∷ xs) = some_step (p x) x (list_any p xs) (filter p xs) (some_filtered p xs)

some_counted : (p : Region → Bool) (xs : List Region) → list_any p xs ≡ nat_lt 0 (count_by p xs)
some_counted p xs = some_filtered p xs ∙ ap (nat_lt 0) (length-filter p xs)

-- what is held of a name, by the tests

abbrev held_at : ℕ → ℕ → ℕ → Option Held
held_at place len count = option_map (λ i. record { first = i; several = nat_lt 1 count }) (cond (nat_lt place len) (Some place) None)

is_held_at : (b : Bool) (place count : ℕ) → is_some (option_map {U = Held} (λ i. record { first = i; several = nat_lt 1 count }) (cond b (Some place) None)) ≡ b
is_held_at true place count = refl
is_held_at false place count = refl

pub held_any : (regions : List Region) (name : List ℕ) → is_some (held_of regions name) ≡ list_any (has_name name) regions
held_any regions name =
    is_held_at (nat_lt (position_or_len (has_name name) regions) (length regions)) (position_or_len (has_name name) regions) (count_by (has_name name) regions)
    ∙ within_any (has_name name) regions

none_any : (regions : List Region) (name : List ℕ) → held_of regions name ≡ None → list_any (has_name name) regions ≡ false
none_any regions name none = sym (held_any regions name) ∙ ap is_some none

pub none_repeated : (regions : List Region) (name : List ℕ) → held_of regions name ≡ None → is_repeated regions name ≡ false
none_repeated regions name none =
    let empty : nat_lt 0 (count_by (has_name name) regions) ≡ false = sym (some_counted (has_name name) regions) ∙ none_any regions name none in
    let few = ltb-false 0 (count_by (has_name name) regions) empty in
    le-ltb 1 (count_by (has_name name) regions) (omega arith)

found_step : (b : Bool) (x : Region) (rest : Bool) (found : Option Region) → (b || rest) ≡ false → (rest ≡ false → found ≡ None) → cond b (Some x) found ≡ None
found_step true x rest found e go_on = cc
found_step false x rest found e go_on = go_on e

none_found : (p : Region → Bool) (xs : List Region) → list_any p xs ≡ false → find p xs ≡ None
none_found p [] e = refl
none_found p (x ∷ xs) e = found_step (p x) x (list_any p xs) (find p xs) e (none_found p xs)

if_same : (b : Bool) (x : Option Region) → x ≡ None → None ≡ (if b then None else x)
if_same true x e = refl
if_same false x e = sym e

pub none_only : (regions : List Region) (name : List ℕ) → held_of regions name ≡ None → None ≡ only_of regions name
none_only regions name none = if_same (is_repeated regions name) (find (has_name name) regions) (none_found (has_name name) regions (none_any regions name none))

some_is : (b : Bool) (place count : ℕ) (held : Held) → option_map {U = Held} (λ i. record { first = i; several = nat_lt 1 count }) (cond b (Some place) None) ≡ Some held → (place ≡ held.first) × (nat_lt 1 count ≡ held.several)
some_is true place count held e = let same : record { first = place; several = nat_lt 1 count } ≡ held = cc in (ap (λ h. h.first) same, ap (λ h. h.several) same)
some_is false place count held e = cc

held_is : (regions : List Region) (name : List ℕ) (held : Held) → held_of regions name ≡ Some held → (position_or_len (has_name name) regions ≡ held.first) × (is_repeated regions name ≡ held.several)
held_is regions name held e = some_is (nat_lt (position_or_len (has_name name) regions) (length regions)) (position_or_len (has_name name) regions) (count_by (has_name name) regions) held e

pub some_repeated : (regions : List Region) (name : List ℕ) (held : Held) → held_of regions name ≡ Some held → held.several ≡ is_repeated regions name
some_repeated regions name held e = sym (held_is regions name held e).1

pub some_several : (regions : List Region) (name : List ℕ) (held : Held) → held_of regions name ≡ Some held → held.several ≡ true → None ≡ only_of regions name
some_several regions name held e several = rw ((held_is regions name held e).1, several) refl

pub some_only : (regions : List Region) (name : List ℕ) (held : Held) → held_of regions name ≡ Some held → held.several ≡ false → slice_get regions held.first ≡ only_of regions name
some_only regions name held e once =
    rw ((held_is regions name held e).1, once)
    (ap (slice_get regions) (sym (held_is regions name held e).0) ∙ sym (find_at (has_name name) regions))

-- what a look-up by place gives
pub looked_up : {X : Type 0} (xs : List X) (i : ℕ) (r : Option (Bor X)) → is_some r ≡ nat_lt i (length xs) → IfSome r (λ x. x.now ≡ get_or xs i x.now) → option_copied r ≡ slice_get xs i
looked_up xs i None none at = sym (slice_get_past xs i (ltb-false i (length xs) (sym none)))
looked_up xs i (Some x) some at = sym (slice_get_read xs (length xs) i x.now refl (ltb-true i (length xs) (sym some)) at)

-- one more declaration

same_held : (i j : ℕ) (s t : Bool) → i ≡ j → s ≡ t → ◌≡◌ {A = Option Held} (Some (record { first = i; several = s })) (Some (record { first = j; several = t }))
same_held i j s t at again = λ x. Some (record { first = at x; several = again x })

none_held : (place len count : ℕ) → nat_lt place len ≡ false → held_at place len count ≡ None
none_held place len count e = rw e refl

some_held : (place len count : ℕ) (held : Held) → nat_lt place len ≡ true → place ≡ held.first → nat_lt 1 count ≡ held.several → held_at place len count ≡ Some held
some_held place len count held e at again = rw e (same_held place held.first (nat_lt 1 count) held.several at again)

held_more : (s t : Bool) (n l c m k len : ℕ) → nat_lt n l ≡ s → n ≤ l → nat_lt 0 c ≡ s → m ≡ cond (eqb n l) (l + cond t 0 1) n → k ≡ c + cond t 1 0 → len ≡ l + 1 → held_at m len k ≡ with_place l t (held_at n l c)
held_more true true n l c m k len es le ec em ek el =
    let lt = ltb-true n l es in
    let some = ltb-true 0 c ec in
    let at : m ≡ n = rw (ne_eqb n l (λ same. omega arith)) at em in
    some_held m len k (record { first = n; several = true }) (lt-ltb m len (omega arith)) at (lt-ltb 1 k (omega arith))
    ∙ ap (λ held. Some (declared_at l held)) (sym (some_held n l c (record { first = n; several = nat_lt 1 c }) es refl refl))
held_more true false n l c m k len es le ec em ek el =
    let lt = ltb-true n l es in
    let at : m ≡ n = rw (ne_eqb n l (λ same. omega arith)) at em in
    let same : k ≡ c = omega arith in
    some_held m len k (record { first = n; several = nat_lt 1 c }) (lt-ltb m len (omega arith)) at (ap (nat_lt 1) same)
    ∙ sym (some_held n l c (record { first = n; several = nat_lt 1 c }) es refl refl)
held_more false true n l c m k len es le ec em ek el =
    let ge = ltb-false n l es in
    let none = ltb-false 0 c ec in
    let at : m ≡ l + 0 = rw (eq-eqb n l (omega arith)) at em in
    some_held m len k (record { first = l; several = false }) (lt-ltb m len (omega arith)) (omega arith) (le-ltb 1 k (omega arith))
    ∙ ap (λ held. Some (declared_at l held)) (sym (none_held n l c es))
held_more false false n l c m k len es le ec em ek el =
    let ge = ltb-false n l es in
    let at : m ≡ l + 1 = rw (eq-eqb n l (omega arith)) at em in
    none_held m len k (le-ltb m len (omega arith)) ∙ sym (none_held n l c es)

held_push : (regions : List Region) (r : Region) (name : List ℕ) → held_of (regions ++ r ∷ []) name ≡ with_place (length regions) (has_name name r) (held_of regions name)
held_push regions r name =
    let p = has_name name in
    held_more (list_any p regions) (p r) (position_or_len p regions) (length regions) (count_by p regions)
    (position_or_len p (regions ++ r ∷ [])) (count_by p (regions ++ r ∷ [])) (length (regions ++ r ∷ []))
    (within_any p regions)
    (prefix_len-le-length (λ x. not (p x)) regions)
    (sym (some_counted p regions))
    (position_or_len_push p regions r)
    (sum_by_push (λ x. cond (p x) 1 0) regions r)
    (length-append regions (r ∷ []))

-- the places of one more region

pub places_more : (regions : List Region) (i : ℕ) (r : Region) (old new : List (List ℕ × Held)) → i < length regions → r ≡ get_or regions i r → ArePlaces (take i regions) old → ((other : List ℕ) → lookup (same_text other) new ≡ with_place i (same_text other r.object.name) (lookup (same_text other) old)) → ArePlaces (take (i + 1) regions) new
places_more regions i r old new lt is so_far added name =
    let long : length (take i regions) ≡ i = simp length-take (omega arith) in
    added name
    ∙ ap (with_place i (has_name name r)) (so_far name)
    ∙ ap (λ n. with_place n (has_name name r) (held_of (take i regions) name)) (sym long)
    ∙ sym (held_push (take i regions) r name)
    ∙ ap (λ xs. held_of (take i regions ++ xs ∷ []) name) is
    ∙ ap (λ xs. held_of xs name) (sym (take_more regions i r lt))
