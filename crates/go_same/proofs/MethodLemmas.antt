-- Methods by name: the order is a strict weak order in which those of one name tie, and sets of names do not depend on it.
use Rattle.std.proofs.Common.{◌≡◌, ℕ, zero, suc, ◌+◌, ◌<◌, Bool, true, false, cond, not, ◌&&◌, ◌||◌, if◌then◌else◌, List, [], ◌∷◌, length, get_or, map, filter, refl, sym, ap, subst, ◌∙◌, arith}
use Rattle.std.specs.Prelude.{nat_le, nat_lt, ◌==◌}
use Rattle.std.proofs.lemmas.Bool.Decides.{nat_tests}
use Rattle.std.specs.Cmp.{IsStrictWeakOrder, IsTotalOrder, then_total}
use Rattle.std.specs.Cmp.Lexicographic.{slice_cmp, on_texts, texts_ties}
use Rattle.std.specs.List.{flat_map, list_all, list_any}
use Rattle.std.specs.List.Sorted.{IsSortedBy, IsStableBy, ties}
use Rattle.std.specs.Ordering.{is_lt, is_eq, nat_cmp, ordering_then, ordering_reverse}
use Rattle.std.specs.declared.cmp.Ordering.{Ordering}
use Rattle.std.specs.declared.cmp.Ordering.TheVariants.{Less, Equal, Greater}
use Rattle.std.proofs.lemmas.List.{length-map}
use Rattle.std.proofs.lemmas.List.Sorted.{ranks_by}
use Rattle.go_module.specs.Modules.Paths.{same_text}
use Rattle.go_judge.specs.Types.Heads.{same_truth}
use Rattle.go_judge.specs.Types.SetsFit.{by_name, has_name, has_names_of, is_all, is_before, method_pairs, put_by_name, sets_fit, text_before}
use Rattle.go_judge.specs.Types.TypeSets.{MethodData, SetData}
use Rattle.go_term.specs.Types.{TypeData, interface_type, made, no_parts}
use Rattle.go_term.specs.declared.term.Term.{Term}
use Rattle.go_same.specs.Sets.{method_view}
use Rattle.go_same.specs.MethodOrder.{AreByName, is_named_as, method_cmp, named_pairs, stands_before}
use Rattle.go_same.specs.declared.set.Method.{Method}
use Rattle.go_same.proofs.SortLemmas.{put, put_all, put_all_in_order, put_all_keeps, sorted_is}

-- TEXTS

cases_before : (less behind alike rest : Bool) (after : Ordering) → (less ≡ false → behind ≡ true → alike ≡ false) → (less ≡ false → behind ≡ false → alike ≡ true) → rest ≡ is_lt after → cond less true (cond behind false rest) ≡ is_lt (ordering_then (cond less Less (cond alike Equal Greater)) after)
cases_before true behind alike rest after f g e = refl
cases_before false true alike rest after f g e = ap (λ (q : Bool). is_lt (ordering_then (cond q Equal Greater) after)) (sym (f refl refl))
cases_before false false alike rest after f g e = e ∙ ap (λ (q : Bool). is_lt (ordering_then (cond q Equal Greater) after)) (sym (g refl refl))

less_alike : (b c : ℕ) → nat_lt b c ≡ nat_le (b + 1) c
less_alike b c = grind (arith, nat_tests)

not_alike : (b c : ℕ) → nat_le (b + 1) c ≡ false → nat_le (c + 1) b ≡ true → (b == c) ≡ false
not_alike b c e f = grind (arith, nat_tests)

are_alike : (b c : ℕ) → nat_le (b + 1) c ≡ false → nat_le (c + 1) b ≡ false → (b == c) ≡ true
are_alike b c e f = grind (arith, nat_tests)

chars_before : (b c : ℕ) (rest : Bool) (after : Ordering) → rest ≡ is_lt after → cond (nat_le (b + 1) c) true (cond (nat_le (c + 1) b) false rest) ≡ is_lt (ordering_then (nat_cmp b c) after)
chars_before b c rest after e =
    cases_before (nat_le (b + 1) c) (nat_le (c + 1) b) (b == c) rest after (not_alike b c) (are_alike b c) e
    ∙ ap (λ (less : Bool). is_lt (ordering_then (cond less Less (cond (b == c) Equal Greater)) after)) (sym (less_alike b c))

pub before_is : (xs ys : List ℕ) → text_before xs ys ≡ is_lt (slice_cmp nat_cmp xs ys)
before_is [] [] = refl
before_is [] (c ∷ cs) = refl
before_is (b ∷ bs) [] = refl
before_is (b ∷ bs) (c ∷ cs) = chars_before b c (text_before bs cs) (slice_cmp nat_cmp bs cs) (before_is bs cs)

-- ONE COMPARISON

first_or_then : (r s : Ordering) → cond (is_lt r) true (is_eq r && is_lt s) ≡ is_lt (ordering_then r s)
first_or_then Less s = refl
first_or_then Equal s = refl
first_or_then Greater s = refl

both_equal : (r s : Ordering) → (is_eq r && is_eq s) ≡ is_eq (ordering_then r s)
both_equal Less s = refl
both_equal Equal s = refl
both_equal Greater s = refl

neither_less : (r : Ordering) → (not (is_lt r) && not (is_lt (ordering_reverse r))) ≡ is_eq r
neither_less Less = refl
neither_less Equal = refl
neither_less Greater = refl

abbrev pub names_cmp : MethodData → MethodData → Ordering
names_cmp a b = ordering_then (slice_cmp nat_cmp a.name b.name) (slice_cmp nat_cmp a.home b.home)

names_total : IsTotalOrder names_cmp
names_total = then_total (on_texts (λ (m : MethodData). m.name)) (on_texts (λ (m : MethodData). m.home))

pub is_before_is : (a b : MethodData) → is_before a b ≡ is_lt (names_cmp a b)
is_before_is a b =
    ap (λ (less : Bool). cond less true (same_text a.name b.name && text_before a.home b.home)) (before_is a.name b.name)
    ∙ ap (λ (alike : Bool). cond (is_lt (slice_cmp nat_cmp a.name b.name)) true (alike && text_before a.home b.home)) (texts_ties a.name b.name)
    ∙ ap (λ (less : Bool). cond (is_lt (slice_cmp nat_cmp a.name b.name)) true (is_eq (slice_cmp nat_cmp a.name b.name) && less)) (before_is a.home b.home)
    ∙ first_or_then (slice_cmp nat_cmp a.name b.name) (slice_cmp nat_cmp a.home b.home)

pub has_name_is : (a b : MethodData) → has_name a b ≡ is_eq (names_cmp a b)
has_name_is a b =
    ap (λ (alike : Bool). alike && same_text a.home b.home) (texts_ties a.name b.name)
    ∙ ap (λ (alike : Bool). is_eq (slice_cmp nat_cmp a.name b.name) && alike) (texts_ties a.home b.home)
    ∙ both_equal (slice_cmp nat_cmp a.name b.name) (slice_cmp nat_cmp a.home b.home)

before_alike : is_before ≡ (λ (a b : MethodData). is_lt (names_cmp a b))
before_alike = λ i. λ (a b : MethodData). is_before_is a b i

pub is_before_ranks : IsStrictWeakOrder is_before
is_before_ranks = subst IsStrictWeakOrder (sym before_alike) (ranks_by names_total (λ (m : MethodData). m))

-- those tie that have one name
pub ties_is : (a b : MethodData) → ties is_before a b ≡ has_name a b
ties_is a b =
    ap (λ (less : Bool). not less && not (is_before b a)) (is_before_is a b)
    ∙ ap (λ (less : Bool). not (is_lt (names_cmp a b)) && not less) (is_before_is b a ∙ ap is_lt (names_total.antisymm b a))
    ∙ neither_less (names_cmp a b)
    ∙ sym (has_name_is a b)

-- THE METHODS IN ORDER

map_cond : {X Y : Type 0} (f : X → Y) (b : Bool) (xs ys : List X) → map f (cond b xs ys) ≡ cond b (map f xs) (map f ys)
map_cond f true xs ys = refl
map_cond f false xs ys = refl

module _ {X : Type 0} (view : X → MethodData) where
  abbrev before : X → X → Bool
  before a b = is_before (view a) (view b)

  put_view : (x : X) (ys : List X) → map view (put before x ys) ≡ put_by_name (view x) (map view ys)
  put_view x [] = refl
  put_view x (y ∷ ys) =
      map_cond view (is_before (view y) (view x)) (y ∷ put before x ys) (x ∷ y ∷ ys)
      ∙ ap (λ (rest : List MethodData). cond (is_before (view y) (view x)) (view y ∷ rest) (view x ∷ view y ∷ map view ys)) (put_view x ys)

  pub put_all_view : (xs : List X) → map view (put_all before xs) ≡ by_name (map view xs)
  put_all_view [] = refl
  put_all_view (x ∷ xs) = put_view x (put_all before xs) ∙ ap (put_by_name (view x)) (put_all_view xs)

  before_ranks : IsStrictWeakOrder before
  before_ranks = record { one_way = λ x y. is_before_ranks.one_way (view x) (view y); chain = λ x y z. is_before_ranks.chain (view x) (view y) (view z) }

  -- what a stable sort gives stands for the methods by name
  pub sorted_views : (xs ys : List X) → IsSortedBy before ys → IsStableBy before xs ys → map view ys ≡ by_name (map view xs)
  sorted_views xs ys sorted stable = ap (map view) (sorted_is before before_ranks xs ys sorted stable) ∙ put_all_view xs

map_itself : {X : Type 0} (xs : List X) → map (λ x. x) xs ≡ xs
map_itself [] = refl
map_itself (x ∷ xs) = ap (λ rest. x ∷ rest) (map_itself xs)

put_all_is : (ms : List MethodData) → put_all is_before ms ≡ by_name ms
put_all_is ms = sym (map_itself (put_all is_before ms)) ∙ put_all_view (λ (m : MethodData). m) ms ∙ ap by_name (map_itself ms)

pub by_name_sorted : (ms : List MethodData) → IsSortedBy is_before (by_name ms)
by_name_sorted ms = subst (IsSortedBy is_before) (put_all_is ms) (put_all_in_order is_before is_before_ranks ms)

-- those of one name stand as they stood
pub filter_by_name : (m : MethodData) (ns : List MethodData) → filter (has_name m) (by_name ns) ≡ filter (has_name m) ns
filter_by_name m ns =
    let alike : (n : MethodData) → ties is_before m n ≡ has_name m n = ties_is m in
    let tests : ties is_before m ≡ has_name m = λ i. λ (n : MethodData). alike n i in
    ap (λ (ns : List MethodData). filter (has_name m) ns) (sym (put_all_is ns))
    ∙ subst (λ (test : MethodData → Bool). filter test (put_all is_before ns) ≡ filter test ns) tests (put_all_keeps is_before is_before_ranks ns m)

-- pairs of the methods in order are those of the methods
pub pairs_by_name : (ms ns : List MethodData) → named_pairs (by_name ms) (by_name ns) ≡ method_pairs ms ns
pairs_by_name ms ns = λ i. flat_map (λ (m : MethodData). map (λ (n : MethodData). (m, n)) (filter_by_name m ns i)) (by_name ms)

-- THE NAMES OF METHODS

any_swap : (p q rest : Bool) → (p || (q || rest)) ≡ (q || (p || rest))
any_swap true true rest = refl
any_swap true false rest = refl
any_swap false true rest = refl
any_swap false false rest = refl

all_swap : (p q rest : Bool) → (p && (q && rest)) ≡ (q && (p && rest))
all_swap true true rest = refl
all_swap true false rest = refl
all_swap false true rest = refl
all_swap false false rest = refl

any_put : (p : MethodData → Bool) (x : MethodData) (ys : List MethodData) → list_any p (put_by_name x ys) ≡ (p x || list_any p ys)
any_put p x [] = refl
any_put p x (y ∷ ys) =
    elim (is_before y x) as (λ b. list_any p (cond b (y ∷ put_by_name x ys) (x ∷ y ∷ ys)) ≡ (p x || (p y || list_any p ys))) [
      | true ↦ ap (λ (rest : Bool). p y || rest) (any_put p x ys) ∙ any_swap (p y) (p x) (list_any p ys)
      | false ↦ refl
    ]

all_put : (p : MethodData → Bool) (x : MethodData) (ys : List MethodData) → list_all p (put_by_name x ys) ≡ (p x && list_all p ys)
all_put p x [] = refl
all_put p x (y ∷ ys) =
    elim (is_before y x) as (λ b. list_all p (cond b (y ∷ put_by_name x ys) (x ∷ y ∷ ys)) ≡ (p x && (p y && list_all p ys))) [
      | true ↦ ap (λ (rest : Bool). p y && rest) (all_put p x ys) ∙ all_swap (p y) (p x) (list_all p ys)
      | false ↦ refl
    ]

any_by_name : (p : MethodData → Bool) (ms : List MethodData) → list_any p (by_name ms) ≡ list_any p ms
any_by_name p [] = refl
any_by_name p (m ∷ ms) = any_put p m (by_name ms) ∙ ap (λ (rest : Bool). p m || rest) (any_by_name p ms)

all_by_name : (p : MethodData → Bool) (ms : List MethodData) → list_all p (by_name ms) ≡ list_all p ms
all_by_name p [] = refl
all_by_name p (m ∷ ms) = all_put p m (by_name ms) ∙ ap (λ (rest : Bool). p m && rest) (all_by_name p ms)

-- the order of the methods says nothing of their names
pub names_by_name : (ms ns : List MethodData) → has_names_of (by_name ms) (by_name ns) ≡ has_names_of ms ns
names_by_name ms ns =
    (λ i. list_all (λ (n : MethodData). any_by_name (has_name n) ms i) (by_name ns))
    ∙ all_by_name (λ n. list_any (has_name n) ms) ns

pub sets_fit_by_name : (s t : SetData) → sets_fit (record s { methods = by_name s.methods }) (record t { methods = by_name t.methods }) ≡ sets_fit s t
sets_fit_by_name s t =
    λ i. names_by_name s.methods t.methods i && names_by_name t.methods s.methods i && same_truth (is_all s) (is_all t) && (if is_all s then same_truth s.comparable t.comparable else true)

-- METHODS OF THE PROGRAM

abbrev bare : Method → MethodData
bare m = record { name = m.name; home = m.home; type = made interface_type no_parts; opened = 0 }

pub stands_before_ranks : IsStrictWeakOrder stands_before
stands_before_ranks = before_ranks bare

pub compared_before : (a b : Method) → is_lt (method_cmp a b) ≡ stands_before a b
compared_before a b = sym (is_before_is (bare a) (bare b))

pub ties_named : (a b : Method) → ties stands_before a b ≡ is_named_as a b
ties_named a b = ties_is (bare a) (bare b)

get_map : {X Y : Type 0} (f : X → Y) (xs : List X) (k : ℕ) (d : X) → get_or (map f xs) k (f d) ≡ f (get_or xs k d)
get_map f [] k d = refl
get_map f (x ∷ xs) zero d = refl
get_map f (x ∷ xs) (suc k) d = get_map f xs k d

-- methods that stand for methods by name are in order
pub by_name_from_views : (tree : Term → TypeData) (ms : List Method) (given : List MethodData) → map (method_view tree) ms ≡ by_name given → AreByName ms
by_name_from_views tree ms given is k d low within =
    let view : Method → MethodData = method_view tree in
    let sorted : IsSortedBy is_before (map view ms) = subst (IsSortedBy is_before) (sym is) (by_name_sorted given) in
    let inside : k + 1 < length (map view ms) = omega (arith, length-map ms view) in
    sym (λ i. is_before (get_map view ms (k + 1) d i) (get_map view ms k d i)) ∙ sorted k (view d) low inside
