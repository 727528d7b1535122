-- Walks over methods that are in order by name: their pairs, and which names they have.
use Rattle.std.proofs.Common.{◌≡◌, ℕ, zero, suc, ◌+◌, ◌<◌, ◌≤◌, inl, inr, Bool, true, false, ◌&&◌, ◌||◌, if◌then◌else◌, Vec, Global, List, [], ◌∷◌, ◌++◌, length, get_or, take, map, filter, refl, sym, ap, subst, ◌∙◌, arith}
use Rattle.std.specs.List.{All, AllWithin, flat_map, list_all, list_any}
use Rattle.std.proofs.lemmas.Bool.{cases_lt}
use Rattle.std.proofs.lemmas.List.{append-nil, get_or_default, get_or_read, map-append, take_more}
use Rattle.std.proofs.lemmas.List.Folds.{list_all-map, list_all_more, list_any-from_Any, list_any_none}
use Rattle.std.proofs.lemmas.List.Sorted.{sorted_far}
use Rattle.std.proofs.lemmas.Grind.{flat_map-append}
use Rattle.go_same.specs.MethodOrder.{AreBefore, AreByName, both_at, fit_besides, have_names_of, is_named_as, is_none, named_pairs, pair_at, pairs_in, stands_before}
use Rattle.go_same.specs.Sets.{method_view, part_view, set_view}
use Rattle.go_term.specs.Types.{TypeData}
use Rattle.go_term.specs.declared.term.Term.{Term}
use Rattle.go_judge.specs.Types.Heads.{same_truth}
use Rattle.go_judge.specs.Types.SetsFit.{has_name, has_names_of, is_all, is_all_by, sets_fit}
use Rattle.go_judge.specs.Types.TypeSets.{MethodData, TermData}
use Rattle.go_names.proofs.InnerLemmas.{map-filter}
use Rattle.go_same.specs.declared.set.Method.{Method}
use Rattle.go_same.specs.declared.set.TypeSet.{TypeSet}
use Rattle.go_same.specs.declared.set.UnionPart.{UnionPart}
use Rattle.go_same.proofs.MethodLemmas.{stands_before_ranks, ties_named}
use Rattle.go_same.proofs.PairLemmas.{before_behind, filter_front, filter_none, none_from, not_same_before}

-- WHAT IS PASSED

pub passed_more : (ns ms : List Method) (from here i : ℕ) (m : Method) → i < length ms → m ≡ get_or ms i m → AreBefore ns from ms i → AllWithin (λ n. stands_before n m ≡ true) ns from here → AreBefore ns here ms i
passed_more ns ms from here i m inside at passed more k other below within =
    elim (cases_lt k from) [
      | inl early ↦ passed k other early within
      | inr late ↦ subst (λ (w : Method). stands_before (get_or ns k other) w ≡ true) (get_or_read ms i m inside at other) (more k other late below)
    ]

pub passed_next : (ns ms : List Method) (here i : ℕ) → AreByName ms → AreBefore ns here ms i → AreBefore ns here ms (i + 1)
passed_next ns ms here i sorted passed k other below within =
    before_behind stands_before stands_before_ranks (get_or ns k other) (get_or ms i other) (get_or ms (i + 1) other)
    (passed k other below (omega arith))
    (sorted i other (omega arith) within)

-- PAIRS

-- none of those that are passed is named so
pub none_yet : {Y : Type 0} (f : Method → Y) (done : List Y) (ns ms : List Method) (from i : ℕ) (other : Method) → i < length ms → AreBefore ns from ms i → done ≡ done ++ map f (filter (is_named_as (get_or ms i other)) (take from ns))
none_yet f done ns ms from i other inside passed =
    let m : Method = get_or ms i other in
    let none : filter (is_named_as m) (take from ns) ≡ [] =
    filter_none (is_named_as m) ns from (λ k d below within.
    let first : get_or ns k d ≡ get_or ns k other = get_or_default ns k d other within in
    ap (is_named_as m) first ∙ not_same_before stands_before stands_before_ranks is_named_as ties_named m (get_or ns k other) (passed k other below inside)) in
    sym (append-nil done) ∙ ap (λ (rest : List Method). done ++ map f rest) (sym none)

-- the first that is not named so ends them
pub no_more : {Y : Type 0} (f : Method → Y) (ns ms : List Method) (from k i : ℕ) (m n other : Method)
    → AreByName ns → i < length ms → k < length ns → from ≤ k → m ≡ get_or ms i m → n ≡ get_or ns k n
    → ((other : Method) → from < length ns → stands_before (get_or ns from other) (get_or ms i other) ≡ false)
    → is_named_as m n ≡ false
    → map f (filter (is_named_as (get_or ms i other)) (take k ns)) ≡ map f (filter (is_named_as (get_or ms i other)) ns)
no_more f ns ms from k i m n other sorted inside within low at_m at_n start named =
    let same_m : m ≡ get_or ms i n = get_or_read ms i m inside at_m n in
    let far : stands_before n (get_or ns from n) ≡ false =
    subst (λ (w : Method). stands_before w (get_or ns from n) ≡ false) (sym at_n) (sorted_far stands_before stands_before_ranks ns sorted from k n low within) in
    let first : stands_before (get_or ns from n) m ≡ false =
    subst (λ (w : Method). stands_before (get_or ns from n) w ≡ false) (sym same_m) (start n (omega arith)) in
    let behind : stands_before n m ≡ false = stands_before_ranks.chain n (get_or ns from n) m far first in
    let all : filter (is_named_as m) ns ≡ filter (is_named_as m) (take k ns) =
    filter_front (is_named_as m) ns k (none_from stands_before stands_before_ranks is_named_as ties_named m ns n k sorted at_n behind named) in
    subst (λ (w : Method). map f (filter (is_named_as w) (take k ns)) ≡ map f (filter (is_named_as w) ns)) (get_or_read ms i m inside at_m other) (ap (map f) (sym all))

pub one_method : (ns ms : List Method) (i : ℕ) (other : Method) (front : List (Method × Method)) → i < length ms → front ≡ pairs_in (take i ms) ns
    → front ++ map (λ n. (get_or ms i other, n)) (filter (is_named_as (get_or ms i other)) ns) ≡ pairs_in (take (i + 1) ms) ns
one_method ns ms i other front inside so_far =
    let named : Method → List (Method × Method) = λ m. map (λ n. (m, n)) (filter (is_named_as m) ns) in
    let here : List (Method × Method) = named (get_or ms i other) in
    ap (λ (front : List (Method × Method)). front ++ here) so_far
    ∙ ap (λ (rest : List (Method × Method)). flat_map named (take i ms) ++ rest) (sym (append-nil here))
    ∙ sym (flat_map-append named (take i ms) (get_or ms i other ∷ []))
    ∙ ap (flat_map named) (sym (take_more ms i other inside))

-- NAMES

all_fails : {X : Type 0} (p : X → Bool) (xs : List X) (i : ℕ) (d : X) → i < length xs → p (get_or xs i d) ≡ false → list_all p xs ≡ false
all_fails p [] i d within fails = absurd (omega arith)
all_fails p (x ∷ xs) zero d within fails = ap (λ (b : Bool). b && list_all p xs) fails
all_fails p (x ∷ xs) (suc i) d within fails = ap (λ (b : Bool). p x && b) (all_fails p xs i d (omega arith) fails) ∙ never (p x)
  where
    never : (b : Bool) → (b && false) ≡ false
    never true = refl
    never false = refl

pub name_found : (ms ns : List Method) (here i : ℕ) (m n : Method) → here < length ms → i < length ns → m ≡ get_or ms here m → n ≡ get_or ns i n → is_named_as n m ≡ true
    → have_names_of ms (take i ns) ≡ true → have_names_of ms (take (i + 1) ns) ≡ true
name_found ms ns here i m n inside within at_m at_n named so_far =
    let one : list_any (is_named_as n) ms ≡ true = list_any-from_Any (is_named_as n) ms (here, m, inside, sym at_m, named) in
    let this : list_any (is_named_as (get_or ns i n)) ms ≡ true = subst (λ (w : Method). list_any (is_named_as w) ms ≡ true) at_n one in
    list_all_more (λ n. list_any (is_named_as n) ms) ns i n within
    ∙ ap (λ (b : Bool). b && list_any (is_named_as (get_or ns i n)) ms) so_far
    ∙ this

lacks : (ms ns : List Method) (i : ℕ) (n : Method) → i < length ns → n ≡ get_or ns i n → All (λ m. is_named_as n m ≡ false) ms → have_names_of ms ns ≡ false
lacks ms ns i n within at_n none =
    all_fails (λ n. list_any (is_named_as n) ms) ns i n within
    (subst (λ (w : Method). list_any (is_named_as w) ms ≡ false) at_n (list_any_none (is_named_as n) ms none))

passed_by : (ms ns : List Method) (here i : ℕ) (n : Method) → i < length ns → n ≡ get_or ns i n → AreBefore ms here ns i → (k : ℕ) (d : Method) → k < here → is_named_as n (get_or ms k d) ≡ false
passed_by ms ns here i n within at_n passed k d below =
    not_same_before stands_before stands_before_ranks is_named_as ties_named n (get_or ms k d)
    (subst (λ (w : Method). stands_before (get_or ms k d) w ≡ true) (sym (get_or_read ns i n within at_n d)) (passed k d below within))

pub name_lacks_all : (ms ns : List Method) (here i : ℕ) (n : Method) → i < length ns → n ≡ get_or ns i n → AreBefore ms here ns i → here ≡ length ms → have_names_of ms ns ≡ false
name_lacks_all ms ns here i n within at_n passed end = lacks ms ns i n within at_n (λ k d inside. passed_by ms ns here i n within at_n passed k d (omega arith))

pub name_lacks : (ms ns : List Method) (here i : ℕ) (m n : Method) → AreByName ms → here < length ms → i < length ns → m ≡ get_or ms here m → n ≡ get_or ns i n → AreBefore ms here ns i
    → stands_before m n ≡ false → is_named_as n m ≡ false → have_names_of ms ns ≡ false
name_lacks ms ns here i m n sorted inside within at_m at_n passed behind named =
    lacks ms ns i n within at_n (λ k d there. elim (cases_lt k here) [
      | inl early ↦ passed_by ms ns here i n within at_n passed k d early
      | inr late ↦ none_from stands_before stands_before_ranks is_named_as ties_named n ms m here sorted at_m behind named k d late there
    ])

-- WHAT METHODS STAND FOR

map_map : {X Y Z : Type 0} (f : Y → Z) (g : X → Y) (xs : List X) → map f (map g xs) ≡ map (λ x. f (g x)) xs
map_map f g [] = refl
map_map f g (x ∷ xs) = ap (λ rest. f (g x) ∷ rest) (map_map f g xs)

any_map : {X Y : Type 0} (f : X → Y) (p : Y → Bool) (xs : List X) → list_any (λ x. p (f x)) xs ≡ list_any p (map f xs)
any_map f p [] = refl
any_map f p (x ∷ xs) = ap (λ rest. p (f x) || rest) (any_map f p xs)

module _ (tree : Term → TypeData) where
  abbrev both_views : Method × Method → MethodData × MethodData
  both_views q = (method_view tree q.0, method_view tree q.1)

  pairs_view : (ms ns : List Method) → map both_views (pairs_in ms ns) ≡ named_pairs (map (method_view tree) ms) (map (method_view tree) ns)
  pairs_view [] ns = refl
  pairs_view (m ∷ ms) ns =
      let view : Method → MethodData = method_view tree in
      let kept : List Method = filter (is_named_as m) ns in
      let with_this : MethodData → MethodData × MethodData = λ n. (view m, n) in
      let front : map both_views (map (λ n. (m, n)) kept) ≡ map with_this (filter (has_name (view m)) (map view ns)) =
      map_map both_views (λ n. (m, n)) kept
      ∙ sym (map_map with_this view kept)
      ∙ ap (map with_this) (map-filter view (has_name (view m)) ns) in
      map-append both_views (map (λ n. (m, n)) kept) (pairs_in ms ns)
      ∙ ap (λ (rest : List (MethodData × MethodData)). map both_views (map (λ n. (m, n)) kept) ++ rest) (pairs_view ms ns)
      ∙ ap (λ (first : List (MethodData × MethodData)). first ++ named_pairs (map view ms) (map view ns)) front

  pub pairs_at_view : (ms ns : List Method) (other : Method) (pairs : List (ℕ × ℕ)) → map (both_at ms ns other) pairs ≡ pairs_in ms ns
      → map (pair_at tree ms ns other) pairs ≡ named_pairs (map (method_view tree) ms) (map (method_view tree) ns)
  pairs_at_view ms ns other pairs are = sym (map_map both_views (both_at ms ns other) pairs) ∙ ap (map both_views) are ∙ pairs_view ms ns

  pub names_view : (ms ns : List Method) → have_names_of ms ns ≡ has_names_of (map (method_view tree) ms) (map (method_view tree) ns)
  names_view ms ns =
      let view : Method → MethodData = method_view tree in
      (λ i. list_all (λ (n : Method). any_map view (has_name (view n)) ms i) ns)
      ∙ sym (list_all-map (λ (n : MethodData). list_any (has_name n) (map view ms)) view ns)

-- SETS

grouped : (p q r : Bool) → (p && (q && r)) ≡ (p && q && r)
grouped true q r = refl
grouped false q r = refl

none_mapped : {X : Type 0} (f : X → List TermData) (xs : List X) → is_none xs ≡ is_all_by (map f xs)
none_mapped f [] = refl
none_mapped f (x ∷ xs) = refl

pub fits_view : (tree : Term → TypeData) (s t : TypeSet) → ((have_names_of s.methods.items t.methods.items && have_names_of t.methods.items s.methods.items) && fit_besides s t) ≡ sets_fit (set_view tree s) (set_view tree t)
fits_view tree s t =
    let terms : Vec UnionPart Global → List TermData = λ u. map (part_view tree) u.items in
    let rest : Bool → Bool → Bool = λ all other. same_truth all other && (if all then same_truth s.comparable t.comparable else true) in
    (λ i. (names_view tree s.methods.items t.methods.items i && names_view tree t.methods.items s.methods.items i) && rest (none_mapped terms s.unions.items i) (none_mapped terms t.unions.items i))
    ∙ grouped
    (has_names_of (set_view tree s).methods (set_view tree t).methods && has_names_of (set_view tree t).methods (set_view tree s).methods)
    (same_truth (is_all (set_view tree s)) (is_all (set_view tree t)))
    (if is_all (set_view tree s) then same_truth s.comparable t.comparable else true)
