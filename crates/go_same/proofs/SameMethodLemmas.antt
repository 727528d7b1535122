-- Methods of two interfaces, compared two by two over a judge that has gone on.
use Rattle.std.proofs.Common.{◌≡◌, ℕ, zero, suc, ◌+◌, ◌<◌, ◌≤◌, Bool, true, false, if◌then◌else◌, Vec, Global, List, [], ◌∷◌, drop, length, get_or, map, refl, sym, ap, subst, ◌∙◌, arith}
use Rattle.std.specs.List.{AllByRecursion}
use Rattle.std.specs.List.Sorted.{IsPermutation}
use Rattle.std.proofs.lemmas.List.{get_or-map, get_or_default}
use Rattle.std.proofs.lemmas.List.Elements.{All-from_recursion, recursion_from_All}
use Rattle.std.proofs.lemmas.List.Sorted.{All-permutation}
use Rattle.go_term.specs.Types.{TypeData, interface_type, made, no_parts}
use Rattle.go_term.specs.declared.term.Term.{Term}
use Rattle.go_judge.specs.Headers.{Headers}
use Rattle.go_judge.specs.Types.Forms.{answer_as}
use Rattle.go_judge.specs.Types.Own.{AreOwnFunc, KeepsTypes}
use Rattle.go_judge.specs.Types.SetsFit.{by_name, method_pairs, sets_fit}
use Rattle.go_judge.specs.Types.TypeIdentity.{Test, and_ask, ask_each, fit}
use Rattle.go_judge.specs.Types.TypeSets.{MethodData}
use Rattle.go_judge.specs.Quests.{Asked, Decided, Done, run}
use Rattle.go_judge.specs.declared.outcome.Answer.{Answer}
use Rattle.go_judge.specs.declared.outcome.Answer.TheVariants as A
use Rattle.go_same.specs.Bounded as bounded
use Rattle.go_same.specs.MethodOrder.{AreInRange, named_pairs, pair_at, views_at}
use Rattle.go_same.specs.Sets.{IsOwnSet, method_view, set_view}
use Rattle.go_same.specs.declared.bounds.Bounds.{Bounds}
use Rattle.go_same.specs.declared.set.Method.{Method}
use Rattle.go_same.specs.declared.set.TypeSet.{TypeSet}
use Rattle.go_same.proofs.EitherLemmas.{opens}
use Rattle.go_same.proofs.KeepLemmas.{all-weaker, func_types, map-agrees, method_kept, set_kept}
use Rattle.go_same.proofs.MethodLemmas.{pairs_by_name, sets_fit_by_name}
use Rattle.go_same.proofs.SameLemmas.{and_other, and_yes}

-- THE METHODS AT TWO PLACES

module _ (tree : Term → TypeData) (ms ns : List Method) where
  abbrev firsts : List MethodData
  firsts = map (method_view tree) ms

  abbrev seconds : List MethodData
  seconds = map (method_view tree) ns

  pub viewed_at : (p : ℕ × ℕ) (m n : Method) (other : MethodData) → p.0 < length ms → p.1 < length ns → m ≡ get_or ms p.0 m → n ≡ get_or ns p.1 n
      → views_at firsts seconds other p ≡ (method_view tree m, method_view tree n)
  viewed_at p m n other here there is_m is_n =
      let first : get_or firsts p.0 other ≡ method_view tree m = get_or-map (method_view tree) ms p.0 m other here ∙ ap (method_view tree) (sym is_m) in
      let second : get_or seconds p.1 other ≡ method_view tree n = get_or-map (method_view tree) ns p.1 n other there ∙ ap (method_view tree) (sym is_n) in cc

  viewed_as : (p : ℕ × ℕ) (m : Method) (other : MethodData) → (p.0 < length ms) × (p.1 < length ns) → views_at firsts seconds other p ≡ pair_at tree ms ns m p
  viewed_as p m other within =
      let first = get_or-map (method_view tree) ms p.0 m other within.0 in
      let second = get_or-map (method_view tree) ns p.1 m other within.1 in cc

-- what is said of the methods at places in range by another method holds whatever stands out of range
pub named_views : (tree : Term → TypeData) (ms ns : List Method) (pairs : List (ℕ × ℕ)) → AreInRange ms ns pairs
    → ((other : Method) → map (pair_at tree ms ns other) pairs ≡ named_pairs (map (method_view tree) ms) (map (method_view tree) ns))
    → (other : MethodData) → map (views_at (map (method_view tree) ms) (map (method_view tree) ns) other) pairs ≡ named_pairs (map (method_view tree) ms) (map (method_view tree) ns)
named_views tree [] ns [] within are other = refl
named_views tree [] ns (p ∷ ps) within are other = let wrong : p.0 < 0 = within.0.0 in absurd (omega arith)
named_views tree (m ∷ ms) ns pairs within are other =
    map-agrees (λ p. (p.0 < length (m ∷ ms)) × (p.1 < length ns)) (views_at (map (method_view tree) (m ∷ ms)) (map (method_view tree) ns) other) (pair_at tree (m ∷ ms) ns m)
    (λ p. viewed_as tree (m ∷ ms) ns p m other) pairs within
    ∙ are m

-- any, for what is said whatever stands out of range
abbrev pub some_method : MethodData
some_method = record { name = []; home = []; type = made interface_type no_parts; opened = 0 }

-- what is told of the methods at the places is told of those of one name
pub told_named : (tree : Term → TypeData) (known : Headers) (b : Bounds) (ms ns ms1 ns1 ms2 ns2 : List Method) (pairs pairs2 : List (ℕ × ℕ)) → ms1 ≡ ms → ns1 ≡ ns → ms2 ≡ ms → ns2 ≡ ns → pairs2 ≡ pairs
    → AreInRange ms1 ns1 pairs → ((other : Method) → map (pair_at tree ms1 ns1 other) pairs ≡ named_pairs (map (method_view tree) ms1) (map (method_view tree) ns1))
    → (x : Answer) → ((other : MethodData) → answer_as x ≡ run known (bounded.same_methods_all b (map (views_at (map (method_view tree) ms2) (map (method_view tree) ns2) other) pairs2)))
    → answer_as x ≡ run known (bounded.same_methods_all b (named_pairs (map (method_view tree) ms) (map (method_view tree) ns)))
told_named tree known b ms ns ms1 ns1 ms2 ns2 pairs pairs2 is_ms1 is_ns1 is_ms2 is_ns2 is_pairs within are x told =
    let first : ms2 ≡ ms1 = is_ms2 ∙ sym is_ms1 in
    let second : ns2 ≡ ns1 = is_ns2 ∙ sym is_ns1 in
    told some_method
    ∙ (λ j. run known (bounded.same_methods_all b (map (views_at (map (method_view tree) (first j)) (map (method_view tree) (second j)) some_method) (is_pairs j))))
    ∙ ap (λ (ps : List (MethodData × MethodData)). run known (bounded.same_methods_all b ps)) (named_views tree ms1 ns1 pairs within are some_method)
    ∙ (λ j. run known (bounded.same_methods_all b (named_pairs (map (method_view tree) (is_ms1 j)) (map (method_view tree) (is_ns1 j)))))

-- the terms are left, over a judge that has gone on
pub terms_moved : {own own' : Term → Type 0} {tree tree' : Term → TypeData} → KeepsTypes own own' tree tree' → (known known' : Headers) → known' ≡ known → (b : Bounds) (s t : TypeSet) → IsOwnSet own s → IsOwnSet own t → (first : Test) → Decided true ≡ run known first
    → run known' (bounded.same_terms b (set_view tree' s) (set_view tree' t)) ≡ run known (and_ask first (bounded.same_terms b (set_view tree s) (set_view tree t)))
terms_moved {own} {own'} {tree} {tree'} kept known known' same b s t s_own t_own first told =
    (λ j. run (same j) (bounded.same_terms b (set_kept kept s s_own j) (set_kept kept t t_own j)))
    ∙ and_yes known first (bounded.same_terms b (set_view tree s) (set_view tree t)) told

-- ONE PAIR OF METHODS

module _ {own own' : Term → Type 0} {tree tree' : Term → TypeData} (kept : KeepsTypes own own' tree tree')
    (ms : List Method) (i : ℕ) (m : Method) (here : i < length ms) (is : m ≡ get_or ms i m) (owned : AllByRecursion (λ m. AreOwnFunc own m.signature) ms) where
  owned_here : AreOwnFunc own m.signature
  owned_here = subst (λ (m : Method). AreOwnFunc own m.signature) (sym is) (All-from_recursion (λ m. AreOwnFunc own m.signature) ms owned i m here)

  pub method_here : AreOwnFunc own' m.signature
  method_here = func_types kept m.signature owned_here

  pub view_here : method_view tree' m ≡ method_view tree m
  view_here = method_kept kept m owned_here

module _ {own own' : Term → Type 0} {tree tree' : Term → TypeData} (kept : KeepsTypes own own' tree tree')
    (ms : List Method) (owned : AllByRecursion (λ m. AreOwnFunc own m.signature) ms) where
  pub methods_stay : AllByRecursion (λ m. AreOwnFunc own' m.signature) ms
  methods_stay = all-weaker (λ m. AreOwnFunc own m.signature) (λ m. AreOwnFunc own' m.signature) (λ m is. func_types kept m.signature is) ms owned

  pub views_stay : map (method_view tree') ms ≡ map (method_view tree) ms
  views_stay = map-agrees (λ m. AreOwnFunc own m.signature) (method_view tree') (method_view tree) (λ m is. method_kept kept m is) ms owned

-- where the methods fit the rest is left, over a judge that has gone on
module _ {own own' : Term → Type 0} {tree tree' : Term → TypeData} (kept : KeepsTypes own own' tree tree') (known known' : Headers) (same : known' ≡ known) (b : Bounds)
    (ms ns : List Method) (owned : AllByRecursion (λ m. AreOwnFunc own m.signature) ms) (also : AllByRecursion (λ m. AreOwnFunc own m.signature) ns) (pairs : List (ℕ × ℕ)) (other : MethodData) where
  abbrev views : (Term → TypeData) → List (MethodData × MethodData)
  views tree = map (views_at (map (method_view tree) ms) (map (method_view tree) ns) other) pairs

  pub rest_moved : run known (ask_each (λ p. Done (fit p.0.type p.1.type)) (views tree)) ≡ Decided true
      → run known' (ask_each (bounded.same_methods b) (views tree')) ≡ run known (bounded.same_methods_all b (views tree))
  rest_moved so =
      (λ j. run (same j) (ask_each (bounded.same_methods b) (map (views_at (views_stay kept ms owned j) (views_stay kept ns also j) other) pairs)))
      ∙ and_yes known (ask_each (λ p. Done (fit p.0.type p.1.type)) (views tree)) (ask_each (bounded.same_methods b) (views tree)) (sym so)

module _ (pairs : List (ℕ × ℕ)) (i : ℕ) (lt : i < length pairs) where
  abbrev pub place : ℕ × ℕ
  place = get_or pairs i (0, 0)

  pub in_range : (ms ns : List Method) → AreInRange ms ns pairs → (place.0 < length ms) × (place.1 < length ns)
  in_range ms ns within = All-from_recursion (λ p. (p.0 < length ms) × (p.1 < length ns)) pairs within i (0, 0) lt

  module _ {own own' : Term → Type 0} {tree tree' : Term → TypeData} (kept : KeepsTypes own own' tree tree')
      (ms ns : List Method) (within : AreInRange ms ns pairs) (m n : Method) (is_m : m ≡ get_or ms place.0 m) (is_n : n ≡ get_or ns place.1 n)
      (owned : AllByRecursion (λ m. AreOwnFunc own m.signature) ms) (also : AllByRecursion (λ m. AreOwnFunc own m.signature) ns) where
    pub first_here : AreOwnFunc own' m.signature
    first_here = let range = in_range ms ns within in method_here kept ms place.0 m range.0 is_m owned

    pub second_here : AreOwnFunc own' n.signature
    second_here = let range = in_range ms ns within in method_here kept ns place.1 n range.1 is_n also

    module _ (known known' : Headers) (same : known' ≡ known) (test : MethodData × MethodData → Test) (other : MethodData) where
      abbrev view : ℕ × ℕ → MethodData × MethodData
      view = views_at (map (method_view tree) ms) (map (method_view tree) ns) other

      -- the question of the pair, over the judge as it was
      asked_here : run known' (test (method_view tree' m, method_view tree' n)) ≡ run known (test (view place))
      asked_here =
          let range = in_range ms ns within in
          let first : method_view tree' m ≡ method_view tree m = view_here kept ms place.0 m range.0 is_m owned in
          let second : method_view tree' n ≡ method_view tree n = view_here kept ns place.1 n range.1 is_n also in
          (λ j. run (same j) (test (first j, second j)))
          ∙ ap (λ (q : MethodData × MethodData). run known (test q)) (sym (viewed_at tree ms ns place m n other range.0 range.1 is_m is_n))

      asked_rest : run known (ask_each test (view place ∷ map view (drop (i + 1) pairs))) ≡ run known (ask_each test (map view (drop i pairs)))
      asked_rest = ap (λ (ps : List (ℕ × ℕ)). run known (ask_each test (map view ps))) (sym (opens pairs i place lt (get_or_default pairs i (0, 0) place lt)))

      pub methods_step : (x : Answer) (whole : Asked Bool) → x ≡ A.Yes → answer_as x ≡ run known' (test (method_view tree' m, method_view tree' n))
          → run known (ask_each test (map view (drop i pairs))) ≡ whole → run known (ask_each test (map view (drop (i + 1) pairs))) ≡ whole
      methods_step x whole so told left =
          and_yes known (test (view place)) (ask_each test (map view (drop (i + 1) pairs))) (sym (ap answer_as so) ∙ told ∙ asked_here) ∙ asked_rest ∙ left

      pub methods_stop : (x : Answer) (whole : Asked Bool) → (x ≡ A.Yes → ⊥) → answer_as x ≡ run known' (test (method_view tree' m, method_view tree' n))
          → run known (ask_each test (map view (drop i pairs))) ≡ whole → answer_as x ≡ whole
      methods_stop x whole not_so told left =
          and_other known x (test (view place)) (ask_each test (map view (drop (i + 1) pairs))) not_so (told ∙ asked_here) ∙ asked_rest ∙ left

-- none are left
pub methods_end : {X Y : Type 0} (known : Headers) (test : Y → Test) (view : X → Y) (xs : List X) (i : ℕ) → length xs ≤ i → (whole : Asked Bool)
    → run known (ask_each test (map view (drop i xs))) ≡ whole → answer_as A.Yes ≡ whole
methods_end known test view [] zero long whole left = left
methods_end known test view [] (suc i) long whole left = left
methods_end known test view (x ∷ xs) zero long whole left = absurd (omega arith)
methods_end known test view (x ∷ xs) (suc i) long whole left = methods_end known test view xs i (omega arith) whole left

-- METHODS BY NAME

-- sets whose methods are put in order are asked of as they were
module _ (tree : Term → TypeData) (s t : TypeSet) (ms ns : Vec Method Global)
    (is_ms : map (method_view tree) ms.items ≡ by_name (map (method_view tree) s.methods.items)) (is_ns : map (method_view tree) ns.items ≡ by_name (map (method_view tree) t.methods.items)) where
  sorted_fit : sets_fit (set_view tree (record s { methods = ms })) (set_view tree (record t { methods = ns })) ≡ sets_fit (set_view tree s) (set_view tree t)
  sorted_fit =
      (λ j. sets_fit (record (set_view tree s) { methods = is_ms j }) (record (set_view tree t) { methods = is_ns j }))
      ∙ sets_fit_by_name (set_view tree s) (set_view tree t)

  module _ (known : Headers) (b : Bounds) where
    -- what is asked of sets that fit
    abbrev both : Test
    both = and_ask (bounded.same_methods_all b (method_pairs (set_view tree s).methods (set_view tree t).methods)) (bounded.same_terms b (set_view tree s) (set_view tree t))

    pub sets_apart : false ≡ sets_fit (set_view tree (record s { methods = ms })) (set_view tree (record t { methods = ns }))
        → Decided false ≡ run known (bounded.same_sets b (set_view tree s) (set_view tree t))
    sets_apart not_so = ap (λ (c : Bool). run known (if c then both else Done false)) (not_so ∙ sorted_fit)

    pub sets_beside : true ≡ sets_fit (set_view tree (record s { methods = ms })) (set_view tree (record t { methods = ns }))
        → run known (and_ask (bounded.same_methods_all b (named_pairs (map (method_view tree) ms.items) (map (method_view tree) ns.items))) (bounded.same_terms b (set_view tree (record s { methods = ms })) (set_view tree (record t { methods = ns }))))
        ≡ run known (bounded.same_sets b (set_view tree s) (set_view tree t))
    sets_beside so =
        let pairs : named_pairs (map (method_view tree) ms.items) (map (method_view tree) ns.items) ≡ method_pairs (set_view tree s).methods (set_view tree t).methods =
        (λ j. named_pairs (is_ms j) (is_ns j)) ∙ pairs_by_name (set_view tree s).methods (set_view tree t).methods in
        ap (λ (ps : List (MethodData × MethodData)). run known (and_ask (bounded.same_methods_all b ps) (bounded.same_terms b (set_view tree s) (set_view tree t)))) pairs
        ∙ ap (λ (c : Bool). run known (if c then both else Done false)) (so ∙ sorted_fit)

pub sorted_own : (own : Term → Type 0) (s : TypeSet) (ms : Vec Method Global) → IsPermutation s.methods.items ms.items → IsOwnSet own s → IsOwnSet own (record s { methods = ms })
sorted_own own s ms moved owned = (
  recursion_from_All (λ m. AreOwnFunc own m.signature) ms.items
      (All-permutation (λ m. AreOwnFunc own m.signature) s.methods.items ms.items moved (All-from_recursion (λ m. AreOwnFunc own m.signature) s.methods.items owned.0)),
  owned.1,
)
