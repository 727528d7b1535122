-- Type identity of a type with itself, and the other way round: what two types are asked comes to Yes where the other way round
-- it does.
use Rattle.std.proofs.Common.{◌≡◌, ℕ, zero, suc, ◌+◌, ◌-◌, ◌&&◌, Bool, true, false, if◌then◌else◌, Option, Some, None, List, [], ◌∷◌, map, filter, refl, sym, ap, subst, ◌∙◌, arith}
use Rattle.std.specs.Prelude.{nat_le}
use Rattle.std.specs.List.{AllByRecursion}
use Rattle.std.proofs.lemmas.Cmp.{nat_list_eq_equiv}
use Rattle.go_term.specs.Types.{TypeData}
use Rattle.go_judge.specs.Headers.{Headers}
use Rattle.go_judge.specs.Types.Heads.{alike, same_truth}
use Rattle.go_judge.specs.Types.SetsFit.{by_name, has_name, has_names_of, is_all, method_pairs, sets_fit}
use Rattle.go_judge.specs.Types.TypeIdentity.{Test, and_ask, ask_each, behind, fit, interfaces_in, methods_fit, same, same_as, same_as_set, same_interfaces, same_methods, same_methods_all, same_sets, terms_lie}
use Rattle.go_judge.specs.Types.TypeSets.{MethodData, SetData, set_of}
use Rattle.go_judge.specs.Quests.{Decided, Done, run, then_ask}
use Rattle.go_same_laws.proofs.AlikeLemmas.{alike_itself, alike_swap, fit_itself, fit_swap, interfaces_swap, swapped, truth_swap}
use Rattle.go_same_laws.proofs.EveryLemmas.{every_kept, every_of_flat, every_of_map, every_of_names, every_so, every_swap, every_to_flat, every_to_keep, every_to_map, every_to_names}
use Rattle.go_same_laws.proofs.PlaceLemmas.{IsTwice, twice_places}
use Rattle.go_same_laws.proofs.YesLemmas.{IsYes, both_yes, each_yes, hence, not_no, thence, yes_both, yes_each}

-- NAMES AND SETS

pub name_swap : (m n : MethodData) → has_name m n ≡ has_name n m
name_swap m n = λ i. nat_list_eq_equiv.symm m.name n.name i && nat_list_eq_equiv.symm m.home n.home i

and_swap : (p q : Bool) → (p && q) ≡ (q && p)
and_swap true true = refl
and_swap true false = refl
and_swap false true = refl
and_swap false false = refl

comparable_swap : (p x y c d : Bool) → (p && same_truth x y && (if x then same_truth c d else true)) ≡ (p && same_truth y x && (if y then same_truth d c else true))
comparable_swap p true true c d = λ i. p && true && truth_swap c d i
comparable_swap p true false c d = and_false p (same_truth c d)
  where
    and_false : (p q : Bool) → (p && false && q) ≡ (p && false && true)
    and_false true q = refl
    and_false false q = refl
comparable_swap p false true c d = and_false p (same_truth d c)
  where
    and_false : (p q : Bool) → (p && false && true) ≡ (p && false && q)
    and_false true q = refl
    and_false false q = refl
comparable_swap p false false c d = refl

pub sets_swap : (s t : SetData) → sets_fit s t ≡ sets_fit t s
sets_swap s t =
    let names = and_swap (has_names_of s.methods t.methods) (has_names_of t.methods s.methods) in
    (λ i. names i && same_truth (is_all s) (is_all t) && (if is_all s then same_truth s.comparable t.comparable else true))
    ∙ comparable_swap (has_names_of t.methods s.methods && has_names_of s.methods t.methods) (is_all s) (is_all t) s.comparable t.comparable

module _ (headers : Headers) where
  -- YES AND NO

  -- a test that is Yes where a condition holds, which then holds
  pub if_yes : (b : Bool) (q : Test) → IsYes headers (if b then q else Done false) → (b ≡ true) × IsYes headers q
  if_yes true q told = (refl, told)
  if_yes false q told = absurd (not_no headers told)

  pub yes_if : (b : Bool) (q : Test) → b ≡ true → IsYes headers q → IsYes headers (if b then q else Done false)
  yes_if true q e told = told
  yes_if false q e told = absurd (let wrong : false ≡ true = e in cc wrong)

  pub yes_or : (b : Bool) (q : Test) → (b ≡ false → IsYes headers q) → IsYes headers (if b then Done true else q)
  yes_or true q told = refl
  yes_or false q told = told refl

  pub or_yes : (b : Bool) (q : Test) → b ≡ false → IsYes headers (if b then Done true else q) → IsYes headers q
  or_yes true q e told = absurd (let wrong : true ≡ false = e in cc wrong)
  or_yes false q e told = told

  swap_each : {X : Type 0} (f g : X → Test) (turn : X → X) → ((x : X) → IsYes headers (f x) → IsYes headers (g (turn x))) → (xs : List X) → AllByRecursion (λ x. IsYes headers (f x)) xs → AllByRecursion (λ x. IsYes headers (g x)) (map turn xs)
  swap_each f g turn so [] all = tt
  swap_each f g turn so (x ∷ xs) all = (so x all.0, swap_each f g turn so xs all.1)

  -- PAIRS OF METHODS

  module _ (f : MethodData × MethodData → Test) where
    abbrev named_yes : MethodData → MethodData → Type 0
    named_yes m n = has_name m n ≡ true → IsYes headers (f (m, n))

    abbrev pair_yes : MethodData × MethodData → Type 0
    pair_yes p = IsYes headers (f p)

    abbrev pairs_with : List MethodData → MethodData → List (MethodData × MethodData)
    pairs_with ns m = map (λ n. (m, n)) (filter (has_name m) ns)

    -- of each two methods of one name it is Yes
    pub of_pairs : (ms ns : List MethodData) → IsYes headers (ask_each f (method_pairs ms ns)) → AllByRecursion (λ m. AllByRecursion (named_yes m) ns) ms
    of_pairs ms ns told =
        let pairs = every_of_flat pair_yes (pairs_with ns) (by_name ms) (each_yes headers f (method_pairs ms ns) told) in
        every_so (λ m. AllByRecursion pair_yes (pairs_with ns m)) (λ m. AllByRecursion (named_yes m) ns)
        (λ m all. every_kept (λ n. pair_yes (m, n)) (has_name m) ns (every_of_map pair_yes (λ n. (m, n)) (filter (has_name m) ns) all))
        ms
        (every_of_names (λ m. AllByRecursion pair_yes (pairs_with ns m)) ms pairs)

    pub to_pairs : (ms ns : List MethodData) → AllByRecursion (λ m. AllByRecursion (named_yes m) ns) ms → IsYes headers (ask_each f (method_pairs ms ns))
    to_pairs ms ns all =
        let pairs = every_so (λ m. AllByRecursion (named_yes m) ns) (λ m. AllByRecursion pair_yes (pairs_with ns m))
        (λ m here. every_to_map pair_yes (λ n. (m, n)) (filter (has_name m) ns) (every_to_keep (λ n. pair_yes (m, n)) (has_name m) ns here))
        ms all in
        yes_each headers f (method_pairs ms ns) (every_to_flat pair_yes (pairs_with ns) (by_name ms) (every_to_names (λ m. AllByRecursion pair_yes (pairs_with ns m)) ms pairs))

  -- where f is Yes of each two methods as it is the other way round, it is Yes of all pairs so
  pairs_swap : (f : MethodData × MethodData → Test) → ((m n : MethodData) → IsYes headers (f (m, n)) → IsYes headers (f (n, m))) → (ms ns : List MethodData) → IsYes headers (ask_each f (method_pairs ms ns)) → IsYes headers (ask_each f (method_pairs ns ms))
  pairs_swap f turn ms ns told =
      let all = every_swap (named_yes f) ms ns (of_pairs f ms ns told) in
      to_pairs f ns ms
      (every_so (λ n. AllByRecursion (λ m. named_yes f m n) ms) (λ n. AllByRecursion (named_yes f n) ms)
      (λ n here. every_so (λ m. named_yes f m n) (named_yes f n) (λ m so named. turn m n (so (name_swap m n ∙ named))) ms here)
      ns all)

  -- WHAT SETS TELL

  module _ (go : Bool → ℕ → TypeData → TypeData → Test) (left : ℕ) where
    abbrev pub asked_sets : TypeData → TypeData → Test
    asked_sets a b = then_ask (set_of left a) (same_as go left false b)

    -- both sets are found, and are the same
    pub record SetsFound (a b : TypeData) : Type 0 where
      pub one : SetData
      pub other : SetData
      pub is_one : run headers (set_of left a) ≡ Decided (Some one)
      pub is_other : run headers (set_of left b) ≡ Decided (Some other)
      pub told : IsYes headers (same_sets go left false one other)

    of_second : (a b : TypeData) (s : SetData) (y : Option SetData) → run headers (set_of left a) ≡ Decided (Some s) → run headers (set_of left b) ≡ Decided y → IsYes headers (same_as_set go left false s y) → SetsFound a b
    of_second a b s (Some t) e f told = record { one = s; other = t; is_one = e; is_other = f; told = told }
    of_second a b s None e f told = absurd (not_no headers told)

    of_first : (a b : TypeData) (x : Option SetData) → run headers (set_of left a) ≡ Decided x → IsYes headers (same_as go left false b x) → SetsFound a b
    of_first a b (Some s) e told =
        let two = thence headers (set_of left b) (same_as_set go left false s) true told in
        of_second a b s two.answer e two.first two.second
    of_first a b None e told = absurd (not_no headers told)

    pub of_asked : (a b : TypeData) → IsYes headers (asked_sets a b) → SetsFound a b
    of_asked a b told =
        let one = thence headers (set_of left a) (same_as go left false b) true told in
        of_first a b one.answer one.first one.second

    pub to_asked : (a b : TypeData) → SetsFound a b → IsYes headers (asked_sets a b)
    to_asked a b found =
        hence headers (set_of left a) (same_as go left false b) (Some found.one) true found.is_one
        (hence headers (set_of left b) (same_as_set go left false found.one) (Some found.other) true found.is_other found.told)

  -- INTERFACES

  module _ (go : Bool → ℕ → TypeData → TypeData → Test) (turn : (left : ℕ) (a b : TypeData) → IsYes headers (go false left a b) → IsYes headers (go false left b a)) (left : ℕ) where
    pub behind_swap : (opened : ℕ) (a b : TypeData) → IsYes headers (behind go left false opened a b) → IsYes headers (behind go left false opened b a)
    behind_swap opened a b told =
        let parts = if_yes (nat_le opened left) (go false (left - opened) a b) told in
        yes_if (nat_le opened left) (go false (left - opened) b a) parts.0 (turn (left - opened) a b parts.1)

    method_swap : (m n : MethodData) → IsYes headers (same_methods go left false (m, n)) → IsYes headers (same_methods go left false (n, m))
    method_swap m n told =
        let sum : m.opened + n.opened ≡ n.opened + m.opened = omega arith in
        subst (λ k. IsYes headers (behind go left false k n.type m.type)) sum (behind_swap (m.opened + n.opened) m.type n.type told)

    fits_swap : (m n : MethodData) → IsYes headers (methods_fit go left (m, n)) → IsYes headers (methods_fit go left (n, m))
    fits_swap m n told = (λ i. Decided (fit_swap n.type m.type i)) ∙ told

    methods_swap : (ms ns : List MethodData) → IsYes headers (same_methods_all go left false (method_pairs ms ns)) → IsYes headers (same_methods_all go left false (method_pairs ns ms))
    methods_swap ms ns told =
        let fits = ask_each (methods_fit go left) in
        let same = ask_each (same_methods go left false) in
        let both = yes_both headers (fits (method_pairs ms ns)) (same (method_pairs ms ns)) told in
        both_yes headers (fits (method_pairs ns ms)) (same (method_pairs ns ms)) (pairs_swap (methods_fit go left) fits_swap ms ns both.0) (pairs_swap (same_methods go left false) method_swap ms ns both.1)

    same_sets_swap : (s t : SetData) → IsYes headers (same_sets go left false s t) → IsYes headers (same_sets go left false t s)
    same_sets_swap s t told =
        let there = terms_lie go left false s t in
        let back = terms_lie go left false t s in
        let methods = same_methods_all go left false (method_pairs s.methods t.methods) in
        let turned = same_methods_all go left false (method_pairs t.methods s.methods) in
        let fits = if_yes (sets_fit s t) (and_ask methods (and_ask there back)) told in
        let both = yes_both headers methods (and_ask there back) fits.1 in
        let terms = yes_both headers there back both.1 in
        yes_if (sets_fit t s) (and_ask turned (and_ask back there)) (sets_swap t s ∙ fits.0)
        (both_yes headers turned (and_ask back there) (methods_swap s.methods t.methods both.0) (both_yes headers back there terms.1 terms.0))

    asked_swap : (a b : TypeData) → IsYes headers (asked_sets go left a b) → IsYes headers (asked_sets go left b a)
    asked_swap a b told =
        let found = of_asked go left a b told in
        to_asked go left b a (record { one = found.other; other = found.one; is_one = found.is_other; is_other = found.is_one; told = same_sets_swap found.one found.other found.told })

    pub interface_swap : (p : TypeData × TypeData) → IsYes headers (same_interfaces go left false p) → IsYes headers (same_interfaces go left false (swapped p))
    interface_swap p told =
        yes_or (alike p.1 p.0) (asked_sets go left p.1 p.0) (λ other. asked_swap p.0 p.1 (or_yes (alike p.0 p.1) (asked_sets go left p.0 p.1) (alike_swap p.0 p.1 ∙ other) told))

  -- TYPES

  pub same_swap : (levels left : ℕ) (a b : TypeData) → IsYes headers (same levels false left a b) → IsYes headers (same levels false left b a)
  same_swap zero left a b told = told
  same_swap (suc levels) left a b told =
      let test = same_interfaces (same levels) left false in
      let fits = if_yes (fit a b) (ask_each test (interfaces_in a b)) told in
      let each = swap_each test test swapped (interface_swap (same levels) (same_swap levels) left) (interfaces_in a b) (each_yes headers test (interfaces_in a b) fits.1) in
      let turned = subst (AllByRecursion (λ (p : TypeData × TypeData). IsYes headers (test p))) (sym (interfaces_swap a b)) each in
      yes_if (fit b a) (ask_each test (interfaces_in b a)) (fit_swap b a ∙ fits.0) (yes_each headers test (interfaces_in b a) turned)

  -- of a type beside itself nothing has to be asked
  pub twice_yes : (levels : ℕ) (short : Bool) (left : ℕ) (p : TypeData × TypeData) → IsTwice p → IsYes headers (same_interfaces (same levels) left short p)
  twice_yes levels short left p e = if_alike (alike p.0 p.1) _ (subst (λ (w : TypeData). alike p.0 w ≡ true) e (alike_itself p.0))
    where
      if_alike : (b : Bool) (q : Test) → b ≡ true → IsYes headers (if b then Done true else q)
      if_alike true q e = refl
      if_alike false q e = absurd (let wrong : false ≡ true = e in cc wrong)

  pub same_itself : (levels : ℕ) (short : Bool) (left : ℕ) (t : TypeData) → IsYes headers (same (suc levels) short left t t)
  same_itself levels short left t =
      let test = same_interfaces (same levels) left short in
      let each = every_so IsTwice (λ p. IsYes headers (test p)) (twice_yes levels short left) (interfaces_in t t) (twice_places t) in
      yes_if (fit t t) (ask_each test (interfaces_in t t)) (fit_itself t) (yes_each headers test (interfaces_in t t) each)

  -- a premise holds of a type and itself
  pub premise_itself : (levels left : ℕ) (t : TypeData) → IsYes headers (same levels true left t t)
  premise_itself zero left t = ap Decided (fit_itself t)
  premise_itself (suc levels) left t = same_itself levels true left t
