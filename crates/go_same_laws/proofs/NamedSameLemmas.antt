-- Identity of types that name good objects only: only headers of good objects are needed.
use Rattle.std.proofs.Common.{◌≡◌, ℕ, zero, suc, ◌+◌, ◌-◌, Bool, true, false, not, if◌then◌else◌, Option, Some, None, List, [], ◌∷◌, map, filter, IfSome}
use Rattle.std.specs.Prelude.{nat_le}
use Rattle.std.specs.List.{AllByRecursion, flat_map}
use Rattle.go_term.specs.Types.{TypeData, Parts, made, more_parts}
use Rattle.go_judge.specs.Types.Forms.{found_in}
use Rattle.go_judge.specs.Types.Heads.{alike}
use Rattle.go_judge.specs.Types.SetsFit.{by_name, has_name, method_pairs, sets_fit}
use Rattle.go_judge.specs.Types.TypeIdentity.{Test, and_ask, are_interfaces, ask_any, ask_each, behind, both_found, by_form, fit, has_underlying, identical, implied, interfaces_in, interfaces_in_all, is_declared, lies_in, lies_within, lies_within_by, methods_fit, most_levels, most_opened, or_ask, same, same_as, same_as_set, same_found, same_interfaces, same_methods, same_methods_all, same_sets, same_term, same_underlying, terms_lie}
use Rattle.go_judge.specs.Types.TypeSets.{MethodData, SetData, TermData, plain, set_of}
use Rattle.go_judge.specs.Types.UnderlyingType.{under}
use Rattle.go_judge.specs.Quests.{Done, then_ask}
use Rattle.go_same_laws.specs.Named.{AsksOnly, NameOnly, NamesOnly, ReachesGood}
use Rattle.go_same_laws.proofs.EveryLemmas.{every_both, every_so, every_to_flat, every_to_keep, every_to_map, every_to_names}
use Rattle.go_same_laws.proofs.NamedLemmas.{AnyOf, asks_then, under_asks}
use Rattle.go_same_laws.proofs.NamedSetLemmas.{MayName, MethodNames, SetNames, TermNames, UnionNames, plain_names, set_gives}

module _ (good : ℕ → Type 0) where
  -- TESTS

  abbrev pub Tests : Test → Type 0
  Tests q = AsksOnly good AnyOf q

  either_tests : (r : Bool) (a b : Test) → Tests a → Tests b → Tests (if r then a else b)
  either_tests true a b first second = first
  either_tests false a b first second = second

  pub and_tests : (a b : Test) → Tests a → Tests b → Tests (and_ask a b)
  and_tests a b first second = asks_then good AnyOf AnyOf a (λ yes. if yes then b else Done false) first (λ r any. either_tests r b (Done false) second tt)

  pub or_tests : (a b : Test) → Tests a → Tests b → Tests (or_ask a b)
  or_tests a b first second = asks_then good AnyOf AnyOf a (λ yes. if yes then Done true else b) first (λ r any. either_tests r (Done true) b tt second)

  pub implied_tests : (a b : Test) → Tests a → Tests b → Tests (implied a b)
  implied_tests a b first second = asks_then good AnyOf AnyOf a (λ yes. if yes then b else Done true) first (λ r any. either_tests r b (Done true) second tt)

  module _ {X : Type 0} (P : X → Type 0) (test : X → Test) (tests : (x : X) → P x → Tests (test x)) where
    pub each_tests : (xs : List X) → AllByRecursion P xs → Tests (ask_each test xs)
    each_tests [] all = tt
    each_tests (x ∷ xs) all = and_tests (test x) (ask_each test xs) (tests x all.0) (each_tests xs all.1)

    pub any_tests : (xs : List X) → AllByRecursion P xs → Tests (ask_any test xs)
    any_tests [] all = tt
    any_tests (x ∷ xs) all = or_tests (test x) (ask_any test xs) (tests x all.0) (any_tests xs all.1)

  -- PAIRS

  abbrev BothName : TypeData × TypeData → Type 0
  BothName p = NamesOnly good p.0 × NamesOnly good p.1

  abbrev PairNames : MethodData × MethodData → Type 0
  PairNames p = MethodNames good p.0 × MethodNames good p.1

  mutual
    interfaces_name : (a b : TypeData) → NamesOnly good a → NamesOnly good b → AllByRecursion BothName (interfaces_in a b)
    interfaces_name (made h ts) (made g us) first second = at (are_interfaces h g) (interfaces_name_all ts us first.1 second.1)
      where
        at : (r : Bool) → AllByRecursion BothName (interfaces_in_all ts us) → AllByRecursion BothName (if r then (made h ts, made g us) ∷ [] else interfaces_in_all ts us)
        at true parts = ((first, second), tt)
        at false parts = parts

    interfaces_name_all : (ts us : Parts) → NameOnly good ts → NameOnly good us → AllByRecursion BothName (interfaces_in_all ts us)
    interfaces_name_all (more_parts t ts) (more_parts u us) first second =
        every_both BothName (interfaces_in t u) (interfaces_in_all ts us) (interfaces_name t u first.0 second.0) (interfaces_name_all ts us first.1 second.1)
    interfaces_name_all ts us first second = tt

  -- a method with each of the others that has its name
  abbrev beside : List MethodData → MethodData → List (MethodData × MethodData)
  beside ns m = map (λ n. (m, n)) (filter (has_name m) ns)

  beside_name : (ns : List MethodData) → AllByRecursion (MethodNames good) ns → (m : MethodData) → MethodNames good m → AllByRecursion PairNames (beside ns m)
  beside_name ns second m here =
      let kept : AllByRecursion (MethodNames good) (filter (has_name m) ns) =
      every_to_keep (MethodNames good) (has_name m) ns (every_so (MethodNames good) (λ n. has_name m n ≡ true → MethodNames good n) (λ n there is. there) ns second) in
      every_to_map PairNames (λ n. (m, n)) (filter (has_name m) ns) (every_so (MethodNames good) (λ n. PairNames (m, n)) (λ n there. (here, there)) (filter (has_name m) ns) kept)

  pairs_name : (ms ns : List MethodData) → AllByRecursion (MethodNames good) ms → AllByRecursion (MethodNames good) ns → AllByRecursion PairNames (method_pairs ms ns)
  pairs_name ms ns first second =
      every_to_flat PairNames (beside ns) (by_name ms) (every_so (MethodNames good) (λ m. AllByRecursion PairNames (beside ns m)) (beside_name ns second) (by_name ms) (every_to_names (MethodNames good) ms first))

  -- INTERFACES

  module _ (go : Bool → ℕ → TypeData → TypeData → Test) (goes : (short : Bool) (left : ℕ) (a b : TypeData) → NamesOnly good a → NamesOnly good b → Tests (go short left a b)) (left : ℕ) where
    behind_tests : (short : Bool) (opened : ℕ) (a b : TypeData) → NamesOnly good a → NamesOnly good b → Tests (behind go left short opened a b)
    behind_tests short opened a b first second = either_tests (nat_le opened left) (go short (left - opened) a b) (by_form short a b) (goes short (left - opened) a b first second) tt

    found_tests : (short : Bool) (opened : ℕ) (b : TypeData) → NamesOnly good b → (o : Option TypeData) → IfSome o (NamesOnly good) → Tests (same_found go left short opened b o)
    found_tests short opened b second None found = tt
    found_tests short opened b second (Some u) found = behind_tests short opened (plain u) b (plain_names good u found) second

    underlying_tests : (short : Bool) (opened : ℕ) (a b : TypeData) → NamesOnly good a → NamesOnly good b → Tests (has_underlying go left short opened a b)
    underlying_tests short opened a b first second =
        asks_then good (ReachesGood good) AnyOf (under a) (λ reach. same_found go left short opened b (found_in reach)) (under_asks good a first) (λ reach found. found_tests short opened b second (found_in reach) found)

    both_tests : (short : Bool) (opened : ℕ) (a : TypeData) → NamesOnly good a → (o : Option TypeData) → IfSome o (NamesOnly good) → Tests (both_found go left short opened a o)
    both_tests short opened a first None found = tt
    both_tests short opened a first (Some v) found = underlying_tests short opened a (plain v) first (plain_names good v found)

    same_underlying_tests : (short : Bool) (opened : ℕ) (a b : TypeData) → NamesOnly good a → NamesOnly good b → Tests (same_underlying go left short opened a b)
    same_underlying_tests short opened a b first second =
        asks_then good (ReachesGood good) AnyOf (under b) (λ reach. both_found go left short opened a (found_in reach)) (under_asks good b second) (λ reach found. both_tests short opened a first (found_in reach) found)

    term_tests : (short : Bool) (opened : ℕ) (a b : TypeData) → NamesOnly good a → NamesOnly good b → Tests (same_term go left short opened a b)
    term_tests short opened a b first second =
        let declared : Test = if is_declared a then same_underlying go left short (opened + 2) a b else Done true in
        let rest : Tests declared = either_tests (is_declared a) (same_underlying go left short (opened + 2) a b) (Done true) (same_underlying_tests short (opened + 2) a b first second) tt in
        either_tests (alike a b) (Done true) (and_ask (behind go left short opened a b) declared) tt (and_tests (behind go left short opened a b) declared (behind_tests short opened a b first second) rest)

    within_by_tests : (short : Bool) (tilde other : Bool) (opened : ℕ) (a b : TypeData) → NamesOnly good a → NamesOnly good b → Tests (lies_within_by go left short tilde other opened a b)
    within_by_tests short false true opened a b first second = underlying_tests short (opened + 1) a b first second
    within_by_tests short true false opened a b first second = tt
    within_by_tests short true true opened a b first second = behind_tests short opened a b first second
    within_by_tests short false false opened a b first second = term_tests short opened a b first second

    within_tests : (short : Bool) (a b : TermData) → TermNames good a → TermNames good b → Tests (lies_within go left short a b)
    within_tests short a b first second = within_by_tests short a.tilde b.tilde (a.opened + b.opened) a.type b.type first second

    in_tests : (short : Bool) (unions : List (List TermData)) → AllByRecursion (UnionNames good) unions → (a : TermData) → TermNames good a → Tests (lies_in go left short unions a)
    in_tests short unions all a first =
        each_tests (UnionNames good) (λ u. ask_any (lies_within go left short a) u) (λ u here. any_tests (TermNames good) (lies_within go left short a) (λ b second. within_tests short a b first second) u here) unions all

    lie_tests : (short : Bool) (s t : SetData) → SetNames good s → SetNames good t → Tests (terms_lie go left short s t)
    lie_tests short s t first second =
        each_tests (TermNames good) (λ a. implied (lies_in go left (not short) s.unions a) (lies_in go left short t.unions a))
        (λ a here. implied_tests (lies_in go left (not short) s.unions a) (lies_in go left short t.unions a) (in_tests (not short) s.unions first.1 a here) (in_tests short t.unions second.1 a here))
        (flat_map (λ u. u) s.unions) (every_to_flat (TermNames good) (λ u. u) s.unions first.1)

    methods_tests : (short : Bool) (pairs : List (MethodData × MethodData)) → AllByRecursion PairNames pairs → Tests (same_methods_all go left short pairs)
    methods_tests short pairs all =
        and_tests (ask_each (methods_fit go left) pairs) (ask_each (same_methods go left short) pairs) (each_tests PairNames (methods_fit go left) (λ p here. tt) pairs all)
        (each_tests PairNames (same_methods go left short) (λ p here. behind_tests short (p.0.opened + p.1.opened) p.0.type p.1.type here.0 here.1) pairs all)

    sets_tests : (short : Bool) (s t : SetData) → SetNames good s → SetNames good t → Tests (same_sets go left short s t)
    sets_tests short s t first second =
        let methods : Test = same_methods_all go left short (method_pairs s.methods t.methods) in
        let terms : Test = and_ask (terms_lie go left short s t) (terms_lie go left short t s) in
        let lie : Tests terms = and_tests (terms_lie go left short s t) (terms_lie go left short t s) (lie_tests short s t first second) (lie_tests short t s second first) in
        either_tests (sets_fit s t) (and_ask methods terms) (Done false) (and_tests methods terms (methods_tests short (method_pairs s.methods t.methods) (pairs_name s.methods t.methods first.0 second.0)) lie) tt

    as_set_tests : (short : Bool) (s : SetData) → SetNames good s → (o : Option SetData) → MayName good o → Tests (same_as_set go left short s o)
    as_set_tests short s first None second = tt
    as_set_tests short s first (Some t) second = sets_tests short s t first second

    as_tests : (short : Bool) (b : TypeData) → NamesOnly good b → (o : Option SetData) → MayName good o → Tests (same_as go left short b o)
    as_tests short b second None first = tt
    as_tests short b second (Some s) first = asks_then good (MayName good) AnyOf (set_of left b) (same_as_set go left short s) (set_gives good left b second) (λ o found. as_set_tests short s first o found)

    interfaces_tests : (short : Bool) (p : TypeData × TypeData) → BothName p → Tests (same_interfaces go left short p)
    interfaces_tests short p both =
        either_tests (alike p.0 p.1) (Done true) (then_ask (set_of left p.0) (same_as go left short p.1)) tt
        (asks_then good (MayName good) AnyOf (set_of left p.0) (same_as go left short p.1) (set_gives good left p.0 both.0) (λ o found. as_tests short p.1 both.1 o found))

  -- TYPES

  same_tests : (levels : ℕ) (short : Bool) (left : ℕ) (a b : TypeData) → NamesOnly good a → NamesOnly good b → Tests (same levels short left a b)
  same_tests zero short left a b first second = tt
  same_tests (suc levels) short left a b first second =
      let each : Test = ask_each (same_interfaces (same levels) left short) (interfaces_in a b) in
      either_tests (fit a b) each (Done false) (each_tests BothName (same_interfaces (same levels) left short) (λ p both. interfaces_tests (same levels) (same_tests levels) left short p both) (interfaces_in a b) (interfaces_name a b first second)) tt

  pub identical_asks : (a b : TypeData) → NamesOnly good a → NamesOnly good b → Tests (identical a b)
  identical_asks a b first second = same_tests most_levels false most_opened (plain a) (plain b) (plain_names good a first) (plain_names good b second)
