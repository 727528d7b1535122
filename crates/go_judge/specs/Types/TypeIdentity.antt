-- Type identity (Go specification).
-- Decides which types are identical: a type that a declaration defines or that is predeclared "is always different from any
-- other type"; else two types are identical "if their underlying type literals are structurally equivalent", interfaces where
-- "they define the same type set". Which heads are the same: `Heads`; what an interface has: `TypeSets`; which sets fit:
-- `SetsFit`. Own: the form of two types is asked before any header, then their interfaces in order, of these the forms of all
-- methods, the methods by name, and the terms. Names that interfaces embed are opened, at most 32 on one path, those of both
-- sides together, and the underlying type of a term is one more; types that are equal but for where fields and methods are
-- declared need none. Where names run short the answer is No, but as the premise of another question Yes of types that fit,
-- so that no Yes rests on it.
use Rattle.std.specs.Prelude.{ℕ, zero, suc, ◌+◌, ◌-◌, ◌*◌, ◌&&◌, not, nat_le, Bool, true, false, Option, None, Some, if◌then◌else◌, List, [], ◌∷◌, ◌++◌, is_some}
use Rattle.std.specs.List.{flat_map}
use Rattle.go_term.specs.Types.{Head, interface_type, TypeData, Parts, made, no_parts, more_parts}
use Rattle.go_judge.specs.Records.{HeaderData}
use Rattle.go_judge.specs.Types.Forms.{found_in}
use Rattle.go_judge.specs.Types.Heads.{alike, same_head}
use Rattle.go_judge.specs.Types.SetsFit.{method_pairs, sets_fit}
use Rattle.go_judge.specs.Types.TypeSets.{MethodData, SetData, TermData, home_of, plain, set_of}
use Rattle.go_judge.specs.Types.UnderlyingType.{declared_by, under}
use Rattle.go_judge.specs.Quests.{Quest, Done, then_ask}

abbrev pub Test : Type 0
Test = Quest HeaderData Bool

-- TESTS

-- Yes where both are, where one is, where the second is if the first is, in this order
abbrev pub and_ask : Test → Test → Test
and_ask a b = then_ask a (λ yes. if yes then b else Done false)

abbrev pub or_ask : Test → Test → Test
or_ask a b = then_ask a (λ yes. if yes then Done true else b)

abbrev pub implied : Test → Test → Test
implied a b = then_ask a (λ yes. if yes then b else Done true)

abbrev pub ask_each : {X : Type 0} → (X → Test) → List X → Test
ask_each test [] = Done true
ask_each test (x ∷ xs) = and_ask (test x) (ask_each test xs)

abbrev pub ask_any : {X : Type 0} → (X → Test) → List X → Test
ask_any test [] = Done false
ask_any test (x ∷ xs) = or_ask (test x) (ask_any test xs)

-- WHAT NEEDS NO HEADER

abbrev pub are_interfaces : Head → Head → Bool
are_interfaces interface_type interface_type = true
are_interfaces h g = false

-- a type that a declaration defines, or a type parameter
abbrev pub is_declared : TypeData → Bool
is_declared (made head parts) = is_some (declared_by head)

-- the same heads and numbers of parts throughout, whatever interfaces have
abbrev mutual
  pub fit : TypeData → TypeData → Bool
  fit (made h ts) (made g us) = if are_interfaces h g then true else (same_head home_of h g && all_fit ts us)

  pub all_fit : Parts → Parts → Bool
  all_fit no_parts no_parts = true
  all_fit (more_parts t ts) (more_parts u us) = fit t u && all_fit ts us
  all_fit ts us = false

-- the interfaces that stand at the same places, in order
abbrev mutual
  pub interfaces_in : TypeData → TypeData → List (TypeData × TypeData)
  interfaces_in (made h ts) (made g us) =
      if are_interfaces h g then (made h ts, made g us) ∷ [] else interfaces_in_all ts us

  pub interfaces_in_all : Parts → Parts → List (TypeData × TypeData)
  interfaces_in_all (more_parts t ts) (more_parts u us) = interfaces_in t u ++ interfaces_in_all ts us
  interfaces_in_all ts us = []

-- INTERFACES

-- what is answered where names run short: No, or in a premise whether the types fit
abbrev pub by_form : Bool → TypeData → TypeData → Test
by_form short a b = Done (short && fit a b)

-- go says whether two types are identical where at most so many names are opened on one path, of which left are left; short
-- says whether the question is a premise
module _ (go : Bool → ℕ → TypeData → TypeData → Test) (left : ℕ) where
  -- behind so many names that were opened on the way
  abbrev pub behind : Bool → ℕ → TypeData → TypeData → Test
  behind short opened a b = if nat_le opened left then go short (left - opened) a b else by_form short a b

  abbrev pub methods_fit : MethodData × MethodData → Test
  methods_fit p = Done (fit p.0.type p.1.type)

  abbrev pub same_methods : Bool → MethodData × MethodData → Test
  same_methods short p = behind short (p.0.opened + p.1.opened) p.0.type p.1.type

  -- the underlying type of a type is another, by what is found of it; that of each of two is that of the other
  abbrev pub same_found : Bool → ℕ → TypeData → Option TypeData → Test
  same_found short opened b None = Done short
  same_found short opened b (Some u) = behind short opened (plain u) b

  abbrev pub has_underlying : Bool → ℕ → TypeData → TypeData → Test
  has_underlying short opened a b = then_ask (under a) (λ reach. same_found short opened b (found_in reach))

  abbrev pub both_found : Bool → ℕ → TypeData → Option TypeData → Test
  both_found short opened a None = Done short
  both_found short opened a (Some v) = has_underlying short opened a (plain v)

  abbrev pub same_underlying : Bool → ℕ → TypeData → TypeData → Test
  same_underlying short opened a b = then_ask (under b) (λ reach. both_found short opened a (found_in reach))

  -- two types are one; of declared ones the underlying types are asked too, so that each term lies where the other does, also
  -- where an interface has two methods of one name that differ (own)
  abbrev pub same_term : Bool → ℕ → TypeData → TypeData → Test
  same_term short opened a b =
      if alike a b then Done true else and_ask (behind short opened a b) (if is_declared a then same_underlying short (opened + 2) a b else Done true)

  -- the types of a term are among those of another: that of T is the one type T, that of ~T "the set of all types whose
  -- underlying type is T"; the underlying type of T is one name more that is opened
  abbrev pub lies_within_by : Bool → Bool → Bool → ℕ → TypeData → TypeData → Test
  lies_within_by short false true opened a b = has_underlying short (opened + 1) a b
  lies_within_by short true false opened a b = Done false
  lies_within_by short true true opened a b = behind short opened a b
  lies_within_by short false false opened a b = same_term short opened a b

  abbrev pub lies_within : Bool → TermData → TermData → Test
  lies_within short a b = lies_within_by short a.tilde b.tilde (a.opened + b.opened) a.type b.type

  abbrev pub lies_in : Bool → List (List TermData) → TermData → Test
  lies_in short unions a = ask_each (λ u. ask_any (lies_within short a) u) unions

  -- each term of the one set that lies in all its unions lies in all those of the other
  abbrev pub terms_lie : Bool → SetData → SetData → Test
  terms_lie short s t = ask_each (λ a. implied (lies_in (not short) s.unions a) (lies_in short t.unions a)) (flat_map (λ u. u) s.unions)

  abbrev pub same_methods_all : Bool → List (MethodData × MethodData) → Test
  same_methods_all short pairs = and_ask (ask_each methods_fit pairs) (ask_each (same_methods short) pairs)

  abbrev pub same_sets : Bool → SetData → SetData → Test
  same_sets short s t =
      if sets_fit s t then and_ask (same_methods_all short (method_pairs s.methods t.methods)) (and_ask (terms_lie short s t) (terms_lie short t s))
      else Done false

  abbrev pub same_as_set : Bool → SetData → Option SetData → Test
  same_as_set short s None = Done short
  same_as_set short s (Some t) = same_sets short s t

  -- by what is found of the first set: the second is asked where there is one
  abbrev pub same_as : Bool → TypeData → Option SetData → Test
  same_as short b None = Done short
  same_as short b (Some s) = then_ask (set_of left b) (same_as_set short s)

  abbrev pub same_interfaces : Bool → TypeData × TypeData → Test
  same_interfaces short p = if alike p.0 p.1 then Done true else then_ask (set_of left p.0) (same_as short p.1)

-- levels counts interfaces within methods and terms of interfaces
abbrev pub same : ℕ → Bool → ℕ → TypeData → TypeData → Test
same zero short left a b = by_form short a b
same (suc levels) short left a b = if fit a b then ask_each (same_interfaces (same levels) left short) (interfaces_in a b) else Done false

-- no two types that are not too deep have more levels: 32 names are opened on a path, and between two of them stand at most 256
unfoldable pub most_levels : ℕ
most_levels = 33 * 257

unfoldable pub most_opened : ℕ
most_opened = 32

abbrev pub identical : TypeData → TypeData → Test
identical a b = same most_levels false most_opened (plain a) (plain b)
