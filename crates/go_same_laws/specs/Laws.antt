-- Laws of type identity.
-- Says how identity chains; which types have no unions: no interface in them, however many names are opened, has a union that
-- leaves a type out, nor has one in the types of its methods; and that identity chains through such a type.
use Rattle.std.specs.Prelude.{◌≡◌, ℕ, zero, suc, ◌+◌, Bool, true, false, Some}
use Rattle.std.specs.List.{AllByRecursion}
use Rattle.go_term.specs.Types.{TypeData}
use Rattle.go_judge.specs.Headers.{Headers}
use Rattle.go_judge.specs.Types.SetsFit.{is_all}
use Rattle.go_judge.specs.Types.TypeIdentity.{identical, interfaces_in, most_levels, most_opened, same}
use Rattle.go_judge.specs.Types.TypeSets.{SetData, plain, set_of}
use Rattle.go_judge.specs.Quests.{Decided, run}

module _ (headers : Headers) where
  -- where a first type is identical to a second and that to a third, r, which says whether the first is identical to the third
  -- where as many names may be opened on a path as for both questions together, is Yes
  abbrev pub Chains : TypeData → TypeData → TypeData → Bool → Type 0
  Chains a b c r =
      run headers (identical a b) ≡ Decided true → run headers (identical b c) ≡ Decided true
      → run headers (same most_levels false (most_opened + most_opened) (plain a) (plain c)) ≡ Decided r → r ≡ true

  -- levels counts interfaces within methods of interfaces
  abbrev pub HasNoUnions : ℕ → TypeData → Type 0
  HasNoUnions zero t = Unit {0}
  HasNoUnions (suc levels) t =
      AllByRecursion (λ (p : TypeData × TypeData). (n : ℕ) (s : SetData) → run headers (set_of n p.0) ≡ Decided (Some s)
      → (is_all s ≡ true) × AllByRecursion (λ m. HasNoUnions levels m.type) s.methods) (interfaces_in t t)

  -- where a first type is identical to a second that has no unions, and that to a third, the first is identical to the third
  -- where as many names may be opened on a path as for both questions together
  abbrev pub ChainsThrough : TypeData → TypeData → TypeData → Type 0
  ChainsThrough a b c =
      HasNoUnions most_levels (plain b) → run headers (identical a b) ≡ Decided true → run headers (identical b c) ≡ Decided true
      → run headers (same most_levels false (most_opened + most_opened) (plain a) (plain c)) ≡ Decided true
