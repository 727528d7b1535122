-- Type identity: reflexive, symmetric and decided once; it chains, without unions and where it is decided.
use Rattle.std.proofs.Common.{◌≡◌, ℕ, suc, ◌+◌, Bool, true, false, Option, Some, None, refl, sym, subst, ◌∙◌}
use Rattle.go_term.specs.declared.basic.Basic.TheVariants as B
use Rattle.go_term.specs.Types.{TypeData, basic_type}
use Rattle.go_judge.specs.Records.{HeaderData, alias}
use Rattle.go_judge.specs.Headers.{Headers}
use Rattle.go_judge.specs.Types.TypeIdentity.{identical, most_levels, most_opened, same}
use Rattle.go_judge.specs.Types.TypeSets.{plain}
use Rattle.go_judge.specs.Quests.{Decided, IsPart, Stays, run}
use Rattle.go_judge.proofs.QuestLemmas.{run-stays}
use Rattle.go_same_laws.specs.Laws.{Chains, ChainsThrough}
use Rattle.go_same_laws.proofs.ChainLemmas.{same_chain}
use Rattle.go_same_laws.proofs.NormLemmas.{plain_twice}
use Rattle.go_same_laws.proofs.SwapLemmas.{same_itself, same_swap}
use Rattle.go_same_laws.proofs.TotalLemmas.{IsTotal}
use Rattle.go_same_laws.proofs.TransitiveLemmas.{same_on}
use Rattle.go_same_laws.proofs.YesLemmas.{IsYes}

-- a level above as many others
record Above : Type 0 where
  below : ℕ
  levels : most_levels ≡ suc below

-- there is a level at least
some_level : Above
unfolding most_levels
some_level = record { below = 8480; levels = refl }

decided_alike : (r q : Bool) → Decided r ≡ Decided q → r ≡ q
decided_alike r q e = cc e

module _ (headers : Headers) where
  pub identical_itself : (t : TypeData) → run headers (identical t t) ≡ Decided true
  identical_itself t =
      subst (λ n. IsYes headers (same n false most_opened (plain t) (plain t))) (sym some_level.levels) (same_itself headers some_level.below false most_opened (plain t))

  pub identical_swap : (a b : TypeData) → run headers (identical a b) ≡ Decided true → run headers (identical b a) ≡ Decided true
  identical_swap a b told = same_swap headers most_levels most_opened (plain a) (plain b) told

  pub identical_once : (a b : TypeData) (r q : Bool) → run headers (identical a b) ≡ Decided r → run headers (identical b a) ≡ Decided q → r ≡ q
  identical_once a b true q there back = decided_alike true q (sym (identical_swap a b there) ∙ back)
  identical_once a b false true there back = decided_alike false true (sym there ∙ identical_swap b a back)
  identical_once a b false false there back = refl

  pub identical_chains : (a b c : TypeData) → ChainsThrough headers a b c
  identical_chains a b c none there on =
      same_chain headers most_levels most_opened most_opened (plain a) (plain b) (plain c) (plain_twice a) (plain_twice b) (plain_twice c) none there on

-- OVER SOME HEADERS

-- a header in the place of each that is lacking
abbrev filled_by : Option HeaderData → HeaderData
filled_by None = alias (basic_type B.Bool)
filled_by (Some h) = h

abbrev filled : Headers → Headers
filled headers d = Some (filled_by (headers d))

filled_part : (headers : Headers) → IsPart headers (filled headers)
filled_part headers d h e = λ i. Some (filled_by (e i))

filled_total : (headers : Headers) → IsTotal (filled headers)
filled_total headers d = (filled_by (headers d), refl)

-- what is decided over some headers is decided so over those that are filled
stays : (headers : Headers) (levels left : ℕ) (a b : TypeData) (r : Bool) → run headers (same levels false left a b) ≡ Decided r → run (filled headers) (same levels false left a b) ≡ Decided r
stays headers levels left a b r e = subst (λ x. Stays (filled headers) x (run (filled headers) (same levels false left a b))) e (run-stays headers (filled headers) (filled_part headers) (same levels false left a b))

pub identical_on : (headers : Headers) (a b c : TypeData) (r : Bool) → Chains headers a b c r
identical_on headers a b c r there on far =
    let all = filled headers in
    let told = same_on all (filled_total headers) most_levels most_opened most_opened (plain a) (plain b) (plain c) (plain_twice a) (plain_twice b) (plain_twice c)
    (stays headers most_levels most_opened (plain a) (plain b) true there) (stays headers most_levels most_opened (plain b) (plain c) true on) in
    decided_alike r true (sym (stays headers most_levels (most_opened + most_opened) (plain a) (plain c) r far) ∙ told)
