-- The record of a type or an expression names good objects only, where those that are known do, and that of a constant has a type
-- and a value, so that a header follows from it; and a node waits for a good object.
use Rattle.std.proofs.Common.{◌≡◌, ℕ, false, true, Option, Some, None, List, [], ◌∷◌, ◌++◌, inl, inr, map, Contains, refl, sym, subst}
use Rattle.std.specs.Prelude.{Bool, IsSome, is_some, option_and_then}
use Rattle.std.specs.List.{AllByRecursion}
use Rattle.std.specs.Option.{option_map}
use Rattle.std.proofs.lemmas.List.Elements.{Contains-append_right}
use Rattle.go_num.specs.declared.value.Value.{Value}
use Rattle.go_term.specs.Types.{TypeData}
use Rattle.go_tree.specs.Tree.{Tree}
use Rattle.go_module.proofs.MemberLemmas.{contains_head, contains_tail}
use Rattle.go_operands.specs.Operands.{operands_of}
use Rattle.go_operands.proofs.OperandLemmas.{by_operands}
use Rattle.go_judge.specs.Exactly.{WaitsFor}
use Rattle.go_judge.specs.Headers.{Headers}
use Rattle.go_judge.specs.Judged.{Found, Nothing, OutcomeData, RuleTest, SpotTest, Waits, first_lack, lack_or, outcome_at}
use Rattle.go_judge.specs.Naming.{Naming}
use Rattle.go_judge.specs.Operands.{is_constant}
use Rattle.go_judge.specs.Quests.{Asked, Decided, Lacks, run}
use Rattle.go_judge.specs.Records.{HeaderData, RecData, constant}
use Rattle.go_model.specs.Outcomes.Walk.{construct, operand_outcomes, outcome}
use Rattle.go_values.specs.Records.{declared_header}
use Rattle.go_model.proofs.FlatLemmas.{map_cases, map_contains}
use Rattle.go_model.proofs.OutcomeExactLemmas.{outcome_exactly}
use Rattle.go_same_laws.specs.Named.{AreGood, AsksOnly}
use Rattle.go_same_laws.proofs.NamedLemmas.{AnyOf, comes_right, lacks_good}
use Rattle.go_laws.proofs.AskedLemmas.{outcome_cases}
use Rattle.go_laws.proofs.Denoting.{MeansGood}
use Rattle.go_laws.proofs.PlainConstructLemmas.{construct_plain}
use Rattle.go_laws.proofs.PlainLemmas.{AreGoodTests, IsFine, IsGoodTest, IsWhole}

all_of : {X : Type 0} (P : X → Type 0) (xs : List X) → ((x : X) → Contains xs x → P x) → AllByRecursion P xs
all_of P [] each = tt
all_of P (x ∷ xs) each = (each x (contains_head x xs x refl), all_of P xs (λ y there. each y (contains_tail x xs y there)))

module _ (naming : Naming) (good : ℕ → Type 0) (means : MeansGood naming good) (headers : Headers) (known : AreGood good headers) where
  -- TESTS

  -- what a test lacks
  spots_lack : (spots : List (SpotTest HeaderData)) → AllByRecursion (λ (p : SpotTest HeaderData). AsksOnly good AnyOf p.holds) spots → (d : ℕ) → first_lack headers spots ≡ Some d → good d
  spots_lack [] asks d e = absurd (let never : None ≡ Some d = e in cc)
  spots_lack (p ∷ ps) asks d e = by_asked (run headers p.holds) refl (spots_lack ps asks.1 d) e
    where
      by_asked : (x : Asked Bool) → run headers p.holds ≡ x → (first_lack headers ps ≡ Some d → good d) → lack_or x (first_lack headers ps) ≡ Some d → good d
      by_asked (Decided b) is rest f = rest f
      by_asked (Lacks n) is rest f = let both : Some n ≡ Some d = f in let same : n ≡ d = cc in subst good same (lacks_good good headers known AnyOf p.holds asks.0 n is)

  test_among : (before : List (RuleTest HeaderData)) (test : RuleTest HeaderData) (behind : List (RuleTest HeaderData)) → AreGoodTests good (before ++ test ∷ behind) → IsGoodTest good test
  test_among [] test behind tests = tests.0
  test_among (t ∷ before) test behind tests = test_among before test behind tests.1

  -- OPERANDS

  -- an operand that is asked, by its outcome
  operand_is : (t : Tree) (x : OutcomeData RecData) → (x ≡ Nothing → ⊥) → Contains (map (outcome_at (operand_outcomes naming headers t)) (construct naming t).operands) x
      → (u : Tree) × Contains (operands_of t) u × (outcome naming headers u ≡ x)
  operand_is t x something h =
      let place = map_cases (outcome_at (operand_outcomes naming headers t)) (construct naming t).operands x h in
      outcome_cases (outcome naming headers) (operands_of t) place.0 x something place.2

  abbrev HasFine : Tree → Type 0
  HasFine t = (r : RecData) → outcome naming headers t ≡ Found r → IsFine good r

  operands_fine : (t : Tree) → ((u : Tree) → Contains (operands_of t) u → HasFine u) → (records : List RecData)
      → map (outcome_at (operand_outcomes naming headers t)) (construct naming t).operands ≡ map Found records → AllByRecursion (IsFine good) records
  operands_fine t each records operands = all_of (IsFine good) records one
    where
      one : (x : RecData) → Contains records x → IsFine good x
      one x among =
          let there : Contains (map (outcome_at (operand_outcomes naming headers t)) (construct naming t).operands) (Found x) =
          subst (λ (xs : List (OutcomeData RecData)). Contains xs (Found x)) (sym operands) (map_contains Found records x among) in
          let operand = operand_is t (Found x) (λ never. (let other : Found x ≡ Nothing = never in cc)) there in
          each operand.0 operand.1 x operand.2

  -- RECORDS

  pub record_fine : (t : Tree) → HasFine t
  record_fine = by_operands HasFine step
    where
      step : (t : Tree) → ((u : Tree) → Contains (operands_of t) u → HasFine u) → HasFine t
      step t each r e =
          let has = ((outcome_exactly naming headers t).found r).0 e in
          let plain = construct_plain naming good means t has.asked.records has.asks (operands_fine t each has.asked.records has.asked.operands) has.asked.asked in
          comes_right good headers known (IsFine good) has.asks.gives plain.gives r has.gives

  -- WAITS

  pub awaited_good : (t : Tree) (d : ℕ) → outcome naming headers t ≡ Waits d → good d
  awaited_good = by_operands (λ t. (d : ℕ) → outcome naming headers t ≡ Waits d → good d) step
    where
      step : (t : Tree) → ((u : Tree) → Contains (operands_of t) u → (d : ℕ) → outcome naming headers u ≡ Waits d → good d) → (d : ℕ) → outcome naming headers t ≡ Waits d → good d
      step t each d e = by_cause (((outcome_exactly naming headers t).waits d).0 e)
        where
          by_cause : WaitsFor headers (construct naming t) (operand_outcomes naming headers t) d → good d
          by_cause (inl first) =
              let there : Contains (map (outcome_at (operand_outcomes naming headers t)) (construct naming t).operands) (Waits d) =
              subst (λ (xs : List (OutcomeData RecData)). Contains xs (Waits d)) (sym first.order)
              (Contains-append_right (map Found first.before) (Waits d ∷ first.behind) (Waits d) (contains_head (Waits d) first.behind (Waits d) refl)) in
              let operand = operand_is t (Waits d) (λ never. (let other : Waits d ≡ Nothing = never in cc)) there in
              each operand.0 operand.1 d operand.2
          by_cause (inr (asks, asked, inl lacks)) =
              let plain = construct_plain naming good means t asked.records asks (operands_fine t (λ u among. record_fine u) asked.records asked.operands) asked.asked in
              spots_lack lacks.test.spots (test_among lacks.before lacks.test lacks.behind (subst (AreGoodTests good) lacks.order plain.tests)) d lacks.lacks
          by_cause (inr (asks, asked, inr record_lacks)) =
              let plain = construct_plain naming good means t asked.records asks (operands_fine t (λ u among. record_fine u) asked.records asked.operands) asked.asked in
              lacks_good good headers known (IsFine good) asks.gives plain.gives d record_lacks.1

-- HEADERS

-- a header is declared with a type and a value
told_some : (type : Option TypeData) (value : Option Value) → IsSome type → IsSome value → (h : HeaderData) × (option_and_then (λ t. option_map (constant t) value) type ≡ Some h)
told_some None value is has = absurd (let never : false ≡ true = is in cc)
told_some (Some t) None is has = absurd (let never : false ≡ true = has in cc)
told_some (Some t) (Some v) is has = (constant t v, refl)

pub constant_declared : (r : RecData) → IsWhole r → is_constant r ≡ true → (h : HeaderData) × (declared_header r ≡ Some h)
constant_declared r whole is = told_some r.type r.value (whole is).0 (whole is).1

-- and one of a type by the type for which a record stands
pub type_declared : (tell : TypeData → HeaderData) (type : Option TypeData) → is_some type ≡ true → (h : HeaderData) × (option_map tell type ≡ Some h)
type_declared tell None is = absurd (let never : false ≡ true = is in cc)
type_declared tell (Some t) is = (tell t, refl)
