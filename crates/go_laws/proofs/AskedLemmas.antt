-- A node of which something is asked, where no rule is broken, has a record or waits.
use Rattle.std.proofs.Common.{◌≡◌, ℕ, zero, suc, ◌<◌, Some, None, List, [], ◌∷◌, ◌⊎◌, inl, inr, length, map, Contains, refl, sym, ap, ◌∙◌, subst, arith}
use Rattle.std.specs.Prelude.{slice_get}
use Rattle.std.specs.List.{flat_map}
use Rattle.std.proofs.lemmas.List.{length-map}
use Rattle.go_base.specs.declared.rule.Rule.{Rule}
use Rattle.go_graph.specs.Graph.{row_at}
use Rattle.go_tree.specs.Tree.{Tree}
use Rattle.go_module.proofs.MemberLemmas.{cons_cases, contains_head, contains_none, contains_tail}
use Rattle.go_operands.specs.Operands.{expressions_in, operands_of}
use Rattle.go_operands.proofs.OperandLemmas.{by_operands, expressions_in-operands, folded-operands}
use Rattle.go_judge.specs.declared.outcome.Spot.{Spot}
use Rattle.go_judge.specs.Judged.{Broken, Found, Nothing, OutcomeData, Waits, outcome_at}
use Rattle.go_judge.specs.Exactly.{HasNothing, HasFailed}
use Rattle.go_judge.specs.Records.{RecData}
use Rattle.go_judge.specs.Headers.{Headers}
use Rattle.go_model.specs.Outcomes.Walk.{construct, operand_outcomes, outcome}
use Rattle.go_judge.specs.Naming.{Naming}
use Rattle.go_model.proofs.OutcomeExactLemmas.{outcome_exactly}
use Rattle.go_model.proofs.FlatLemmas.{flat_cases, flat_contains, map_cases}
use Rattle.go_laws.specs.Complete.{asked_in, with_asked}
use Rattle.go_laws.proofs.Asked.{IsAsked}

-- the operand at a place, and what is found of it
tree_at : (ts : List Tree) (n : ℕ) → n < length ts → (t : Tree) × (slice_get ts n ≡ Some t)
tree_at [] n lt = absurd (omega (arith, lt))
tree_at (t ∷ ts) zero lt = (t, refl)
tree_at (t ∷ ts) (suc n) lt = tree_at ts n (omega (arith, lt))

pub tree_among : (ts : List Tree) (n : ℕ) (t : Tree) → slice_get ts n ≡ Some t → Contains ts t
tree_among [] n t e = absurd (let never : None ≡ Some t = e in cc)
tree_among (u ∷ ts) zero t e = contains_head u ts t (let same : u ≡ t = (let both : Some u ≡ Some t = e in cc) in same)
tree_among (u ∷ ts) (suc n) t e = contains_tail u ts t (tree_among ts n t e)

outcome_there : (f : Tree → OutcomeData RecData) (ts : List Tree) (n : ℕ) (t : Tree) → slice_get ts n ≡ Some t → outcome_at (map f ts) n ≡ f t
outcome_there f [] n t e = absurd (let never : None ≡ Some t = e in cc)
outcome_there f (u ∷ ts) zero t e = let same : u ≡ t = (let both : Some u ≡ Some t = e in cc) in ap f same
outcome_there f (u ∷ ts) (suc n) t e = outcome_there f ts n t e

-- and what has an outcome is one of these
pub outcome_cases : (f : Tree → OutcomeData RecData) (ts : List Tree) (n : ℕ) (x : OutcomeData RecData) → (x ≡ Nothing → ⊥) → outcome_at (map f ts) n ≡ x → (t : Tree) × Contains ts t × (f t ≡ x)
outcome_cases f [] n x something e = absurd (something (sym e))
outcome_cases f (t ∷ ts) zero x something e = (t, contains_head t ts t refl, e)
outcome_cases f (t ∷ ts) (suc n) x something e = let there = outcome_cases f ts n x something e in (there.0, contains_tail t ts there.0 there.1, there.2)

row_there : (f : Tree → List Tree) (ts : List Tree) (n : ℕ) (t : Tree) → slice_get ts n ≡ Some t → row_at (map f ts) n ≡ f t
row_there f [] n t e = absurd (let never : None ≡ Some t = e in cc)
row_there f (u ∷ ts) zero t e = let same : u ≡ t = (let both : Some u ≡ Some t = e in cc) in ap f same
row_there f (u ∷ ts) (suc n) t e = row_there f ts n t e

row_cases : (f : Tree → List Tree) (ts : List Tree) (n : ℕ) (s : Tree) → Contains (row_at (map f ts) n) s → (t : Tree) × (slice_get ts n ≡ Some t) × Contains (f t) s
row_cases f [] n s h = absurd (contains_none s h)
row_cases f (t ∷ ts) zero s h = (t, refl, h)
row_cases f (t ∷ ts) (suc n) s h = row_cases f ts n s h

-- THE NODES THAT ARE ASKED FOR RECORDS

module _ (naming : Naming) where
  asked_by_operands : (t : Tree) → asked_in naming t ≡ t ∷ flat_map (row_at (map (asked_in naming) (operands_of t))) (construct naming t).operands
  asked_by_operands t = folded-operands (with_asked naming) t

  pub self_asked : (t : Tree) → Contains (asked_in naming t) t
  self_asked t = subst (λ nodes. Contains nodes t) (sym (asked_by_operands t)) (contains_head t (flat_map (row_at (map (asked_in naming) (operands_of t))) (construct naming t).operands) t refl)

  -- one that stands in an operand
  pub record IsInside (t s : Tree) : Type 0 where
    pub place : ℕ
    pub operand : Tree
    pub chosen : Contains (construct naming t).operands place
    pub there : slice_get (operands_of t) place ≡ Some operand
    pub inside : Contains (asked_in naming operand) s

  inside_asked : (t s : Tree) → IsInside t s → Contains (asked_in naming t) s
  inside_asked t s is =
      let rows = row_at (map (asked_in naming) (operands_of t)) in
      let here : Contains (rows is.place) s = subst (λ nodes. Contains nodes s) (sym (row_there (asked_in naming) (operands_of t) is.place is.operand is.there)) is.inside in
      subst (λ nodes. Contains nodes s) (sym (asked_by_operands t))
      (contains_tail t (flat_map rows (construct naming t).operands) s (flat_contains rows (construct naming t).operands is.place s is.chosen here))

  pub asked_cases : (t s : Tree) → Contains (asked_in naming t) s → (t ≡ s) ⊎ IsInside t s
  asked_cases t s h = by_cases (cons_cases t (flat_map rows (construct naming t).operands) s (subst (λ nodes. Contains nodes s) (asked_by_operands t) h))
    where
      rows : ℕ → List Tree
      rows = row_at (map (asked_in naming) (operands_of t))

      by_cases : (t ≡ s) ⊎ Contains (flat_map rows (construct naming t).operands) s → (t ≡ s) ⊎ IsInside t s
      by_cases (inl same) = inl same
      by_cases (inr behind) =
          let at = flat_cases rows (construct naming t).operands s behind in
          let operand = row_cases (asked_in naming) (operands_of t) at.0 s at.2 in
          inr (record { place = at.0; operand = operand.0; chosen = at.1; there = operand.1; inside = operand.2 })

  -- they are among the expressions in it
  pub asked_are_expressions : (t s : Tree) → Contains (asked_in naming t) s → Contains (expressions_in t) s
  asked_are_expressions t s = by_operands (λ t. Contains (asked_in naming t) s → Contains (expressions_in t) s) step t
    where
      step : (t : Tree) → ((u : Tree) → Contains (operands_of t) u → Contains (asked_in naming u) s → Contains (expressions_in u) s) → Contains (asked_in naming t) s → Contains (expressions_in t) s
      step t each h = subst (λ nodes. Contains nodes s) (sym (expressions_in-operands t)) (by_cases (asked_cases t s h))
        where
          by_cases : (t ≡ s) ⊎ IsInside t s → Contains (t ∷ flat_map expressions_in (operands_of t)) s
          by_cases (inl same) = contains_head t (flat_map expressions_in (operands_of t)) s same
          by_cases (inr is) =
              let among = tree_among (operands_of t) is.place is.operand is.there in
              contains_tail t (flat_map expressions_in (operands_of t)) s (flat_contains expressions_in (operands_of t) is.operand s among (each is.operand among is.inside))

-- OUTCOMES

module _ (naming : Naming) (headers : Headers) where
  -- no rule is broken at a node
  abbrev pub IsUnbroken : Tree → Type 0
  IsUnbroken t = (rule : Rule) (spots : List Spot) → outcome naming headers t ≡ Broken rule spots → ⊥

  -- it has a record, or waits
  abbrev pub IsGood : OutcomeData RecData → Type 0
  IsGood x = ((v : RecData) × (x ≡ Found v)) ⊎ ((d : ℕ) × (x ≡ Waits d))

  good_not_failed : (x : OutcomeData RecData) → IsGood x → HasFailed x → ⊥
  good_not_failed (Found v) g f = f
  good_not_failed (Broken rule spots) (inl found) f = let never : Broken rule spots ≡ Found found.0 = found.1 in cc
  good_not_failed (Broken rule spots) (inr waits) f = let never : Broken rule spots ≡ Waits waits.0 = waits.1 in cc
  good_not_failed (Waits d) g f = f
  good_not_failed Nothing (inl found) f = let never : Nothing ≡ Found found.0 = found.1 in cc
  good_not_failed Nothing (inr waits) f = let never : Nothing ≡ Waits waits.0 = waits.1 in cc

  -- where its operands are good and something is asked of it, a node has an outcome
  not_nothing : (t : Tree) → IsAsked naming t → ((n : ℕ) → Contains (construct naming t).operands n → IsGood (outcome_at (operand_outcomes naming headers t) n)) → outcome naming headers t ≡ Nothing → ⊥
  not_nothing t asked good e = by_cause ((outcome_exactly naming headers t).nothing.0 e)
    where
      by_cause : HasNothing (construct naming t) (operand_outcomes naming headers t) → ⊥
      by_cause (inl failed) =
          let operand = map_cases (outcome_at (operand_outcomes naming headers t)) (construct naming t).operands failed.0 failed.1 in
          good_not_failed failed.0 (subst IsGood operand.2 (good operand.0 operand.1)) failed.2
      by_cause (inr none) =
          let records = none.0 in
          let many : length records ≡ length (construct naming t).operands =
          sym (length-map records Found) ∙ ap length (sym none.1) ∙ length-map (construct naming t).operands (outcome_at (operand_outcomes naming headers t)) in
          let some = asked.asks records many in
          let never : None ≡ Some some.0 = sym none.2 ∙ some.1 in cc

  by_outcome : (x : OutcomeData RecData) → (x ≡ Nothing → ⊥) → ((rule : Rule) (spots : List Spot) → x ≡ Broken rule spots → ⊥) → IsGood x
  by_outcome (Found v) something unbroken = inl (v, refl)
  by_outcome (Broken rule spots) something unbroken = absurd (unbroken rule spots refl)
  by_outcome (Waits d) something unbroken = inr (d, refl)
  by_outcome Nothing something unbroken = absurd (something refl)

  -- something is asked of each node that is asked for a record, and no rule is broken at it
  abbrev pub AllFine : Tree → Type 0
  AllFine t = (s : Tree) → Contains (asked_in naming t) s → IsAsked naming s × IsUnbroken s

  operand_fine : (t : Tree) → AllFine t → (n : ℕ) (u : Tree) → Contains (construct naming t).operands n → slice_get (operands_of t) n ≡ Some u → AllFine u
  operand_fine t fine n u chosen there s h = fine s (inside_asked naming t s (record { place = n; operand = u; chosen = chosen; there = there; inside = h }))

  all_good : (t : Tree) → AllFine t → IsGood (outcome naming headers t)
  all_good t = by_operands (λ t. AllFine t → IsGood (outcome naming headers t)) step t
    where
      step : (t : Tree) → ((u : Tree) → Contains (operands_of t) u → AllFine u → IsGood (outcome naming headers u)) → AllFine t → IsGood (outcome naming headers t)
      step t each fine =
          let own = fine t (self_asked naming t) in
          by_outcome (outcome naming headers t) (not_nothing t own.0 (λ n chosen. good_at n chosen (tree_at (operands_of t) n (own.0.within n chosen)))) own.1
        where
          good_at : (n : ℕ) → Contains (construct naming t).operands n → (u : Tree) × (slice_get (operands_of t) n ≡ Some u) → IsGood (outcome_at (operand_outcomes naming headers t) n)
          good_at n chosen operand =
              subst IsGood (sym (outcome_there (outcome naming headers) (operands_of t) n operand.0 operand.1))
              (each operand.0 (tree_among (operands_of t) n operand.0 operand.1) (operand_fine t fine n operand.0 chosen operand.1))

  -- and so each of them
  pub each_good : (t : Tree) → AllFine t → (s : Tree) → Contains (asked_in naming t) s → IsGood (outcome naming headers s)
  each_good t fine s = by_operands (λ t. AllFine t → Contains (asked_in naming t) s → IsGood (outcome naming headers s)) step t fine
    where
      step : (t : Tree) → ((u : Tree) → Contains (operands_of t) u → AllFine u → Contains (asked_in naming u) s → IsGood (outcome naming headers s)) → AllFine t → Contains (asked_in naming t) s → IsGood (outcome naming headers s)
      step t each fine h = by_cases (asked_cases naming t s h)
        where
          by_cases : (t ≡ s) ⊎ IsInside naming t s → IsGood (outcome naming headers s)
          by_cases (inl same) = subst (λ r. IsGood (outcome naming headers r)) same (all_good t fine)
          by_cases (inr is) = each is.operand (tree_among (operands_of t) is.place is.operand is.there) (operand_fine t fine is.place is.operand is.chosen is.there) is.inside
