-- What an array type comes to, by the constant that its length is and by the sort of that.
use Rattle.std.proofs.Common.{◌≡◌, ℕ, is_some, false, if◌then◌else◌, Option, Some, None, List, [], ◌∷◌, refl, sym, ◌++◌}
use Rattle.std.specs.Prelude.{unwrap_or}
use Rattle.go_term.specs.Types as types
use Rattle.go_judge.specs.Judged.{OutcomeData, RuleTest, asked, tested}
use Rattle.go_judge.specs.Kinds.{no_length}
use Rattle.go_judge.specs.Limits.{makes}
use Rattle.go_judge.specs.Operands.{are_types, type_or_none}
use Rattle.go_judge.specs.Quests.{Asked, Decided, Done, Lacks, run}
use Rattle.go_judge.specs.Records.{HeaderData, RecData}
use Rattle.go_judge.specs.Headers.{Headers}
use Rattle.go_judge.specs.declared.outcome.Spot.TheVariants.{Part}
use Rattle.go_judge.proofs.QuestLemmas.{run-then, run-then-Lacks}
use Rattle.go_constructs.specs.Array.{array, length_in}
use Rattle.go_constructs.specs.Operators.Operations.{is_integer}
use Rattle.go_constructs.specs.Operators.Sorts.{by_sort, sort_in}
use Rattle.go_constructs.specs.declared.sort.Sort.{Sort}
use Rattle.go_ops.proofs.EndLemmas.{part-by, part-lacks}
use Rattle.go_expr.specs.TypeLiteral.{array_outcome}

module _ (headers : Headers) (n x : RecData) where
  -- the type, and the tests behind that of the length
  abbrev made_of : Option ℕ → types.TypeData
  made_of o = types.of_one (types.array (unwrap_or o 0)) (type_or_none x)

  abbrev asks_of : Option ℕ → List (RuleTest HeaderData)
  asks_of o = (makes (are_types 1 (x ∷ []) ∷ []) (made_of o)).tests

  -- what is asked where its length is that of this constant
  abbrev view : Option ℕ → OutcomeData RecData
  view o =
      tested headers
      (record { rule = no_length; spots = record { spot = Part 0; holds = if is_some o then by_sort n is_integer else Done false } ∷ [] } ∷ asks_of o)
      (makes (are_types 1 (x ∷ []) ∷ []) (made_of o)).gives

  view_is : (o : Option ℕ) (sort : Asked Sort) → run headers (sort_in n) ≡ sort → view o ≡ array_outcome headers o sort x
  view_is None sort e = refl
  view_is (Some k) (Decided s) e =
      part-by headers no_length (by_sort n is_integer) (asks_of (Some k)) (makes (are_types 1 (x ∷ []) ∷ []) (made_of (Some k))).gives (Part 0) (is_integer s)
      (run-then headers (sort_in n) (λ s. Done (is_integer s)) s e)
  view_is (Some k) (Lacks d) e =
      part-lacks headers no_length (by_sort n is_integer) (asks_of (Some k)) (makes (are_types 1 (x ∷ []) ∷ []) (made_of (Some k))).gives (Part 0) d
      (run-then-Lacks headers (sort_in n) (λ s. Done (is_integer s)) d e)

  pub array-found : array_outcome headers (length_in n) (run headers (sort_in n)) x ≡ asked headers (array.asks (n ∷ (x ∷ [])))
  array-found = sym (view_is (length_in n) (run headers (sort_in n)) refl)
