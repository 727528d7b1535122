-- What is known of two honest operands whose sorts are decided.
use Rattle.std.proofs.Common.{◌≡◌, Bool, true, false, Option, None, if◌then◌else◌, refl, sym, ap, ◌∙◌}
use Rattle.std.specs.Option.{option_map}
use Rattle.go_term.specs.Types.{TypeData}
use Rattle.go_term.specs.declared.term.Term.{Term}
use Rattle.go_judge.specs.declared.rec.Rec.{Rec}
use Rattle.go_judge.specs.Operands.{is_value}
use Rattle.go_judge.specs.Records.{RecData, rec_as}
use Rattle.go_judge.specs.Headers.{Headers}
use Rattle.go_judge.specs.Quests.{Decided, Done, run}
use Rattle.go_constructs.specs.Operators.Honest.{IsHonest}
use Rattle.go_constructs.specs.Operators.Sorts.{sort_by, sort_in}
use Rattle.go_ops.specs.Stages.{AreOf, constant_of}
use Rattle.go_constructs.specs.declared.sort.Sort.{Sort}
use Rattle.go_constructs.specs.declared.sort.Sort.TheVariants as S
use Rattle.go_ops.proofs.CalculationLemmas.{kinds-agree}
use Rattle.go_ops.proofs.SortLemmas.{constant-fits}

module _ (headers : Headers) where
  without_type : (value : Bool) → run headers (if value then sort_by None else Done S.Other) ≡ Decided S.Other
  without_type true = refl
  without_type false = refl

  -- the sort of what has no type
  sort_none : (r : RecData) (s : Sort) → run headers (sort_in r) ≡ Decided s → r.type ≡ None → s ≡ S.Other
  sort_none r s e none =
      let same : Decided s ≡ Decided S.Other =
      sym e ∙ ap (λ (t : Option TypeData). run headers (if is_value r then sort_by t else Done S.Other)) none ∙ without_type (is_value r)
      in cc

  pub are-of : (tree : Term → TypeData) (x y : Rec) (s t : Sort) → IsHonest headers (rec_as tree x) → IsHonest headers (rec_as tree y)
      → run headers (sort_in (rec_as tree x)) ≡ Decided s → run headers (sort_in (rec_as tree y)) ≡ Decided t → AreOf x y s t
  are-of tree x y s t honest_x honest_y first second = record {
    first = λ none. sort_none (rec_as tree x) s first (ap (option_map tree) none);
    second = λ none. sort_none (rec_as tree y) t second (ap (option_map tree) none);
    kind = kinds-agree (constant_of x) (constant_of y) s t (λ a is. constant-fits headers (rec_as tree x) a s honest_x first is)
        (λ b is. constant-fits headers (rec_as tree y) b t honest_y second is);
  }
