-- Records that operators give, and when they are honest: what follows of the sorts of operands and of the tests on
-- limits.
use Rattle.std.proofs.Common.{◌≡◌, ℤ, ℕ, suc, ◌^◌, Bool, true, false, true≢false, Option, Some, None, [], refl, sym, ap, ◌∙◌}
use Rattle.std.specs.Prelude.{unwrap_or}
use Rattle.go_base.specs.declared.ids.ObjId.{ObjId}
use Rattle.go_base.specs.declared.rule.Rule.{Rule}
use Rattle.go_num.specs.declared.value.NumKind.{NumKind}
use Rattle.go_num.specs.declared.value.NumKind.TheVariants as K
use Rattle.go_num.specs.declared.value.Value.{Value}
use Rattle.go_term.specs.Types.{TypeData, basic_type, list, of_list}
use Rattle.go_judge.specs.declared.rec.Mode.{Mode}
use Rattle.go_judge.specs.declared.rec.Mode.TheVariants as M
use Rattle.go_judge.specs.Limits.{wide_integer}
use Rattle.go_judge.specs.Judged.{Yes, end_on}
use Rattle.go_judge.specs.Operands.{at_whole, is_constant_mode, type_or_none}
use Rattle.go_judge.specs.Records.{HeaderData, RecData}
use Rattle.go_judge.specs.Headers.{Headers}
use Rattle.go_judge.specs.Types.Forms.{found_in}
use Rattle.go_judge.specs.Types.UnderlyingType.{most_steps, under_from}
use Rattle.go_judge.specs.Quests.{Decided, Done, Quest, run, then_ask}
use Rattle.go_judge.proofs.QuestLemmas.{run-then}
use Rattle.go_constructs.specs.Operators.Constants.{constant_in, constant_record, long_test, overflow_test, record_of, unkept_test, value_record, wide_test}
use Rattle.go_constructs.specs.Operators.Honest.{IsHonest}
use Rattle.go_constructs.specs.Operators.Matching.{untyped_basic}
use Rattle.go_constructs.specs.Operators.Operations.{fit_found, given_values}
use Rattle.go_constructs.specs.Operators.Representable.{fit_of, not_long, not_overflows, not_unkept, not_wide, representable}
use Rattle.go_constructs.specs.Operators.Rules.{constant_overflow, long_text, unkept_float}
use Rattle.go_constructs.specs.Operators.Sorts.{sort_by, sort_found, sort_in, sort_of, sorts_of}
use Rattle.go_constructs.specs.Operators.Unary.{of_value}
use Rattle.go_constructs.specs.declared.fit.Fit.{Fit}
use Rattle.go_constructs.specs.declared.fit.Fit.TheVariants.{Differs, Fits, Long, Overflows, Unkept, Wide}
use Rattle.go_constructs.specs.declared.sort.Sort.{Sort}
use Rattle.go_constructs.specs.declared.sort.Sort.TheVariants as S
use Rattle.go_ops.proofs.FoundLemmas.{behind, whole-holds}
use Rattle.go_ops.proofs.KindLemmas.{all-fits}

-- a step at least
record Above : Type 0 where
  below : ℕ
  steps : most_steps ≡ suc below

some_step : Above
unfolding most_steps
some_step = record { below = 2 ^ 64; steps = refl }

module _ (headers : Headers) where
  -- RECORDS

  pub plain : (mode : Mode) (type : TypeData) (span : Option (ℤ × ℤ)) → is_constant_mode mode ≡ false → IsHonest headers (value_record mode type span)
  plain mode type span is = record { constant = sym is; fitting = λ v e. absurd (let never : None ≡ Some v = e in cc) }

  pub constant : (type : TypeData) (v : Value) → run headers (representable v type) ≡ Decided Fits → IsHonest headers (constant_record type v)
  constant type v fits = record {
    constant = refl;
    fitting = λ w e.
        let same : v ≡ w = cc in
        record { type = type; has = refl; fits = ap (λ u. run headers (representable u type)) (sym same) ∙ fits };
  }

  -- a constant fits where it fits the sort of its type
  pub fits_type : (type : TypeData) (s : Sort) (v : Value) → run headers (sort_of type) ≡ Decided s → fit_of v s ≡ Fits → run headers (representable v type) ≡ Decided Fits
  fits_type type s v sorted fits = run-then headers (sort_of type) (λ s. Done (fit_of v s)) s sorted ∙ ap (λ f. Decided f) fits

  -- SORTS

  pub basic_sort : (k : NumKind) → run headers (sort_of (basic_type (untyped_basic k))) ≡ Decided (S.Untyped k)
  basic_sort k = ap (λ n. run headers (then_ask (under_from n [] (basic_type (untyped_basic k))) (λ reach. Done (sort_found (found_in reach))))) some_step.steps ∙ go k
    where
      go : (k : NumKind) → run headers (then_ask (under_from (suc some_step.below) [] (basic_type (untyped_basic k))) (λ reach. Done (sort_found (found_in reach)))) ≡ Decided (S.Untyped k)
      go K.Bool = refl
      go K.Int = refl
      go K.Rune = refl
      go K.Text = refl
      go K.Nil = refl

  by_mode : (mode : Mode) (type : Option TypeData) (value : Option Value) (object : Option ObjId) (span : Option (ℤ × ℤ)) (v : Value) (s : Sort)
      → let r : RecData = record { mode = mode; type = type; value = value; object = object; span = span } in
      IsHonest headers r → run headers (sort_in r) ≡ Decided s → constant_in r ≡ Some v → run headers (sort_of (unwrap_or type (of_list list []))) ≡ Decided s
  by_mode M.Const type value object span v s honest e is =
      let has = honest.fitting v is in
      ap (λ (t : Option TypeData). run headers (sort_of (unwrap_or t (of_list list [])))) has.has
      ∙ sym (ap (λ (t : Option TypeData). run headers (sort_by t)) has.has)
      ∙ e
  by_mode mode type value object span v s honest e is = absurd (let never : None ≡ Some v = is in cc)

  -- the type of a constant has the sort that is seen of it
  pub constant_sort : (r : RecData) (v : Value) (s : Sort) → IsHonest headers r → run headers (sort_in r) ≡ Decided s → constant_in r ≡ Some v → run headers (sort_of (type_or_none r)) ≡ Decided s
  constant_sort r v s honest e is = by_mode r.mode r.type r.value r.object r.span v s honest e is

  -- the sorts of both
  pub record Sorted (x y : RecData) (s t : Sort) : Type 0 where
    pub first : run headers (sort_in x) ≡ Decided s
    pub second : run headers (sort_in y) ≡ Decided t

  pub sorted : (x y : RecData) (pair : Sort × Sort) → run headers (sorts_of x y) ≡ Decided pair → Sorted x y pair.0 pair.1
  sorted x y pair is =
      let one = behind headers (sort_in x) (λ s. then_ask (sort_in y) (λ t. Done (s, t))) pair is in
      let two = behind headers (sort_in y) (λ t. Done (one.answer, t)) pair one.second in
      let whole : Decided (one.answer, two.answer) ≡ Decided pair = two.second in
      let same : (one.answer, two.answer) ≡ pair = cc in
      record { first = one.first ∙ ap (λ p. Decided p.0) same; second = two.first ∙ ap (λ p. Decided p.1) same }

  -- LIMITS

  holding : (rule : Rule) (holds : Fit → Bool) (q : Quest HeaderData Fit) (f : Fit) → run headers q ≡ Decided f → end_on headers (at_whole rule (then_ask q (λ f. Done (holds f)))) ≡ Yes → holds f ≡ true
  holding rule holds q f is end =
      let same : Decided (holds f) ≡ Decided true = sym (run-then headers q (λ f. Done (holds f)) f is) ∙ whole-holds headers rule (then_ask q (λ f. Done (holds f))) end in cc

  excluded : (holds : Fit → Bool) (f g : Fit) → holds f ≡ true → holds g ≡ false → f ≡ g → ⊥
  excluded holds f g one other same = true≢false (sym one ∙ ap holds same ∙ other)

  pub limits_fit : (q : Quest HeaderData Fit) (f : Fit) → run headers q ≡ Decided f → end_on headers (overflow_test q) ≡ Yes → end_on headers (unkept_test q) ≡ Yes → end_on headers (wide_test q) ≡ Yes → end_on headers (long_test q) ≡ Yes
      → (f ≡ Differs → ⊥) → f ≡ Fits
  limits_fit q f is overflow unkept wide long differs =
      all-fits f
      (excluded not_overflows f Overflows (holding constant_overflow not_overflows q f is overflow) refl)
      (excluded not_unkept f Unkept (holding unkept_float not_unkept q f is unkept) refl)
      (excluded not_wide f Wide (holding wide_integer not_wide q f is wide) refl)
      (excluded not_long f Long (holding long_text not_long q f is long) refl)
      differs

  -- WHAT IS GIVEN

  -- of two constants
  pub given : (type : TypeData) (s : Sort) (of : Value → Value → Option Value) (span : Option (ℤ × ℤ)) (cx cy : Option Value)
      → ((a b v : Value) → cx ≡ Some a → cy ≡ Some b → of a b ≡ Some v → (fit_of v s ≡ Differs → ⊥) × (run headers (sort_of type) ≡ Decided s))
      → ((given_values Fits (λ a b. fit_found (of a b) s) cx cy ≡ Differs → ⊥) → given_values Fits (λ a b. fit_found (of a b) s) cx cy ≡ Fits)
      → IsHonest headers (record_of type (given_values None of cx cy) span)
  given type s of span None cy kinds limits = plain M.Value type span refl
  given type s of span (Some a) None kinds limits = plain M.Value type span refl
  given type s of span (Some a) (Some b) kinds limits = go (of a b) refl
    where
      go : (o : Option Value) → of a b ≡ o → IsHonest headers (record_of type o span)
      go None e = plain M.Value type span refl
      go (Some v) e =
          let here = kinds a b v refl refl e in
          let fit_is = ap (λ o. fit_found o s) e in
          constant type v (fits_type type s v here.1 (sym fit_is ∙ limits (λ d. here.0 (sym fit_is ∙ d))))

  -- and of one
  pub given_one : (type : TypeData) (s : Sort) (of : Value → Option Value) (span : Option (ℤ × ℤ)) (cx : Option Value)
      → ((a v : Value) → cx ≡ Some a → of a ≡ Some v → (fit_of v s ≡ Differs → ⊥) × (run headers (sort_of type) ≡ Decided s))
      → ((of_value Fits (λ a. fit_found (of a) s) cx ≡ Differs → ⊥) → of_value Fits (λ a. fit_found (of a) s) cx ≡ Fits)
      → IsHonest headers (record_of type (of_value None of cx) span)
  given_one type s of span None kinds limits = plain M.Value type span refl
  given_one type s of span (Some a) kinds limits = go (of a) refl
    where
      go : (o : Option Value) → of a ≡ o → IsHonest headers (record_of type o span)
      go None e = plain M.Value type span refl
      go (Some v) e =
          let here = kinds a v refl e in
          let fit_is = ap (λ o. fit_found o s) e in
          constant type v (fits_type type s v here.1 (sym fit_is ∙ limits (λ d. here.0 (sym fit_is ∙ d))))
