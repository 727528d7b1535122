-- What follows of the sorts of operands, once they are decided.
use Rattle.std.proofs.Common.{◌≡◌, Option, Some, None, ℤ, refl, ap, sym, ◌∙◌}
use Rattle.go_base.specs.declared.ids.ObjId.{ObjId}
use Rattle.go_num.specs.declared.value.Value.{Value}
use Rattle.go_term.specs.Types.{TypeData}
use Rattle.go_judge.specs.declared.rec.Mode.{Mode}
use Rattle.go_judge.specs.declared.rec.Mode.TheVariants as M
use Rattle.go_judge.specs.Records.{RecData}
use Rattle.go_judge.specs.Headers.{Headers}
use Rattle.go_judge.specs.Quests.{Decided, Done, run, then_ask}
use Rattle.go_judge.proofs.QuestLemmas.{run-then}
use Rattle.go_constructs.specs.Operators.Constants.{constant_in}
use Rattle.go_constructs.specs.Operators.Honest.{IsHonest}
use Rattle.go_ops.specs.Limited.{FitsSort}
use Rattle.go_constructs.specs.Operators.Representable.{fit_of, representable}
use Rattle.go_constructs.specs.Operators.Sorts.{sort_by, sort_in, sort_of, sorts_of}
use Rattle.go_constructs.specs.declared.fit.Fit.TheVariants.{Fits}
use Rattle.go_constructs.specs.declared.sort.Sort.{Sort}

module _ (headers : Headers) where
  -- both are decided where each is
  pub both-sorts : (x y : RecData) (s t : Sort) → run headers (sort_in x) ≡ Decided s → run headers (sort_in y) ≡ Decided t → run headers (sorts_of x y) ≡ Decided (s, t)
  both-sorts x y s t first second =
      run-then headers (sort_in x) (λ s. then_ask (sort_in y) (λ t. Done (s, t))) s first
      ∙ run-then headers (sort_in y) (λ t. Done (s, t)) t second

  -- a constant fits the sort of its type
  at_type : (type : TypeData) (v : Value) (s : Sort) → run headers (sort_of type) ≡ Decided s → run headers (representable v type) ≡ Decided Fits → fit_of v s ≡ Fits
  at_type type v s e fits =
      let whole : Decided (fit_of v s) ≡ Decided Fits = sym (run-then headers (sort_of type) (λ s. Done (fit_of v s)) s e) ∙ fits in cc

  by_mode : (mode : Mode) (type : Option TypeData) (value : Option Value) (object : Option ObjId) (span : Option (ℤ × ℤ)) (v : Value) (s : Sort)
      → let r : RecData = record { mode = mode; type = type; value = value; object = object; span = span } in
      IsHonest headers r → run headers (sort_in r) ≡ Decided s → constant_in r ≡ Some v → fit_of v s ≡ Fits
  by_mode M.Const type value object span v s honest e is =
      let has = honest.fitting v is in
      at_type has.type v s (ap (λ (t : Option TypeData). run headers (sort_by t)) (sym has.has) ∙ e) has.fits
  by_mode M.NoValue type value object span v s honest e is = absurd (let never : None ≡ Some v = is in cc)
  by_mode M.Builtin type value object span v s honest e is = absurd (let never : None ≡ Some v = is in cc)
  by_mode M.IsType type value object span v s honest e is = absurd (let never : None ≡ Some v = is in cc)
  by_mode M.Var type value object span v s honest e is = absurd (let never : None ≡ Some v = is in cc)
  by_mode M.MapIndex type value object span v s honest e is = absurd (let never : None ≡ Some v = is in cc)
  by_mode M.Value type value object span v s honest e is = absurd (let never : None ≡ Some v = is in cc)
  by_mode M.Nil type value object span v s honest e is = absurd (let never : None ≡ Some v = is in cc)
  by_mode M.CommaOk type value object span v s honest e is = absurd (let never : None ≡ Some v = is in cc)

  pub constant-fits : (r : RecData) (v : Value) (s : Sort) → IsHonest headers r → run headers (sort_in r) ≡ Decided s → constant_in r ≡ Some v → fit_of v s ≡ Fits
  constant-fits r v s honest e is = by_mode r.mode r.type r.value r.object r.span v s honest e is

  pub sort-fits : (r : RecData) (s : Sort) → IsHonest headers r → run headers (sort_in r) ≡ Decided s → FitsSort (constant_in r) s
  sort-fits r s honest e = go (constant_in r) (λ v is. constant-fits r v s honest e is)
    where
      go : (o : Option Value) → ((v : Value) → o ≡ Some v → fit_of v s ≡ Fits) → FitsSort o s
      go None each = tt
      go (Some v) each = each v refl
