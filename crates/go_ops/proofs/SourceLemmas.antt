-- What is read through a pointer and from a channel is what is asked of it.
use Rattle.std.proofs.Common.{◌≡◌, ℕ, zero, suc, Option, Some, None, [], ◌∷◌, refl, sym, ap, ◌∙◌}
use Rattle.std.specs.Prelude.{is_some, unwrap_or}
use Rattle.go_term.specs.Types.{TypeData, list, made, no_parts, of_list}
use Rattle.go_judge.specs.declared.outcome.Spot.TheVariants.{Whole}
use Rattle.go_judge.specs.Judged as outcomes
use Rattle.go_judge.specs.Judged.{Broken, Found, asked}
use Rattle.go_judge.specs.Operands.{type_or_none}
use Rattle.go_judge.specs.Records.{HeaderData, RecData}
use Rattle.go_judge.specs.Headers.{Headers}
use Rattle.go_judge.specs.Types.Forms.{form_asked, underlying_over}
use Rattle.go_judge.specs.Types.UnderlyingType.{most_steps, under_from}
use Rattle.go_judge.specs.Quests.{Asked, Decided, Lacks, Quest, run}
use Rattle.go_ops.specs.AskedSorts.{asked_map}
use Rattle.go_constructs.specs.Operators.Constants.{value_record}
use Rattle.go_constructs.specs.Operators.Pointers.{under_operand}
use Rattle.go_ops.specs.Sources.{mode_of, read_asked, read_asks, read_of, read_outcome, rule_of}
use Rattle.go_ops.specs.declared.source.Source.{Source}
use Rattle.go_ops.specs.declared.source.Source.TheVariants.{Channel, Pointer}
use Rattle.go_ops.proofs.AskedLemmas.{under-asked}
use Rattle.go_ops.proofs.EndLemmas.{whole-lacks, whole-no, whole-yes}

module _ (headers : Headers) (source : Source) (x : RecData) where
  abbrev type : TypeData
  type = type_or_none x

  abbrev reads : Quest HeaderData RecData
  reads = under_operand x (λ u. value_record (mode_of source) (unwrap_or (read_of source u) type) None)

  -- by what the underlying type comes to
  pub read-asked : read_asked source (underlying_over headers (type_or_none x)) ≡ asked headers (Some (read_asks source x))
  read-asked = by_under (underlying_over headers type) refl
    where
      by_type : (u p : Option TypeData) → underlying_over headers type ≡ Decided u → read_of source u ≡ p → read_outcome source p ≡ asked headers (Some (read_asks source x))
      by_type u (Some t) e is =
          let yes = under-asked headers type (λ v. is_some (read_of source v)) ∙ ap (asked_map (λ v. is_some (read_of source v))) e ∙ ap (λ p. Decided (is_some p)) is in
          let gives = under-asked headers type (λ v. value_record (mode_of source) (unwrap_or (read_of source v) type) None) ∙ ap (asked_map (λ v. value_record (mode_of source) (unwrap_or (read_of source v) type) None)) e in
          sym (whole-yes headers (rule_of source) (under_operand x (λ v. is_some (read_of source v))) [] reads yes
          ∙ ap outcomes.made gives
          ∙ ap (λ p. Found (value_record (mode_of source) (unwrap_or p type) None)) is)
      by_type u None e is =
          let no = under-asked headers type (λ v. is_some (read_of source v)) ∙ ap (asked_map (λ v. is_some (read_of source v))) e ∙ ap (λ p. Decided (is_some p)) is in
          sym (whole-no headers (rule_of source) (under_operand x (λ v. is_some (read_of source v))) [] reads no)

      by_under : (o : Asked (Option TypeData)) → underlying_over headers type ≡ o → read_asked source o ≡ asked headers (Some (read_asks source x))
      by_under (Decided u) e = by_type u (read_of source u) e refl
      by_under (Lacks d) e =
          sym (whole-lacks headers (rule_of source) (under_operand x (λ v. is_some (read_of source v))) [] reads d
          (under-asked headers type (λ v. is_some (read_of source v)) ∙ ap (asked_map (λ v. is_some (read_of source v))) e))

  -- of what has no type
  pub read-none : x.type ≡ None → Broken (rule_of source) (Whole ∷ []) ≡ asked headers (Some (read_asks source x))
  read-none none = sym (nothing source most_steps) ∙ ap (λ o. read_asked source (underlying_over headers (unwrap_or o (of_list list [])))) (sym none) ∙ read-asked
    where
      nothing : (s : Source) (n : ℕ) → read_asked s (form_asked (run headers (under_from n [] (made list no_parts)))) ≡ Broken (rule_of s) (Whole ∷ [])
      nothing Pointer zero = refl
      nothing Channel zero = refl
      nothing Pointer (suc n) = refl
      nothing Channel (suc n) = refl
