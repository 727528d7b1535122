-- Addresses and pointer types as the code finds them are what is asked.
use Rattle.std.proofs.Common.{◌≡◌, Bool, Option, Some, None, [], ◌∷◌, refl, sym, ap, ◌∙◌}
use Rattle.std.specs.Prelude.{◌&&◌, ◌||◌, if◌then◌else◌, is_some, unwrap_or}
use Rattle.std.specs.Option.{option_map}
use Rattle.go_term.specs.Types as types
use Rattle.go_term.specs.Types.{TypeData, list, of_list}
use Rattle.go_term.specs.declared.term.Term.{Term}
use Rattle.go_judge.specs.declared.outcome.Spot.TheVariants.{Whole}
use Rattle.go_judge.specs.declared.rec.Mode.{Mode}
use Rattle.go_judge.specs.declared.rec.Mode.TheVariants as M
use Rattle.go_judge.specs.declared.rec.Rec.{Rec}
use Rattle.go_judge.specs.Limits.{makes, within_limits}
use Rattle.go_judge.specs.Judged.{Broken, OutcomeData, asked, tested}
use Rattle.go_judge.specs.Operands.{at_whole}
use Rattle.go_judge.specs.Records.{RecData, rec_as, type_by, type_in}
use Rattle.go_judge.specs.Headers.{Headers}
use Rattle.go_judge.specs.Quests.{Done}
use Rattle.go_constructs.specs.Operators.Constants.{value_record}
use Rattle.go_ops.specs.PointerTypes.{address_asks, term_by, term_in, typed_address, typed_outcome}
use Rattle.go_constructs.specs.Operators.Pointers.{indirected, indirection, is_addressable, pointer_to}
use Rattle.go_constructs.specs.Operators.Rules.{no_address}
use Rattle.go_ops.proofs.EndLemmas.{whole-by}

-- ADDRESSES

module _ (headers : Headers) where
  -- of what has this type, or none
  abbrev address_by : Bool → Option TypeData → OutcomeData RecData
  address_by addressable type =
      let pointer = types.of_one types.pointer (unwrap_or type (of_list list [])) in
      tested headers (at_whole no_address (Done (is_some type && addressable)) ∷ within_limits pointer) (Done (value_record M.Value pointer None))

  pub address-typed : (literal : Bool) (x : RecData) (t : TypeData) (addressable : Bool) → x.type ≡ Some t → addressable ≡ (literal || is_addressable x.mode)
      → typed_address headers addressable t ≡ asked headers (Some (address_asks literal x))
  address-typed literal x t addressable is can =
      let pointer = types.of_one types.pointer t in
      sym (whole-by headers no_address (Done addressable) (within_limits pointer) (Done (value_record M.Value pointer None)) addressable refl)
      ∙ (λ i. address_by (can i) (sym is i))

  pub address-none : (literal : Bool) (x : RecData) → x.type ≡ None → Broken no_address (Whole ∷ []) ≡ asked headers (Some (address_asks literal x))
  address-none literal x none = ap (address_by (literal || is_addressable x.mode)) (sym none)

  -- POINTER TYPES

  pub indirection-type : (x : RecData) (t : TypeData) → type_in x ≡ Some t → typed_outcome headers M.IsType (types.of_one types.pointer t) ≡ asked headers (Some (indirection x))
  indirection-type x t is =
      ap (λ u. typed_outcome headers M.IsType (types.of_one types.pointer u)) (sym (type_by-is x.mode x.type is))
      ∙ ap (λ o. asked headers (Some (if is_some o then makes [] (pointer_to x) else indirected x))) (sym is)
    where
      type_by-is : (mode : Mode) (type : Option TypeData) → type_by mode type ≡ Some t → unwrap_or type (of_list list []) ≡ t
      type_by-is M.IsType type is = ap (λ o. unwrap_or o (of_list list [])) is
      type_by-is mode type is = absurd (let never : None ≡ Some t = is in cc)

  pub indirection-other : (x : RecData) → type_in x ≡ None → asked headers (Some (indirected x)) ≡ asked headers (Some (indirection x))
  indirection-other x none = ap (λ o. asked headers (Some (if is_some o then makes [] (pointer_to x) else indirected x))) (sym none)

-- the type that a record stands for, by its term
pub term-type : (tree : Term → TypeData) (r : Rec) → type_in (rec_as tree r) ≡ option_map tree (term_in r)
term-type tree r = go r.mode
  where
    go : (mode : Mode) → type_by mode (option_map tree r.ty) ≡ option_map tree (term_by mode r.ty)
    go M.IsType = refl
    go mode = refl
