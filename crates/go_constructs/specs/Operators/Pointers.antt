-- Address operators; Pointer types (Go specification).
-- Decides what is asked of `&x` and `*x`: "For an operand x of type T, the address operation &x generates a pointer of
-- type *T to x. The operand must be addressable .. As an exception to the addressability requirement, x may also be a
-- (possibly parenthesized) composite literal." "For an operand x of pointer type *T, the pointer indirection *x denotes
-- the variable of type T pointed to by x."
use Rattle.std.specs.Prelude.{◌&&◌, ◌||◌, is_some, Bool, true, false, Option, Some, None, [], ◌∷◌, if◌then◌else◌, unwrap_or}
use Rattle.go_term.specs.Types as types
use Rattle.go_term.specs.Types.{TypeData, made, more_parts, no_parts, pointer}
use Rattle.go_judge.specs.declared.rec.Mode.{Mode}
use Rattle.go_judge.specs.declared.rec.Mode.TheVariants as M
use Rattle.go_judge.specs.Limits.{makes, within_limits}
use Rattle.go_judge.specs.Judged.{Asks}
use Rattle.go_judge.specs.Operands.{are_values, at_whole, is_type, type_or_none}
use Rattle.go_judge.specs.Records.{HeaderData, RecData}
use Rattle.go_judge.specs.Types.Forms.{found_in}
use Rattle.go_judge.specs.Types.UnderlyingType.{under}
use Rattle.go_judge.specs.Quests.{Done, Quest, then_ask}
use Rattle.go_constructs.specs.Operators.Constants.{value_record}
use Rattle.go_constructs.specs.Operators.Matching.{are_single}
use Rattle.go_constructs.specs.Operators.Rules.{no_address, no_pointer}

abbrev pub pointer_to : RecData → TypeData
pointer_to x = types.of_one pointer (type_or_none x)

abbrev pub is_addressable : Mode → Bool
is_addressable M.Var = true
is_addressable mode = false

-- what has no type has no address (own)
abbrev pub address : Bool → RecData → Asks HeaderData RecData
address literal x = record {
  tests =
      are_values 0 (x ∷ [])
      ∷ (are_single (x ∷ [])
      ∷ (at_whole no_address (Done (is_some x.type && (literal || is_addressable x.mode)))
      ∷ within_limits (pointer_to x)));
  gives = Done (value_record M.Value (pointer_to x) None);
}

-- the base type of a pointer type
abbrev pub base_of : Option TypeData → Option TypeData
base_of (Some (made pointer (more_parts base no_parts))) = Some base
base_of type = None

-- what the underlying type of an operand's type says
abbrev pub under_operand : {A : Type 0} → RecData → (Option TypeData → A) → Quest HeaderData A
under_operand x says = then_ask (under (type_or_none x)) (λ reach. Done (says (found_in reach)))

abbrev pub indirected : RecData → Asks HeaderData RecData
indirected x = record {
  tests =
      are_values 0 (x ∷ [])
      ∷ (are_single (x ∷ [])
      ∷ (at_whole no_pointer (under_operand x (λ u. is_some (base_of u))) ∷ []));
  gives = under_operand x (λ u. value_record M.Var (unwrap_or (base_of u) (type_or_none x)) None);
}

-- `*T` where T is a type is a pointer type; where only a type may stand, `*x` goes to no operator
abbrev pub indirection : RecData → Asks HeaderData RecData
indirection x = if is_type x then makes [] (pointer_to x) else indirected x
