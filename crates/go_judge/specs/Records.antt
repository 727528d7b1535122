-- Expressions; Declarations and scope (Go specification).
-- Says what is known of an expression, its record, and what a declaration tells others, its header, as plain data.
use Rattle.std.specs.Prelude.{ℤ, List, Option, None, Some, map}
use Rattle.std.specs.Option.{option_map}
use Rattle.go_base.specs.declared.ids.ObjId.{ObjId}
use Rattle.go_num.specs.declared.value.Value.{Value}
use Rattle.go_module.specs.declared.object.Method.{Method}
use Rattle.go_term.specs.Types.{TypeData, made, named, no_parts}
use Rattle.go_term.specs.View.{type_of}
use Rattle.go_term.specs.declared.term.Term.{Term}
use Rattle.go_judge.specs.declared.header.Header.{Header}
use Rattle.go_judge.specs.declared.header.Header.TheVariants as H
use Rattle.go_judge.specs.declared.header.TypeParam.{TypeParam}
use Rattle.go_judge.specs.declared.rec.Mode.{Mode}
use Rattle.go_judge.specs.declared.rec.Mode.TheVariants as M
use Rattle.go_judge.specs.declared.rec.Rec.{Rec}

-- what an expression stands for; its type; its value where it is a constant; the object that it denotes where it is a name
-- or a qualified identifier, parentheses aside; and of an untyped integer or rune that is no constant, the least and the
-- greatest constant in it whose final type is that of the whole
pub record RecData : Type 0 where
  pub mode : Mode
  pub type : Option TypeData
  pub value : Option Value
  pub object : Option ObjId
  pub span : Option (ℤ × ℤ)

-- a type parameter: its object, and its constraint as an interface
pub record ParamData : Type 0 where
  pub object : ObjId
  pub constraint : TypeData

-- what a declaration tells others
pub data HeaderData : Type 0 where
  -- a constant: its type and its value
  constant : TypeData → Value → HeaderData
  -- a variable: its type
  variable : TypeData → HeaderData
  -- a function or a method: its type parameters and its type
  func : List ParamData → TypeData → HeaderData
  -- a defined type: its type parameters, its right side and its methods
  definition : List ParamData → TypeData → List Method → HeaderData
  -- an alias: the type for which it stands
  alias : TypeData → HeaderData

-- what the records, type parameters and headers of the program stand for, where a type stands for what `tree` says
module _ (tree : Term → TypeData) where
  abbrev pub rec_as : Rec → RecData
  rec_as r = record { mode = r.mode; type = option_map tree r.ty; value = r.value; object = r.object; span = r.span }

  abbrev pub param_as : TypeParam → ParamData
  param_as p = record { object = p.object; constraint = tree p.bound }

  abbrev pub header_as : Header → HeaderData
  header_as (H.Const type value) = constant (tree type) value
  header_as (H.Var type) = variable (tree type)
  header_as (H.Func params type) = func (map param_as params.items) (tree type)
  header_as (H.Defined params right methods) = definition (map param_as params.items) (tree right) methods.items
  header_as (H.Alias type) = alias (tree type)

-- and where a type stands for the term that it is
abbrev pub rec_view : Rec → RecData
rec_view r = rec_as type_of r

abbrev pub param_view : TypeParam → ParamData
param_view p = param_as type_of p

abbrev pub header_view : Header → HeaderData
header_view h = header_as type_of h

-- NAMES AND DECLARATIONS

-- the record of a name of this type that has no value
abbrev pub typed_record : ObjId → Mode → TypeData → RecData
typed_record d mode type = record { mode = mode; type = Some type; value = None; object = Some d; span = None }

-- the type that a record stands for, where it stands for one
abbrev pub type_by : Mode → Option TypeData → Option TypeData
type_by M.IsType type = type
type_by mode type = None

abbrev pub type_in : RecData → Option TypeData
type_in r = type_by r.mode r.type

-- the record of a type literal
abbrev pub type_record : TypeData → RecData
type_record type = record { mode = M.IsType; type = Some type; value = None; object = None; span = None }

-- the record of a name, by the header of the declaration that it denotes
abbrev pub named_record : ObjId → HeaderData → RecData
named_record d (constant type value) = record (typed_record d M.Const type) { value = Some value }
named_record d (variable type) = typed_record d M.Var type
named_record d (func params type) = typed_record d M.Value type
named_record d (definition params right methods) = typed_record d M.IsType (made (named d) no_parts)
named_record d (alias type) = typed_record d M.IsType type
