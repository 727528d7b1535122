-- Constants; Assignment statements (Go specification).
-- Decides the final type of an untyped expression by what it is wanted as: "A constant may be given a type .. implicitly
-- when used in a variable declaration or an assignment statement or as an operand in an expression." Own: so may an
-- untyped value that is no constant. What is wanted as no type stays untyped, and `nil` always does.
use Rattle.std.specs.Prelude.{◌&&◌, not, Bool, true, false, is_some, if◌then◌else◌, Option, Some, None, option_and_then}
use Rattle.go_num.specs.declared.value.NumKind.{NumKind}
use Rattle.go_num.specs.declared.value.NumKind.TheVariants as K
use Rattle.go_term.specs.Types.{TypeData, basic_type, made, param}
use Rattle.go_term.specs.declared.basic.Basic.TheVariants as B
use Rattle.go_judge.specs.Headers.{Headers}
use Rattle.go_judge.specs.Operands.{is_constant, is_value}
use Rattle.go_judge.specs.Quests.{Asked, Decided, Lacks, run}
use Rattle.go_judge.specs.Records.{RecData}
use Rattle.go_constructs.specs.Operators.Operations.{is_interface}
use Rattle.go_constructs.specs.Operators.Sorts.{sort_of, sort_of_head}
use Rattle.go_constructs.specs.declared.sort.Sort.{Sort}
use Rattle.go_constructs.specs.declared.sort.Sort.TheVariants.{Untyped}

-- the kind of an untyped value; there is none of what is typed, and of what is no value
abbrev pub kind_at : Sort → Option NumKind
kind_at (Untyped kind) = Some kind
kind_at sort = None

abbrev pub untyped_kind : TypeData → Option NumKind
untyped_kind (made head parts) = kind_at (sort_of_head head)

abbrev pub kind_in : RecData → Option NumKind
kind_in r = if is_value r then option_and_then untyped_kind r.type else None

abbrev pub is_untyped_constant : RecData → Bool
is_untyped_constant r = is_constant r && is_some (kind_in r)

-- "The default type of an untyped constant is bool, rune, int, float64, complex128 or string respectively, depending on
-- whether it is a boolean, rune, integer, floating-point, complex, or string constant."
abbrev pub default_type : NumKind → Option TypeData
default_type K.Bool = Some (basic_type B.Bool)
default_type K.Int = Some (basic_type B.Int)
default_type K.Rune = Some (basic_type B.Int32)
default_type K.Text = Some (basic_type B.String)
default_type K.Nil = None

abbrev pub is_type_param : TypeData → Bool
is_type_param (made (param d i) parts) = true
is_type_param type = false

abbrev pub is_interface_asked : Asked Sort → Bool
is_interface_asked (Decided sort) = is_interface sort
is_interface_asked (Lacks d) = false

-- an interface type that is no type parameter
abbrev pub is_interface_type : Headers → TypeData → Bool
is_interface_type headers type = not (is_type_param type) && is_interface_asked (run headers (sort_of type))

-- an untyped value of a kind that is given a type: "If an untyped constant is assigned to a variable of interface type
-- .. the constant is first implicitly converted to its default type"
abbrev pub given_value : Headers → TypeData → NumKind → Option TypeData
given_value headers type kind = if is_interface_type headers type then default_type kind else Some type

abbrev pub given : Headers → TypeData → NumKind → Option TypeData
given headers type K.Nil = None
given headers type kind = given_value headers type kind

-- the final type of an expression with this record that is wanted as a type, or as none
abbrev pub final_at : Headers → Option TypeData → RecData → Option TypeData
final_at headers want r = option_and_then (λ type. option_and_then (given headers type) (kind_in r)) want
