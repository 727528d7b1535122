-- Types; Numeric types; Constants (Go specification).
-- Decides what operators see of a type: its underlying type, as far as operators tell types apart.
use Rattle.std.specs.Prelude.{Option, Some, None, if◌then◌else◌}
use Rattle.go_num.specs.declared.ranges.IntType.TheVariants as I
use Rattle.go_num.specs.declared.value.NumKind.TheVariants as K
use Rattle.go_term.specs.declared.basic.Basic.{Basic}
use Rattle.go_term.specs.declared.basic.Basic.TheVariants as B
use Rattle.go_term.specs.Types.{Head, TypeData, basic, interface_type, made}
use Rattle.go_constructs.specs.declared.sort.FloatType.TheVariants.{Float32, Float64}
use Rattle.go_constructs.specs.declared.sort.Sort.{Sort}
use Rattle.go_constructs.specs.declared.sort.Sort.TheVariants.{Bool, Float, Int, Interface, Other, Text, Untyped}
use Rattle.go_judge.specs.Operands.{is_value}
use Rattle.go_judge.specs.Records.{HeaderData, RecData}
use Rattle.go_judge.specs.Types.Forms.{found_in}
use Rattle.go_judge.specs.Types.UnderlyingType.{under}
use Rattle.go_judge.specs.Quests.{Done, Quest, then_ask}

-- boolean, numeric and string types, and the kinds of untyped values
abbrev pub sort_of_basic : Basic → Sort
sort_of_basic B.Bool = Bool
sort_of_basic B.String = Text
sort_of_basic B.Int = Int I.Int
sort_of_basic B.Int8 = Int I.Int8
sort_of_basic B.Int16 = Int I.Int16
sort_of_basic B.Int32 = Int I.Int32
sort_of_basic B.Int64 = Int I.Int64
sort_of_basic B.Uint = Int I.Uint
sort_of_basic B.Uint8 = Int I.Uint8
sort_of_basic B.Uint16 = Int I.Uint16
sort_of_basic B.Uint32 = Int I.Uint32
sort_of_basic B.Uint64 = Int I.Uint64
sort_of_basic B.Uintptr = Int I.Uintptr
sort_of_basic B.Float32 = Float Float32
sort_of_basic B.Float64 = Float Float64
sort_of_basic B.UntypedBool = Untyped K.Bool
sort_of_basic B.UntypedInt = Untyped K.Int
sort_of_basic B.UntypedRune = Untyped K.Rune
sort_of_basic B.UntypedString = Untyped K.Text
sort_of_basic B.UntypedNil = Untyped K.Nil
sort_of_basic B.Error = Interface
sort_of_basic b = Other

abbrev pub sort_of_head : Head → Sort
sort_of_head (basic b) = sort_of_basic b
sort_of_head interface_type = Interface
sort_of_head head = Other

-- by an underlying type; where there is none no operator is defined
abbrev pub sort_found : Option TypeData → Sort
sort_found (Some (made head parts)) = sort_of_head head
sort_found None = Other

abbrev pub sort_of : TypeData → Quest HeaderData Sort
sort_of t = then_ask (under t) (λ reach. Done (sort_found (found_in reach)))

abbrev pub sort_by : Option TypeData → Quest HeaderData Sort
sort_by (Some t) = sort_of t
sort_by None = Done Other

-- the sort of an operand's type; of what is no value none is asked
abbrev pub sort_in : RecData → Quest HeaderData Sort
sort_in r = if is_value r then sort_by r.type else Done Other

-- those of two operands, in this order
abbrev pub sorts_of : RecData → RecData → Quest HeaderData (Sort × Sort)
sorts_of x y = then_ask (sort_in x) (λ s. then_ask (sort_in y) (λ t. Done (s, t)))

-- what is asked of an operand's sort, and of those of two
abbrev pub by_sort : {A : Type 0} → RecData → (Sort → A) → Quest HeaderData A
by_sort x answer = then_ask (sort_in x) (λ s. Done (answer s))

abbrev pub by_sorts : {A : Type 0} → RecData → RecData → (Sort → Sort → A) → Quest HeaderData A
by_sorts x y answer = then_ask (sorts_of x y) (λ pair. Done (answer pair.0 pair.1))
