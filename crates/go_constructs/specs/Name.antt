-- Operands; Declarations and scope; Predeclared identifiers; Iota; Types (Go specification).
-- Decides what is asked of an identifier, which has no operand: the header of what it denotes; of a type that is defined or
-- predeclared, and of `true` and `false`, nothing; of iota, whether a constant spec stands around it; and of another
-- predeclared identifier whether it is built.
use Rattle.std.specs.Prelude.{pos, false, is_some, None, Some, [], ◌∷◌}
use Rattle.go_module.specs.Rules.{unbuilt_form}
use Rattle.go_num.specs.Arithmetic.{limited}
use Rattle.go_num.specs.declared.value.Value.TheVariants.{Bool, Int}
use Rattle.go_term.specs.Types.{basic_type, interface_type, made, named, no_parts}
use Rattle.go_term.specs.declared.basic.Basic.TheVariants.{UntypedBool}
use Rattle.go_constructs.specs.declared.meaning.Meaning.{Meaning}
use Rattle.go_constructs.specs.declared.meaning.Meaning.TheVariants.{AnyType, BasicType, Declared, DefinedType, Iota, Other, Predeclared, Truth}
use Rattle.go_judge.specs.declared.rec.Mode.TheVariants.{Const, IsType}
use Rattle.go_judge.specs.Judged.{Construct}
use Rattle.go_judge.specs.Kinds.{no_value}
use Rattle.go_judge.specs.Limits.{wide_integer}
use Rattle.go_judge.specs.Operands.{at_whole, leaf, no_construct}
use Rattle.go_judge.specs.Records.{HeaderData, RecData, named_record, typed_record}
use Rattle.go_constructs.specs.Integers.{integer_record, untyped_int}
use Rattle.go_judge.specs.Quests.{Done, Need}

-- a constant, a variable and an alias have the record of their header; "the predeclared identifier iota represents successive
-- untyped integer constants", within the limits (L2, own), and breaks R1 outside of constant specs; a predeclared identifier
-- that is not built breaks U0, so that its record is never asked; what else an identifier denotes has no record
abbrev pub name : Meaning → Construct HeaderData RecData
name (Declared d) = leaf (record { tests = []; gives = Need d.0 (λ h. Done (named_record d h)) })
name (DefinedType d) = leaf (record { tests = []; gives = Done (typed_record d IsType (made (named d) no_parts)) })
name (BasicType d basic) = leaf (record { tests = []; gives = Done (typed_record d IsType (basic_type basic)) })
name (AnyType d) = leaf (record { tests = []; gives = Done (typed_record d IsType (made interface_type no_parts)) })
name (Truth d truth) = leaf (record { tests = []; gives = Done (record (typed_record d Const (basic_type UntypedBool)) { value = Some (Bool truth) }) })
name (Iota d (Some n)) = leaf (record {
  tests = at_whole wide_integer (Done (is_some (limited (pos n)))) ∷ [];
  gives = Done (record (typed_record d Const untyped_int) { value = Some (Int (pos n)) });
})
name (Iota d None) = leaf (record { tests = at_whole no_value (Done false) ∷ []; gives = Done (integer_record (pos 0)) })
name Predeclared = leaf (record { tests = at_whole unbuilt_form (Done false) ∷ []; gives = Done (integer_record (pos 0)) })
name Other = no_construct
