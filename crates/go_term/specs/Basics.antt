-- Predeclared identifiers; Constants (Go specification).
-- Says how each basic type is written.
use Rattle.std.specs.Prelude.{ℕ, List, codes}
use Rattle.go_term.specs.declared.basic.Basic.{Basic}
use Rattle.go_term.specs.declared.basic.Basic.TheVariants as B

abbrev pub basic_text : Basic → List ℕ
basic_text B.Bool = codes "bool"
basic_text B.Comparable = codes "comparable"
basic_text B.Complex64 = codes "complex64"
basic_text B.Complex128 = codes "complex128"
basic_text B.Error = codes "error"
basic_text B.Float32 = codes "float32"
basic_text B.Float64 = codes "float64"
basic_text B.Int = codes "int"
basic_text B.Int8 = codes "int8"
basic_text B.Int16 = codes "int16"
basic_text B.Int32 = codes "int32"
basic_text B.Int64 = codes "int64"
basic_text B.String = codes "string"
basic_text B.Uint = codes "uint"
basic_text B.Uint8 = codes "uint8"
basic_text B.Uint16 = codes "uint16"
basic_text B.Uint32 = codes "uint32"
basic_text B.Uint64 = codes "uint64"
basic_text B.Uintptr = codes "uintptr"
basic_text B.UntypedBool = codes "untyped bool"
basic_text B.UntypedInt = codes "untyped int"
basic_text B.UntypedRune = codes "untyped rune"
basic_text B.UntypedString = codes "untyped string"
basic_text B.UntypedNil = codes "untyped nil"
