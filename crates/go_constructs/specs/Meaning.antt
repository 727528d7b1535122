-- Declarations and scope; Qualified identifiers; Predeclared identifiers; Iota (Go specification).
-- Decides what an identifier means in a package that is checked, by the object that it denotes and, of iota, by the number of
-- the constant spec around it. No header is asked.
use Rattle.std.specs.Prelude.{ℕ, true, false, if◌then◌else◌, List, [], ◌∷◌, Option, None, Some, slice_get, unwrap_or}
use Rattle.std.specs.Option.{option_map_or}
use Rattle.go_base.specs.declared.ids.ObjId.{ObjId}
use Rattle.go_term.specs.declared.basic.Basic.TheVariants.{Bool, Error, Float32, Float64, Int, Int8, Int16, Int32, Int64, String, Uint, Uint8, Uint16, Uint32, Uint64, Uintptr}
use Rattle.go_module.specs.declared.object.Object.{Object}
use Rattle.go_module.specs.declared.object.ObjKind.{ObjKind}
use Rattle.go_module.specs.declared.object.ObjKind.TheVariants.{Alias, Const, Defined, Var}
use Rattle.go_judge.specs.Headers.{is_predeclared}
use Rattle.go_judge.specs.Naming.{Naming}
use Rattle.go_constructs.specs.declared.meaning.Meaning.{Meaning}
use Rattle.go_constructs.specs.declared.meaning.Meaning.TheVariants.{AnyType, BasicType, Declared, DefinedType, Iota, Other, Predeclared, Truth}

-- "Types" and "Constants" among the predeclared identifiers, in the order in which the universe block lists them
-- (`Universe` of go_module): byte and rune are aliases of uint8 and int32; comparable and nil are not built yet, and complex
-- numbers are not checked (own)
abbrev pub predeclared_meanings : Option ℕ → ObjId → List Meaning
predeclared_meanings iota d =
    AnyType d ∷ BasicType d Bool ∷ BasicType d Uint8 ∷ Predeclared ∷ Predeclared ∷ Predeclared ∷ BasicType d Error ∷
    BasicType d Float32 ∷ BasicType d Float64 ∷ BasicType d Int ∷ BasicType d Int8 ∷ BasicType d Int16 ∷ BasicType d Int32 ∷
    BasicType d Int64 ∷ BasicType d Int32 ∷ BasicType d String ∷ BasicType d Uint ∷ BasicType d Uint8 ∷ BasicType d Uint16 ∷
    BasicType d Uint32 ∷ BasicType d Uint64 ∷ BasicType d Uintptr ∷ Truth d true ∷ Truth d false ∷ Iota d iota ∷ []

abbrev pub predeclared_meaning : Option ℕ → ObjId → Meaning
predeclared_meaning iota d = unwrap_or (slice_get (predeclared_meanings iota d) d.0) Predeclared

-- what an object that is no universe name means, by its kind: a constant, a variable and an alias are asked for their
-- headers, and a defined type is itself
abbrev pub kind_meaning : ObjId → ObjKind → Meaning
kind_meaning d Const = Declared d
kind_meaning d Var = Declared d
kind_meaning d Alias = Declared d
kind_meaning d Defined = DefinedType d
kind_meaning d kind = Other

abbrev pub object_meaning : (ℕ → Option Object) → Option ℕ → ObjId → Meaning
object_meaning objects iota d = if is_predeclared d then predeclared_meaning iota d else option_map_or (λ object. kind_meaning d object.kind) (objects d.0) Other

abbrev pub denoted_meaning : (ℕ → Option Object) → Option ℕ → Option ObjId → Meaning
denoted_meaning objects iota None = Other
denoted_meaning objects iota (Some d) = object_meaning objects iota d

-- what an identifier means, by the number of its node
abbrev pub meaning_by : Naming → ℕ → Meaning
meaning_by names id = denoted_meaning names.objects (names.iota id) (names.denotes id)
