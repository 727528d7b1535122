-- Predeclared identifiers (Go specification).
-- Decides which objects the universe block declares: "the following identifiers are implicitly declared in the
-- universe block", under the headings of that list.
use Rattle.std.specs.Prelude.{ℕ, ◌+◌, List, [], ◌∷◌, ◌++◌, codes, None}
use Rattle.go_module.specs.declared.block.Region.{Region}
use Rattle.go_module.specs.declared.block.Block.TheVariants.{Universe}
use Rattle.go_module.specs.declared.object.ObjKind.{ObjKind}
use Rattle.go_module.specs.declared.object.ObjKind.TheVariants.{Const, Defined, Alias, Builtin, Nil}
use Rattle.go_module.specs.declared.object.Object.{Object}

-- an identifier, and what it denotes
abbrev pub Predeclared : Type 0
Predeclared = List ℕ × ObjKind

abbrev pub alias : List ℕ → Predeclared
alias name = (name, Alias)

abbrev pub defined : List ℕ → Predeclared
defined name = (name, Defined)

abbrev pub constant : List ℕ → Predeclared
constant name = (name, Const)

abbrev pub builtin : List ℕ → Predeclared
builtin name = (name, Builtin)

-- "Types": byte and rune are aliases of uint8 and int32, and any of interface{}
abbrev pub types : List Predeclared
types =
    alias (codes "any") ∷ defined (codes "bool") ∷ alias (codes "byte") ∷ defined (codes "comparable") ∷
    defined (codes "complex64") ∷ defined (codes "complex128") ∷ defined (codes "error") ∷ defined (codes "float32") ∷
    defined (codes "float64") ∷ defined (codes "int") ∷ defined (codes "int8") ∷ defined (codes "int16") ∷
    defined (codes "int32") ∷ defined (codes "int64") ∷ alias (codes "rune") ∷ defined (codes "string") ∷
    defined (codes "uint") ∷ defined (codes "uint8") ∷ defined (codes "uint16") ∷ defined (codes "uint32") ∷
    defined (codes "uint64") ∷ defined (codes "uintptr") ∷ []

-- "Constants"
abbrev pub constants : List Predeclared
constants = constant (codes "true") ∷ constant (codes "false") ∷ constant (codes "iota") ∷ []

-- "Zero value"
abbrev pub zero_value : List Predeclared
zero_value = (codes "nil", Nil) ∷ []

-- "Functions"
abbrev pub functions : List Predeclared
functions =
    builtin (codes "append") ∷ builtin (codes "cap") ∷ builtin (codes "clear") ∷ builtin (codes "close") ∷
    builtin (codes "complex") ∷ builtin (codes "copy") ∷ builtin (codes "delete") ∷ builtin (codes "imag") ∷
    builtin (codes "len") ∷ builtin (codes "make") ∷ builtin (codes "max") ∷ builtin (codes "min") ∷
    builtin (codes "new") ∷ builtin (codes "panic") ∷ builtin (codes "print") ∷ builtin (codes "println") ∷
    builtin (codes "real") ∷ builtin (codes "recover") ∷ []

abbrev pub predeclared : List Predeclared
predeclared = types ++ (constants ++ (zero_value ++ functions))

-- own: a universe name has its place in that list as its number; it is of no node and of no package
abbrev pub universe_object : ℕ → Predeclared → Object
universe_object i p = record { name = p.0; kind = p.1; at = record { 0 = i }; «package» = 0; params = 0 }

abbrev pub universe_region : ℕ → Predeclared → Region
universe_region i p = record { block = Universe; object = universe_object i p; file = 0; at = 0; import = None; denotes = None }

abbrev pub universe_from : ℕ → List Predeclared → List Region
universe_from i [] = []
universe_from i (p ∷ ps) = universe_region i p ∷ universe_from (i + 1) ps

unfoldable pub universe : List Region
universe = universe_from 0 predeclared
