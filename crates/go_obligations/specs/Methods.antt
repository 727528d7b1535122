-- What the methods of the program stand for, where types stand for these trees, and whether their types are a judge's own.
use Rattle.std.specs.Prelude.{◌≡◌, List, []}
use Rattle.std.specs.List.{AllByRecursion}
use Rattle.go_term.specs.Types.{Parts, TypeData, made}
use Rattle.go_term.specs.declared.shape.ElemShape.{ElemShape}
use Rattle.go_term.specs.declared.shape.Shape.{Shape}
use Rattle.go_term.specs.declared.shape.Shape.TheVariants.{Interface}
use Rattle.go_term.specs.declared.term.Term.{Term}
use Rattle.go_model.specs.Obligations.Methods.{OwnMethod, signature_of}
use Rattle.go_obligations.specs.declared.methods.Method.{Method}

abbrev pub parts_in : TypeData → Parts
parts_in (made head parts) = parts

abbrev pub method_view : (Term → TypeData) → Method → OwnMethod
method_view tree m = record {
  head = record { object = m.object; name = m.name; «package» = m.«package»; variadic = m.variadic };
  parts = parts_in (tree m.signature);
}

-- the type of a method is one of these, and that of a function with its parameters and results
abbrev pub IsOwnMethod : (Term → Type 0) → (Term → TypeData) → Method → Type 0
IsOwnMethod own tree m = own m.signature × (tree m.signature ≡ signature_of (method_view tree m))

abbrev pub AreOwnMethods : (Term → Type 0) → (Term → TypeData) → List Method → Type 0
AreOwnMethods own tree methods = AllByRecursion (IsOwnMethod own tree) methods

-- the elements of an interface of this form; another type has none
abbrev pub elements_in : Shape → List ElemShape
elements_in (Interface elems) = elems.items
elements_in shape = []
