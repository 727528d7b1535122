-- Array types; Struct types (Go specification).
-- Decides which type definitions of a package contain themselves. "An array type T may not have an element of type T, or of
-- a type containing T as a component, directly or indirectly, if those containing types are only array or struct types"; "A
-- struct type T may not contain a field of type T", likewise. A type whose header is not known contains nothing, and a type
-- of another package never leads back.
use Rattle.std.specs.Prelude.{◌≡◌, ◌↔◌, ℕ, Bool, true, Some, List, [], ◌∷◌, ◌++◌, Contains, map}
use Rattle.std.specs.List.{flat_map}
use Rattle.go_base.specs.declared.ids.ObjId.{ObjId}
use Rattle.go_base.specs.declared.rule.Broken.{Broken}
use Rattle.go_base.specs.declared.rule.Rule.{Rule}
use Rattle.go_base.specs.declared.rule.Family.TheVariants.{C}
use Rattle.go_tree.specs.Tree.{start_of}
use Rattle.go_cycles.specs.Leading.{Path}
use Rattle.go_module.specs.Broken.{broken_at, told_if}
use Rattle.go_module.specs.Modules.Module.{PackageData}
use Rattle.go_module.specs.Names.Declarations.{Declaration, declarations_of, number_of, numbers_of}
use Rattle.go_module.specs.Order.{IsListOf}
use Rattle.go_module.specs.Places.{with_number}
use Rattle.go_module.specs.declared.object.Method.{Method}
use Rattle.go_term.specs.Types.{Head, Parts, TypeData, array, field, made, more_parts, named, no_parts, struct_type}
use Rattle.go_judge.specs.Records.{ParamData, definition}
use Rattle.go_judge.specs.Headers.{Headers}

abbrev pub contained_type : Rule
contained_type = record { family = C; number = 3 }

-- the defined types that a value of this type holds, by those of its parts: a type that is defined itself, and those of
-- the elements of an array and of the fields of a struct
abbrev pub held_at : Head → List ObjId → List ObjId
held_at (named d) inner = d ∷ []
held_at (array n) inner = inner
held_at struct_type inner = inner
held_at (field f) inner = inner
held_at head inner = []

abbrev mutual
  pub held_in : TypeData → List ObjId
  held_in (made head parts) = held_at head (held_in_each parts)

  pub held_in_each : Parts → List ObjId
  held_in_each no_parts = []
  held_in_each (more_parts t ts) = held_in t ++ held_in_each ts

-- over these headers, among these declarations: a value of the defined type d holds one of the defined type e
pub record Holds (declarations : List Declaration) (headers : Headers) (d e : ℕ) : Type 0 where
  pub params : List ParamData
  pub right : TypeData
  pub methods : List Method
  pub defined : headers d ≡ Some (definition params right methods)
  pub among : Contains (numbers_of declarations) (record { 0 = d })
  pub held : Contains (held_in right) (record { 0 = e })
  pub target : Contains (numbers_of declarations) (record { 0 = e })

-- "directly or indirectly"
abbrev pub Contained : List Declaration → Headers → ℕ → Type 0
Contained declarations headers d = Path (Holds declarations headers) d d

-- C3: the name of a type definition that contains itself
abbrev pub contained_at : Bool → Declaration → List Broken
contained_at contained d = told_if contained (broken_at d.file (start_of d.name) contained_type)

-- those of a package, in any order
abbrev pub broken_contained : (ℕ → Bool) → PackageData → List Broken
broken_contained contained p = map (with_number p.files) (flat_map (λ d. contained_at (contained (number_of d).0) d) (declarations_of p))

-- the list of a report has exactly these
pub record AreContained (headers : Headers) (p : PackageData) (list : List Broken) : Type 0 where
  pub contained : ℕ → Bool
  pub is_contained : (d : ℕ) → (contained d ≡ true) ↔ Contained (declarations_of p) headers d
  pub is_list : IsListOf (broken_contained contained p) list
