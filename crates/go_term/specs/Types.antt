-- Types (Go specification).
-- Says what a type is, as plain data: a head and its parts. Heads from `list` on are those of no type: they hold the
-- parts of functions, structs and interfaces. How a type is written is left to `Text` of go_model, which knows the
-- names of objects.
use Rattle.std.specs.Prelude.{ℕ, Bool, List, [], ◌∷◌}
use Rattle.go_base.specs.declared.ids.ObjId.{ObjId}
use Rattle.go_term.specs.declared.basic.Basic.{Basic}
use Rattle.go_term.specs.declared.term.Dir.{Dir}

-- a field, but for its type
pub record FieldHead : Type 0 where
  pub object : ObjId
  pub name : List ℕ
  pub «package» : List ℕ
  pub embedded : Bool
  pub tag : List ℕ

-- a method of an interface, but for its parameters and results
pub record MethodHead : Type 0 where
  pub object : ObjId
  pub name : List ℕ
  pub «package» : List ℕ
  pub variadic : Bool

-- what stands at a type, but for its parts
pub data Head : Type 0 where
  -- a predeclared type, or the kind of an untyped constant
  basic : Basic → Head
  -- *T, []T, [n]T, map[K]V, and a channel in these directions: the parts are the types in them
  pointer slice : Head
  array : ℕ → Head
  map_type : Head
  channel : Dir → Head
  -- a function, variadic or not: the parts are the list of its parameters and that of its results
  function : Bool → Head
  -- a struct and an interface: the parts are fields and elements
  struct_type interface_type : Head
  -- several values
  tuple : Head
  -- the type that a declaration defines: the parts are its type arguments
  named : ObjId → Head
  -- a type parameter of a declaration, and one of an inference, by its place
  param : ObjId → ℕ → Head
  bound : ℕ → Head
  -- parameters or results
  list : Head
  -- a field: the part is its type
  field : FieldHead → Head
  -- a method: the parts are the list of its parameters and that of its results
  method : MethodHead → Head
  -- a union, whose parts are its terms; and a term, with `~` or without, whose part is its type
  union : Head
  union_term : Bool → Head

mutual
  pub data TypeData : Type 0 where
    made : Head → Parts → TypeData

  pub data Parts : Type 0 where
    no_parts : Parts
    more_parts : TypeData → Parts → Parts

abbrev pub parts_of : List TypeData → Parts
parts_of [] = no_parts
parts_of (t ∷ ts) = more_parts t (parts_of ts)

abbrev pub list_of : Parts → List TypeData
list_of no_parts = []
list_of (more_parts t ts) = t ∷ list_of ts

-- types by their heads
abbrev pub basic_type : Basic → TypeData
basic_type b = made (basic b) no_parts

abbrev pub of_one : Head → TypeData → TypeData
of_one head t = made head (more_parts t no_parts)

abbrev pub of_two : Head → TypeData → TypeData → TypeData
of_two head t u = made head (more_parts t (more_parts u no_parts))

abbrev pub of_list : Head → List TypeData → TypeData
of_list head ts = made head (parts_of ts)

-- parameters and results as the parts of a function or a method
abbrev pub signature_parts : List TypeData → List TypeData → Parts
signature_parts params results = more_parts (of_list list params) (more_parts (of_list list results) no_parts)
