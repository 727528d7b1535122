-- The type that a shape stands for, by what its parts stand for.
use Rattle.std.specs.Prelude.{◌≡◌, Some, map}
use Rattle.go_term.specs.declared.term.Term.{Term}
use Rattle.go_term.specs.declared.fault.TermFault.{TermFault}
use Rattle.go_term.specs.declared.fault.TermFault.TheVariants.{NoMemory}
use Rattle.go_term.specs.Size.{size_fault}
use Rattle.go_term.specs.declared.shape.Shape.{Shape}
use Rattle.go_term.specs.declared.shape.Shape.TheVariants as S
use Rattle.go_term.specs.declared.shape.FuncShape.{FuncShape}
use Rattle.go_term.specs.declared.shape.FieldShape.{FieldShape}
use Rattle.go_term.specs.declared.shape.ElemShape.{ElemShape}
use Rattle.go_term.specs.declared.shape.ElemShape.TheVariants as E
use Rattle.go_term.specs.declared.shape.UnionShape.{UnionShape}
use Rattle.go_term.specs.Types.{TypeData, Parts, basic, pointer, slice, array, map_type, channel, function, struct_type, interface_type, tuple, named, param, bound, field, method, union, union_term, made, no_parts, of_one, of_two, of_list, signature_parts}

module _ (tree : Term → TypeData) where
  abbrev pub func_parts : FuncShape → Parts
  func_parts f = signature_parts (map tree f.params.items) (map tree f.results.items)

  abbrev pub field_tree : FieldShape → TypeData
  field_tree f = of_one (field (record { object = f.object; name = f.name; «package» = f.«package»; embedded = f.embedded; tag = f.tag })) (tree f.ty)

  abbrev pub union_tree : UnionShape → TypeData
  union_tree u = of_one (union_term u.tilde) (tree u.ty)

  abbrev pub elem_tree : ElemShape → TypeData
  elem_tree (E.Method d n p f) = made (method (record { object = d; name = n; «package» = p; variadic = f.variadic })) (func_parts f)
  elem_tree (E.Union us) = of_list union (map union_tree us.items)

  abbrev pub shape_tree : Shape → TypeData
  shape_tree (S.Basic b) = made (basic b) no_parts
  shape_tree (S.Pointer t) = of_one pointer (tree t)
  shape_tree (S.Slice t) = of_one slice (tree t)
  shape_tree (S.Array n t) = of_one (array n) (tree t)
  shape_tree (S.Map k v) = of_two map_type (tree k) (tree v)
  shape_tree (S.Chan d t) = of_one (channel d) (tree t)
  shape_tree (S.Func f) = made (function f.variadic) (func_parts f)
  shape_tree (S.Struct fs) = of_list struct_type (map field_tree fs.items)
  shape_tree (S.Interface es) = of_list interface_type (map elem_tree es.items)
  shape_tree (S.Tuple ts) = of_list tuple (map tree ts.items)
  shape_tree (S.Named d ts) = of_list (named d) (map tree ts.items)
  shape_tree (S.Param d i) = made (param d i) no_parts
  shape_tree (S.Bound k) = made (bound k) no_parts

-- why a type is not made: want of memory, or exactly its size
abbrev pub IsCause : TermFault → TypeData → Type 0
IsCause NoMemory t = Unit {0}
IsCause fault t = size_fault t ≡ Some fault
