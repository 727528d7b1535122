-- The type that a term stands for.
use Rattle.std.specs.Prelude.{Bool}
use Rattle.go_term.specs.declared.term.Term.{Term}
use Rattle.go_term.specs.declared.term.FuncTerm.{FuncTerm}
use Rattle.go_term.specs.declared.term.FieldTerm.{FieldTerm}
use Rattle.go_term.specs.declared.term.ElemTerm.{ElemTerm}
use Rattle.go_term.specs.declared.term.UnionTerm.{UnionTerm}
use Rattle.go_term.specs.declared.term.ElemTerm.TheOpen as Open
use Rattle.go_term.specs.declared.term.ElemTerm.TheFolds.{fold-Term, fold-ElemTerm, fold-FieldTerm, fold-FuncTerm, fold-UnionTerm}
use Rattle.go_term.specs.Types.{TypeData, Parts, basic, pointer, slice, array, map_type, channel, function, struct_type, interface_type, tuple, named, param, bound, field, method, union, union_term, made, no_parts, of_one, of_two, of_list, signature_parts}

-- a signature: whether it is variadic, and the parts that it has in a function or a method
pub record SignatureData : Type 0 where
  pub variadic : Bool
  pub parts : Parts

abbrev pub term_step : Open.Term-F TypeData TypeData TypeData SignatureData TypeData → TypeData
term_step (Open.Basic b) = made (basic b) no_parts
term_step (Open.Pointer t) = of_one pointer t.value
term_step (Open.Slice t) = of_one slice t.value
term_step (Open.Array n t) = of_one (array n) t.value
term_step (Open.Map k v) = of_two map_type k.value v.value
term_step (Open.Chan d t) = of_one (channel d) t.value
term_step (Open.Func f) = made (function f.variadic) f.parts
term_step (Open.Struct fs) = of_list struct_type fs.items
term_step (Open.Interface es) = of_list interface_type es.items
term_step (Open.Tuple ts) = of_list tuple ts.items
term_step (Open.Named d ts) = of_list (named d) ts.items
term_step (Open.Param d i) = made (param d i) no_parts
term_step (Open.Bound k) = made (bound k) no_parts

abbrev pub func_step : Open.FuncTerm-F TypeData TypeData TypeData SignatureData TypeData → SignatureData
func_step f = record { variadic = f.variadic; parts = signature_parts f.params.items f.results.items }

abbrev pub field_step : Open.FieldTerm-F TypeData TypeData TypeData SignatureData TypeData → TypeData
field_step f = of_one (field (record { object = f.object; name = f.name; «package» = f.«package»; embedded = f.embedded; tag = f.tag })) f.ty

abbrev pub elem_step : Open.ElemTerm-F TypeData TypeData TypeData SignatureData TypeData → TypeData
elem_step (Open.Method d n p f) = made (method (record { object = d; name = n; «package» = p; variadic = f.variadic })) f.parts
elem_step (Open.Union us) = of_list union us.items

abbrev pub union_step : Open.UnionTerm-F TypeData TypeData TypeData SignatureData TypeData → TypeData
union_step u = of_one (union_term u.tilde) u.ty

abbrev pub type_of : Term → TypeData
type_of = fold-Term TypeData TypeData TypeData SignatureData TypeData elem_step term_step field_step func_step union_step

abbrev pub field_of : FieldTerm → TypeData
field_of = fold-FieldTerm TypeData TypeData TypeData SignatureData TypeData elem_step term_step field_step func_step union_step

abbrev pub elem_of : ElemTerm → TypeData
elem_of = fold-ElemTerm TypeData TypeData TypeData SignatureData TypeData elem_step term_step field_step func_step union_step

abbrev pub union_term_of : UnionTerm → TypeData
union_term_of = fold-UnionTerm TypeData TypeData TypeData SignatureData TypeData elem_step term_step field_step func_step union_step

abbrev pub signature_of : FuncTerm → SignatureData
signature_of = fold-FuncTerm TypeData TypeData TypeData SignatureData TypeData elem_step term_step field_step func_step union_step
