-- What is read off one layer of a type: what an interface literal embeds, whether it adds terms, whether the type is an
-- interface, a pointer type, a type parameter, or a name alone.
use Rattle.std.specs.Prelude.{◌&&◌, Bool, true, false, Option, None, Some, if◌then◌else◌, List, [], ◌∷◌, is_some, not, option_to_list}
use Rattle.std.specs.List.{flat_map, list_any}
use Rattle.go_base.specs.declared.ids.ObjId.{ObjId}
use Rattle.go_term.specs.declared.basic.Basic.{Basic}
use Rattle.go_term.specs.declared.basic.Basic.TheVariants as B
use Rattle.go_term.specs.declared.shape.ElemShape.{ElemShape}
use Rattle.go_term.specs.declared.shape.ElemShape.TheVariants as E
use Rattle.go_term.specs.declared.shape.Shape.{Shape}
use Rattle.go_term.specs.declared.shape.Shape.TheVariants as S
use Rattle.go_term.specs.declared.shape.UnionShape.{UnionShape}
use Rattle.go_term.specs.declared.term.Term.{Term}

-- the type of terms that are one without `~`
abbrev pub only_type : List UnionShape → Option Term
only_type (u ∷ []) = if u.tilde then None else Some u.ty
only_type terms = None

-- the type of an element that is such a term, and the types that an interface literal embeds
abbrev pub type_embedded : ElemShape → Option Term
type_embedded (E.Union terms) = only_type terms.items
type_embedded elem = None

abbrev pub types_embedded : List ElemShape → List Term
types_embedded elems = flat_map (λ elem. option_to_list (type_embedded elem)) elems

abbrev pub types_in : Shape → List Term
types_in (S.Interface elems) = types_embedded elems.items
types_in shape = []

-- the name of a type without type arguments
abbrev pub name_alone : ObjId → List Term → Option ObjId
name_alone d [] = Some d
name_alone d arguments = None

abbrev pub name_in : Shape → Option ObjId
name_in (S.Named d arguments) = name_alone d arguments.items
name_in shape = None

abbrev pub is_parameter_shape : Shape → Bool
is_parameter_shape (S.Param d i) = true
is_parameter_shape shape = false

abbrev pub is_interface_basic : Basic → Bool
is_interface_basic B.Error = true
is_interface_basic B.Comparable = true
is_interface_basic b = false

abbrev pub is_interface_shape : Shape → Bool
is_interface_shape (S.Basic b) = is_interface_basic b
is_interface_shape (S.Interface elems) = true
is_interface_shape shape = false

-- an element with `~` or with several terms, and a type that adds terms to an interface which embeds it
abbrev pub is_terms : ElemShape → Bool
is_terms (E.Union terms) = not (is_some (only_type terms.items))
is_terms elem = false

abbrev pub adds_basic : Basic → Bool
adds_basic B.Error = false
adds_basic b = true

abbrev pub adds_shape : Shape → Bool
adds_shape (S.Basic b) = adds_basic b
adds_shape (S.Interface elems) = list_any is_terms elems.items
adds_shape shape = true

-- what may be embedded, behind a `*` or not, by its underlying type
abbrev pub embeds_shape : Bool → Shape → Bool
embeds_shape starred (S.Pointer t) = false
embeds_shape starred shape = not (starred && is_interface_shape shape)
