-- Underlying types; Type definitions; Type parameter declarations (Go specification).
-- Decides what the underlying type of a type is, over the headers that are known: that of a predeclared boolean, numeric or
-- string type or a type literal is the type itself, that of `error` the interface that it is, that of a type that a
-- declaration defines is "the underlying type of the type to which T refers in its declaration", and that of a type parameter
-- is the underlying type of its constraint. A chain of such steps that comes back to a declaration, or to a type parameter,
-- has none, nor has one that leads to a type past the limits. Declarations and type parameters are objects, of which there
-- are at most 2 ^ 64, so a chain of more steps comes back to one.
use Rattle.std.specs.Prelude.{ℕ, zero, suc, ◌+◌, ◌^◌, ◌==◌, ◌&&◌, Bool, true, false, Option, Some, None, List, [], ◌∷◌, if◌then◌else◌, length, slice_get, codes}
use Rattle.std.specs.List.{list_any}
use Rattle.std.specs.Option.{option_map}
use Rattle.go_base.specs.declared.ids.ObjId.{ObjId}
use Rattle.go_term.specs.Size.{size_fault}
use Rattle.go_term.specs.Substitution.{subst}
use Rattle.go_term.specs.Types.{Head, basic, interface_type, named, param, method, MethodHead, TypeData, Parts, made, no_parts, more_parts, list_of, basic_type, signature_parts}
use Rattle.go_term.specs.declared.basic.Basic.TheVariants as B
use Rattle.go_term.specs.declared.fault.TermFault.{TermFault}
use Rattle.go_judge.specs.Records.{HeaderData, ParamData, definition, func}
use Rattle.go_judge.specs.Quests.{Quest, Done, Need}

-- where a chain ends
pub data Reach : Type 0 where
  -- at a type that refers to no other
  Reaches : TypeData → Reach
  -- nowhere: it comes back to a declaration or a type parameter
  Returns : Reach
  -- at a type that is too deep or too large
  Exceeds : TermFault → Reach

abbrev pub Reaching : Type 0
Reaching = Quest HeaderData Reach

-- the type parameters of a declaration, the first of which has this place
abbrev pub params_from : ObjId → ℕ → List ParamData → List (ObjId × ℕ)
params_from d i [] = []
params_from d i (p ∷ ps) = (d, i) ∷ params_from d (i + 1) ps

-- the right side of a type definition with these type arguments; none of what defines no type, or has other parameters
abbrev pub right_side : ObjId → List TypeData → HeaderData → Option TypeData
right_side d args (definition params right methods) =
    if length params == length args then Some (subst (params_from d 0 params) args right) else None
right_side d args header = None

-- the constraint of the type parameter at a place of a declaration
abbrev pub constraint_of : ℕ → HeaderData → Option TypeData
constraint_of i (definition params right methods) = option_map (λ p. p.constraint) (slice_get params i)
constraint_of i (func params type) = option_map (λ p. p.constraint) (slice_get params i)
constraint_of i header = None

-- the type to which a type refers, by the header of the declaration that it names
abbrev pub refers_to : Head → Parts → HeaderData → Option TypeData
refers_to (named d) args header = right_side d (list_of args) header
refers_to (param d i) parts header = constraint_of i header
refers_to head parts header = None

-- where a named type is declared: the declaration, and for a type parameter its place there
abbrev pub Origin : Type 0
Origin = ObjId × Option ℕ

-- where a type of this head is declared, if it is a named type; the header says to which type it refers
abbrev pub declared_by : Head → Option Origin
declared_by (named d) = Some (d, None)
declared_by (param d i) = Some (d, Some i)
declared_by head = None

abbrev pub same_place : Option ℕ → Option ℕ → Bool
same_place None None = true
same_place (Some i) (Some j) = i == j
same_place i j = false

abbrev pub same_origin : Origin → Origin → Bool
same_origin o p = (o.0.0 == p.0.0) && same_place o.1 p.1

-- `error` is the interface with the one method `Error() string`, which has the object 44
abbrev pub error_method : MethodHead
error_method = record { object = record { 0 = 44 }; name = codes "Error"; «package» = []; variadic = false }

abbrev pub error_interface : TypeData
error_interface = made interface_type (more_parts (made (method error_method) (signature_parts [] (basic_type B.String ∷ []))) no_parts)

-- the type at which a chain ends: a type itself, of `error` the interface that it is
abbrev pub literal_of : Head → Parts → TypeData
literal_of (basic B.Error) parts = error_interface
literal_of head parts = made head parts

-- on with the type to which t refers, where there is one that is not too deep or too large
abbrev pub on_with : (TypeData → Reaching) → TypeData → Option TypeData → Reaching
on_with go t None = Done (Reaches t)
on_with go t (Some next) = elim (size_fault next) [ Some fault ↦ Done (Exceeds fault) | None ↦ go next ]

-- by the declaration whose header is asked; the chain has come through those of the path
abbrev pub step_by : (List Origin → TypeData → Reaching) → List Origin → Head → Parts → Option Origin → Reaching
step_by go path head parts None = Done (Reaches (literal_of head parts))
step_by go path head parts (Some o) =
    if list_any (same_origin o) path then Done Returns
    else Need o.0.0 (λ header. on_with (go (o ∷ path)) (made head parts) (refers_to head parts header))

-- where the chain from a type leads, in at most so many steps, that has come through the named types of the path
abbrev pub under_from : ℕ → List Origin → TypeData → Reaching
under_from zero path t = Done Returns
under_from (suc n) path (made head parts) = step_by (under_from n) path head parts (declared_by head)

-- one more than there are numbers of objects
unfoldable pub most_steps : ℕ
most_steps = 2 ^ 64 + 1

-- where the chain from a type leads
abbrev pub under : TypeData → Reaching
under t = under_from most_steps [] t
