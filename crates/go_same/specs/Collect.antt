-- How the set of an interface is collected: from one element or term to the next, by what stands at each type.
use Rattle.std.specs.Prelude.{◌≡◌, ◌≤◌, ℕ, zero, suc, Bool, true, false, Option, None, Some, map}
use Rattle.std.specs.List.{AllByRecursion}
use Rattle.std.specs.Option.{option_map}
use Rattle.go_term.specs.Shapes.{elem_tree}
use Rattle.go_term.specs.Size.{depth, most_depth}
use Rattle.go_term.specs.Types.{Head, TypeData, interface_type, made, of_list, param, parts_of}
use Rattle.go_term.specs.declared.basic.Basic.{Basic}
use Rattle.go_term.specs.declared.basic.Basic.TheVariants as B
use Rattle.go_term.specs.declared.shape.Shape.{Shape}
use Rattle.go_term.specs.declared.shape.Shape.TheVariants as S
use Rattle.go_term.specs.declared.term.Term.{Term}
use Rattle.go_judge.specs.Types.Own.{IsOwnElem}
use Rattle.go_judge.specs.Types.TypeSets.{SetAsked, SetData, all_types, elements_set, error_set, is_interface, named_set, plain_all, set_of, term_set}
use Rattle.go_judge.specs.Quests.{Asked, Decided, Lacks, Done}
use Rattle.go_judge.specs.declared.form.Form.{Form}
use Rattle.go_judge.specs.declared.form.Form.TheVariants as F
use Rattle.go_same.specs.Joins.{IsRaisable, IsRaised}
use Rattle.go_same.specs.declared.kind.TypeKind.{TypeKind}
use Rattle.go_same.specs.declared.kind.TypeKind.TheVariants as K
use Rattle.go_same.specs.declared.set.FoundSet.{FoundSet}
use Rattle.go_same.specs.declared.set.FoundSet.TheVariants as Found

-- what was asked of a question, and then what is asked by its answer
abbrev pub asked_then : {A B : Type 0} → Asked A → (A → Asked B) → Asked B
asked_then (Decided a) next = next a
asked_then (Lacks d) next = Lacks d

-- what was asked of two sets, joined: the second counts where there is a first
abbrev pub asked_joined_to : (SetData → SetData → SetData) → Asked (Option SetData) → Option SetData → Asked (Option SetData)
asked_joined_to join b None = Decided None
asked_joined_to join b (Some x) = asked_then b (λ o. Decided (option_map (join x) o))

abbrev pub asked_joined : (SetData → SetData → SetData) → Asked (Option SetData) → Asked (Option SetData) → Asked (Option SetData)
asked_joined join a b = asked_then a (asked_joined_to join b)

-- the same, where there may be no first one
abbrev pub asked_after : (SetData → SetData → SetData) → Option (Asked (Option SetData)) → Asked (Option SetData) → Asked (Option SetData)
asked_after join None b = b
asked_after join (Some a) b = asked_joined join a b

-- the set of an interface to which a name leads, where so many names may be opened
abbrev pub opening_within : ℕ → TypeData → SetAsked
opening_within zero t = Done None
opening_within (suc n) t = set_of n t

-- what stands at a type
abbrev pub basic_kind : Basic → TypeKind
basic_kind B.Error = K.Error
basic_kind B.Comparable = K.Comparable
basic_kind b = K.Other

abbrev pub kind_of : Shape → TypeKind
kind_of (S.Interface elems) = K.Literal elems
kind_of (S.Basic b) = basic_kind b
kind_of (S.Named d ts) = K.Name
kind_of (S.Param d i) = K.Name
kind_of shape = K.Other

abbrev pub is_interface_kind : TypeKind → Bool
is_interface_kind K.Name = false
is_interface_kind K.Other = false
is_interface_kind kind = true

-- the set of a type at which that stands
abbrev pub kind_set : (TypeData → SetAsked) → (Term → TypeData) → TypeData → TypeKind → SetAsked
kind_set opening tree t (K.Literal elems) = elements_set opening (plain_all (parts_of (map (elem_tree tree) elems.items)))
kind_set opening tree t K.Error = Done (Some error_set)
kind_set opening tree t K.Comparable = Done (Some (record all_types { comparable = true }))
kind_set opening tree t K.Name = named_set opening t
kind_set opening tree t K.Other = Done (Some (term_set false t))

abbrev pub HasElements : (Term → TypeData) → TypeData → TypeKind → Type 0
HasElements tree t (K.Literal elems) = t ≡ of_list interface_type (map (elem_tree tree) elems.items)
HasElements tree t kind = Unit {0}

abbrev pub is_param_head : Head → Bool
is_param_head (param d i) = true
is_param_head head = false

-- a type parameter
abbrev pub is_param : TypeData → Bool
is_param (made head parts) = is_param_head head

abbrev pub is_param_shape : Shape → Bool
is_param_shape (S.Param d i) = true
is_param_shape shape = false

-- a name or a type parameter
abbrev pub is_name_shape : Shape → Bool
is_name_shape (S.Named d ts) = true
is_name_shape (S.Param d i) = true
is_name_shape shape = false

-- that stands at the type
pub record IsKindOf (tree : Term → TypeData) (t : TypeData) (kind : TypeKind) : Type 0 where
  pub interface : is_interface t ≡ is_interface_kind kind
  pub literal : HasElements tree t kind

abbrev pub IsOwnKind : (Term → Type 0) → TypeKind → Type 0
IsOwnKind own (K.Literal elems) = AllByRecursion (IsOwnElem own) elems.items
IsOwnKind own kind = Unit {0}

-- an interface to which a name leads is not too deep
abbrev pub IsShallow : TypeData → Type 0
IsShallow t = is_interface t ≡ true → depth t ≤ most_depth

abbrev pub IsShallowForm : (Term → TypeData) → Form → Type 0
IsShallowForm tree (F.Is t) = IsShallow (tree t)
IsShallowForm tree form = Unit {0}

-- a found set that can be one name deeper, and one that is
abbrev pub IsRaisableFound : FoundSet → Type 0
IsRaisableFound (Found.Is s) = IsRaisable s
IsRaisableFound found = Unit {0}

abbrev pub IsRaisedFound : FoundSet → FoundSet → Type 0
IsRaisedFound (Found.Is a) (Found.Is s) = IsRaised a s
IsRaisedFound (Found.Is a) found = ⊥
IsRaisedFound a found = found ≡ a
