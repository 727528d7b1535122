-- Interface types (Go specification).
-- Decides what is asked of an interface with these elements in the package of this path, which has so many
-- operands: the types in the signatures of its methods and in its unions, in source order.
-- InterfaceElem = MethodElem | TypeElem . What its elements break together, as two methods of one name, and where an
-- interface with terms may stand, is left to `Obliged`.
use Rattle.std.specs.Prelude.{ℕ, Bool, true, false, List, [], ◌∷◌, ◌++◌, drop, length, map, take}
use Rattle.go_tree.specs.declared.node_kind.NodeKind.{NodeKind}
use Rattle.go_tree.specs.declared.node_kind.NodeKind.TheVariants.{MethodElem, TildeType, Union}
use Rattle.go_tree.specs.Tree.{Tree, branch, id_of, kind_of, list_of, more_trees, no_trees}
use Rattle.go_module.specs.Names.Declarations.{name_text}
use Rattle.go_operands.specs.Operands.{operands_of}
use Rattle.go_term.specs.Types.{TypeData, interface_type, made, method, of_list, of_one as part_of_one, union, union_term}
use Rattle.go_judge.specs.Limits.{makes_of}
use Rattle.go_judge.specs.Judged.{Construct}
use Rattle.go_judge.specs.Operands.{of_all, type_or_none}
use Rattle.go_judge.specs.Records.{HeaderData, RecData}
use Rattle.go_constructs.specs.Signatures.{is_variadic, types_in}

abbrev pub is_tilde : NodeKind → Bool
is_tilde TildeType = true
is_tilde kind = false

-- TypeTerm = Type | UnderlyingType . UnderlyingType = "~" Type .
abbrev pub terms_in : List Tree → List TypeData → List TypeData
terms_in (term ∷ terms) (t ∷ ts) = part_of_one (union_term (is_tilde (kind_of term))) t ∷ terms_in terms ts
terms_in terms ts = []

-- an element, by the types in it: MethodElem = MethodName Signature . TypeElem = TypeTerm { "|" TypeTerm } .
abbrev pub elem_in : List ℕ → Tree → List TypeData → List TypeData
elem_in home (branch id from to MethodElem text (more_trees name (more_trees signature no_trees))) ts =
    made (method (record { object = record { 0 = id_of name }; name = name_text name; «package» = home; variadic = is_variadic signature })) (types_in signature ts) ∷ []
elem_in home (branch id from to Union text terms) ts = of_list union (terms_in (list_of terms) ts) ∷ []
elem_in home elem ts = []

-- each element, by as many types as stand in it
abbrev pub elems_in : List ℕ → List Tree → List TypeData → List TypeData
elems_in home [] ts = []
elems_in home (elem ∷ elems) ts = elem_in home elem (take (length (operands_of elem)) ts) ++ elems_in home elems (drop (length (operands_of elem)) ts)

abbrev pub interface_of : List ℕ → ℕ → List Tree → Construct HeaderData RecData
interface_of home many elems = of_all many
    (λ rs. makes_of rs (of_list interface_type (elems_in home elems (map type_or_none rs))))
