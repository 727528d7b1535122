-- Function types; Function declarations; Method declarations (Go specification).
-- Decides which lists of parameters break the rules on their form, and where: names that only some
-- parameters have, `...` at a parameter that may not have it, receivers, and methods with type
-- parameters.
use Rattle.std.specs.Prelude.{ℕ, Bool, true, false, not, ◌&&◌, ◌||◌, List, [], ◌∷◌, ◌++◌}
use Rattle.std.specs.List.{list_any, flat_map}
use Rattle.go_tree.specs.declared.node_kind.NodeKind.TheVariants.{MethodDecl, TypeParams, Signature, Params, Param, VariadicParam, UnnamedParam, UnnamedVariadic}
use Rattle.go_tree.specs.Tree.{Tree, branch, Trees, no_trees, more_trees, list_of, parts_of}
use Rattle.go_tree.specs.Grammar.Trees.TypeTrees.{is_name}
use Rattle.go_module.specs.NodeParts.{all_but_first}
use Rattle.go_form.specs.Families.Nodes.{place_if}

-- `x T` and `x ...T`
abbrev pub has_name : Tree → Bool
has_name (branch id from to Param text parts) = true
has_name (branch id from to VariadicParam text parts) = true
has_name t = false

-- `x ...T` and `...T`
abbrev pub has_dots : Tree → Bool
has_dots (branch id from to VariadicParam text parts) = true
has_dots (branch id from to UnnamedVariadic text parts) = true
has_dots t = false

-- `x`: beside parameters that have names a name without its type, else a type
abbrev pub is_one_identifier : Tree → Bool
is_one_identifier (branch id from to UnnamedParam text (more_trees part no_trees)) = is_name part
is_one_identifier t = false

-- a type that cannot be read as a name
abbrev pub is_type_alone : Tree → Bool
is_type_alone p = not (has_name p || is_one_identifier p)

-- the last parameter is one identifier, so no type follows it
abbrev pub ends_in_identifier : List Tree → Bool
ends_in_identifier [] = false
ends_in_identifier (p ∷ []) = is_one_identifier p
ends_in_identifier (p ∷ (q ∷ qs)) = ends_in_identifier (q ∷ qs)

-- the parameters have names
abbrev pub are_named : List Tree → Bool
are_named params = list_any has_name params

-- "Within a list of parameters or results, the names (IdentifierList) must either all be present or all
-- be absent."
abbrev pub are_mixed : List Tree → Bool
are_mixed params = are_named params && (list_any is_type_alone params || ends_in_identifier params)

abbrev pub mixed_parameters_at : Tree → List ℕ
mixed_parameters_at (branch id from to Params text parts) = place_if (are_mixed (list_of parts)) (branch id from to Params text parts)
mixed_parameters_at t = []

-- The first of the parameters has `...`: its own, or that of the next where it is a name without its
-- type, since it has the type of the next. `named` says whether the list has names.
abbrev pub is_variadic : Bool → List Tree → Bool
is_variadic named [] = false
is_variadic named (p ∷ ps) = has_dots p || (named && (is_one_identifier p && is_variadic named ps))

abbrev pub is_none : List Tree → Bool
is_none [] = true
is_none (p ∷ ps) = false

-- the parameters that have `...`, without the last where that one may have it
abbrev pub variadics : (last_may named : Bool) → List Tree → List ℕ
variadics last_may named [] = []
variadics last_may named (p ∷ ps) =
    place_if (is_variadic named (p ∷ ps) && not (last_may && is_none ps)) p ++ variadics last_may named ps

-- "The final incoming parameter in a function signature may have a type prefixed with ..."
abbrev pub variadic_parameters : Trees → List ℕ
variadic_parameters no_trees = []
variadic_parameters (more_trees params results) =
    variadics true (are_named (list_of (parts_of params))) (list_of (parts_of params))

-- a result is no incoming parameter
abbrev pub variadic_results : Tree → List ℕ
variadic_results (branch id from to Params text parts) = variadics false (are_named (list_of parts)) (list_of parts)
variadic_results t = []

-- the parameters of a signature, and those of its result if it has a list of them; a receiver's list
-- stands in no signature
abbrev pub misplaced_variadics_at : Tree → List ℕ
misplaced_variadics_at (branch id from to Signature text parts) =
    variadic_parameters parts ++ flat_map variadic_results (all_but_first parts)
misplaced_variadics_at t = []

-- "That parameter section must declare a single non-variadic parameter, the receiver."
abbrev pub is_receiver : List Tree → Bool
is_receiver (p ∷ []) = not (has_dots p)
is_receiver params = false

abbrev pub receiver_list : Tree → List ℕ
receiver_list params = place_if (not (is_receiver (list_of (parts_of params)))) params

abbrev pub bad_receiver_list_at : Tree → List ℕ
bad_receiver_list_at (branch id from to MethodDecl text (more_trees params parts)) = receiver_list params
bad_receiver_list_at t = []

abbrev pub type_params : Tree → List ℕ
type_params (branch id from to TypeParams text parts) = from ∷ []
type_params t = []

-- MethodDecl = "func" Receiver MethodName Signature [ FunctionBody ] : it has no type parameters.
abbrev pub generic_method_at : Tree → List ℕ
generic_method_at (branch id from to MethodDecl text parts) = flat_map type_params (list_of parts)
generic_method_at t = []
