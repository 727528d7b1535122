-- Function types; Interface types (Go specification).
-- Decides the parameters and the results of a signature, by the types that stand in it, in source order. "Within a list of
-- parameters or results, the names (IdentifierList) must either all be present or all be absent": where they are present, a
-- parameter that is written as one identifier has the type of the next that has one.
use Rattle.std.specs.Prelude.{ℕ, Bool, true, false, ◌&&◌, if◌then◌else◌, List, [], ◌∷◌, length, take, drop}
use Rattle.std.specs.List.{list_any}
use Rattle.go_tree.specs.declared.node_kind.NodeKind.{NodeKind}
use Rattle.go_tree.specs.declared.node_kind.NodeKind.TheVariants.{Params, UnnamedVariadic, VariadicParam}
use Rattle.go_tree.specs.Tree.{Tree, branch, kind_of, list_of, parts_of}
use Rattle.go_module.specs.Names.Inner.{is_named_param, is_unnamed_param}
use Rattle.go_module.specs.NodeParts.{all_but_first, first_part}
use Rattle.go_operands.specs.Operands.{operands_of}
use Rattle.go_term.specs.Types.{Parts, TypeData, signature_parts}

-- the types of these parameters
abbrev pub param_types : Bool → List Tree → List TypeData → List TypeData
param_types named (p ∷ ps) (t ∷ ts) = t ∷ param_types named ps (if named && is_unnamed_param (kind_of p) then t ∷ ts else ts)
param_types named ps ts = []

abbrev pub list_types : List Tree → List TypeData → List TypeData
list_types params ts = param_types (list_any (λ p. is_named_param (kind_of p)) params) params ts

-- "The final incoming parameter in a function signature may have a type prefixed with ..."
abbrev pub is_dotted : NodeKind → Bool
is_dotted VariadicParam = true
is_dotted UnnamedVariadic = true
is_dotted kind = false

abbrev pub params_of : Tree → List Tree
params_of signature = list_of (parts_of (first_part signature))

abbrev pub is_variadic : Tree → Bool
is_variadic signature = list_any (λ p. is_dotted (kind_of p)) (params_of signature)

-- Result = Parameters | Type .
abbrev pub result_types : List Tree → List TypeData → List TypeData
result_types (branch id from to Params text parts ∷ []) ts = list_types (list_of parts) ts
result_types results ts = ts

-- how many types stand in the parameters
abbrev pub many_params : Tree → ℕ
many_params signature = length (operands_of (first_part signature))

abbrev pub types_in : Tree → List TypeData → Parts
types_in signature ts =
    signature_parts (list_types (params_of signature) (take (many_params signature) ts))
    (result_types (all_but_first (parts_of signature)) (drop (many_params signature) ts))
