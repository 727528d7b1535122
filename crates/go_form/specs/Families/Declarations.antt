-- Constant declarations; Alias declarations; Type definitions; Array types; Composite literals;
-- Floating-point literals; Imaginary literals (Go specification).
-- Decides which nodes break the rules on the form of declarations, and where: constants without
-- values, an array type `[...]T` that is not the type of a literal, and forms that gocheck does not
-- have: floating-point and imaginary literals, generic aliases, generic types in functions.
use Rattle.std.specs.Prelude.{ℕ, List, [], ◌∷◌}
use Rattle.std.specs.List.{flat_map}
use Rattle.go_tree.specs.declared.node_kind.NodeKind.TheVariants.{File, ConstDecl, ConstGroup, TypeDecl, TypeGroup, GenericTypeSpec, GenericAliasSpec, EllipsisArrayType, CompositeLit, FloatLit}
use Rattle.go_tree.specs.Tree.{Tree, branch, no_trees, more_trees, list_of}
use Rattle.go_module.specs.NodeParts.{all_but_first}

-- a spec that has its names alone
abbrev pub names_alone : Tree → List ℕ
names_alone (branch id from to kind text (more_trees names no_trees)) = from ∷ []
names_alone t = []

-- "Within a parenthesized const declaration list the expression list may be omitted from any but the
-- first ConstSpec." Outside a list there is no spec before it either.
abbrev pub missing_values_at : Tree → List ℕ
missing_values_at (branch id from to ConstDecl text (more_trees spec specs)) = names_alone spec
missing_values_at (branch id from to ConstGroup text (more_trees spec specs)) = names_alone spec
missing_values_at t = []

abbrev pub open_array_place : Tree → List ℕ
open_array_place (branch id from to EllipsisArrayType text parts) = from ∷ []
open_array_place t = []

-- the parts of a node but the type of a literal
abbrev pub parts_but_literal_type : Tree → List Tree
parts_but_literal_type (branch id from to CompositeLit text parts) = all_but_first parts
parts_but_literal_type (branch id from to kind text parts) = list_of parts

-- "The notation ... specifies an array length equal to the maximum element index plus one", of a
-- composite literal: such a type stands nowhere else.
abbrev pub open_array_types_at : Tree → List ℕ
open_array_types_at t = flat_map open_array_place (parts_but_literal_type t)

-- own: values of floating-point and complex types are not computed
abbrev pub float_literal_at : Tree → List ℕ
float_literal_at (branch id from to FloatLit text parts) = from ∷ []
float_literal_at t = []

-- AliasDecl = identifier "=" Type . : it has no type parameters. The spec begins with its name.
abbrev pub generic_alias_at : Tree → List ℕ
generic_alias_at (branch id from to GenericAliasSpec text parts) = from ∷ []
generic_alias_at t = []

-- a spec with type parameters, which begins with its name
abbrev pub generic_spec : Tree → List ℕ
generic_spec (branch id from to GenericTypeSpec text parts) = from ∷ []
generic_spec (branch id from to GenericAliasSpec text parts) = from ∷ []
generic_spec t = []

-- the specs of a type declaration
abbrev pub type_specs : Tree → List Tree
type_specs (branch id from to TypeDecl text parts) = list_of parts
type_specs (branch id from to TypeGroup text parts) = list_of parts
type_specs t = []

-- the parts of a node that is no file: declarations among them are local
abbrev pub local_parts : Tree → List Tree
local_parts (branch id from to File text parts) = []
local_parts (branch id from to kind text parts) = list_of parts

-- own: type declarations in functions have no type parameters
abbrev pub local_generic_types_at : Tree → List ℕ
local_generic_types_at t = flat_map (λ declared. flat_map generic_spec (type_specs declared)) (local_parts t)
