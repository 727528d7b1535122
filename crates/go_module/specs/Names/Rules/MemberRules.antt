-- Struct types; Interface types; Function types; Uniqueness of identifiers (Go specification).
-- Decides which names within a type break a rule: P4 among the parameters and results of a signature, P5 among the fields of a
-- struct and the methods of an interface.
use Rattle.std.specs.Prelude.{ℕ, Bool, not, nat_lt, ◌&&◌, if◌then◌else◌, List, [], ◌∷◌, ◌++◌, filter, Option, unwrap_or, count_by}
use Rattle.std.specs.List.{flat_map, list_any}
use Rattle.go_base.specs.declared.rule.Broken.{Broken}
use Rattle.go_base.specs.declared.rule.Family.TheVariants.{P}
use Rattle.go_base.specs.declared.rule.Rule.{Rule}
use Rattle.go_tree.specs.declared.node_kind.NodeKind.TheVariants.{EmbeddedField, EmbeddedPointer, Field, IndexExpr, InterfaceType, MethodElem, Param, Params, SelectorExpr, Signature, StructType, UnnamedParam, VariadicParam}
use Rattle.go_tree.specs.Tree.{Tree, branch, more_trees, no_trees, kind_of, list_of, start_of}
use Rattle.go_module.specs.Broken.{broken_at, told_if}
use Rattle.go_module.specs.Modules.Paths.{same_text}
use Rattle.go_module.specs.Names.Declarations.{Spec, name_text}
use Rattle.go_module.specs.Names.Exported.{is_blank_identifier}
use Rattle.go_module.specs.Names.Inner.{is_named_param, is_tag_kind}
use Rattle.go_module.specs.Names.Occurrences.{nodes_in_parts}
use Rattle.go_module.specs.Names.Rules.BlockRules.{repeated_name}
use Rattle.go_module.specs.NodeParts.{first_part}

abbrev pub repeated_member : Rule
repeated_member = record { family = P; number = 5 }

-- NAMES

abbrev pub all_but_last : List Tree → List Tree
all_but_last [] = []
all_but_last (t ∷ []) = []
all_but_last (t ∷ (u ∷ ts)) = t ∷ all_but_last (u ∷ ts)

-- a type name, without type arguments behind it
abbrev pub type_name : Tree → Tree
type_name (branch id from to IndexExpr text parts) = first_part (branch id from to IndexExpr text parts)
type_name type = type

-- "The unqualified type name acts as the field name": of `q.T` that is `T`
abbrev pub unqualified : Tree → Tree
unqualified (branch id from to SelectorExpr text (more_trees qualifier (more_trees name no_trees))) = name
unqualified type = type

-- FieldDecl = ( IdentifierList Type | EmbeddedField ) [ Tag ] . EmbeddedField = [ "*" ] TypeName [ TypeArgs ] .
abbrev pub field_names : Tree → List Tree
field_names (branch id from to Field text parts) = all_but_last (filter (λ t. not (is_tag_kind (kind_of t))) (list_of parts))
field_names (branch id from to EmbeddedField text (more_trees type tag)) = unqualified (type_name type) ∷ []
field_names (branch id from to EmbeddedPointer text (more_trees type tag)) = unqualified (type_name type) ∷ []
field_names t = []

-- MethodElem = MethodName Signature .
abbrev pub method_names : Tree → List Tree
method_names (branch id from to MethodElem text (more_trees name signature)) = name ∷ []
method_names t = []

abbrev pub param_names : Tree → List Tree
param_names (branch id from to Param text (more_trees name type)) = name ∷ []
param_names (branch id from to VariadicParam text (more_trees name type)) = name ∷ []
param_names (branch id from to UnnamedParam text (more_trees name rest)) = name ∷ []
param_names t = []

-- "Within a list of parameters or results, the names (IdentifierList) must either all be present or all be absent."
abbrev pub names_if_any : List Tree → List Tree
names_if_any params = if list_any (λ t. is_named_param (kind_of t)) params then flat_map param_names params else []

abbrev pub list_names : Tree → List Tree
list_names (branch id from to Params text parts) = names_if_any (list_of parts)
list_names type = []

-- RULES, in the file at a place among those of its package, where what is broken is told at this offset or, with none, where it is

module _ (file : ℕ) (told_at : Option ℕ) where
  abbrev pub broken_name : Rule → Tree → Broken
  broken_name rule name = broken_at file (unwrap_or told_at (start_of name)) rule

  -- it stands several times among these and is not blank
  abbrev pub is_several : List Tree → Tree → Bool
  is_several names name = not (is_blank_identifier (name_text name)) && nat_lt 1 (count_by (λ other. same_text (name_text name) (name_text other)) names)

  abbrev pub several : Rule → List Tree → List Broken
  several rule names = flat_map (λ name. told_if (is_several names name) (broken_name rule name)) names

  abbrev pub blank : Rule → List Tree → List Broken
  blank rule names = flat_map (λ name. told_if (is_blank_identifier (name_text name)) (broken_name rule name)) names

  -- "non-blank field names must be unique"; "The name of each explicitly specified method must be unique and not blank";
  -- "all non-blank names in the signature must be unique"
  abbrev pub broken_members : Tree → List Broken
  broken_members (branch id from to StructType text fields) = several repeated_member (flat_map field_names (list_of fields))
  broken_members (branch id from to InterfaceType text elems) =
      several repeated_member (flat_map method_names (list_of elems)) ++ blank repeated_member (flat_map method_names (list_of elems))
  broken_members (branch id from to Signature text parts) = several repeated_name (flat_map list_names (list_of parts))
  broken_members t = []

-- what the types and the expressions of a spec break
abbrev pub broken_in_spec : Spec → List Broken
broken_in_spec spec = flat_map (broken_members spec.file spec.told_at) (nodes_in_parts spec)
