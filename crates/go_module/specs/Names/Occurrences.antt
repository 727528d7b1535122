-- Operands; Qualified identifiers; Declarations and scope (Go specification).
-- Decides which identifiers occur in the declarations of a package's files, other than where they are declared, and which
-- nodes of an expression or a type are asked for records. What of a node's parts is neither: `Inner`.
use Rattle.std.specs.Prelude.{ℕ, ◌+◌, if◌then◌else◌, List, [], ◌∷◌, ◌++◌, map, Option, Some, None, unwrap_or}
use Rattle.std.specs.List.{flat_map}
use Rattle.go_tree.specs.declared.node_kind.NodeKind.{NodeKind}
use Rattle.go_tree.specs.declared.node_kind.NodeKind.TheVariants.{Name, SelectorExpr}
use Rattle.go_tree.specs.Grammar.Trees.TypeTrees.{is_name}
use Rattle.go_tree.specs.Tree.{Tree, branch, Trees, no_trees, more_trees, id_of, start_of}
use Rattle.go_module.specs.declared.block.Occurrence.{Occurrence}
use Rattle.go_module.specs.declared.block.Selected.{Selected}
use Rattle.go_module.specs.Modules.Module.{FileData}
use Rattle.go_module.specs.Modules.Texts.{as_text}
use Rattle.go_module.specs.Names.Declarations.{Spec, specs_in_file, name_text}
use Rattle.go_module.specs.Names.Inner.{inner_of, inner_by}

-- what was found in the parts of a node that are read further, each beside what was found in it
abbrev pub found_in : {A : Type 0} → NodeKind → List (Tree × List A) → List A
found_in kind parts = flat_map (λ part. part.1) (inner_by (λ part. part.0) (inner_of kind) parts)

-- in the file at a place among those of its package, where what is broken is told at this offset or, with none, where it is
module _ (file : ℕ) (told_at : Option ℕ) where
  abbrev pub occurrence : ℕ → ℕ → List ℕ → Occurrence
  occurrence id from text = record { id = record { 0 = id }; file = file; at = unwrap_or told_at from; name = as_text text; selected = None }

  -- `x.f`: the name behind the `.` stands beside an identifier before it, and occurs by itself nowhere
  abbrev pub selected_name : Tree → Selected
  selected_name name = record { id = record { 0 = id_of name }; at = unwrap_or told_at (start_of name); name = name_text name }

  abbrev pub selecting : Tree → Occurrence → Occurrence
  selecting name o = record o { selected = Some (selected_name name) }

  abbrev pub with_selected : Tree → Tree → List Occurrence → List Occurrence
  with_selected operand name occurrences = if is_name operand then map (selecting name) occurrences else occurrences

  abbrev pub names_at : NodeKind → ℕ → ℕ → List ℕ → List (Tree × List Occurrence) → List Occurrence
  names_at Name id from text parts = occurrence id from text ∷ []
  names_at SelectorExpr id from text (operand ∷ (name ∷ [])) = with_selected operand.0 name.0 operand.1
  names_at kind id from text parts = found_in kind parts

  -- the identifiers that occur in an expression or a type, in source order
  abbrev mutual
    pub names_in : Tree → List Occurrence
    names_in (branch id from to kind text parts) = names_at kind id from text (names_of_each parts)

    pub names_of_each : Trees → List (Tree × List Occurrence)
    names_of_each no_trees = []
    names_of_each (more_trees t ts) = (t, names_in t) ∷ names_of_each ts

-- the nodes of an expression or a type, among which are all that can have records: itself, and those inside, a node
-- before its parts
abbrev mutual
  pub nodes_in : Tree → List Tree
  nodes_in (branch id from to kind text parts) = branch id from to kind text parts ∷ found_in kind (nodes_of_each parts)

  pub nodes_of_each : Trees → List (Tree × List Tree)
  nodes_of_each no_trees = []
  nodes_of_each (more_trees t ts) = (t, nodes_in t) ∷ nodes_of_each ts

-- the identifiers behind the names of a spec
abbrev pub names_in_parts : Spec → List Occurrence
names_in_parts spec = flat_map (names_in spec.file spec.told_at) (spec.types ++ spec.values)

-- those of the file at a place
abbrev pub occurrences_in_file : ℕ → Tree → List Occurrence
occurrences_in_file file tree = flat_map names_in_parts (specs_in_file file tree)

-- the nodes behind the names of a spec
abbrev pub nodes_in_parts : Spec → List Tree
nodes_in_parts spec = flat_map nodes_in (spec.types ++ spec.values)
