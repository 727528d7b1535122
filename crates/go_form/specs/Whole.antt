-- Source file organization; Constant declarations (Go specification).
-- Decides all that a file breaks by its form: the rules, asked of each node that is written; the forms
-- that are not built yet; and the build constraints before the package clause. What is broken at a node
-- is left to `AtNode`.
use Rattle.std.specs.Prelude.{ℕ, if◌then◌else◌, List, [], ◌∷◌, ◌++◌}
use Rattle.std.specs.List.{flat_map}
use Rattle.go_base.specs.declared.rule.Broken.{Broken}
use Rattle.go_tree.specs.Tree.{Tree, branch, Trees, no_trees, more_trees, start_of}
use Rattle.go_text.specs.CopyCount.{is_copy}
use Rattle.go_module.specs.Broken.{told}
use Rattle.go_module.specs.Rules.{unbuilt_form}
use Rattle.go_form.specs.Rules as rule
use Rattle.go_form.specs.AtNode.{broken_at_node}
use Rattle.go_form.specs.Unbuilt.{unbuilt_in}
use Rattle.go_form.specs.BuildConstraints.{AreBuildConstraints}
use Rattle.go_module.specs.Order.{IsListOf}

-- the nodes that are written, each before its parts; the list that a constant spec omits is written where it
-- is repeated from
abbrev mutual
  pub written : Tree → List Tree
  written (branch id from to kind text parts) = if is_copy kind then [] else branch id from to kind text parts ∷ written_among parts

  pub written_among : Trees → List Tree
  written_among no_trees = []
  written_among (more_trees t ts) = written t ++ written_among ts

abbrev pub broken_in_tree : ℕ → Tree → List Broken
broken_in_tree file t = told file unbuilt_form (unbuilt_in t) ++ flat_map (broken_at_node file) (written t)

-- all that the file with that number breaks by its form, in any order: by the offsets of its build
-- constraints and its tree
abbrev pub broken_forms : ℕ → List ℕ → Tree → List Broken
broken_forms file constraints t = told file rule.build_constraint constraints ++ broken_in_tree file t

-- the list that a report gives of it, by the bytes of the file and its tree
pub record AreBrokenForms (file : ℕ) (bytes : List ℕ) (t : Tree) (list : List Broken) : Type 0 where
  pub constraints : List ℕ
  pub are_constraints : AreBuildConstraints bytes (start_of t) constraints
  pub is_list : IsListOf (broken_forms file constraints t) list
