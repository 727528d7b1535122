-- Constant declarations (Go specification).
-- "Within a parenthesized const declaration list the expression list may be omitted from any but the
-- first ConstSpec. Such an empty list is equivalent to the textual substitution of the first preceding
-- non-empty expression list and its type if any."
use Rattle.std.specs.Prelude.{ℕ, Bool, true, false, [], if◌then◌else◌}
use Rattle.go_tree.specs.declared.node_kind.NodeKind.{NodeKind}
use Rattle.go_tree.specs.declared.node_kind.NodeKind.TheVariants.{ConstGroup, ConstCopy}
use Rattle.go_tree.specs.Tree.{Tree, branch, Trees, no_trees, more_trees, start_of, end_of}

-- where the last of the trees ends
abbrev pub last_end : Tree → Trees → ℕ
last_end t no_trees = end_of t
last_end t (more_trees u us) = last_end u us

-- the copy of a list, with the list's places
abbrev pub copy_of : Tree → Trees → Tree
copy_of t ts = branch 0 (start_of t) (last_end t ts) ConstCopy [] (more_trees t ts)

-- behind the names of a spec: its type, if any, and its expressions; where it has none, the list before
abbrev pub list_behind : Trees → Tree → Trees
list_behind list (branch id from to kind text (more_trees names (more_trees t ts))) = more_trees t ts
list_behind list spec = list

abbrev pub copy_if_any : Trees → Trees
copy_if_any no_trees = no_trees
copy_if_any (more_trees t ts) = more_trees (copy_of t ts) no_trees

-- the spec, with a copy of the list before where it has its names alone
abbrev pub completed : Trees → Tree → Tree
completed list (branch id from to kind text (more_trees names no_trees)) = branch id from to kind text (more_trees names (copy_if_any list))
completed list spec = spec

abbrev pub is_group : NodeKind → Bool
is_group ConstGroup = true
is_group _ = false

-- the tree with a copy in each spec of a group that omits its list
abbrev mutual
  pub with_copies : Tree → Tree
  with_copies (branch id from to kind text parts) = branch id from to kind text (if is_group kind then specs_with_copies no_trees parts else all_with_copies parts)

  pub all_with_copies : Trees → Trees
  all_with_copies no_trees = no_trees
  all_with_copies (more_trees t ts) = more_trees (with_copies t) (all_with_copies ts)

  -- the specs of a group behind the list
  pub specs_with_copies : Trees → Trees → Trees
  specs_with_copies list no_trees = no_trees
  specs_with_copies list (more_trees spec specs) = more_trees (completed list (with_copies spec)) (specs_with_copies (list_behind list (with_copies spec)) specs)
