-- Type switches (Go specification).
-- Decides where an `x.(type)` stands other than in the guard of a switch. One node tells so: the one
-- that has it as a part; where that is an expression statement or a list, the one round it; and for
-- the lists of a short variable declaration the one round that.
use Rattle.std.specs.Prelude.{ℕ, Bool, true, false, not, ◌&&◌, List, [], ◌++◌}
use Rattle.go_tree.specs.declared.node_kind.NodeKind.{NodeKind}
use Rattle.go_tree.specs.declared.node_kind.NodeKind.TheVariants as k
use Rattle.go_tree.specs.Tree.{Tree, branch, Trees, no_trees, more_trees}
use Rattle.go_form.specs.Families.Nodes.{place_if, places_where}
use Rattle.go_form.specs.Families.StatementParts.{is_short_declaration, is_guard_expr, is_guard}

abbrev pub is_switch : NodeKind → Bool
is_switch k.SwitchStmt = true
is_switch kind = false

abbrev pub is_statement_or_list : NodeKind → Bool
is_statement_or_list k.ExprStmt = true
is_statement_or_list k.ExprList = true
is_statement_or_list kind = false

-- each `x.(type)` among the nodes, unless these are not asked here
abbrev pub guards_unless : Bool → Trees → List ℕ
guards_unless true parts = []
guards_unless false parts = places_where is_guard_expr parts

-- each `x.(type)` in a list of expressions
abbrev pub guards_of_list : Tree → List ℕ
guards_of_list (branch id from to k.ExprList text parts) = places_where is_guard_expr parts
guards_of_list t = []

abbrev pub guards_of_lists : Trees → List ℕ
guards_of_lists no_trees = []
guards_of_lists (more_trees t ts) = guards_of_list t ++ guards_of_lists ts

-- each `x.(type)` in both lists of a short variable declaration, or in the left one of a guard
abbrev pub guards_of_lists_but : Bool → Trees → List ℕ
guards_of_lists_but false lists = guards_of_lists lists
guards_of_lists_but true no_trees = []
guards_of_lists_but true (more_trees left lists) = guards_of_list left

-- What a part shows, by the kind of the node that has it. The guard of a switch stands directly in it.
abbrev pub guards_of_part : NodeKind → Tree → List ℕ
guards_of_part outer (branch id from to k.TypeGuardExpr text parts) = place_if (not (is_statement_or_list outer)) (branch id from to k.TypeGuardExpr text parts)
guards_of_part outer (branch id from to k.ExprStmt text parts) = guards_unless (is_switch outer) parts
guards_of_part outer (branch id from to k.ExprList text parts) = guards_unless (is_short_declaration outer) parts
guards_of_part outer (branch id from to k.DefineStmt text parts) = guards_of_lists_but (is_switch outer && is_guard (branch id from to k.DefineStmt text parts)) parts
guards_of_part outer t = []

abbrev pub guards_of_parts : NodeKind → Trees → List ℕ
guards_of_parts outer no_trees = []
guards_of_parts outer (more_trees t ts) = guards_of_part outer t ++ guards_of_parts outer ts

abbrev pub misplaced_guards_at : Tree → List ℕ
misplaced_guards_at (branch id from to kind text parts) = guards_of_parts kind parts
