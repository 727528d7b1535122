-- Assignment statements; Short variable declarations; Type switches (Go specification).
-- Says what left sides are, what a short variable declaration is, and what a guard is. Which nodes break
-- a rule is left to `Guards`, `Statements` and `SwitchStatements`.
use Rattle.std.specs.Prelude.{Bool, true, false}
use Rattle.go_tree.specs.declared.node_kind.NodeKind.{NodeKind}
use Rattle.go_tree.specs.declared.node_kind.NodeKind.TheVariants as k
use Rattle.go_tree.specs.Tree.{Tree, branch, Trees, no_trees, more_trees, parts_of}

-- The left sides of an assignment, a short variable declaration or a range, by its parts: what its first
-- list has.
abbrev pub left_sides : Trees → Trees
left_sides no_trees = no_trees
left_sides (more_trees left parts) = parts_of left

abbrev pub is_short_declaration : NodeKind → Bool
is_short_declaration k.DefineStmt = true
is_short_declaration kind = false

-- `x.(type)`
abbrev pub is_guard_expr : Tree → Bool
is_guard_expr (branch id from to k.TypeGuardExpr text parts) = true
is_guard_expr t = false

-- exactly one node, an `x.(type)`
abbrev pub is_one_guard_expr : Trees → Bool
is_one_guard_expr (more_trees x no_trees) = is_guard_expr x
is_one_guard_expr parts = false

-- a short variable declaration, by its parts, whose right list is exactly one `x.(type)`
abbrev pub declares_guard : Trees → Bool
declares_guard (more_trees left (more_trees right no_trees)) = is_one_guard_expr (parts_of right)
declares_guard parts = false

-- TypeSwitchGuard = [ identifier ":=" ] PrimaryExpr "." "(" "type" ")" .
-- The guard of a switch is one of these statements directly in it. How many left sides it may have is
-- left to a rule.
abbrev pub is_guard : Tree → Bool
is_guard (branch id from to k.ExprStmt text parts) = is_one_guard_expr parts
is_guard (branch id from to k.DefineStmt text parts) = declares_guard parts
is_guard t = false
