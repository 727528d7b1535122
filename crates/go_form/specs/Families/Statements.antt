-- Short variable declarations; Assignment statements; Type switches; For statements; Go statements; Defer
-- statements (Go specification).
-- Decides where a short variable declaration, an assignment, a for, a go or a defer has a form that the
-- grammar reads and the specification does not allow. Where an `x.(type)` may stand is left to `Guards`.
use Rattle.std.specs.Prelude.{ℕ, Bool, true, false, ◌&&◌, ◌||◌, not, List, [], ◌∷◌, ◌++◌}
use Rattle.go_tree.specs.declared.node_kind.NodeKind.{NodeKind}
use Rattle.go_tree.specs.declared.node_kind.NodeKind.TheVariants as k
use Rattle.go_tree.specs.Tree.{Tree, branch, Trees, no_trees, more_trees, start_of, kind_of, parts_of}
use Rattle.go_tree.specs.Grammar.Trees.TypeTrees.{is_name}
use Rattle.go_form.specs.Families.Nodes.{place_if, places_where}
use Rattle.go_form.specs.Families.StatementParts.{left_sides, is_short_declaration, declares_guard}

abbrev pub is_no_name : Tree → Bool
is_no_name t = not (is_name t)

-- TypeSwitchGuard = [ identifier ":=" ] PrimaryExpr "." "(" "type" ")" : at most one left side.
-- The second of several is wrong; where it is no identifier, the short variable declaration tells so.
abbrev pub second_name_at : Trees → List ℕ
second_name_at (more_trees x (more_trees y sides)) = place_if (is_name y) y
second_name_at sides = []

abbrev pub second_name_if : Bool → Trees → List ℕ
second_name_if true sides = second_name_at sides
second_name_if false sides = []

abbrev pub second_guard_name_at : Tree → List ℕ
second_guard_name_at (branch id from to k.DefineStmt text parts) = second_name_if (declares_guard parts) (left_sides parts)
second_guard_name_at t = []

abbrev pub second_guard_names_at : Trees → List ℕ
second_guard_names_at no_trees = []
second_guard_names_at (more_trees t ts) = second_guard_name_at t ++ second_guard_names_at ts

-- ShortVarDecl = IdentifierList ":=" ExpressionList .
-- RangeClause = [ ExpressionList "=" | IdentifierList ":=" ] "range" Expression .
abbrev pub bad_defined_names_at : Tree → List ℕ
bad_defined_names_at (branch id from to k.DefineStmt text parts) = places_where is_no_name (left_sides parts)
bad_defined_names_at (branch id from to k.RangeDefine text parts) = places_where is_no_name (left_sides parts)
bad_defined_names_at (branch id from to k.SwitchStmt text parts) = second_guard_names_at parts
bad_defined_names_at t = []

-- "The expression must be a function or method call; it cannot be parenthesized."
abbrev pub no_call_at : Tree → List ℕ
no_call_at (branch id from to k.CallExpr text parts) = []
no_call_at (branch id from to k.SpreadCallExpr text parts) = []
no_call_at t = start_of t ∷ []

abbrev pub missing_call_at : Tree → List ℕ
missing_call_at (branch id from to k.GoStmt text (more_trees x no_trees)) = no_call_at x
missing_call_at (branch id from to k.DeferStmt text (more_trees x no_trees)) = no_call_at x
missing_call_at t = []

-- "The init statement may be a short variable declaration, but the post statement must not." The init
-- statement stands in an `Init`, the post statement directly in the for.
abbrev pub defining_post_statement_at : Tree → List ℕ
defining_post_statement_at (branch id from to k.ForStmt text parts) = places_where (λ part. is_short_declaration (kind_of part)) parts
defining_post_statement_at t = []

-- "at most one iteration variable is permitted, otherwise there may be up to two"
abbrev pub third_at : Trees → List ℕ
third_at (more_trees x (more_trees y (more_trees z parts))) = start_of z ∷ []
third_at parts = []

abbrev pub third_range_variable_at : Tree → List ℕ
third_range_variable_at (branch id from to k.RangeAssign text parts) = third_at (left_sides parts)
third_range_variable_at (branch id from to k.RangeDefine text parts) = third_at (left_sides parts)
third_range_variable_at t = []

-- an assignment operation, `x op= y`
abbrev pub is_assignment_operation : NodeKind → Bool
is_assignment_operation k.AddAssignStmt = true
is_assignment_operation k.SubAssignStmt = true
is_assignment_operation k.MulAssignStmt = true
is_assignment_operation k.QuoAssignStmt = true
is_assignment_operation k.RemAssignStmt = true
is_assignment_operation k.AndAssignStmt = true
is_assignment_operation k.OrAssignStmt = true
is_assignment_operation k.XorAssignStmt = true
is_assignment_operation k.ShlAssignStmt = true
is_assignment_operation k.ShrAssignStmt = true
is_assignment_operation k.AndNotAssignStmt = true
is_assignment_operation kind = false

abbrev pub are_several : Trees → Bool
are_several (more_trees x (more_trees y parts)) = true
are_several parts = false

abbrev pub some_has_several : Trees → Bool
some_has_several no_trees = false
some_has_several (more_trees t ts) = are_several (parts_of t) || some_has_several ts

-- "both the left- and right-hand expression lists must contain exactly one single-valued expression"
abbrev pub has_several_operands : Tree → Bool
has_several_operands (branch id from to kind text parts) = is_assignment_operation kind && some_has_several parts

abbrev pub several_operands_at : Tree → List ℕ
several_operands_at t = place_if (has_several_operands t) t
