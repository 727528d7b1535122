-- Switch statements; Select statements (Go specification).
-- Decides where the header or a clause of a switch or a select has a form that the grammar reads and the
-- specification does not allow. Where an `x.(type)` may stand is left to `Guards`.
use Rattle.std.specs.Prelude.{ℕ, Bool, true, false, ◌&&◌, not, List, [], ◌∷◌}
use Rattle.go_tree.specs.declared.node_kind.NodeKind.TheVariants as k
use Rattle.go_tree.specs.Tree.{Tree, branch, Trees, no_trees, more_trees, parts_of}
use Rattle.go_form.specs.Families.Nodes.{place_if, places_where}
use Rattle.go_form.specs.Families.StatementParts.{is_guard}

-- ExprSwitchStmt = "switch" [ SimpleStmt ";" ] [ Expression ] "{" { ExprCaseClause } "}" .
-- TypeSwitchStmt = "switch" [ SimpleStmt ";" ] TypeSwitchGuard "{" { TypeCaseClause } "}" .
abbrev pub is_switch_part : Tree → Bool
is_switch_part (branch id from to k.Init text parts) = true
is_switch_part (branch id from to k.ExprStmt text parts) = true
is_switch_part (branch id from to k.CaseClause text parts) = true
is_switch_part t = is_guard t

abbrev pub is_no_switch_part : Tree → Bool
is_no_switch_part t = not (is_switch_part t)

abbrev pub bad_switch_header_at : Tree → List ℕ
bad_switch_header_at (branch id from to k.SwitchStmt text parts) = places_where is_no_switch_part parts
bad_switch_header_at t = []

-- ExprSwitchCase = "case" ExpressionList | "default" .
abbrev pub is_default : Tree → Bool
is_default (branch id from to k.Default text parts) = true
is_default t = false

abbrev pub is_default_clause : Tree → Bool
is_default_clause (branch id from to kind text no_trees) = false
is_default_clause (branch id from to kind text (more_trees case statements)) = is_default case

abbrev pub several : List ℕ → List ℕ
several [] = []
several (x ∷ []) = []
several (x ∷ (y ∷ places)) = x ∷ (y ∷ places)

-- "There can be at most one default case": where there are several, each
abbrev pub repeated_defaults_at : Tree → List ℕ
repeated_defaults_at (branch id from to k.SwitchStmt text parts) = several (places_where is_default_clause parts)
repeated_defaults_at (branch id from to k.SelectStmt text parts) = several (places_where is_default_clause parts)
repeated_defaults_at t = []

abbrev pub is_channel_type : Tree → Bool
is_channel_type (branch id from to k.ChanType text parts) = true
is_channel_type t = false

-- "a (possibly parenthesized) receive operation": `<-x`, but not the type `<-chan T`
abbrev pub is_receive : Tree → Bool
is_receive (branch id from to k.ParenExpr text (more_trees x no_trees)) = is_receive x
is_receive (branch id from to k.ArrowExpr text (more_trees x no_trees)) = not (is_channel_type x)
is_receive t = false

abbrev pub is_one_receive : Trees → Bool
is_one_receive (more_trees x no_trees) = is_receive x
is_one_receive parts = false

abbrev pub are_two_at_most : Trees → Bool
are_two_at_most (more_trees x (more_trees y (more_trees z parts))) = false
are_two_at_most parts = true

-- "may assign the result of a RecvExpr to one or two variables, which may be declared using a short variable
-- declaration": such a statement, by its parts
abbrev pub takes_receive : Trees → Bool
takes_receive (more_trees left (more_trees right no_trees)) = are_two_at_most (parts_of left) && is_one_receive (parts_of right)
takes_receive parts = false

-- CommCase = "case" ( SendStmt | RecvStmt ) | "default" .
-- RecvStmt = [ ExpressionList "=" | IdentifierList ":=" ] RecvExpr . RecvExpr = Expression .
abbrev pub is_communication : Tree → Bool
is_communication (branch id from to k.Default text parts) = true
is_communication (branch id from to k.SendStmt text parts) = true
is_communication (branch id from to k.ExprStmt text parts) = is_one_receive parts
is_communication (branch id from to k.AssignStmt text parts) = takes_receive parts
is_communication (branch id from to k.DefineStmt text parts) = takes_receive parts
is_communication t = false

-- CommClause = CommCase ":" StatementList . Its first byte is the word `case`.
abbrev pub bad_communication_at : Tree → List ℕ
bad_communication_at (branch id from to k.CommClause text (more_trees case statements)) = place_if (not (is_communication case)) (branch id from to k.CommClause text (more_trees case statements))
bad_communication_at t = []
