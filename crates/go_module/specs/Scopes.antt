-- Declarations and scope (Go specification).
-- Says when the number of a node, and when the number of an object, is that of another: by it alone the
-- tables of scopes are read.
use Rattle.std.specs.Prelude.{Bool, nat_eq}
use Rattle.go_tree.specs.declared.node.NodeId.{NodeId}
use Rattle.go_base.specs.declared.ids.ObjId.{ObjId}

abbrev pub same_node : NodeId → NodeId → Bool
same_node a b = nat_eq a.0 b.0

abbrev pub same_object : ObjId → ObjId → Bool
same_object a b = nat_eq a.0 b.0
