use Rattle.std.proofs.Common.{◌≡◌, take}
use Rattle.std.specs.List.{list_any}
use Rattle.indexmap.specs.IndexSet.{contains}
use Rattle.go_tree.specs.declared.node.NodeId.{NodeId}
use Rattle.go_module.specs.Scopes.{same_node}
use Rattle.go_scope.specs.Marks.{marks_conflict}
use Rattle.go_scope.proofs.import_rules.conflicting_imports.Given as goal

abbrev pub invariant-loop-region : goal.invariant-loop-region
invariant-loop-region l = (id : NodeId) → contains same_node l.marks id ≡ list_any (marks_conflict l.block id) (take l.region-index l.region-items)
