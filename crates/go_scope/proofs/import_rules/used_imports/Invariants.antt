use Rattle.std.proofs.Common.{◌≡◌, take}
use Rattle.std.specs.List.{list_any}
use Rattle.indexmap.specs.IndexSet.{contains}
use Rattle.go_tree.specs.declared.node.NodeId.{NodeId}
use Rattle.go_module.specs.Scopes.{same_node}
use Rattle.go_scope.specs.Resolved as spec
use Rattle.go_scope.proofs.import_rules.used_imports.Given as goal

abbrev pub invariant-loop-r : goal.invariant-loop-r
invariant-loop-r l = (id : NodeId) → contains same_node l.marks id ≡ list_any (spec.uses_by id) (take l.r-index l.resolved)
