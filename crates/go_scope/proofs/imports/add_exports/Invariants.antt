use Rattle.std.proofs.Common.{◌≡◌, ℕ, List, ◌++◌, map, filter}
use Rattle.std.specs.List.{filter_map}
use Rattle.std.specs.Map.{lookup}
use Rattle.go_tree.specs.Tree.{tree_of}
use Rattle.go_base.specs.declared.ids.ObjId.{ObjId}
use Rattle.go_module.specs.Names.Exported as exported
use Rattle.go_module.specs.Names.Imports as rule
use Rattle.go_module.specs.Scopes.{same_object}
use Rattle.go_scope.specs.Known.{known_by, importing}
use Rattle.go_scope.proofs.imports.add_exports.Given as goal

-- what is pushed, with the regions of the entries left, are those of all that is exported
abbrev pub invariant-loop-name : goal.invariant-loop-name
invariant-loop-name l =
    l.regions.items ++ map (rule.dot_region (importing l.import) (tree_of l.string)) (filter_map (λ (entry : List ℕ × ObjId). lookup (same_object entry.1) l.found.objects.entries) (filter (λ entry. exported.is_exported entry.0) l.name-iterator)) ≡ l.fn.regions.items ++ map (rule.dot_region (importing l.import) (tree_of l.string)) (known_by l.before l.import.imported).exports
