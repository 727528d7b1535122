use Rattle.std.proofs.Common.{◌≡◌, ◌++◌, map, drop}
use Rattle.std.specs.List.{flat_map}
use Rattle.go_tree.specs.Tree.{tree_of}
use Rattle.go_module.specs.Names.Occurrences.{nodes_in}
use Rattle.go_module.specs.Names.Rules.MemberRules as rules
use Rattle.go_scope.proofs.member_rules.add_broken_in_parts.Given as goal

-- what is found, with what is broken in the parts left, is what is broken in all
abbrev pub invariant-loop-part : goal.invariant-loop-part
invariant-loop-part l = l.found.items ++ flat_map (rules.broken_members l.spec.file l.spec.told_at) (flat_map nodes_in (map tree_of (drop l.part-index l.parts))) ≡ l.fn.found.items ++ flat_map (rules.broken_members l.spec.file l.spec.told_at) (flat_map nodes_in (map tree_of l.parts))
