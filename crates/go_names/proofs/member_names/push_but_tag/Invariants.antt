use Rattle.std.proofs.Common.{◌≡◌, ◌++◌, not, filter, map, drop}
use Rattle.go_tree.specs.Tree.{kind_of, tree_of}
use Rattle.go_module.specs.Names.Inner.{is_tag_kind}
use Rattle.go_names.specs.Views.{trees_at}
use Rattle.go_names.proofs.member_names.push_but_tag.Given as goal

-- what is pushed, with what of the parts left is no tag, is all that is none
abbrev pub invariant-loop-part : goal.invariant-loop-part
invariant-loop-part l = trees_at l.names.items ++ filter (λ t. not (is_tag_kind (kind_of t))) (map tree_of (drop l.part-index l.parts)) ≡ trees_at l.fn.names.items ++ filter (λ t. not (is_tag_kind (kind_of t))) (map tree_of l.parts)
