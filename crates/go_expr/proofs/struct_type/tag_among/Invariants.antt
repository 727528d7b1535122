use Rattle.std.proofs.Common.{◌≡◌, drop, find, map}
use Rattle.go_tree.specs.Tree.{kind_of, tree_of}
use Rattle.go_module.specs.Names.Inner.{is_tag_kind}
use Rattle.go_expr.proofs.struct_type.tag_among.Given as goal

-- none of the parts before is a tag
abbrev pub invariant-loop-part : goal.invariant-loop-part
invariant-loop-part l =
    find (λ t. is_tag_kind (kind_of t)) (map tree_of (drop l.part-index l.parts)) ≡ find (λ t. is_tag_kind (kind_of t)) (map tree_of l.parts)
