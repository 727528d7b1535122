use Rattle.std.proofs.Common.{◌≡◌, ◌++◌, not, map, filter, drop}
use Rattle.go_tree.specs.Tree.{tree_of, kind_of}
use Rattle.go_module.specs.Names.Inner as spec
use Rattle.go_names.specs.Views.{trees_at}
use Rattle.go_names.proofs.inner.push_but_unnamed.Given as goal

-- what is pushed, with what of the parts left is to be pushed, is all that is
abbrev pub invariant-loop-part : goal.invariant-loop-part
invariant-loop-part l =
    trees_at l.inner.items ++ map tree_of (filter (λ part. not (spec.is_unnamed_param (kind_of (tree_of part)))) (drop l.part-index l.parts)) ≡ trees_at l.fn.inner.items ++ map tree_of (filter (λ part. not (spec.is_unnamed_param (kind_of (tree_of part)))) l.parts)
