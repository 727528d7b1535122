use Rattle.std.proofs.Common.{◌≡◌, not, filter, take}
use Rattle.go_tree.specs.Tree.{tree_of, kind_of}
use Rattle.go_module.specs.Names.Inner as spec
use Rattle.go_names.proofs.inner.behind_names.Given as goal

-- what is found is the last of the parts so far that is no tag
abbrev pub invariant-loop-i : goal.invariant-loop-i
invariant-loop-i l =
    l.last ≡ spec.last_alone tree_of (filter (λ part. not (spec.is_tag_kind (kind_of (tree_of part)))) (take l.i l.parts))
