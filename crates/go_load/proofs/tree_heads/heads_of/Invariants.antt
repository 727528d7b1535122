use Rattle.std.proofs.Common.{take}
use Rattle.go_module.specs.Modules.Module.{AreHeads}
use Rattle.go_load.specs.Packages.Trees.{trees_in}
use Rattle.go_load.proofs.tree_heads.heads_of.Given as goal

-- the heads so far are those of the first texts
abbrev pub invariant-loop-i : goal.invariant-loop-i
invariant-loop-i l = AreHeads (take l.i l.texts) (trees_in (take l.i l.files)) l.heads.items
