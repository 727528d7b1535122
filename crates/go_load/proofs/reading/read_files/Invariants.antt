use Rattle.std.proofs.Common.{◌≡◌, take}
use Rattle.go_load.specs.Texts.ReadTexts.{Adds}
use Rattle.go_load.proofs.reading.read_files.Given as goal

abbrev pub invariant-loop-path : goal.invariant-loop-path
invariant-loop-path g l = record {
  files_stay : g.T.Tree.files l.tree ≡ g.T.Tree.files l.fn.tree;
  no_fault : g.T.Tree.faults l.tree ≡ g.T.Tree.faults l.fn.tree;
  so_far : Adds (g.T.Tree.files l.fn.tree) l.root l.stub (take l.path-index l.files) l.fn.texts.items l.texts.items;
}
