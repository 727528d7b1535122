use Rattle.go_load.proofs.SourceFileLemmas.{file-next, files-last}
use Rattle.go_load.proofs.source_files.files_joined.Goals as goal

pub loop-tree-preserved : goal.loop-tree-preserved
loop-tree-preserved c =
    file-next c.loop-tree.texts.items c.pop-in-Some.new.self.items c.loop-tree.trees.items c.pop.new.self.items c.in-Some.tree c.loop-tree.files.items c.push_file.new.files.items _ c.pop-in-Some.result
    c.pop-in-Some.ensures.items _ _ c.pop-in-Some.ensures.cases c.pop-in-Some.ensures.rest c.in-Some.ensures.items c.in_ok-push_file.ensures c.loop-tree.invariant

pub returns : goal.returns
returns c =
    files-last c.loop-tree.texts.items c.loop-tree.trees.items c.pop.new.self.items c.loop-tree.files.items c.reverse.new.self.items _ _ c.in_default.ensures.cases.0 c.in_default.ensures.rest c.in_default.ensures.items c.reverse.ensures.items c.loop-tree.invariant
