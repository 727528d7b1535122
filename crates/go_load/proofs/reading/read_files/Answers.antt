use Rattle.std.proofs.Common.{◌∙◌, List, Option, subst, arith}
use Rattle.go_base.specs.declared.tree.MemFile.{MemFile}
use Rattle.go_load.proofs.ReadingLemmas.{adds_more, ok_no_fault}
use Rattle.go_load.specs.Texts.ReadTexts.{IsTextRead}
use Rattle.go_load.proofs.reading.read_files.Goals as goal

pub loop-path-preserved : goal.loop-path-preserved
loop-path-preserved g c =
    let made = c.in_ok-read_text.ensures in
    let text = c.in_ok-read_text.field-0 in
    let read = subst (λ (told : Option (List MemFile)). IsTextRead told c.args.root.now c.args.stub text) c.loop-path.invariant.files_stay made.read in
    record {
      files_stay = made.leaves.files ∙ c.loop-path.invariant.files_stay;
      no_fault = made.leaves.stays (ok_no_fault text) ∙ c.loop-path.invariant.no_fault;
      so_far = adds_more (g.T.Tree.files c.args.tree.now) c.args.root.now c.args.stub c.args.files.now c.loop-path.path-index c.path-item.result text c.args.texts.items c.loop-path.texts.items c.push.new.self.items (omega arith) c.path-item.is c.loop-path.invariant.so_far made.path read c.in_ok-push.ensures.items;
    }
