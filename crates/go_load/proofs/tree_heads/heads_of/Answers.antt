use Rattle.std.proofs.Common.{arith}
use Rattle.go_load.proofs.HeadLemmas.{heads-more}
use Rattle.go_load.proofs.tree_heads.heads_of.Goals as goal

pub loop-i-preserved : goal.loop-i-preserved
loop-i-preserved c =
    heads-more c.args.texts.now c.args.files.now c.loop-i.i c.index-texts-i.result c.index-files-i.result c.loop-i.heads.items c.push.new.self.items c.in_ok-head_of.field-0 (omega arith) (omega (arith, c.requires)) c.index-texts-i.is c.loop-i.invariant c.in_ok-head_of.ensures c.in_ok-push.ensures.items
