use Rattle.std.proofs.Common.{◌∙◌}
use Rattle.go_load.proofs.SourceFileLemmas.{joined-numbered}
use Rattle.go_load.proofs.source_files.source_files.Goals as goal

pub returns : goal.returns
returns c = c.in_ok-files.ensures ∙ joined-numbered 0 c.args.texts.items c.args.trees.items c.requires.numbered
