use Rattle.std.proofs.Common.{◌∙◌}
use Rattle.go_tree.proofs.HeightLemmas.{kind_before_lem}
use Rattle.go_tree.proofs.token_height.kind_before.Goals as goal

pub returns-then-end-gt0 : goal.returns-then-end-gt0
returns-then-end-gt0 c = c.last_kind.ensures ∙ kind_before_lem c.args.end c.args.tokens.now c.if-end-gt0.true c.requires
