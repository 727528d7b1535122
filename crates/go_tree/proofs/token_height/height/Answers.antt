use Rattle.go_tree.specs.Height.{height_of}
use Rattle.go_tree.proofs.HeightLemmas.{all_counted}
use Rattle.go_tree.proofs.token_height.height.Goals as goal

pub returns : goal.returns
returns c = all_counted c.loop-i.behind.count c.loop-i.i c.loop-i.behind.closed (height_of c.args.tokens.now) c.loop-i.behind.separated c.args.tokens.now c.loop-i-test.false c.loop-i.invariant.0
