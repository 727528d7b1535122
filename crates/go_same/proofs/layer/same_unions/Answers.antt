use Rattle.go_term.specs.Shapes.{union_tree}
use Rattle.go_same.specs.Layers.{hole}
use Rattle.go_same.proofs.LayerLemmas.{same_as-zip, other_count}
use Rattle.go_same.proofs.layer.same_unions.Goals as goal

pub returns-then-us-vs : goal.returns-then-us-vs
returns-then-us-vs c = same_as-zip c.args.homes (union_tree hole) c.args.us.now c.args.vs.now c.all_unions.result c.if-us-vs.true c.all_unions.ensures

pub returns-else-us-vs : goal.returns-else-us-vs
returns-else-us-vs c = other_count c.args.homes (union_tree hole) c.args.us.now c.args.vs.now c.if-us-vs.false
