use Rattle.go_term.specs.Shapes.{field_tree}
use Rattle.go_same.specs.Layers.{hole}
use Rattle.go_same.proofs.LayerLemmas.{same_as-zip, other_count}
use Rattle.go_same.proofs.layer.same_fields.Goals as goal

pub returns-then-fs-gs : goal.returns-then-fs-gs
returns-then-fs-gs c = same_as-zip c.args.homes (field_tree hole) c.args.fs.now c.args.gs.now c.all_fields.result c.if-fs-gs.true c.all_fields.ensures

pub returns-else-fs-gs : goal.returns-else-fs-gs
returns-else-fs-gs c = other_count c.args.homes (field_tree hole) c.args.fs.now c.args.gs.now c.if-fs-gs.false
