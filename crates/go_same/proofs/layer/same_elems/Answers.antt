use Rattle.go_term.specs.Shapes.{elem_tree}
use Rattle.go_same.specs.Layers.{hole}
use Rattle.go_same.proofs.LayerLemmas.{same_as-zip, other_count}
use Rattle.go_same.proofs.layer.same_elems.Goals as goal

pub returns-then-es-fs : goal.returns-then-es-fs
returns-then-es-fs c = same_as-zip c.args.homes (elem_tree hole) c.args.es.now c.args.fs.now c.all_elems.result c.if-es-fs.true c.all_elems.ensures

pub returns-else-es-fs : goal.returns-else-es-fs
returns-else-es-fs c = other_count c.args.homes (elem_tree hole) c.args.es.now c.args.fs.now c.if-es-fs.false
