use Rattle.std.proofs.Common.{◌≡◌, ◌∙◌}
use Rattle.go_term.specs.Shapes.{shape_tree}
use Rattle.go_judge.specs.Types.TypeSets.{plain}
use Rattle.go_same.proofs.KeptLemmas.{layer_kept, layer_stays}
use Rattle.go_same.proofs.kept.both_typed.Goals as goal

pub typed-requires-2 : goal.typed-requires-2
typed-requires-2 g c = layer_stays c.typed.ensures.keeps.kept c.args.y c.requires.y_own

pub returns-clause-layers_own : goal.returns-clause-layers_own
returns-clause-layers_own g c = (layer_stays c.typed-2.ensures.keeps.kept c.in_ok-a.first c.in_ok-a.ensures.layer_own, c.in_ok-b.ensures.layer_own)

pub returns-clause-types : goal.returns-clause-types
returns-clause-types g c =
    let first : g.J.Ask.tree c.typed-2.new.judge c.in_ok-a.a ≡ shape_tree (g.J.Ask.tree c.args.judge.now) c.args.x = c.typed-2.ensures.keeps.kept.trees c.in_ok-a.a c.in_ok-a.ensures.type_own ∙ c.in_ok-a.ensures.made in
    let second : g.J.Ask.tree c.typed-2.new.judge c.in_ok-b.b ≡ shape_tree (g.J.Ask.tree c.args.judge.now) c.args.y = c.in_ok-b.ensures.made ∙ layer_kept c.typed.ensures.keeps.kept c.args.y c.requires.y_own in
    λ j. (plain (first j), plain (second j))

pub returns-clause-layers : goal.returns-clause-layers
returns-clause-layers g c =
    let first : shape_tree (g.J.Ask.tree c.typed-2.new.judge) c.in_ok-a.first ≡ shape_tree (g.J.Ask.tree c.args.judge.now) c.args.x = layer_kept c.typed-2.ensures.keeps.kept c.in_ok-a.first c.in_ok-a.ensures.layer_own ∙ c.in_ok-a.ensures.layer in
    let second : shape_tree (g.J.Ask.tree c.typed-2.new.judge) c.in_ok-b.second ≡ shape_tree (g.J.Ask.tree c.args.judge.now) c.args.y = c.in_ok-b.ensures.layer ∙ layer_kept c.typed.ensures.keeps.kept c.args.y c.requires.y_own in
    λ j. (plain (first j), plain (second j))
