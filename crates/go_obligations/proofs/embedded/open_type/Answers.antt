use Rattle.std.proofs.Common.{[], ◌∷◌, map, sym, ap, ◌∙◌}
use Rattle.std.proofs.lemmas.Result.{on_ok_weaker}
use Rattle.go_obligations.specs.EmbeddedSearch.{is_opened}
use Rattle.go_obligations.proofs.LayerLemmas.{name-stands}
use Rattle.go_obligations.proofs.SearchLemmas.{opens_moved, search_kept, trees-kept}
use Rattle.go_obligations.proofs.embedded.open_type.Goals as goal

pub open_by_name-requires : goal.open_by_name-requires
open_by_name-requires g c =
    let keeps = c.in_ok-shape.ensures.keeps in
    let tree = g.F.Ask.tree c.see.new.self in
    let stands = keeps.kept.trees c.args.t.now c.requires.own ∙ sym c.in_ok-shape.ensures.shape in
    record {
      own = keeps.kept.types c.args.t.now c.requires.own;
      name = name-stands tree c.in_ok-shape.shape c.name_in.result (tree c.args.t.now) c.name_in.ensures stands;
      search = search_kept keeps.same c.args.found.now.items (is_opened c.args.opened.now) c.requires.search keeps.kept;
    }

pub returns-clause-opens : goal.returns-clause-opens
returns-clause-opens g c =
    let keeps = c.in_ok-shape.ensures.keeps in
    let new = map (g.F.Ask.tree c.open_by_name.new.judge) c.open_by_name.new.found.items in
    on_ok_weaker c.open_by_name.result
    (opens_moved {new = new} keeps.same (ap (λ t. t ∷ []) (keeps.kept.trees c.args.t.now c.requires.own)) (trees-kept keeps.kept c.args.found.now.items c.requires.search.own))
    c.open_by_name.ensures.opens
