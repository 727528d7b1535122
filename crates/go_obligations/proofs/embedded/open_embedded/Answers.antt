use Rattle.std.proofs.Common.{◌≡◌, map, ap, ◌∙◌}
use Rattle.std.proofs.lemmas.Result.{on_ok_weaker}
use Rattle.go_model.specs.Obligations.Embedded.{embedded_in}
use Rattle.go_obligations.specs.EmbeddedSearch.{is_opened}
use Rattle.go_obligations.proofs.ListLemmas.{viewed-at}
use Rattle.go_obligations.proofs.SearchLemmas.{opens_moved, search_kept, trees-kept}
use Rattle.go_obligations.proofs.embedded.open_embedded.Goals as goal

pub open_all-requires-clause-search : goal.open_all-requires-clause-search
open_all-requires-clause-search g c =
    let keeps = c.in_ok-types.ensures.keeps in
    search_kept keeps.same c.args.found.now.items (is_opened c.args.opened.now) c.requires.search keeps.kept

pub returns-clause-opens : goal.returns-clause-opens
returns-clause-opens g c =
    let keeps = c.in_ok-types.ensures.keeps in
    let old = g.F.Ask.tree c.args.judge.now in
    let tree = g.F.Ask.tree c.types_of.new.judge in
    let new = map (g.F.Ask.tree c.open_all.new.judge) c.open_all.new.found.items in
    let before = trees-kept keeps.kept c.args.found.now.items c.requires.search.own in
    let embeds = embedded_in (old c.index.result.now) in
    let types : map tree c.deref.result.now ≡ embeds = ◌∙◌ {c = embeds} (ap (map tree) c.deref.ensures.value) c.in_ok-types.ensures.types in
    on_ok_weaker c.open_all.result
    (λ opens t at. opens_moved {new = new} keeps.same (◌∙◌ {c = embedded_in t} types (ap embedded_in (viewed-at c.args.found.now.items c.args.place c.index.result.now c.requires.within c.index.ensures old t at))) before opens)
    c.open_all.ensures.opens
