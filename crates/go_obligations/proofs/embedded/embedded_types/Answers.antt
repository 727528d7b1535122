use Rattle.std.proofs.Common.{◌<◌, ◌≤◌, length, map, refl, arith}
use Rattle.std.proofs.lemmas.List.{length-map}
use Rattle.go_judge.proofs.OwnLemmas.{keeps_then, stays}
use Rattle.go_obligations.specs.EmbeddedSearch.{is_opened}
use Rattle.go_obligations.proofs.ListLemmas.{at-place}
use Rattle.go_obligations.proofs.SearchLemmas.{begins_searched, opens_moved, search_begins, search_ends, search_goes_on}
use Rattle.go_obligations.proofs.embedded.embedded_types.Goals as goal

pub loop-next-init : goal.loop-next-init
loop-next-init g c =
    let headers = g.F.Ask.headers c.args.judge.now in
    let tree = g.F.Ask.tree c.args.judge.now in
    record {
      keeps = stays;
      search = search_begins headers tree c.args.t c.in_ok-found.found.items c.in_ok-found.ensures.items (g.F.Ask.is_type c.args.judge.now) (is_opened c.new-opened.result) c.requires c.new-opened.ensures;
      searched = begins_searched headers tree c.args.t c.in_ok-found.found.items c.in_ok-found.ensures.items;
    }

pub loop-next-preserved : goal.loop-next-preserved
loop-next-preserved g c =
    let inv = c.loop-next.invariant in
    let found = map (g.F.Ask.tree c.loop-next.judge) c.loop-next.found.items in
    let new = map (g.F.Ask.tree c.open_embedded.new.judge) c.open_embedded.new.found.items in
    let within : c.loop-next.next < length found = omega (arith, c.loop-next-test.true, c.len.ensures, c.loop-next.found.ok.0, length-map c.loop-next.found.items (g.F.Ask.tree c.loop-next.judge)) in
    let here = at-place found c.loop-next.next within in
    record {
      keeps = keeps_then inv.keeps c.open_embedded.ensures.keeps;
      search = c.in_ok-open_embedded.ensures.search;
      searched = search_goes_on (g.F.Ask.headers c.args.judge.now) (g.F.Ask.tree c.args.judge.now c.args.t) found new c.loop-next.next here.0 inv.searched here.1
          (opens_moved {found = found} {new = new} inv.keeps.same refl refl (c.in_ok-open_embedded.ensures.opens here.0 here.1));
    }

pub returns-clause-exact : goal.returns-clause-exact
returns-clause-exact g c =
    let found = map (g.F.Ask.tree c.loop-next.judge) c.loop-next.found.items in
    let ends : length found ≤ c.loop-next.next = omega (arith, c.loop-next-test.false, c.len.ensures, c.loop-next.found.ok.0, length-map c.loop-next.found.items (g.F.Ask.tree c.loop-next.judge)) in
    search_ends (g.F.Ask.headers c.args.judge.now) (g.F.Ask.tree c.args.judge.now c.args.t) found c.loop-next.next c.loop-next.invariant.searched ends
