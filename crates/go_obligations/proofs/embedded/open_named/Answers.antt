use Rattle.std.proofs.Common.{map, sym, ◌∙◌}
use Rattle.std.proofs.lemmas.Result.{on_ok_weaker}
use Rattle.go_obligations.specs.EmbeddedSearch.{is_opened}
use Rattle.go_obligations.proofs.ListLemmas.{on_ok}
use Rattle.go_obligations.proofs.SearchLemmas.{opened_before, opened_now, search_named}
use Rattle.go_obligations.proofs.embedded.open_named.Goals as goal

pub returns-then-has-clause-opens : goal.returns-then-has-clause-opens
returns-then-has-clause-opens g c =
    opened_before (g.F.Ask.headers c.args.judge.now) (g.F.Ask.tree c.args.judge.now c.args.t.now) (map (g.F.Ask.tree c.args.judge.now) c.args.found.now.items) (is_opened c.args.opened.now) c.args.d c.requires.search.opened c.requires.name (sym c.has.ensures ∙ c.if-has.true)

pub returns-clause-search : goal.returns-clause-search
returns-clause-search g c =
    let pushed = c.in_ok-push_underlying.ensures in
    on_ok_weaker c.add.result
    (search_named c.push_underlying.ensures.keeps.same c.args.found.now.items (is_opened c.args.opened.now) c.requires.search c.push_underlying.new.found.items pushed.own (g.F.Ask.tree c.args.judge.now c.args.t.now) pushed.pushed (is_opened c.add.new.self) c.args.d c.requires.name)
    c.add.ensures

pub returns-clause-opens : goal.returns-clause-opens
returns-clause-opens g c =
    on_ok c.add.result _
    (opened_now (g.F.Ask.headers c.args.judge.now) (g.F.Ask.tree c.args.judge.now c.args.t.now) (map (g.F.Ask.tree c.args.judge.now) c.args.found.now.items) (map (g.F.Ask.tree c.push_underlying.new.judge) c.push_underlying.new.found.items) c.in_ok-push_underlying.ensures.pushed)
