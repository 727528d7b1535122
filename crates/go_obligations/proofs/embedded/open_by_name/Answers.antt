use Rattle.std.proofs.Common.{map}
use Rattle.std.proofs.lemmas.Result.{on_ok_weaker}
use Rattle.go_obligations.specs.EmbeddedSearch.{is_opened}
use Rattle.go_obligations.proofs.ListLemmas.{on_ok_both}
use Rattle.go_obligations.proofs.SearchLemmas.{opened_now, search_more}
use Rattle.go_obligations.proofs.embedded.open_by_name.Goals as goal

pub returns-in-None-clause-search : goal.returns-in-None-clause-search
returns-in-None-clause-search g c =
    let pushed = c.push_underlying.ensures in
    on_ok_both c.push_underlying.result _ _ _
    (λ owned e. search_more pushed.keeps.same c.args.found.now.items (is_opened c.args.opened.now) c.requires.search c.push_underlying.new.found.items owned (g.F.Ask.tree c.args.judge.now c.args.t.now) e)
    pushed.own pushed.pushed

pub returns-in-None-clause-opens : goal.returns-in-None-clause-opens
returns-in-None-clause-opens g c =
    on_ok_weaker c.push_underlying.result
    (opened_now (g.F.Ask.headers c.args.judge.now) (g.F.Ask.tree c.args.judge.now c.args.t.now) (map (g.F.Ask.tree c.args.judge.now) c.args.found.now.items) (map (g.F.Ask.tree c.push_underlying.new.judge) c.push_underlying.new.found.items))
    c.push_underlying.ensures.pushed
