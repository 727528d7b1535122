use Rattle.std.proofs.Common.{List, [], ◌∷◌, map, refl, ap, subst}
use Rattle.go_term.specs.Types.{TypeData}
use Rattle.go_judge.proofs.OwnLemmas.{keeps_then}
use Rattle.go_obligations.specs.EmbeddedSearch.{Opens}
use Rattle.go_obligations.proofs.ListLemmas.{all-item, taken-more}
use Rattle.go_obligations.proofs.SearchLemmas.{opens_moved, opens_then}
use Rattle.go_obligations.proofs.embedded.open_all.Goals as goal

pub loop-t-preserved : goal.loop-t-preserved
loop-t-preserved g c =
    let inv = c.loop-t.invariant in
    let tree = g.F.Ask.tree c.args.judge.now in
    let t = c.t-item.result in
    let own = all-item c.args.types.now c.loop-t.t-index t c.loop-t-test.true c.t-item.is (g.F.Ask.is_type c.args.judge.now) c.requires.own in
    let new = map (g.F.Ask.tree c.open_type.new.judge) c.open_type.new.found.items in
    let one = opens_moved {new = new} inv.keeps.same (ap (λ u. u ∷ []) (inv.keeps.kept.trees t own)) refl c.in_ok-open_type.ensures.opens in
    record {
      keeps = keeps_then inv.keeps c.open_type.ensures.keeps;
      search = c.in_ok-open_type.ensures.search;
      opens =
          subst (λ (us : List TypeData). Opens (g.F.Ask.headers c.args.judge.now) us (map tree c.args.found.now.items) new)
          (taken-more c.args.types.now c.loop-t.t-index t c.loop-t-test.true c.t-item.is tree)
          (opens_then (g.F.Ask.headers c.args.judge.now) inv.opens one);
    }
