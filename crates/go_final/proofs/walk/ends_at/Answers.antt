use Rattle.std.proofs.Common.{Option, sym, ap, ◌∙◌, subst}
use Rattle.std.proofs.lemmas.Result.{IfOk-weaker}
use Rattle.std.specs.Option.{option_map}
use Rattle.go_judge.specs.Records.{RecData}
use Rattle.go_judge.proofs.OwnDataLemmas.{rec_agrees}
use Rattle.go_final.specs.Ends.{ends_at, ends_with}
use Rattle.go_final.specs.Wants.{IsOwnFound, found_as, founds_as}
use Rattle.go_final.proofs.WantLemmas.{founds-agree}
use Rattle.go_final.proofs.walk.ends_at.Goals as goal

pub returns-in_ok-own-in-Some-clause-ends : goal.returns-in_ok-own-in-Some-clause-ends
returns-in_ok-own-in-Some-clause-ends g c =
    let before = c.args.judge.now in
    let inside = c.final_at.new.judge in
    let own = g.J.Ask.is_type before in
    let tree = g.J.Ask.tree before in
    let kept = c.final_at.ensures.keeps.kept in
    let is_own = subst (IsOwnFound own) c.in-Some.is c.requires.whole in
    let rec = rec_agrees own tree (g.J.Ask.tree inside) kept.trees c.in-Some.rec.now is_own in
    let founds = founds-agree own (g.J.Ask.is_type inside) tree (g.J.Ask.tree inside) kept c.args.operands.now c.requires.operands in
    let want = option_map tree c.args.want.now in
    IfOk-weaker c.with_own.result _ _
    (λ ends is.
    is
    ∙ (λ i. ends_with c.args.kind (rec i) (c.in_ok-own-in-Some.ensures.end i) (founds i))
    ∙ ap (λ (found : Option RecData). ends_at (g.J.Ask.headers before) c.args.kind found want (founds_as tree c.args.operands.now)) (ap (found_as tree) (sym c.in-Some.is)))
    c.with_own.ensures.ends
