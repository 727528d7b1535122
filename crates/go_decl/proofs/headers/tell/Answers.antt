use Rattle.std.proofs.Common.{◌∙◌, ap}
use Rattle.indexmap.proofs.MapLemmas.{OnOk-map}
use Rattle.go_judge.specs.Headers.{Headers}
use Rattle.go_judge.specs.Records.{header_as}
use Rattle.go_judge.proofs.HeadersViewLemmas.{vacant_in}
use Rattle.go_expr.proofs.ResultLemmas.{on_err}
use Rattle.go_decl.proofs.HonestHeaders.{honest_each, honest_told}
use Rattle.go_decl.proofs.KnownLemmas.{refused_agree, refused_own, still_agree, told_own, told_same}
use Rattle.go_decl.proofs.ListLemmas.{either_answer, on_err_map}
use Rattle.go_decl.proofs.headers.tell.Goals as goal

pub add-requires : goal.add-requires
add-requires g c = vacant_in (g.R.Ask.tree c.args.rules.now) c.args.known.now c.args.d.0 (ap (λ (m : Headers). m c.args.d.0) c.requires.same ∙ c.requires.vacant)

pub returns-in_err-learn-clause-kept : goal.returns-in_err-learn-clause-kept
returns-in_err-learn-clause-kept g c = on_err c.from_residual.result _ (still_agree c.learn.ensures.types c.args.known.now c.requires.own)

pub returns-in_err-learn-clause-honest : goal.returns-in_err-learn-clause-honest
returns-in_err-learn-clause-honest g c = honest_each (g.R.Ask.headers c.args.rules.now) (g.R.Ask.headers c.learn.new.self) c.requires.honest c.in_err-learn.ensures.err

-- the rules have the header; the map has it too, or is as before

pub returns-clause-known : goal.returns-clause-known
returns-clause-known g c =
    OnOk-map c.add.result _ _
    (λ added. told_same c.learn.ensures.types c.args.known.now c.requires.own c.add.new.self c.args.d.0 c.args.header c.requires.header added c.requires.same c.in_ok-learn.ensures.learned)
    c.add.ensures.added

pub returns-clause-own : goal.returns-clause-own
returns-clause-own g c =
    either_answer c.add.result _ _ _
    (λ added. told_own c.learn.ensures.types c.args.known.now c.requires.own c.add.new.self c.args.d.0 c.args.header c.requires.header added)
    (λ same. refused_own c.learn.ensures.types c.args.known.now c.requires.own c.add.new.self same)
    c.add.ensures.added c.add.ensures.err

pub returns-clause-honest : goal.returns-clause-honest
returns-clause-honest g c =
    honest_told (g.R.Ask.headers c.args.rules.now) (g.R.Ask.headers c.learn.new.self) c.requires.honest c.args.d.0 (header_as (g.R.Ask.tree c.args.rules.now) c.args.header)
    c.requires.vacant c.requires.represented c.in_ok-learn.ensures.learned

pub returns-clause-kept : goal.returns-clause-kept
returns-clause-kept g c =
    on_err_map c.add.result _ _ (λ same. refused_agree c.learn.ensures.types c.args.known.now c.requires.own c.add.new.self same) c.add.ensures.err
