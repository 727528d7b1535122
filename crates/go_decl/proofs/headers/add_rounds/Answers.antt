use Rattle.std.proofs.Common.{◌∙◌, ℕ, ap, refl, subst}
use Rattle.go_judge.specs.HeadersView.{headers_as}
use Rattle.go_judge.specs.Naming.{Naming}
use Rattle.go_judge.proofs.OwnLemmas.{types_stay, types_then}
use Rattle.go_names.specs.Views.{declarations_view}
use Rattle.go_expr.proofs.ResultLemmas.{on_err}
use Rattle.go_decl.specs.Rounds.{IsSettled}
use Rattle.go_decl.proofs.RoundLemmas.{backed_same, backed_twice, exact_after}
use Rattle.go_decl.proofs.headers.add_rounds.Goals as goal

pub loop-init : goal.loop-init
loop-init g c =
    let headers = g.R.Ask.headers c.args.rules.now in
    record { backed = backed_same headers (g.R.Ask.names c.args.rules.now) (declarations_view c.args.declarations.now) headers refl; known = c.requires.same; own = c.requires.own; honest = c.requires.honest; names = refl; world = refl; types = types_stay }

pub loop-preserved : goal.loop-preserved
loop-preserved g c =
    let inv = c.loop.invariant in
    let did = c.in_ok-add_round.ensures in
    record {
      backed = backed_twice (g.R.Ask.headers c.args.rules.now) (g.R.Ask.names c.args.rules.now) (declarations_view c.args.declarations.now)
          (g.R.Ask.headers c.loop.rules) (g.R.Ask.headers c.add_round.new.rules) (g.R.Ask.names c.loop.rules) inv.names inv.backed did.backed;
      known = did.known;
      own = did.own;
      honest = did.honest;
      names = did.names ∙ inv.names;
      world = did.world ∙ inv.world;
      types = types_then inv.types did.types;
    }

pub returns-clause-exact : goal.returns-clause-exact
returns-clause-exact g c =
    let inv = c.loop.invariant in
    let did = c.in_ok-add_round.ensures in
    let old = g.R.Ask.headers c.args.rules.now in
    let naming = (g.R.Ask.names c.args.rules.now) in
    let declarations = declarations_view c.args.declarations.now in
    let headers = g.R.Ask.headers c.add_round.new.rules in
    exact_after old naming declarations headers
    (backed_twice old naming declarations (g.R.Ask.headers c.loop.rules) headers (g.R.Ask.names c.loop.rules) inv.names inv.backed did.backed)
    (subst (λ (k : Naming). (d : ℕ) → IsSettled headers k declarations headers d) inv.names (did.settled c.if-branch.false))

pub returns-in_err-add_round-clause-backed : goal.returns-in_err-add_round-clause-backed
returns-in_err-add_round-clause-backed g c =
    backed_twice (g.R.Ask.headers c.args.rules.now) (g.R.Ask.names c.args.rules.now) (declarations_view c.args.declarations.now) (g.R.Ask.headers c.loop.rules) (g.R.Ask.headers c.add_round.new.rules) (g.R.Ask.names c.loop.rules)
    c.loop.invariant.names c.loop.invariant.backed c.add_round.ensures.backed

pub returns-clause-backed : goal.returns-clause-backed
returns-clause-backed g c =
    backed_twice (g.R.Ask.headers c.args.rules.now) (g.R.Ask.names c.args.rules.now) (declarations_view c.args.declarations.now) (g.R.Ask.headers c.loop.rules) (g.R.Ask.headers c.add_round.new.rules) (g.R.Ask.names c.loop.rules)
    c.loop.invariant.names c.loop.invariant.backed c.add_round.ensures.backed

pub add_round-requires-clause-same : goal.add_round-requires-clause-same
add_round-requires-clause-same g c = c.loop.invariant.known

pub returns-in_err-add_round-clause-kept : goal.returns-in_err-add_round-clause-kept
returns-in_err-add_round-clause-kept g c =
    on_err c.from_residual.result _
    (backed_twice (g.R.Ask.headers c.args.rules.now) (g.R.Ask.names c.args.rules.now) (declarations_view c.args.declarations.now) (g.R.Ask.headers c.loop.rules) (headers_as (g.R.Ask.tree c.add_round.new.rules) c.add_round.new.known) (g.R.Ask.names c.loop.rules)
    c.loop.invariant.names c.loop.invariant.backed c.in_err-add_round.ensures.kept)
