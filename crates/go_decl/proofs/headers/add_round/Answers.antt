use Rattle.std.proofs.Common.{◌≡◌, ◌∙◌, ℕ, ◌<◌, ◌≤◌, Some, ap, sym, subst, arith, below_more}
use Rattle.std.specs.Map.{lookup}
use Rattle.std.proofs.lemmas.List.{length-map}
use Rattle.go_base.specs.declared.ids.ObjId.{ObjId}
use Rattle.go_module.specs.Scopes.{same_object}
use Rattle.go_judge.specs.Headers.{Headers}
use Rattle.go_judge.specs.HeadersView.{headers_as}
use Rattle.go_judge.specs.Naming.{Naming}
use Rattle.go_judge.proofs.OwnLemmas.{types_then}
use Rattle.go_names.specs.Views.{declaration_view, declarations_view}
use Rattle.go_expr.proofs.ResultLemmas.{on_err}
use Rattle.go_decl.specs.Rounds.{IsBacked, IsSettled, open_in}
use Rattle.go_decl.proofs.RoundLemmas.{backed_twice}
use Rattle.go_decl.proofs.PlaceLemmas.{declared_place}
use Rattle.go_decl.proofs.headers.add_round.Goals as goal
use Rattle.go_decl.proofs.headers.add_round.Goals.{then-branch, else-branch}

pub loop-place-preserved : goal.loop-place-preserved
loop-place-preserved g c =
    let inv = c.loop-place.invariant in
    let did = c.in_ok-add_one.ensures in
    let declarations = declarations_view c.args.declarations.now in
    let old = g.R.Ask.headers c.args.rules.now in
    let naming = (g.R.Ask.names c.args.rules.now) in
    let before = g.R.Ask.headers c.loop-place.rules in
    let after = g.R.Ask.headers c.add_one.new.rules in
    let backed : IsBacked old naming declarations after = backed_twice old naming declarations before after (g.R.Ask.names c.loop-place.rules) inv.names inv.backed did.backed in
    elim c.if-branch.branch [
      | then-branch w ↦ let less : open_in after declarations < open_in before declarations = did.fewer w.if-branch.true in
          record {
            backed = backed;
            known = did.known;
            own = c.add_one.ensures.own;
            honest = c.add_one.ensures.honest;
            names = c.add_one.ensures.names ∙ inv.names;
            world = c.add_one.ensures.world ∙ inv.world;
            types = types_then inv.types c.add_one.ensures.types;
            fewer = λ _. omega (arith, inv.no_more, less);
            no_more = omega (arith, inv.no_more, less);
            settled = λ e. absurd (cc (w.added-is, e));
          }
      | else-branch w ↦ let same : after ≡ before = did.same w.if-branch.false in
          record {
            backed = backed;
            known = did.known;
            own = c.add_one.ensures.own;
            honest = c.add_one.ensures.honest;
            names = c.add_one.ensures.names ∙ inv.names;
            world = c.add_one.ensures.world ∙ inv.world;
            types = types_then inv.types c.add_one.ensures.types;
            fewer = λ e. subst (λ (m : Headers). open_in m declarations < open_in old declarations) (sym same) (inv.fewer (sym w.added-is ∙ e));
            no_more = subst (λ (m : Headers). open_in m declarations ≤ open_in old declarations) (sym same) inv.no_more;
            settled = λ e. below_more (λ n. (d : ObjId) → lookup (same_object d) c.args.places.now.entries ≡ Some n → IsSettled after naming declarations after d.0) c.loop-place.place
                (λ n lt d at. subst (λ (m : Headers). IsSettled m naming declarations m d.0) (sym same) (inv.settled (sym w.added-is ∙ e) n lt d at))
                (λ d at. subst (λ (k : Naming). IsSettled after k declarations after d.0) inv.names (did.settled w.if-branch.false d at));
          }
    ]

pub returns-clause-settled : goal.returns-clause-settled
returns-clause-settled g c = λ e d h vacant follows.
    let at = declared_place (declarations_view c.args.declarations.now) (record { 0 = d }) follows.declaration follows.declared in
    let within = at.within in
    let same = length-map c.args.declarations.now declaration_view in
    let here : lookup (same_object (record { 0 = d })) c.args.places.now.entries ≡ Some at.place = c.requires.places (record { 0 = d }) ∙ at.is in
    c.loop-place.invariant.settled e at.place (omega arith) (record { 0 = d }) here h vacant follows

pub returns-in_err-add_one-clause-backed : goal.returns-in_err-add_one-clause-backed
returns-in_err-add_one-clause-backed g c =
    backed_twice (g.R.Ask.headers c.args.rules.now) (g.R.Ask.names c.args.rules.now) (declarations_view c.args.declarations.now) (g.R.Ask.headers c.loop-place.rules) (g.R.Ask.headers c.add_one.new.rules) (g.R.Ask.names c.loop-place.rules)
    c.loop-place.invariant.names c.loop-place.invariant.backed c.add_one.ensures.backed

pub add_one-requires-clause-same : goal.add_one-requires-clause-same
add_one-requires-clause-same g c = c.loop-place.invariant.known

pub returns-clause-known : goal.returns-clause-known
returns-clause-known g c = c.loop-place.invariant.known

pub returns-in_err-add_one-clause-kept : goal.returns-in_err-add_one-clause-kept
returns-in_err-add_one-clause-kept g c =
    on_err c.from_residual.result _
    (backed_twice (g.R.Ask.headers c.args.rules.now) (g.R.Ask.names c.args.rules.now) (declarations_view c.args.declarations.now) (g.R.Ask.headers c.loop-place.rules) (headers_as (g.R.Ask.tree c.add_one.new.rules) c.add_one.new.known) (g.R.Ask.names c.loop-place.rules)
    c.loop-place.invariant.names c.loop-place.invariant.backed c.in_err-add_one.ensures.kept)
