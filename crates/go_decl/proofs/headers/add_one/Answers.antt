use Rattle.std.proofs.Common.{◌≡◌, ◌∙◌, Some, None, refl, sym, ap, subst}
use Rattle.std.specs.Prelude.{IsTrue}
use Rattle.std.specs.Map.{lookup}
use Rattle.go_base.specs.declared.ids.ObjId.{ObjId}
use Rattle.go_module.specs.Scopes.{same_object}
use Rattle.go_judge.specs.Records.{header_as}
use Rattle.go_judge.specs.Headers.{Headers}
use Rattle.go_constructs.specs.Operators.Honest.{IsHonestHeader}
use Rattle.go_names.specs.Views.{declaration_view, declarations_view}
use Rattle.go_expr.proofs.ResultLemmas.{on_err}
use Rattle.go_decl.specs.Rounds.{IsSettled, IsToldOrNot}
use Rattle.go_decl.proofs.HonestHeaders.{honest_same}
use Rattle.go_decl.proofs.HonestHeaderLemmas.{header-honest}
use Rattle.go_decl.proofs.KnownLemmas.{found_own, has_header, still_agree, still_own, still_same}
use Rattle.go_decl.proofs.RoundLemmas.{at_place, backed_either, backed_one, backed_same, declared_at, fewer_open, found_over, is_known, is_vacant, learnt_over, settled_none}
use Rattle.go_decl.proofs.headers.add_one.Goals as goal

pub returns-then-is_known-clause-settled : goal.returns-then-is_known-clause-settled
returns-then-is_known-clause-settled g c = λ _ d at h vacant _.
    let headers = g.R.Ask.headers c.args.rules.now in
    let there = declared_at c.args.declarations.now c.args.place c.index-declarations-place.result c.requires.within c.index-declarations-place.is in
    let is = at_place (declarations_view c.args.declarations.now) c.args.places.now.entries c.requires.places d c.args.place at _ there in
    is_known (headers c.number-number.result.0)
    (has_header (g.R.Ask.tree c.args.rules.now) c.args.known.now headers c.number-number.result.0 c.is_known.result c.requires.same c.is_known.ensures ∙ c.if-is_known.true)
    (ap (λ (e : ObjId). headers e.0) (c.number-number.ensures ∙ is.number) ∙ vacant)

pub returns-then-not-stands_at-clause-settled : goal.returns-then-not-stands_at-clause-settled
returns-then-not-stands_at-clause-settled g c = λ _ d at h _ _.
    let there = declared_at c.args.declarations.now c.args.place c.index-declarations-place.result c.requires.within c.index-declarations-place.is in
    let is = at_place (declarations_view c.args.declarations.now) c.args.places.now.entries c.requires.places d c.args.place at _ there in
    let stands : IsTrue c.stands_at.result = c.stands_at.ensures.1 (ap (λ (e : ObjId). lookup (same_object e) c.args.places.now.entries) (c.number-number.ensures ∙ is.number) ∙ at) in
    absurd (cc (stands, c.if-not-stands_at.true))

-- what is told is what follows, of a declaration that has no header

pub tell-requires-clause-vacant : goal.tell-requires-clause-vacant
tell-requires-clause-vacant g c =
    let headers = g.R.Ask.headers c.args.rules.now in
    ap (λ (m : Headers). m c.number-number.result.0) (c.header_over.ensures.same)
    ∙ is_vacant (headers c.number-number.result.0) (has_header (g.R.Ask.tree c.args.rules.now) c.args.known.now headers c.number-number.result.0 c.is_known.result c.requires.same c.is_known.ensures ∙ c.if-is_known.false)

pub tell-requires-clause-same : goal.tell-requires-clause-same
tell-requires-clause-same g c = still_same c.header_over.ensures.types c.args.known.now c.requires.own c.requires.same c.header_over.ensures.same

pub tell-requires-clause-own : goal.tell-requires-clause-own
tell-requires-clause-own g c = still_own c.header_over.ensures.types c.args.known.now c.requires.own

pub tell-requires-clause-header : goal.tell-requires-clause-header
tell-requires-clause-header g c = found_own (g.R.Ask.is_type c.header_over.new.walks) c.in_ok-header.field-0 c.in-Some.header c.in-Some.is c.in_ok-header.ensures.own

pub tell-requires-clause-honest : goal.tell-requires-clause-honest
tell-requires-clause-honest g c = honest_same c.requires.honest c.header_over.ensures.same

pub tell-requires-clause-represented : goal.tell-requires-clause-represented
tell-requires-clause-represented g c =
    let headers = g.R.Ask.headers c.args.rules.now in
    let naming = (g.R.Ask.names c.args.rules.now) in
    let declaration = declaration_view c.index-declarations-place.result in
    let tree = g.R.Ask.tree c.header_over.new.walks in
    let h = header_as tree c.in-Some.header in
    let kept : g.R.Ask.headers c.header_over.new.walks ≡ headers = c.header_over.ensures.same in
    let follows = found_over tree naming naming headers headers declaration c.in_ok-header.field-0 (Some c.in-Some.header) refl refl c.in_ok-header.ensures.header c.in-Some.is in
    subst (λ (m : Headers). IsHonestHeader m h) (sym kept) (header-honest naming headers c.requires.honest declaration h follows)

pub returns-in_ok-tell-in-Some-clause-backed : goal.returns-in_ok-tell-in-Some-clause-backed
returns-in_ok-tell-in-Some-clause-backed g c =
    let headers = g.R.Ask.headers c.args.rules.now in
    let naming = (g.R.Ask.names c.args.rules.now) in
    let declarations = declarations_view c.args.declarations.now in
    let declaration = declaration_view c.index-declarations-place.result in
    let d = c.number-number.result in
    let tree = g.R.Ask.tree c.header_over.new.walks in
    let h = header_as tree c.in-Some.header in
    let there = declared_at c.args.declarations.now c.args.place c.index-declarations-place.result c.requires.within c.index-declarations-place.is in
    let is = at_place declarations c.args.places.now.entries c.requires.places d c.args.place (c.stands_at.ensures.0 c.if-not-stands_at.false) declaration there in
    let kept : g.R.Ask.headers c.header_over.new.walks ≡ headers = c.header_over.ensures.same in
    let vacant : headers d.0 ≡ None = is_vacant (headers d.0) (has_header (g.R.Ask.tree c.args.rules.now) c.args.known.now headers d.0 c.is_known.result c.requires.same c.is_known.ensures ∙ c.if-is_known.false) in
    let follows = found_over tree naming naming headers headers declaration c.in_ok-header.field-0 (Some c.in-Some.header) refl refl c.in_ok-header.ensures.header c.in-Some.is in
    backed_one headers naming declarations (g.R.Ask.headers c.tell.new.rules) d.0 h declaration is.declared vacant follows
    (learnt_over headers (g.R.Ask.headers c.header_over.new.walks) (g.R.Ask.headers c.tell.new.rules) d.0 h kept c.in_ok-tell-in-Some.ensures.learned)

pub returns-in_err-tell-in-Some-clause-backed : goal.returns-in_err-tell-in-Some-clause-backed
returns-in_err-tell-in-Some-clause-backed g c =
    let headers = g.R.Ask.headers c.args.rules.now in
    let naming = (g.R.Ask.names c.args.rules.now) in
    let declarations = declarations_view c.args.declarations.now in
    let declaration = declaration_view c.index-declarations-place.result in
    let d = c.number-number.result in
    let tree = g.R.Ask.tree c.header_over.new.walks in
    let h = header_as tree c.in-Some.header in
    let there = declared_at c.args.declarations.now c.args.place c.index-declarations-place.result c.requires.within c.index-declarations-place.is in
    let is = at_place declarations c.args.places.now.entries c.requires.places d c.args.place (c.stands_at.ensures.0 c.if-not-stands_at.false) declaration there in
    let kept : g.R.Ask.headers c.header_over.new.walks ≡ headers = c.header_over.ensures.same in
    let vacant : headers d.0 ≡ None = is_vacant (headers d.0) (has_header (g.R.Ask.tree c.args.rules.now) c.args.known.now headers d.0 c.is_known.result c.requires.same c.is_known.ensures ∙ c.if-is_known.false) in
    let follows = found_over tree naming naming headers headers declaration c.in_ok-header.field-0 (Some c.in-Some.header) refl refl c.in_ok-header.ensures.header c.in-Some.is in
    backed_either headers naming declarations (g.R.Ask.headers c.tell.new.rules) d.0 h declaration is.declared vacant follows
    (subst (λ (m : Headers). IsToldOrNot m d.0 h (g.R.Ask.headers c.tell.new.rules)) kept c.in_err-tell-in-Some.ensures.err)

pub returns-in_err-header-clause-honest : goal.returns-in_err-header-clause-honest
returns-in_err-header-clause-honest g c = honest_same c.requires.honest c.header_over.ensures.same

pub returns-in_err-header-clause-kept : goal.returns-in_err-header-clause-kept
returns-in_err-header-clause-kept g c =
    on_err c.from_residual.result _
    (backed_same (g.R.Ask.headers c.args.rules.now) (g.R.Ask.names c.args.rules.now) (declarations_view c.args.declarations.now) _
    (still_agree c.header_over.ensures.types c.args.known.now c.requires.own ∙ c.requires.same))

pub returns-in_err-tell-in-Some-clause-kept : goal.returns-in_err-tell-in-Some-clause-kept
returns-in_err-tell-in-Some-clause-kept g c =
    on_err c.from_residual-in_err-tell-in-Some.result _
    (backed_same (g.R.Ask.headers c.args.rules.now) (g.R.Ask.names c.args.rules.now) (declarations_view c.args.declarations.now) _
    (c.in_err-tell-in-Some.ensures.kept ∙ still_agree c.header_over.ensures.types c.args.known.now c.requires.own ∙ c.requires.same))

pub returns-in_ok-tell-in-Some-clause-fewer : goal.returns-in_ok-tell-in-Some-clause-fewer
returns-in_ok-tell-in-Some-clause-fewer g c = λ _.
    let headers = g.R.Ask.headers c.args.rules.now in
    let declarations = declarations_view c.args.declarations.now in
    let declaration = declaration_view c.index-declarations-place.result in
    let d = c.number-number.result in
    let tree = g.R.Ask.tree c.header_over.new.walks in
    let h = header_as tree c.in-Some.header in
    let there = declared_at c.args.declarations.now c.args.place c.index-declarations-place.result c.requires.within c.index-declarations-place.is in
    let is = at_place declarations c.args.places.now.entries c.requires.places d c.args.place (c.stands_at.ensures.0 c.if-not-stands_at.false) declaration there in
    let kept : g.R.Ask.headers c.header_over.new.walks ≡ headers = c.header_over.ensures.same in
    fewer_open headers (g.R.Ask.headers c.tell.new.rules) d.0 h
    (learnt_over headers (g.R.Ask.headers c.header_over.new.walks) (g.R.Ask.headers c.tell.new.rules) d.0 h kept c.in_ok-tell-in-Some.ensures.learned)
    declarations declaration is.declared
    (is_vacant (headers d.0) (has_header (g.R.Ask.tree c.args.rules.now) c.args.known.now headers d.0 c.is_known.result c.requires.same c.is_known.ensures ∙ c.if-is_known.false))

pub returns-in-None-clause-known : goal.returns-in-None-clause-known
returns-in-None-clause-known g c = still_same c.header_over.ensures.types c.args.known.now c.requires.own c.requires.same c.header_over.ensures.same

pub returns-in-None-clause-own : goal.returns-in-None-clause-own
returns-in-None-clause-own g c = still_own c.header_over.ensures.types c.args.known.now c.requires.own

pub returns-in-None-clause-honest : goal.returns-in-None-clause-honest
returns-in-None-clause-honest g c = honest_same c.requires.honest c.header_over.ensures.same

pub returns-in-None-clause-settled : goal.returns-in-None-clause-settled
returns-in-None-clause-settled g c = λ _ d at.
    let headers = g.R.Ask.headers c.args.rules.now in
    let naming = (g.R.Ask.names c.args.rules.now) in
    let declarations = declarations_view c.args.declarations.now in
    let declaration = declaration_view c.index-declarations-place.result in
    let there = declared_at c.args.declarations.now c.args.place c.index-declarations-place.result c.requires.within c.index-declarations-place.is in
    let is = at_place declarations c.args.places.now.entries c.requires.places d c.args.place at declaration there in
    let kept : g.R.Ask.headers c.header_over.new.walks ≡ headers = c.header_over.ensures.same in
    subst (λ (m : Headers). IsSettled m naming declarations m d.0) (sym kept)
    (settled_none headers naming declarations d.0 declaration is.declared (found_over (g.R.Ask.tree c.header_over.new.walks) naming naming headers headers declaration c.in_ok-header.field-0 None refl refl c.in_ok-header.ensures.header c.in-None.is))
