use Rattle.std.proofs.Common.{◌≡◌, None, IfErr, IfOk, sym, subst}
use Rattle.std.specs.Prelude.{option_and_then}
use Rattle.std.specs.Option.{option_map}
use Rattle.go_term.specs.Size.{size_fault}
use Rattle.go_term.specs.View.{type_of}
use Rattle.go_judge.specs.Records.{header_as}
use Rattle.go_subst.specs.Chains.{IsReferredCause}
use Rattle.go_subst.proofs.ParamLemmas.{named_refers}
use Rattle.go_subst.proofs.referred.referred.Goals as goal

pub returns-in-Named-clause-next : goal.returns-in-Named-clause-next
returns-in-Named-clause-next c =
    let e = named_refers c.in-Named.d c.in-Named.arguments c.deref.result.now c.args.t.now (header_as type_of c.args.header.now) c.in-Named.is c.deref.ensures.value in
    subst (λ o. IfOk c.right_side.result (λ next. option_map type_of next ≡ o)) (sym e) c.right_side.ensures.next

pub returns-in-Named-clause-fits : goal.returns-in-Named-clause-fits
returns-in-Named-clause-fits c =
    let e = named_refers c.in-Named.d c.in-Named.arguments c.deref.result.now c.args.t.now (header_as type_of c.args.header.now) c.in-Named.is c.deref.ensures.value in
    subst (λ o. IfOk c.right_side.result (λ next. option_and_then size_fault o ≡ None)) (sym e) c.right_side.ensures.fits

pub returns-in-Named-clause-cause : goal.returns-in-Named-clause-cause
returns-in-Named-clause-cause c =
    let e = named_refers c.in-Named.d c.in-Named.arguments c.deref.result.now c.args.t.now (header_as type_of c.args.header.now) c.in-Named.is c.deref.ensures.value in
    subst (λ o. IfErr c.right_side.result (λ fault. IsReferredCause fault o)) (sym e) c.right_side.ensures.cause
