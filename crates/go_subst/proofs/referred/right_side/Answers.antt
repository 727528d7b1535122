use Rattle.std.proofs.Common.{◌≡◌, length, map, ap, ◌∙◌, arith}
use Rattle.std.proofs.lemmas.List.{length-map}
use Rattle.go_term.specs.View.{type_of}
use Rattle.go_judge.specs.Records.{param_as}
use Rattle.go_subst.proofs.ParamLemmas.{length-params_from}
use Rattle.go_subst.proofs.referred.right_side.Goals as goal

pub subst-requires : goal.subst-requires
subst-requires c =
    let params : length c.deref-in-Defined.result.now ≡ length c.deref.result.now =
    ap length (c.deref-in-Defined.ensures.value ∙ c.in_ok-from-in-Defined.ensures)
    ∙ length-params_from c.args.d 0 (map (param_as type_of) c.deref.result.now)
    ∙ length-map c.deref.result.now (param_as type_of)
    in
    omega (arith, params, c.deref.ensures.len, c.len.ensures, c.if-len-arguments.true)
