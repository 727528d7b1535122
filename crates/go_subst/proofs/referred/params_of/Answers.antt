use Rattle.std.proofs.Common.{◌<◌, length, map, arith}
use Rattle.std.proofs.lemmas.List.{length-map}
use Rattle.go_term.specs.View.{type_of}
use Rattle.go_judge.specs.Records.{param_as}
use Rattle.go_judge.specs.Types.UnderlyingType.{params_from}
use Rattle.go_subst.proofs.ParamLemmas.{params_more}
use Rattle.go_subst.proofs.referred.params_of.Goals as goal

pub loop-place-preserved : goal.loop-place-preserved
loop-place-preserved c =
    let lt : c.loop-place.place < length (map (param_as type_of) c.args.params.now) = omega (arith, length-map c.args.params.now (param_as type_of)) in
    params_more c.args.d c.loop-place.place (map (param_as type_of) c.args.params.now) c.loop-place.all.items c.push.new.self.items (params_from c.args.d 0 (map (param_as type_of) c.args.params.now)) lt c.in_ok-push.ensures.items c.loop-place.invariant
