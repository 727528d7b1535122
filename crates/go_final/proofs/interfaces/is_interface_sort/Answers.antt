use Rattle.std.proofs.Common.{sym, ap, ◌∙◌}
use Rattle.std.proofs.lemmas.Result.{IfOk-weaker}
use Rattle.go_final.proofs.InterfaceLemmas.{interface-asked}
use Rattle.go_final.specs.Interfaces.{is_interface_form}
use Rattle.go_final.proofs.interfaces.is_interface_sort.Goals as goal

pub returns-clause-is : goal.returns-clause-is
returns-clause-is g c =
    IfOk-weaker c.is_interface_form.result _ _
    (λ is told. told ∙ ap is_interface_form c.in_ok-form.ensures.answer ∙ sym (interface-asked (g.J.Ask.headers c.args.judge.now) (g.J.Ask.tree c.args.judge.now c.args.ty.now)))
    c.is_interface_form.ensures.is
