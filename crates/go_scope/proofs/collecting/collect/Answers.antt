use Rattle.std.proofs.lemmas.Result.{IfOk-weaker, IfErr-weaker}
use Rattle.go_module.specs.Modules.Module.{module_view}
use Rattle.go_scope.proofs.BeforeLemmas.{stands_in}
use Rattle.go_scope.proofs.collecting.collect.Goals as goal

pub returns-clause-ok : goal.returns-clause-ok
returns-clause-ok c =
    let stands = stands_in c.args.module.now c.args.place c.index.result.now record { packages = c.deref.result; scopes = c.args.before } c.index.ensures c.deref.ensures.value c.requires in
    IfOk-weaker c.collect_own.result _ _ (λ scopes each. each (module_view c.args.module.now) stands) c.collect_own.ensures.ok

pub returns-clause-err : goal.returns-clause-err
returns-clause-err c =
    let stands = stands_in c.args.module.now c.args.place c.index.result.now record { packages = c.deref.result; scopes = c.args.before } c.index.ensures c.deref.ensures.value c.requires in
    IfErr-weaker c.collect_own.result _ _ (λ fault each. each (module_view c.args.module.now) stands) c.collect_own.ensures.err
