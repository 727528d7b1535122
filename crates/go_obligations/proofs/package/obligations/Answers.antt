use Rattle.std.proofs.Common.{◌≡◌, Some}
use Rattle.std.specs.Prelude.{◌↔◌, Contains, slice_get}
use Rattle.std.proofs.lemmas.Result.{IfOk-weaker}
use Rattle.go_base.specs.declared.rule.Broken.{Broken}
use Rattle.go_module.specs.Modules.Module.{PackageData, module_view, package_view}
use Rattle.go_model.specs.Obligations.Obliged.{Obliged}
use Rattle.go_model.specs.Outcomes.Walk.{outcome}
use Rattle.go_obligations.proofs.ReadLemmas.{of_each_there, viewed_at}
use Rattle.go_obligations.proofs.package.obligations.Goals as goal

pub obligations_in-requires : goal.obligations_in-requires
obligations_in-requires g c =
    c.requires.walked (package_view c.index.result.now)
    (viewed_at package_view c.args.module.now.packages.items c.args.package c.index.result.now c.requires.within c.index.ensures)

pub returns-clause-list : goal.returns-clause-list
returns-clause-list g c =
    let there : slice_get (module_view c.args.module.now).packages c.args.package ≡ Some (package_view c.index.result.now) =
    viewed_at package_view c.args.module.now.packages.items c.args.package c.index.result.now c.requires.within c.index.ensures in
    let names = g.R.Ask.names c.args.rules.now in
    let headers = g.R.Ask.headers c.args.rules.now in
    IfOk-weaker c.obligations_in.result _ _
    (λ list is.
    of_each_there (λ (p : PackageData). (b : Broken) → Contains list.items b ↔ Obliged (outcome names headers) headers p b)
    (module_view c.args.module.now).packages c.args.package (package_view c.index.result.now) there is)
    c.obligations_in.ensures.list
