use Rattle.std.proofs.Common.{◌≡◌, Some}
use Rattle.std.specs.Prelude.{◌↔◌, ℕ, slice_get}
use Rattle.std.proofs.lemmas.Result.{IfOk-weaker}
use Rattle.indexmap.proofs.MapLemmas.{OnOk-map}
use Rattle.go_module.specs.Modules.Module.{PackageData, module_view, package_view}
use Rattle.go_module.specs.Names.Declarations.{declarations_of}
use Rattle.go_judge.specs.Records.{HeaderData}
use Rattle.go_model.specs.Outcomes.Walked.{AreWalked, nodes_of}
use Rattle.go_values.specs.Headers.{Known}
use Rattle.go_judge.specs.HeadersView.{headers_as}
use Rattle.go_decl.specs.Broken.{AreBroken}
use Rattle.go_decl.specs.Rounds.{IsBacked}
use Rattle.go_decl.proofs.ListLemmas.{of_each_there, on_err_map, viewed_at}
use Rattle.go_decl.proofs.package.rounds.Goals as goal

pub rounds_in-requires-clause-numbered : goal.rounds_in-requires-clause-numbered
rounds_in-requires-clause-numbered g c =
    c.requires.numbered c.args.package (package_view c.index.result.now)
    (viewed_at package_view c.args.module.now.packages.items c.args.package c.index.result.now c.requires.within c.index.ensures)

-- the package is that at the place
pub there : (g : _) (c : goal.After-rounds_in g) → slice_get (module_view c.args.module.now).packages c.args.package ≡ Some (package_view c.index.result.now)
there g c = viewed_at package_view c.args.module.now.packages.items c.args.package c.index.result.now c.requires.within c.index.ensures

pub returns-clause-exact : goal.returns-clause-exact
returns-clause-exact g c =
    OnOk-map c.rounds_in.result _ _
    (of_each_there (λ (p : PackageData). (d : ℕ) (h : HeaderData) → (g.R.Ask.headers c.rounds_in.new.rules d ≡ Some h) ↔ Known (g.R.Ask.headers c.args.rules.now) (g.R.Ask.names c.args.rules.now) (declarations_of p) d h)
    (module_view c.args.module.now).packages c.args.package (package_view c.index.result.now) (there g c))
    c.rounds_in.ensures.exact

pub returns-clause-nodes : goal.returns-clause-nodes
returns-clause-nodes g c =
    OnOk-map c.rounds_in.result _ _
    (of_each_there (λ (p : PackageData). AreWalked (g.R.Ask.names c.args.rules.now) (g.R.Ask.headers c.rounds_in.new.rules) (nodes_of p) (g.R.Ask.outcomes c.rounds_in.new.rules))
    (module_view c.args.module.now).packages c.args.package (package_view c.index.result.now) (there g c))
    c.rounds_in.ensures.nodes

pub returns-clause-list : goal.returns-clause-list
returns-clause-list g c =
    IfOk-weaker c.rounds_in.result _ _
    (λ list is.
    of_each_there (λ (p : PackageData). AreBroken (g.R.Ask.names c.args.rules.now) (g.R.Ask.headers c.rounds_in.new.rules) p list.items)
    (module_view c.args.module.now).packages c.args.package (package_view c.index.result.now) (there g c) is)
    c.rounds_in.ensures.list

pub returns-clause-err : goal.returns-clause-err
returns-clause-err g c =
    on_err_map c.rounds_in.result _ _
    (of_each_there (λ (p : PackageData). IsBacked (g.R.Ask.headers c.args.rules.now) (g.R.Ask.names c.args.rules.now) (declarations_of p) (headers_as (g.R.Ask.tree c.rounds_in.new.rules) c.rounds_in.new.known))
    (module_view c.args.module.now).packages c.args.package (package_view c.index.result.now) (there g c))
    c.rounds_in.ensures.err
