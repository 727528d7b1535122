use Rattle.std.proofs.Common.{◌≡◌, subst}
use Rattle.std.proofs.lemmas.Result.{IfOk-weaker}
use Rattle.go_module.specs.Modules.Module.{module_view}
use Rattle.go_module.specs.Order.{IsListOf}
use Rattle.go_decl.specs.Parts.{Part, broken_part, part_view}
use Rattle.go_decl.proofs.NamedLemmas.{found_is_declared, named_is_found}
use Rattle.go_decl.proofs.elaborated.elaborate.Goals as goal

pub elaborate_part-requires-clause-declared : goal.elaborate_part-requires-clause-declared
elaborate_part-requires-clause-declared g c =
    (found_is_declared (module_view c.args.module.now) c.args.d.0 c.in_ok-found.found c.in-Some.part c.requires.numbered c.in_ok-found.ensures c.in-Some.is).declared

pub elaborate_part-requires-clause-numbered : goal.elaborate_part-requires-clause-numbered
elaborate_part-requires-clause-numbered g c =
    (found_is_declared (module_view c.args.module.now) c.args.d.0 c.in_ok-found.found c.in-Some.part c.requires.numbered c.in_ok-found.ensures c.in-Some.is).numbered

pub returns-in-Some-clause-broken : goal.returns-in-Some-clause-broken
returns-in-Some-clause-broken g c =
    IfOk-weaker c.elaborate_part.result _ _
    (λ made is part e.
    let named = named_is_found (module_view c.args.module.now) c.args.d.0 c.in_ok-found.found c.in-Some.part c.in_ok-found.ensures c.in-Some.is in
    let same : part_view c.in-Some.part ≡ part = cc (named, e) in
    subst (λ (p : Part). IsListOf (broken_part (g.R.Ask.names c.args.rules.now) (g.R.Ask.headers c.args.rules.now) p) made.broken.items) same is)
    c.elaborate_part.ensures.broken
