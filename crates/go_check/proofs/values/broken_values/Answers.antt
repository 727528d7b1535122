use Rattle.std.proofs.Common.{◌∙◌, ◌++◌, List, ap, refl, subst}
use Rattle.go_base.specs.declared.rule.Broken.{Broken}
use Rattle.go_module.specs.Modules.Module.{module_view}
use Rattle.go_module.specs.Order.{IsListOf}
use Rattle.go_model.specs.Outcomes.Walked.{nodes_of}
use Rattle.go_decl.proofs.HonestHeaders.{honest_same}
use Rattle.go_decl.proofs.KnownLemmas.{still_own, still_same}
use Rattle.go_check.proofs.FoundValueLemmas.{breaks_over, still_walked}
use Rattle.go_check.proofs.values.broken_values.Goals as goal

pub obligations-requires-clause-walked : goal.obligations-requires-clause-walked
obligations-requires-clause-walked g c p at =
    let kept = c.by_value.ensures.keeps in
    still_walked (nodes_of p) (kept.named ∙ c.rounds.ensures.names) kept.same kept.walked (c.in_ok-found.ensures.nodes p at)

pub returns-clause-list : goal.returns-clause-list
returns-clause-list g c p at named shapes =
    let headers = g.R.Ask.headers in
    let kept = c.by_value.ensures.keeps in
    let values = c.in_ok-found.found.items in
    let contained = c.in_ok-contained.contained.items in
    let obliged = c.in_ok-obliged.obliged.items in
    let joined = c.in_ok-append-2.ensures.items ∙ ap (λ (found : List Broken). found ++ obliged) c.in_ok-append.ensures.items in
    breaks_over (module_view c.args.«module».now) c.args.«package» p (headers c.args.rules.now) (g.R.Ask.names c.args.rules.now) (g.R.Ask.names c.by_value.new.rules)
    (headers c.rounds.new.rules) (headers c.by_value.new.rules) (headers c.obligations.new.rules) values contained obliged c.ordered.result.items
    named (kept.named ∙ c.rounds.ensures.names) kept.same c.obligations.ensures.keeps.same shapes
    (c.in_ok-found.ensures.exact p at) (c.in_ok-found.ensures.list p at) (c.in_ok-contained.ensures.list p at) (c.in_ok-obliged.ensures.list p at)
    (subst (λ (found : List Broken). IsListOf found c.ordered.result.items) joined c.ordered.ensures)

pub returns-clause-nodes : goal.returns-clause-nodes
returns-clause-nodes g c p at =
    let first = c.by_value.ensures.keeps in
    let second = c.obligations.ensures.keeps in
    still_walked {naming = g.R.Ask.names c.args.rules.now} (nodes_of p) refl (second.same ∙ first.same) (second.walked ∙ first.walked) (c.in_ok-found.ensures.nodes p at)

pub returns-clause-known : goal.returns-clause-known
returns-clause-known g c =
    let first = c.by_value.ensures.keeps in
    let second = c.obligations.ensures.keeps in
    let known = c.rounds.new.known in
    let same = still_same first.kept known c.rounds.ensures.own c.in_ok-found.ensures.known first.same in
    still_same second.kept known (still_own first.kept known c.rounds.ensures.own) same second.same

-- what is asked of types leaves the headers as they are

pub returns-in_err-contained-clause-honest : goal.returns-in_err-contained-clause-honest
returns-in_err-contained-clause-honest g c = honest_same c.rounds.ensures.honest c.by_value.ensures.keeps.same

pub returns-in_err-obliged-clause-honest : goal.returns-in_err-obliged-clause-honest
returns-in_err-obliged-clause-honest g c = honest_same c.rounds.ensures.honest (c.obligations.ensures.keeps.same ∙ c.by_value.ensures.keeps.same)

pub returns-in_err-append-clause-honest : goal.returns-in_err-append-clause-honest
returns-in_err-append-clause-honest g c = honest_same c.rounds.ensures.honest (c.obligations.ensures.keeps.same ∙ c.by_value.ensures.keeps.same)

pub returns-in_err-append-2-clause-honest : goal.returns-in_err-append-2-clause-honest
returns-in_err-append-2-clause-honest g c = honest_same c.rounds.ensures.honest (c.obligations.ensures.keeps.same ∙ c.by_value.ensures.keeps.same)

pub returns-clause-honest : goal.returns-clause-honest
returns-clause-honest g c = honest_same c.rounds.ensures.honest (c.obligations.ensures.keeps.same ∙ c.by_value.ensures.keeps.same)
