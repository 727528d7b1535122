use Rattle.std.proofs.Common.{List, map, ◌∙◌, subst}
use Rattle.go_base.specs.declared.rule.Broken.{Broken}
use Rattle.go_tree.specs.Tree.{id_of}
use Rattle.go_module.specs.Order.{IsListOf}
use Rattle.go_module.specs.Places.{with_number}
use Rattle.go_model.specs.Outcomes.Walked.{AreWalked}
use Rattle.go_model.proofs.WalkedLemmas.{are_walked}
use Rattle.go_expr.specs.Read.{nodes_under}
use Rattle.go_decl.specs.Parts.{part_view}
use Rattle.go_decl.proofs.ReadLemmas.{header_same, under_same}
use Rattle.go_decl.proofs.elaborated.elaborate_part.Goals as goal

-- the nodes on which the header rests have their outcomes
nodes_walked : (g : _) (c : goal.In_ok-broken g) → AreWalked (g.R.Ask.names c.args.rules.now) (g.R.Ask.headers c.args.rules.now) (nodes_under (part_view c.args.part.now).declaration) (g.R.Ask.outcomes c.walk_parts.new.walks)
nodes_walked g c = λ t h.
    c.in_ok-walk_parts.ensures.reached (id_of t)
    ∙ are_walked (g.R.Ask.names c.args.rules.now) (g.R.Ask.headers c.args.rules.now) (nodes_under (part_view c.args.part.now).declaration) c.requires.numbered (g.R.Ask.outcomes c.args.rules.now) t h

pub returns-clause-header : goal.returns-clause-header
returns-clause-header g c =
    let declaration = (part_view c.args.part.now).declaration in
    let same = header_same (g.R.Ask.names c.args.rules.now) (g.R.Ask.headers c.args.rules.now) (g.R.Ask.outcomes c.walk_parts.new.walks) (nodes_under declaration) (nodes_walked g c) declaration (λ t h. h) in
    rw same at c.in_ok-header.ensures.header

pub returns-clause-broken : goal.returns-clause-broken
returns-clause-broken g c =
    let part = part_view c.args.part.now in
    subst (λ (found : List Broken). IsListOf (map (with_number part.own.files) found) c.in_ok-broken.broken.items)
    (under_same (g.R.Ask.names c.args.rules.now) (g.R.Ask.headers c.args.rules.now) (g.R.Ask.outcomes c.walk_parts.new.walks) (nodes_under part.declaration) (nodes_walked g c) part.spec part.declaration c.requires.declared (λ t h. h))
    c.in_ok-broken.ensures
