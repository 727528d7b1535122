use Rattle.std.proofs.Common.{[], Option, sym, ap, ◌∙◌, subst}
use Rattle.std.specs.Prelude.{IfSome}
use Rattle.std.specs.Option.{option_map}
use Rattle.go_term.specs.Types.{TypeData, list, of_list}
use Rattle.go_term.specs.declared.term.Term.{Term}
use Rattle.go_judge.specs.Types.TypeIdentity.{identical}
use Rattle.go_judge.specs.Quests.{run}
use Rattle.go_ops.specs.Stages.{type_there}
use Rattle.go_ops.proofs.NoTypeLemmas.{none-none, none-typed, typed-none}
use Rattle.go_ops.proofs.matching.identical.Goals as goal

pub returns-in-Some-None-clause-answer : goal.returns-in-Some-None-clause-answer
returns-in-Some-None-clause-answer g c =
    let old = c.args.judge.now in
    let headers = g.J.Ask.headers old in
    let tree = g.J.Ask.tree old in
    let a = c.in-Some-None.field-0-0 in
    let own = subst (λ (o : Option Term). IfSome o (g.J.Ask.is_type old)) c.in-Some-None.is-0 c.requires.first in
    sym ((λ i. run headers (identical (type_there (option_map tree (c.in-Some-None.is-0 i))) (type_there (option_map tree (c.in-Some-None.is-1 i)))))
    ∙ ap (λ (t : TypeData). run headers (identical t (of_list list []))) (g.met.J.Ask.plain old a own)
    ∙ typed-none headers a)

pub returns-in-None-Some-clause-answer : goal.returns-in-None-Some-clause-answer
returns-in-None-Some-clause-answer g c =
    let old = c.args.judge.now in
    let headers = g.J.Ask.headers old in
    let tree = g.J.Ask.tree old in
    let b = c.in-None-Some.field-0-1 in
    let own = subst (λ (o : Option Term). IfSome o (g.J.Ask.is_type old)) c.in-None-Some.is-1 c.requires.second in
    sym ((λ i. run headers (identical (type_there (option_map tree (c.in-None-Some.is-0 i))) (type_there (option_map tree (c.in-None-Some.is-1 i)))))
    ∙ ap (λ (t : TypeData). run headers (identical (of_list list []) t)) (g.met.J.Ask.plain old b own)
    ∙ none-typed headers b)

pub returns-in-None-None-clause-answer : goal.returns-in-None-None-clause-answer
returns-in-None-None-clause-answer g c =
    let headers = g.J.Ask.headers c.args.judge.now in
    let tree = g.J.Ask.tree c.args.judge.now in
    sym ((λ i. run headers (identical (type_there (option_map tree (c.in-None-None.is-0 i))) (type_there (option_map tree (c.in-None-None.is-1 i)))))
    ∙ none-none headers)
