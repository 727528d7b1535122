use Rattle.std.proofs.Common.{◌≡◌, None, length, map, sym, ap, ◌∙◌, arith}
use Rattle.std.proofs.lemmas.Bool.Decides.{nat_tests}
use Rattle.go_judge.specs.Kinds.{no_type}
use Rattle.go_judge.specs.Judged.{rule_end, ruled}
use Rattle.go_judge.specs.Operands.{type_or_none}
use Rattle.go_expr.specs.Given.{recs_as}
use Rattle.go_expr.specs.TypeLiteral.{type_outcome}
use Rattle.go_expr.proofs.TypedLemmas.{by-spots, no-items, some-spots, types-are}
use Rattle.go_expr.proofs.typed.of_spots.Goals as goal

pub returns-in_ok-types_of-clause-typed : goal.returns-in_ok-types_of-clause-typed
returns-in_ok-types_of-clause-typed g c = λ make.
    let headers = g.J.Ask.headers c.args.judge.now in
    let rs = recs_as (g.J.Ask.tree c.args.judge.now) c.args.recs.now in
    let zero : length c.args.spots.items ≡ 0 = grind (arith, nat_tests, c.if-is_empty.ensures, c.args.spots.ok.0) in
    let none = no-items c.args.spots.items zero in
    let types = c.in_ok-types_of.ensures.types ∙ types-are 0 rs (sym c.requires.spots ∙ none) in
    ap (λ ts. type_outcome headers (make ts)) types
    ∙ ap (λ spots. ruled no_type (rule_end spots None) (type_outcome headers (make (map type_or_none rs)))) (sym none)
    ∙ by-spots headers rs (make (map type_or_none rs)) c.args.spots.items c.requires.spots

pub returns-else-is_empty-clause-typed : goal.returns-else-is_empty-clause-typed
returns-else-is_empty-clause-typed g c = λ make.
    let headers = g.J.Ask.headers c.args.judge.now in
    let rs = recs_as (g.J.Ask.tree c.args.judge.now) c.args.recs.now in
    some-spots headers (make (map type_or_none rs)) c.args.spots.items (λ none. (let zero : length c.args.spots.items ≡ 0 = ap length none in grind (arith, nat_tests, zero, c.if-is_empty.ensures, c.args.spots.ok.0)))
    ∙ by-spots headers rs (make (map type_or_none rs)) c.args.spots.items c.requires.spots
