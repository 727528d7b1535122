use Rattle.std.proofs.Common.{◌≡◌, Some, sym, ◌∙◌}
use Rattle.go_tree.specs.Lexical.Numbers.{number_kind}
use Rattle.std.proofs.Common.{slice_range}
use Rattle.go_scan.proofs.NumberLemmas.{number_kind_int_or_float}
use Rattle.go_scan.proofs.LongestLemmas.{number_is_longest, number_token_of, no_number_token, number_blamed}
use Rattle.go_scan.proofs.token.number_token.Goals as goal

pub returns-in-Some-default-clause-token : goal.returns-in-Some-default-clause-token
returns-in-Some-default-clause-token c =
    let bytes = c.args.bytes.now in
    let from = c.args.from in
    let to = c.number.result.1 in
    let is : number_kind (slice_range bytes from to) ≡ Some c.in-Some-default.kind = sym c.number.ensures.kind ∙ c.in-Some-default.is-0 in
    let w = c.number.ensures.within in
    let run = c.number.ensures.run in
    number_is_longest bytes c.in-Some-default.kind from to run c.number.ensures.longest w.0 w.1
    (number_token_of bytes c.in-Some-default.kind from to run is (number_kind_int_or_float (slice_range bytes from to) c.in-Some-default.kind is))

pub returns-in-None-default-clause-none : goal.returns-in-None-default-clause-none
returns-in-None-default-clause-none c =
    let w = c.number.ensures.within in
    no_number_token c.args.bytes.now c.args.from c.number.result.1 c.number.ensures.run c.number.ensures.longest w.0 w.1 c.number.ensures.point (sym c.in-None-default.is-0 ∙ c.number.ensures.kind)

pub returns-in-None-default-clause-blamed : goal.returns-in-None-default-clause-blamed
returns-in-None-default-clause-blamed c = number_blamed c.args.bytes.now c.args.from c.requires
