use denote.Enum.Bare.{same_true}
use Rattle.std.proofs.Common.{◌≡◌, sym, ◌∙◌}
use Rattle.go_tree.specs.contracts.token.TokenKind.{the_type}
use Rattle.go_tree.specs.declared.token.TokenKind.TheVariants.{End}
use Rattle.go_parse_tests.proofs.literal_tests.taken.Goals as goal

pub returns-then-eq-clause-token : goal.returns-then-eq-clause-token
returns-then-eq-clause-token c =
    let same : c.in-Ok.token.kind ≡ c.args.kind = sym (same_true the_type tt _ _ (sym c.eq.ensures ∙ c.if-eq.true)) in
    let goes_on : c.in-Ok.token.kind ≡ End → ⊥ = λ e. c.requires.kind (sym same ∙ e) in
    let passed = c.in-Ok.ensures.passed goes_on in
    (same, (c.in-Ok.ensures.token, goes_on, (sym passed.0, sym passed.1)))
