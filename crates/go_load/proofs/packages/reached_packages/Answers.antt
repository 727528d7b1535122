use Rattle.std.proofs.Common.{◌∙◌}
use Rattle.go_load.proofs.LoadLemmas.{ok_cases}
use Rattle.go_load.proofs.ReachedLemmas.{reached_own}
use Rattle.go_load.proofs.packages.reached_packages.Goals as goal

pub returns-clause-exact : goal.returns-clause-exact
returns-clause-exact c =
    ok_cases _ _ c.reached.result
    (λ marks exact. reached_own c.args.stubs.now c.deref.result.now c.args.imports.now (c.deref.ensures.value ∙ c.in_ok-own.ensures) marks.items exact)
    c.reached.ensures.exact
