use Rattle.std.specs.Option.{option_copied}
use Rattle.go_module.specs.Modules.Module.{module_view}
use Rattle.go_load.proofs.LoadLemmas.{loads_module, made_fault, ok_cases, err_cases}
use Rattle.go_load.proofs.loading.load.Goals as goal

pub returns-clause-module : goal.returns-clause-module
returns-clause-module g c =
    ok_cases _ _ c.made.result
    (λ m made. loads_module (g.T.Tree.files c.args.tree.now) c.args.root.now (option_copied c.args.stubs) c.in_ok-read.read.path c.in_ok-read.read.texts.items (module_view m) c.in_ok-read.ensures.read made)
    c.made.ensures.module

pub returns-clause-broken : goal.returns-clause-broken
returns-clause-broken g c =
    err_cases _ _ c.made.result
    (λ fault breaks. made_fault (g.T.Tree.files c.args.tree.now) c.args.root.now (option_copied c.args.stubs) c.in_ok-read.read.path c.in_ok-read.read.texts.items fault c.in_ok-read.ensures.read breaks)
    c.made.ensures.broken
