use Rattle.std.proofs.Common.{List, subst}
use Rattle.std.specs.Option.{option_copied}
use Rattle.go_module.specs.declared.places.Placed.{Placed}
use Rattle.go_module.specs.Modules.Module.{module_view}
use Rattle.go_load.specs.declared.load_fault.LoadFault.{LoadFault}
use Rattle.go_load.specs.Packages.Made.{IsLoadFault}
use Rattle.go_laws.proofs.NodeFileLemmas.{nodes_are_numbered}
use Rattle.go_laws.proofs.NodeNumberLemmas.{node_numbers_ascend}
use Rattle.go_command.specs.Runs.{IsFirst}
use Rattle.go_command.proofs.RunLemmas.{first_run, whole_run}
use Rattle.go_command.proofs.run.text_and_verdict.Goals as goal

-- a module that is loaded has its numbers
pub whole-requires : goal.whole-requires
whole-requires g c =
    let loads = c.in-Ok.ensures.module in
    nodes_are_numbered (module_view c.in-Ok.module) (node_numbers_ascend loads.own loads.stubs (module_view c.in-Ok.module) loads.is_module)

pub returns-in_ok-whole-in-Ok-clause-text : goal.returns-in_ok-whole-in-Ok-clause-text
returns-in_ok-whole-in-Ok-clause-text g c =
    whole_run (g.T.Tree.files c.args.tree.now) (record { root = c.args.root.now; stubs = option_copied c.args.stubs }) (module_view c.in-Ok.module) _ _ c.in-Ok.ensures.module c.in_ok-whole-in-Ok.ensures

pub returns-in_ok-first-in-Err-Broken-clause-text : goal.returns-in_ok-first-in-Err-Broken-clause-text
returns-in_ok-first-in-Err-Broken-clause-text g c =
    let told = g.T.Tree.files c.args.tree.now in
    let stubs = option_copied c.args.stubs in
    let loads = subst (λ (fault : LoadFault). IsLoadFault told c.args.root.now stubs fault) c.in-Err-Broken.field-0-is c.in-Err-Broken.ensures.broken in
    let is = subst (λ (list : List Placed). IsFirst list c.in_ok-first-in-Err-Broken.field-0.0.items c.in_ok-first-in-Err-Broken.field-0.1) c.deref.ensures.value c.in_ok-first-in-Err-Broken.ensures in
    first_run told (record { root = c.args.root.now; stubs = stubs }) c.in-Err-Broken.list.items _ _ loads is
