use Rattle.go_module.specs.Modules.Module.{module_view}
use Rattle.go_check.proofs.NamesLemmas.{no_names}
use Rattle.go_check.proofs.names.names_of.Goals as goal

pub loop-place-init : goal.loop-place-init
loop-place-init c = no_names (module_view c.args.module.now) (record { scopes = c.new.result; verdicts = c.new-2.result }) c.new.ensures.items c.new-2.ensures.items
