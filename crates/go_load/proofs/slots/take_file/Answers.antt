use Rattle.std.proofs.Common.{ap, ◌∙◌, sym}
use Rattle.std.specs.Prelude.{option_map, slice_set}
use Rattle.std.proofs.lemmas.List.{length-map, map-set}
use Rattle.go_module.specs.Modules.Module.{file_view}
use Rattle.go_load.specs.Packages.Assembly.{files_left}
use Rattle.go_load.proofs.SlotLemmas.{slot-past}
use Rattle.go_load.proofs.slots.take_file.Goals as goal

pub returns-then-number-slots-clause-rest : goal.returns-then-number-slots-clause-rest
returns-then-number-slots-clause-rest c =
    let slots = c.args.slots.now in
    map-set (option_map file_view) slots c.args.number c.take.new.self
    ∙ ap (λ o. slice_set (files_left slots) c.args.number (option_map file_view o)) c.take.ensures.after

pub returns-else-number-slots-clause-file : goal.returns-else-number-slots-clause-file
returns-else-number-slots-clause-file c =
    sym (slot-past (files_left c.args.slots.now) c.args.number (rw (length-map c.args.slots.now (option_map file_view)) c.if-number-slots.false))
