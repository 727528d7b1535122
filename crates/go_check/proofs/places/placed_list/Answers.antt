use Rattle.std.proofs.Common.{◌==◌, nat_eq, ap, ◌∙◌}
use Rattle.std.proofs.lemmas.Result.{IfOk-weaker}
use Rattle.std.specs.List.{find}
use Rattle.std.specs.Option.{option_copied}
use Rattle.indexmap.specs.IndexMap.{get}
use Rattle.go_module.specs.declared.module.SourceFile.{SourceFile}
use Rattle.go_module.specs.Modules.Module.{file_view}
use Rattle.go_check.proofs.PlacedLemmas.{placed_each}
use Rattle.go_check.proofs.places.placed_list.Goals as goal

pub returns : goal.returns
returns c =
    let table = c.in_ok-table.table in
    IfOk-weaker c.placed_each.result _ _
    (λ placed is. is ∙ placed_each c.args.own.now (λ q. option_copied (get nat_eq table q)) c.args.list.now
    (λ q. c.in_ok-table.ensures q ∙ ap (find (λ (f : SourceFile). (file_view f).number == q)) c.deref.ensures.value))
    c.placed_each.ensures
