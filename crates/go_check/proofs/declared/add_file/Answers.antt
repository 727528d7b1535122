use Rattle.std.proofs.Common.{◌≡◌, List, subst}
use Rattle.std.specs.Prelude.{OnOk}
use Rattle.go_base.specs.declared.ids.ObjId.{ObjId}
use Rattle.go_report.specs.declared.declared_object.DeclaredObject.{DeclaredObject}
use Rattle.go_check.proofs.DeclaredLemmas.{file_added}
use Rattle.go_check.proofs.declared.add_file.Goals as goal

pub returns : goal.returns
returns c =
    subst (λ (l : List (ObjId × DeclaredObject)). OnOk c.add_names.result (c.add_names.new.table.entries ≡ l))
    (file_added c.args.place c.args.file.now c.args.table.now.entries c.add_imports.new.table.entries c.deref.result.now c.deref-2.result.now c.in_ok-declarations_in.field-0.items c.deref-3.result.now
    c.deref.ensures.value c.deref-2.ensures.value c.in_ok-declarations_in.ensures c.deref-3.ensures.value c.in_ok-add_imports.ensures)
    c.add_names.ensures
