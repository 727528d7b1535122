use Rattle.std.proofs.Common.{◌≡◌, ◌+◌, List, ◌∷◌, map, drop, ap, sym, ◌∙◌, arith}
use Rattle.std.specs.List.{flat_map}
use Rattle.indexmap.specs.IndexMap.{insert_all}
use Rattle.go_module.specs.declared.module.Package.{Package}
use Rattle.go_module.specs.Modules.Module.{package_view}
use Rattle.go_module.specs.Scopes.{same_object}
use Rattle.go_check.specs.declared.own_file.OwnFile.{OwnFile}
use Rattle.go_check.specs.Lines.Found.{declared_in_file, own_files_view}
use Rattle.go_check.proofs.DeclaredLemmas.{package_added}
use Rattle.go_decl.proofs.ListLemmas.{drop-step}
use Rattle.go_check.proofs.declared.declared_objects.Goals as goal

pub loop-place-preserved : goal.loop-place-preserved
loop-place-preserved c =
    let i = c.loop-place.place in
    let all : List Package = c.args.module.now.packages.items in
    let same : c.deref-own-items.result.now ≡ all = c.deref-own-items.ensures.value in
    let left : drop i all ≡ c.own-item.result ∷ drop (i + 1) all =
    ap (drop i) (sym same) ∙ drop-step c.deref-own-items.result.now i c.own-item.result (omega arith) c.own-item.is ∙ ap (λ (l : List Package). c.own-item.result ∷ drop (i + 1) l) same in
    package_added i (package_view c.own-item.result) (map package_view (drop i all)) (map package_view (drop (i + 1) all)) (own_files_view c.in_ok-own_files.field-0.items)
    c.loop-place.table.entries c.add_files.new.table.entries _
    (ap (map package_view) left) c.in_ok-own_files.ensures
    (c.in_ok-add_files.ensures ∙ ap (λ (l : List OwnFile). insert_all same_object c.loop-place.table.entries (flat_map (declared_in_file i) (own_files_view l))) c.deref.ensures.value)
    c.loop-place.invariant
