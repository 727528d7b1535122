use Rattle.std.proofs.Common.{◌≡◌, ℕ, List, None, slice_get, sym, arith}
use Rattle.std.specs.Map.{lookup}
use Rattle.std.specs.Map.Iter.{deref_pair}
use Rattle.std.proofs.lemmas.List.{append-nil}
use Rattle.std.proofs.lemmas.Option.{slice_get_past}
use Rattle.std.proofs.lemmas.Map.Iter.{rest_more}
use Rattle.go_tree.specs.Tree.{tree_of}
use Rattle.go_base.specs.declared.ids.ObjId.{ObjId}
use Rattle.go_module.specs.Names.Exported as exported
use Rattle.go_module.specs.Names.Imports as rule
use Rattle.go_module.specs.Scopes.{same_object}
use Rattle.go_scope.specs.Known.{importing}
use Rattle.go_scope.proofs.ImportLemmas.{export_more}
use Rattle.go_scope.proofs.imports.add_exports.Goals as goal

pub loop-name-preserved : goal.loop-name-preserved
loop-name-preserved c =
    let left = rest_more deref_pair c.loop-name.name-iterator c.next.new.self c.next.result (c.in-Some-2.name, c.in-Some-2.id) c.in-Some-2.is c.next.ensures.steps in
    export_more (rule.dot_region (importing c.args.import.now) (tree_of c.args.string.now)) (λ (entry : List ℕ × ObjId). lookup (same_object entry.1) c.in-Some.found.now.objects.entries) (λ (entry : List ℕ × ObjId). exported.is_exported entry.0) (c.in-Some-2.name.now, c.in-Some-2.id.now) c.loop-name.name-iterator c.next.new.self c.loop-name.regions.items c.add_export.new.regions.items _ left c.loop-name.invariant c.in_ok-add_export.ensures

pub returns-in_default : goal.returns-in_default
returns-in_default c =
    let none : slice_get c.args.before.now.scopes.now c.args.import.now.imported ≡ None = slice_get_past c.args.before.now.scopes.now c.args.import.now.imported (omega (arith, c.in_default.ensures.lookup)) in
    rw none (sym (append-nil c.args.regions.now.items))
