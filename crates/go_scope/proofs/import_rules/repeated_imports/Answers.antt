use Rattle.std.proofs.Common.{arith, ◌&&◌, ◌||◌, ap, ◌∙◌}
use Rattle.indexmap.specs.IndexSet.{contains}
use Rattle.go_module.specs.Scopes.{same_node}
use Rattle.go_scope.specs.Marks.{is_import, marks_repeat}
use Rattle.go_scope.proofs.ListLemmas.{any_step}
use Rattle.go_scope.proofs.import_rules.repeated_imports.Goals as goal

pub loop-region-preserved : goal.loop-region-preserved
loop-region-preserved c = λ id.
    let r = c.region-item.result in
    let marked = ap (λ b. contains same_node c.loop-region.marks id || (is_import id r.import && b)) c.is_repeated.ensures in
    any_step (marks_repeat c.args.file.now id) c.regions-region-items.result.now c.loop-region.region-index r (contains same_node c.loop-region.marks id) (contains same_node c.add_mark.new.marks id) (omega arith) c.region-item.is (c.loop-region.invariant id) (c.in_ok-add_mark.ensures id ∙ marked)
