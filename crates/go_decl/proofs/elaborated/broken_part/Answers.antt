use Rattle.std.proofs.Common.{◌≡◌, map, ap, ◌∙◌, subst}
use Rattle.go_module.specs.Modules.Module.{file_view}
use Rattle.go_module.specs.Order.{IsListOf}
use Rattle.go_module.specs.Places.{with_number}
use Rattle.go_expr.specs.Read.{outcome_read}
use Rattle.go_decl.specs.Parts.{broken_part_by, broken_under, part_view}
use Rattle.go_decl.proofs.elaborated.broken_part.Goals as goal

pub returns : goal.returns
returns g c =
    let read = outcome_read (g.W.Ask.outcomes c.args.walks.now) in
    let part = part_view c.args.part.now in
    let found : c.push_part.new.found.items ≡ broken_under read part.spec part.declaration =
    rw c.new-found.ensures.items at c.in_ok-push_part.ensures in
    let told : c.in_ok-with_numbers.field-0.items ≡ broken_part_by read part =
    c.in_ok-with_numbers.ensures ∙ (λ i. map (with_number (map file_view (c.deref.ensures.value i))) (c.deref-2.ensures.value i)) ∙ ap (map (with_number part.own.files)) found in
    subst (λ l. IsListOf l c.ordered.result.items) told c.ordered.ensures
