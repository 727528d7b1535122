use Rattle.std.proofs.Common.{◌<◌, ℕ, List, length, map, ap, sym, subst, ◌∙◌}
use Rattle.std.specs.Prelude.{◌==◌, All, position}
use Rattle.go_module.specs.Modules.Module.{file_view}
use Rattle.go_load.specs.Packages.Assembly.{files_left, packages_with}
use Rattle.go_load.proofs.AssemblyLemmas.{module_made, order_inside, table_graph}
use Rattle.go_load.proofs.SlotLemmas.{all-views}
use Rattle.go_load.proofs.assemble.module_of.Goals as goal

pub module_order-requires : goal.module_order-requires
module_order-requires c = table_graph c.args.path.now c.args.heads.now c.args.packages.now c.requires

pub places_of-requires : goal.places_of-requires
places_of-requires c =
    subst (λ (xs : List ℕ). All (λ p. p < length c.paths.result.now) xs) (sym c.deref.ensures.value)
    (order_inside c.args.path.now c.args.heads.now c.args.packages.now c.in_ok-order.order.items (length c.paths.result.now) c.requires c.in_ok-order.ensures (ap length c.paths.ensures.paths))

pub returns : goal.returns
returns c =
    let heads = c.args.heads.now in
    let t = c.args.packages.now in
    module_made c.args.path.now (map file_view c.args.files.items) heads t c.in_ok-order.order.items c.in_ok-places.places.items (files_left c.in_ok-slots.slots.items) c.in_ok-text_name.field-0 _
    c.requires c.in_ok-order.ensures
    (λ q. c.in_ok-places.ensures q ∙ ap (λ (xs : List ℕ). position (λ p. p == q) xs) c.deref.ensures.value)
    (ap files_left c.in_ok-slots.ensures ∙ all-views file_view c.args.files.items)
    (c.in_ok-made.ensures ∙ (λ i. packages_with (files_left (c.deref_mut.ensures.value i)) heads t (c.deref-2.ensures.value i) (c.deref-3.ensures.value i)))
    c.in_ok-text_name.ensures
