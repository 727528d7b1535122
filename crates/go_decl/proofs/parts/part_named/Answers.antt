use Rattle.std.proofs.Common.{arith, map, sym, ap, ◌∙◌}
use Rattle.std.specs.Prelude.{find}
use Rattle.std.specs.List.{flat_map}
use Rattle.std.specs.Option.{option_map}
use Rattle.go_module.specs.Modules.Module.{package_view}
use Rattle.go_decl.specs.Parts.{is_numbered, part_view, parts_of}
use Rattle.go_decl.proofs.FindLemmas.{found_now, not_yet}
use Rattle.go_decl.proofs.ListLemmas.{drop-step}
use Rattle.go_decl.proofs.parts.part_named.Goals as goal

pub loop-own-init : goal.loop-own-init
loop-own-init c = ap (λ packages. find (is_numbered c.args.d.0) (flat_map parts_of (map package_view packages))) c.deref-own-items.ensures.value

pub returns-in-Some : goal.returns-in-Some
returns-in-Some c =
    let xs = c.deref-own-items.result.now in
    let i = c.loop-own.own-index in
    let x = c.own-item.result in
    found_now (is_numbered c.args.d.0) parts_of package_view xs i x (drop-step xs i x (omega arith) c.own-item.is) (part_view c.in-Some.part)
    (sym c.in_ok-part.ensures ∙ ap (option_map part_view) c.in-Some.is) _ c.loop-own.invariant

pub loop-own-preserved : goal.loop-own-preserved
loop-own-preserved c =
    let xs = c.deref-own-items.result.now in
    let i = c.loop-own.own-index in
    let x = c.own-item.result in
    not_yet (is_numbered c.args.d.0) parts_of package_view xs i x (drop-step xs i x (omega arith) c.own-item.is)
    (sym c.in_ok-part.ensures ∙ ap (option_map part_view) c.in_default.is) _ c.loop-own.invariant
