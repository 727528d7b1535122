use Rattle.std.proofs.Common.{arith, sym, ap, ◌∙◌}
use Rattle.std.specs.Prelude.{find}
use Rattle.std.specs.List.{flat_map}
use Rattle.std.specs.Option.{option_map}
use Rattle.go_module.specs.Modules.Module.{package_view}
use Rattle.go_module.specs.Names.Declarations.{declared_in}
use Rattle.go_names.specs.Views.{declaration_view, spec_view, specs_view}
use Rattle.go_decl.specs.Parts.{is_numbered, part_of, parts_in}
use Rattle.go_decl.proofs.FindLemmas.{find-map, found_now, not_yet}
use Rattle.go_decl.proofs.ListLemmas.{drop-step}
use Rattle.go_decl.proofs.parts.part_in.Goals as goal

pub loop-spec-init : goal.loop-spec-init
loop-spec-init c =
    ap (λ specs. find (is_numbered c.args.d.0) (flat_map (parts_in (package_view c.args.own.now)) specs)) (ap specs_view c.deref-spec-items.ensures.value ∙ c.in_ok-specs.ensures)

pub returns-in-Some : goal.returns-in-Some
returns-in-Some c =
    let d = c.args.d.0 in
    let p = package_view c.args.own.now in
    let xs = c.deref-spec-items.result.now in
    let i = c.loop-spec.spec-index in
    let x = c.spec-item.result in
    found_now (is_numbered d) (parts_in p) spec_view xs i x (drop-step xs i x (omega arith) c.spec-item.is) (part_of p (spec_view x) (declaration_view c.in-Some.declaration))
    (find-map (is_numbered d) (part_of p (spec_view x)) (declared_in (spec_view x)) ∙ ap (option_map (part_of p (spec_view x))) (sym c.in_ok-declaration.ensures ∙ ap (option_map declaration_view) c.in-Some.is)) _
    c.loop-spec.invariant

pub loop-spec-preserved : goal.loop-spec-preserved
loop-spec-preserved c =
    let d = c.args.d.0 in
    let p = package_view c.args.own.now in
    let xs = c.deref-spec-items.result.now in
    let i = c.loop-spec.spec-index in
    let x = c.spec-item.result in
    not_yet (is_numbered d) (parts_in p) spec_view xs i x (drop-step xs i x (omega arith) c.spec-item.is)
    (find-map (is_numbered d) (part_of p (spec_view x)) (declared_in (spec_view x)) ∙ ap (option_map (part_of p (spec_view x))) (sym c.in_ok-declaration.ensures ∙ ap (option_map declaration_view) c.in_default.is)) _
    c.loop-spec.invariant
