use Rattle.std.proofs.Common.{◌≡◌, sym, ◌∙◌, subst, arith}
use Rattle.std.proofs.lemmas.List.{length-map}
use Rattle.std.specs.List.{list_all}
use Rattle.go_module.specs.Modules.Module.{module_view, package_view}
use Rattle.go_scope.specs.Collecting.{AreBefore, IsScopeFault}
use Rattle.go_check.specs.Packages.Names.{sound_at}
use Rattle.go_decl.proofs.ListLemmas.{viewed_at}
use Rattle.go_check.proofs.NamesLemmas.{are_before, collected_at, imports_another, one_more}
use Rattle.go_check.proofs.ResultLemmas.{both_on_ok}
use Rattle.go_check.proofs.names.add_next.Goals as goal

pub collect-requires : goal.collect-requires
collect-requires c =
    let m = module_view c.args.module.now in
    let p = package_view c.index.result.now in
    let at = viewed_at package_view c.args.module.now.packages.items c.args.place c.index.result.now c.requires.within c.index.ensures in
    let asked : list_all (sound_at c.deref.result.now) c.deref-2.result.now ≡ list_all (sound_at c.args.names.now.verdicts.items) p.imports = (λ i. list_all (sound_at (c.deref.ensures.value i)) (c.deref-2.ensures.value i)) in
    let all = sym asked ∙ sym c.imports_sound.ensures ∙ c.if-not-imports_sound.false in
    let same = length-map c.args.module.now.packages.items package_view in
    subst (AreBefore m c.args.place) (sym c.deref-3.ensures.value) (are_before m c.args.place p c.args.names.now c.requires.before (omega (arith, c.requires.within, same)) at all)

pub returns-then-not-imports_sound : goal.returns-then-not-imports_sound
returns-then-not-imports_sound c =
    let m = module_view c.args.module.now in
    let p = package_view c.index.result.now in
    let old = c.args.names.now in
    let at = viewed_at package_view c.args.module.now.packages.items c.args.place c.index.result.now c.requires.within c.index.ensures in
    let asked : list_all (sound_at c.deref.result.now) c.deref-2.result.now ≡ list_all (sound_at old.verdicts.items) p.imports = (λ i. list_all (sound_at (c.deref.ensures.value i)) (c.deref-2.ensures.value i)) in
    let other = sym asked ∙ sym c.imports_sound.ensures ∙ c.if-not-imports_sound.true in
    both_on_ok c.add_empty.result
    (λ scopes verdicts. one_more m c.args.place old c.add_empty.new.names _ c.requires.before verdicts scopes (λ e. absurd (cc e)) tt
    (λ q _ there are. imports_another m c.args.place p old.verdicts.items at other q there are))
    c.add_empty.ensures.scopes c.add_empty.ensures.verdicts

pub returns-in-Ok : goal.returns-in-Ok
returns-in-Ok c =
    let m = module_view c.args.module.now in
    let old = c.args.names.now in
    both_on_ok c.add.result
    (λ scopes verdicts. one_more m c.args.place old c.add.new.names _ c.requires.before verdicts (record { one = c.shrunk.result; added = scopes })
    (λ _. collected_at m c.args.place old.scopes.items c.add.new.names.scopes.items c.shrunk.result scopes c.requires.before.scopes_length (c.shrunk.ensures m c.args.place c.in-Ok.ensures.ok))
    tt
    (λ q e there are. cc e))
    c.add.ensures.scopes c.add.ensures.verdicts

pub returns-in-Err-Broken : goal.returns-in-Err-Broken
returns-in-Err-Broken c =
    let m = module_view c.args.module.now in
    let old = c.args.names.now in
    both_on_ok c.add_empty-in-Err-Broken.result
    (λ scopes verdicts. one_more m c.args.place old c.add_empty-in-Err-Broken.new.names _ c.requires.before verdicts scopes (λ e. absurd (cc e))
    (subst (IsScopeFault m c.args.place) c.in-Err-Broken.field-0-is c.in-Err-Broken.ensures.err)
    (λ q e there are. cc e))
    c.add_empty-in-Err-Broken.ensures.scopes c.add_empty-in-Err-Broken.ensures.verdicts
