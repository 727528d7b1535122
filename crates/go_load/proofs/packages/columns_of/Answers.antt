use Rattle.std.proofs.Common.{length, not, ap, sym, ◌∙◌}
use Rattle.std.proofs.lemmas.List.{length-map}
use Rattle.go_module.specs.Modules.Paths.{has_path}
use Rattle.go_module.specs.Modules.Packages.{files_of, imports_of}
use Rattle.go_load.proofs.TableLemmas.{columns_imports, imports_graph}
use Rattle.go_load.proofs.packages.columns_of.Goals as goal

pub reached_packages-requires-clause-graph : goal.reached_packages-requires-clause-graph
reached_packages-requires-clause-graph c =
    let made = columns_imports c.in_ok-places.places c.args.paths.now c.in_ok-stubs.stubs.items c.deref.result.now c.args.heads.now c.in_ok-files.files.items c.deref-2.result.now c.in_ok-imports.imports.items (λ path. not (has_path c.args.own.now path)) (files_of c.args.homes.now) (c.in_ok-places.ensures.ascending c.requires) c.in_ok-stubs.ensures c.deref.ensures.value c.in_ok-files.ensures c.deref-2.ensures.value c.in_ok-imports.ensures in
    imports_graph c.args.paths.now c.in_ok-stubs.stubs.items c.args.heads.now (λ path. not (has_path c.args.own.now path)) (files_of c.args.homes.now) c.deref-4.result.now (c.deref-4.ensures.value ∙ made)

pub reached_packages-requires-clause-stubs : goal.reached_packages-requires-clause-stubs
reached_packages-requires-clause-stubs c =
    let made = columns_imports c.in_ok-places.places c.args.paths.now c.in_ok-stubs.stubs.items c.deref.result.now c.args.heads.now c.in_ok-files.files.items c.deref-2.result.now c.in_ok-imports.imports.items (λ path. not (has_path c.args.own.now path)) (files_of c.args.homes.now) (c.in_ok-places.ensures.ascending c.requires) c.in_ok-stubs.ensures c.deref.ensures.value c.in_ok-files.ensures c.deref-2.ensures.value c.in_ok-imports.ensures in
    ap length c.deref-3.ensures.value ∙ ap length c.in_ok-stubs.ensures ∙ length-map c.args.paths.now (λ path. not (has_path c.args.own.now path))
    ∙ sym (ap length c.deref-4.ensures.value ∙ ap length made ∙ length-map c.args.paths.now (λ path. imports_of c.args.paths.now c.in_ok-stubs.stubs.items c.args.heads.now (not (has_path c.args.own.now path)) (files_of c.args.homes.now path)))

pub returns-clause-imports : goal.returns-clause-imports
returns-clause-imports c =
    columns_imports c.in_ok-places.places c.args.paths.now c.in_ok-stubs.stubs.items c.deref.result.now c.args.heads.now c.in_ok-files.files.items c.deref-2.result.now c.in_ok-imports.imports.items (λ path. not (has_path c.args.own.now path)) (files_of c.args.homes.now) (c.in_ok-places.ensures.ascending c.requires) c.in_ok-stubs.ensures c.deref.ensures.value c.in_ok-files.ensures c.deref-2.ensures.value c.in_ok-imports.ensures

pub returns-clause-length : goal.returns-clause-length
returns-clause-length c =
    let made = columns_imports c.in_ok-places.places c.args.paths.now c.in_ok-stubs.stubs.items c.deref.result.now c.args.heads.now c.in_ok-files.files.items c.deref-2.result.now c.in_ok-imports.imports.items (λ path. not (has_path c.args.own.now path)) (files_of c.args.homes.now) (c.in_ok-places.ensures.ascending c.requires) c.in_ok-stubs.ensures c.deref.ensures.value c.in_ok-files.ensures c.deref-2.ensures.value c.in_ok-imports.ensures in
    c.in_ok-reached.ensures.length ∙ ap length c.deref-4.ensures.value ∙ ap length made
    ∙ length-map c.args.paths.now (λ path. imports_of c.args.paths.now c.in_ok-stubs.stubs.items c.args.heads.now (not (has_path c.args.own.now path)) (files_of c.args.homes.now path))
