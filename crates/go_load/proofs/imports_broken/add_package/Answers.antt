use Rattle.std.proofs.Common.{sym, ap, ◌∙◌}
use Rattle.go_graph.specs.Graph.{is_marked, row_at}
use Rattle.go_load.proofs.BrokenLemmas.{package_told}
use Rattle.go_load.proofs.imports_broken.add_package.Goals as goal

pub returns : goal.returns
returns c =
    let k = c.args.k in
    package_told c.args.heads.now c.args.packages.now k c.args.places.now c.stubs-2.result.now c.is_marked-from_stub.result c.row_at-files.result.now
    c.args.found.now.items c.add_names.new.found.items c.add_imports.new.found.items
    (ap (λ marks. is_marked marks k) (sym c.reached.ensures) ∙ sym c.is_marked.ensures ∙ c.if-not-is_marked.false)
    c.requires c.stubs-2.ensures
    (c.is_marked-from_stub.ensures ∙ ap (λ marks. is_marked marks k) c.stubs.ensures)
    (c.row_at-files.ensures ∙ ap (λ rows. row_at rows k) c.files.ensures)
    c.in_ok-add_names.ensures c.in_ok-add_imports.ensures
