use Rattle.std.proofs.Common.{◌++◌, sym, ap, ◌∙◌}
use Rattle.go_graph.specs.Cycles.{marks_of}
use Rattle.go_graph.specs.Graph.{is_marked, row_at}
use Rattle.go_load.specs.Packages.CyclicImports.{named_imports_in}
use Rattle.go_load.proofs.CyclicLemmas.{package_marked}
use Rattle.go_load.proofs.cycles_broken.add_package.Goals as goal

pub returns : goal.returns
returns c =
    let k = c.args.k in
    let all = named_imports_in c.args.places.now c.stubs-2.result.now c.args.heads.now c.is_marked-from_stub.result c.row_at-files.result.now in
    package_marked c.args.heads.now c.args.packages.now (marks_of c.args.marks.now) k c.args.places.now c.stubs-2.result.now c.is_marked-from_stub.result c.row_at-files.result.now
    c.deref.result.now c.marks_at.result.now c.args.found.now.items c.add_marked.new.found.items
    (ap (λ marks. is_marked marks k) (sym c.reached.ensures) ∙ sym c.is_marked.ensures ∙ c.if-not-is_marked.false)
    c.requires c.stubs-2.ensures
    (c.is_marked-from_stub.ensures ∙ ap (λ marks. is_marked marks k) c.stubs.ensures)
    (c.row_at-files.ensures ∙ ap (λ rows. row_at rows k) c.files.ensures)
    (c.deref.ensures.value ∙ c.in_ok-add_imports.ensures ∙ ap (λ front. front ++ all) c.new-list.ensures.items)
    c.marks_at.ensures
    c.in_ok-add_marked.ensures
