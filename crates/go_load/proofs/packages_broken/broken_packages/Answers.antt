use Rattle.std.proofs.Common.{◌++◌, List, ℕ, ap, sym, subst, ◌∙◌}
use Rattle.go_base.specs.declared.rule.Broken.{Broken}
use Rattle.go_module.specs.Modules.BrokenImports.{broken_imports_in}
use Rattle.go_module.specs.Order.{IsListOf}
use Rattle.go_graph.specs.Graph.{IsGraph}
use Rattle.go_graph.specs.Cycles.{MarksCycles, marks_of}
use Rattle.go_load.specs.Packages.CyclicImports.{cyclic_in}
use Rattle.go_load.proofs.CyclicLemmas.{packages_told}
use Rattle.go_load.proofs.TableGraphLemmas.{table_graph}
use Rattle.go_load.proofs.packages_broken.broken_packages.Goals as goal

pub cyclic_edges-requires : goal.cyclic_edges-requires
cyclic_edges-requires c =
    subst (λ (g : List (List ℕ)). IsGraph g) (sym c.imports.ensures) (table_graph c.args.module_path.now c.args.heads.now c.args.packages.now c.requires)

pub returns : goal.returns
returns c =
    let heads = c.args.heads.now in
    let t = c.args.packages.now in
    let rows = marks_of c.in_ok-marks.marks.items in
    let marks = subst (λ (g : List (List ℕ)). MarksCycles g rows) c.imports.ensures c.in_ok-marks.ensures in
    let found = c.in_ok-add_cyclic_imports.ensures
    ∙ ap (λ (front : List Broken). front ++ cyclic_in heads t (marks_of c.deref.result.now)) (c.in_ok-add_broken_imports.ensures ∙ ap (λ (front : List Broken). front ++ broken_imports_in heads t) c.new-found.ensures.items)
    ∙ ap (λ all. broken_imports_in heads t ++ cyclic_in heads t (marks_of all)) c.deref.ensures.value in
    packages_told c.args.module_path.now heads t rows c.requires marks c.ordered.result.items
    (subst (λ (list : List Broken). IsListOf list c.ordered.result.items) found c.ordered.ensures)
