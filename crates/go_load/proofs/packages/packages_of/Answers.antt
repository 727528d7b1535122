use Rattle.std.proofs.Common.{ap, sym, subst, ◌∙◌}
use Rattle.go_module.specs.Modules.Paths.{has_path}
use Rattle.go_module.specs.Modules.Packages.{PackageTable, IsTableOf}
use Rattle.go_load.proofs.TableLemmas.{table_of}
use Rattle.go_load.proofs.packages.packages_of.Goals as goal

pub returns : goal.returns
returns c =
    let m = c.args.module_path.now in
    let heads = c.args.heads.now in
    let did = c.in_ok-columns.ensures in
    subst (λ (t : PackageTable). IsTableOf m heads t) (sym c.new.ensures) (table_of m heads c.in_ok-own.own
    (λ path. c.in_ok-own.ensures.has path ∙ ap (λ listed. has_path listed path) (c.deref.ensures.value ∙ c.in_ok-listed.ensures))
    c.in_ok-homes.homes.items c.deref-2.result.now c.deref-3.result.now c.in_ok-paths.paths.items c.deref-4.result.now
    c.in_ok-columns.columns.stubs.items c.in_ok-columns.columns.files.items c.in_ok-columns.columns.imports.items c.in_ok-columns.columns.reached.items
    c.in_ok-homes.ensures c.deref-2.ensures.value c.deref-3.ensures.value c.deref-4.ensures.value c.in_ok-paths.ensures did.stubs did.files did.imports did.length did.reached)
