use Rattle.std.proofs.Common.{◌≤◌, min, length, arith}
use Rattle.go_module.specs.Names.Imports as rule
use Rattle.go_scope.specs.Known.{known_by}
use Rattle.go_scope.proofs.ImportLemmas.{imports_done}
use Rattle.go_scope.proofs.file_block.file_block.Goals as goal

pub returns : goal.returns
returns c =
    let specs = c.args.specs.now in
    let packages = c.args.packages.now in
    let behind : min (length specs) (length packages) ≤ c.loop-i.i = omega arith in
    let regions_are = imports_done (rule.import_regions (known_by c.args.before.now)) c.args.importer c.args.file specs packages c.loop-i.i c.loop-i.regions.items _ behind c.loop-i.invariant.regions_are in
    let imports_are = imports_done rule.import_of c.args.importer c.args.file specs packages c.loop-i.i c.loop-i.imports.items _ behind c.loop-i.invariant.imports_are in
    λ i. record { regions = regions_are i; imports = imports_are i }
