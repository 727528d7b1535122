use Rattle.std.proofs.Common.{◌≡◌, [], None, map, drop}
use Rattle.std.specs.List.{flat_map}
use Rattle.indexmap.specs.IndexMap.{insert_all}
use Rattle.go_module.specs.Modules.Module.{file_view}
use Rattle.go_module.specs.Names.Iotas.{iotas_in}
use Rattle.go_module.specs.Scopes.{same_node}
use Rattle.go_scope.proofs.iotas.iotas_of.Given as goal

abbrev pub invariant-loop-file : goal.invariant-loop-file
invariant-loop-file l =
    insert_all same_node l.iotas.entries (flat_map (λ f. iotas_in None f.tree) (map file_view (drop l.file-index l.files))) ≡ insert_all same_node [] (flat_map (λ f. iotas_in None f.tree) (map file_view l.files))
