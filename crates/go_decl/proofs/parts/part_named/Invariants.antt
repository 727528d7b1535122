use Rattle.std.proofs.Common.{◌≡◌, drop, map}
use Rattle.std.specs.Prelude.{find}
use Rattle.std.specs.List.{flat_map}
use Rattle.go_module.specs.Modules.Module.{module_view, package_view}
use Rattle.go_decl.specs.Parts.{is_numbered, part_named, parts_of}
use Rattle.go_decl.proofs.parts.part_named.Given as goal

-- the first of all is the first of those of the packages that are left
abbrev pub invariant-loop-own : goal.invariant-loop-own
invariant-loop-own l =
    find (is_numbered l.d.0) (flat_map parts_of (map package_view (drop l.own-index l.own-items))) ≡ part_named (module_view l.module) l.d.0
