use Rattle.std.proofs.Common.{◌≡◌, drop}
use Rattle.std.specs.Prelude.{find}
use Rattle.std.specs.List.{flat_map}
use Rattle.go_module.specs.Modules.Module.{package_view}
use Rattle.go_names.specs.Views.{specs_view}
use Rattle.go_decl.specs.Parts.{is_numbered, parts_in, parts_of}
use Rattle.go_decl.proofs.parts.part_in.Given as goal

-- the first of all is the first of those of the specs that are left
abbrev pub invariant-loop-spec : goal.invariant-loop-spec
invariant-loop-spec l =
    find (is_numbered l.d.0) (flat_map (parts_in (package_view l.own)) (specs_view (drop l.spec-index l.spec-items))) ≡ find (is_numbered l.d.0) (parts_of (package_view l.own))
