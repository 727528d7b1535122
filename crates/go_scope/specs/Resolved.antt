-- What an occurrence denotes, as rules and tables ask for it.
use Rattle.std.specs.Prelude.{ℕ, Bool, false, not, ◌&&◌, is_none, is_some, List, [], ◌∷◌, ◌++◌, Option, map, option_and_then}
use Rattle.std.specs.List.{flat_map, list_any}
use Rattle.std.specs.Option.{option_map, option_map_or}
use Rattle.go_base.specs.declared.rule.Broken.{Broken}
use Rattle.go_tree.specs.declared.node.NodeId.{NodeId}
use Rattle.go_module.specs.declared.block.Import.{Import}
use Rattle.go_module.specs.declared.block.Occurrence.{Occurrence}
use Rattle.go_module.specs.declared.block.Region.{Region}
use Rattle.go_base.specs.declared.ids.ObjId.{ObjId}
use Rattle.go_module.specs.declared.object.Object.{Object}
use Rattle.go_module.specs.Broken.{broken_at, told_if}
use Rattle.go_module.specs.Modules.Module.{FileData}
use Rattle.go_module.specs.Scopes.{same_node}
use Rattle.go_module.specs.Names.Rules.BlockRules.{repeated, reserved, missing_main_at}
use Rattle.go_module.specs.Names.Rules.MemberRules.{broken_in_spec}
use Rattle.go_module.specs.Names.Declarations.{Spec}
use Rattle.go_module.specs.Names.PackageBlock.{object_id}
use Rattle.go_module.specs.Names.Exported.{is_blank_identifier}
use Rattle.go_module.specs.Names.Imports.{PackageNames}
use Rattle.go_module.specs.Names.Rules.ImportRules.{unused_import, is_repeated_by, conflicting}
use Rattle.go_module.specs.Names.Rules.OccurrenceRules.{undeclared_name, blank_at, missing_in, misplaced_package, complex_name, is_complex}
use Rattle.go_module.specs.Names.Tables.{Member, member_of}
use Rattle.go_scope.specs.declared.resolved.Denoted.{Denoted}
use Rattle.go_scope.specs.declared.resolved.Resolved.{Resolved}
use Rattle.go_scope.specs.Blocks.{BlockData}
use Rattle.go_scope.specs.Held.{innermost, is_declared}

abbrev pub denoted_of : Region → Denoted
denoted_of r = record { object = object_id r.object; import = r.import; denotes = r.denotes; complex = is_complex r }

-- an occurrence among the blocks of the universe, the package and its file
abbrev pub resolved_in : List Region → List Region → List Region → Occurrence → Resolved
resolved_in universe block file o = record { occurrence = o; held = is_declared universe block file o.name; denoted = option_map denoted_of (innermost universe block file o.name) }

-- the rules on occurrences
abbrev pub undeclared_by : Resolved → List Broken
undeclared_by r = told_if (not (is_blank_identifier r.occurrence.name) && not r.held) (broken_at r.occurrence.file r.occurrence.at undeclared_name)

abbrev pub package_by : Resolved → Option ℕ
package_by r = option_and_then (λ (d : Denoted). d.denotes) r.denoted

abbrev pub misplaced_by : Resolved → List Broken
misplaced_by r = told_if (is_none r.occurrence.selected && is_some (package_by r)) (broken_at r.occurrence.file r.occurrence.at misplaced_package)

abbrev pub missing_by : (ℕ → PackageNames) → Resolved → List Broken
missing_by known r = missing_in known r.occurrence.file (package_by r) r.occurrence.selected

abbrev pub complex_by : Resolved → List Broken
complex_by r = told_if (option_map_or (λ (d : Denoted). d.complex) r.denoted false) (broken_at r.occurrence.file r.occurrence.at complex_name)

abbrev pub broken_by : (ℕ → PackageNames) → Resolved → List Broken
broken_by known r = undeclared_by r ++ (blank_at r.occurrence ++ (misplaced_by r ++ (missing_by known r ++ complex_by r)))

-- the occurrence denotes what the import declares
abbrev pub uses_by : NodeId → Resolved → Bool
uses_by id r = option_map_or (λ (d : Denoted). option_map_or (λ spec. same_node id spec) d.import false) r.denoted false

abbrev pub unused_by : List Region → List Resolved → Import → List Broken
unused_by file resolved i = told_if (not (is_repeated_by file i) && not (list_any (uses_by i.id) resolved)) (broken_at i.file i.at unused_import)

-- what the imports of a file break
abbrev pub broken_imports_by : List Region → List Region → List Import → List Resolved → List Broken
broken_imports_by block own imports resolved = repeated own ++ (conflicting block own imports ++ flat_map (unused_by own resolved) imports)

-- what a file breaks, by the blocks around it and its specs
abbrev pub broken_file_by : (ℕ → PackageNames) → Bool → List Region → BlockData → ℕ → FileData → List Resolved → List Spec → List Broken
broken_file_by known is_main block own i f resolved specs =
    missing_main_at is_main i f
    ++ (reserved is_main own.regions
    ++ (broken_imports_by block own.regions own.imports resolved
    ++ (flat_map (broken_by known) resolved
    ++ flat_map broken_in_spec specs)))

-- what the tables get of an occurrence
abbrev pub members_by : (ℕ → PackageNames) → Resolved → List Member
members_by known r = member_of known (package_by r) r.occurrence.selected

abbrev pub member_pair : Member → NodeId × ObjId
member_pair member = (member.id, object_id member.object)

abbrev pub pairs_by : (ℕ → PackageNames) → Resolved → List (NodeId × ObjId)
pairs_by known r =
    option_map_or (λ (d : Denoted). (r.occurrence.id, d.object) ∷ []) r.denoted []
    ++ map member_pair (members_by known r)

abbrev pub member_entry : Member → ObjId × Object
member_entry member = (object_id member.object, member.object)
