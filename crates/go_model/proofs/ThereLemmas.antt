-- Each object that an identifier of a package denotes is in the package's table of objects.
use Rattle.std.proofs.Common.{◌≡◌, ℕ, true, Option, Some, None, List, [], ◌∷◌, ◌++◌, ◌⊎◌, inl, inr, map, Contains, refl, sym, subst, arith}
use Rattle.std.specs.Prelude.{IfSome, filter}
use Rattle.std.specs.List.{flat_map}
use Rattle.std.specs.Map.{lookup}
use Rattle.std.specs.Option.{option_map_or}
use Rattle.std.proofs.lemmas.Bool.Decides.{nat_tests}
use Rattle.std.proofs.lemmas.List.Elements.{Contains-append_cases, Contains-append_left, Contains-append_right}
use Rattle.go_base.specs.declared.ids.ObjId.{ObjId}
use Rattle.go_tree.specs.declared.node.NodeId.{NodeId}
use Rattle.go_module.specs.declared.block.Occurrence.{Occurrence}
use Rattle.go_module.specs.declared.block.Region.{Region}
use Rattle.go_module.specs.declared.object.Object.{Object}
use Rattle.go_module.specs.declared.scopes.Scopes.{Scopes}
use Rattle.go_module.specs.Modules.Module.{ModuleData, PackageData}
use Rattle.go_module.specs.Names.Imports.{file_block, imports_of, known_in}
use Rattle.go_module.specs.Names.PackageBlock.{object_id, package_block, region_entries}
use Rattle.go_module.specs.Names.Regions.{holds, lies_inside_others, regions_of, resolution}
use Rattle.go_module.specs.Names.Tables.{HasTables, Member, members_at, members_of, objects_in, occurrences_from, outer_regions, uses_at, uses_of}
use Rattle.go_module.specs.Names.Universe.{universe}
use Rattle.go_module.specs.Scopes.{same_node, same_object}
use Rattle.go_module.proofs.MemberLemmas.{contains_none}
use Rattle.go_module.proofs.TableLemmas.{node_denotes, present_in}
use Rattle.go_judge.specs.Naming.{AreThere}
use Rattle.go_model.specs.Naming.{names_by, names_in, uses_table}
use Rattle.go_model.proofs.FlatLemmas.{filter_within, find_within, flat_cases, flat_contains, map_cases, map_contains, only_is}

-- an object has its own number
pub object_self : (a : ObjId) → same_object a a ≡ true
object_self a = grind (arith, nat_tests)

-- WHAT IS DENOTED IS AN OBJECT OF THE PACKAGE

module _ (m : ModuleData) (k : ℕ) (p : PackageData) where
  abbrev regions : List Region
  regions = regions_of (known_in m) k p

  abbrev file_regions : List Region
  file_regions = flat_map (file_block (known_in m)) (imports_of k p)

  abbrev entries : List (ObjId × Object)
  entries = objects_in (known_in m) k p

  abbrev outer_entries : List (ObjId × Object)
  outer_entries = region_entries (outer_regions (known_in m) k p)

  abbrev member_entries : List (ObjId × Object)
  member_entries = map (λ (member : Member). (object_id member.object, member.object)) (members_of (known_in m) k p)

  abbrev block_entries : List (ObjId × Object)
  block_entries = region_entries (package_block k p)

  -- some entry has the number
  abbrev HasEntry : ObjId → Type 0
  HasEntry d = (o : Object) × Contains entries (d, o)

  outer_entry : (r : Region) → Contains (outer_regions (known_in m) k p) r → HasEntry (object_id r.object)
  outer_entry r h = (
    r.object,
    Contains-append_left outer_entries (member_entries ++ block_entries) (object_id r.object, r.object)
        (map_contains (λ (x : Region). (object_id x.object, x.object)) (outer_regions (known_in m) k p) r h),
  )

  member_entry : (member : Member) → Contains (members_of (known_in m) k p) member → HasEntry (object_id member.object)
  member_entry member h = (
    member.object,
    Contains-append_right outer_entries (member_entries ++ block_entries) (object_id member.object, member.object)
        (Contains-append_left member_entries block_entries (object_id member.object, member.object)
        (map_contains (λ (x : Member). (object_id x.object, x.object)) (members_of (known_in m) k p) member h)),
  )

  block_entry : (r : Region) → Contains (package_block k p) r → HasEntry (object_id r.object)
  block_entry r h = (
    r.object,
    Contains-append_right outer_entries (member_entries ++ block_entries) (object_id r.object, r.object)
        (Contains-append_right member_entries block_entries (object_id r.object, r.object)
        (map_contains (λ (x : Region). (object_id x.object, x.object)) (package_block k p) r h)),
  )

  region_entry : (r : Region) → Contains regions r → HasEntry (object_id r.object)
  region_entry r h = by_universe (Contains-append_cases universe (package_block k p ++ file_regions) r h)
    where
      by_block : Contains (package_block k p) r ⊎ Contains file_regions r → HasEntry (object_id r.object)
      by_block (inl in_block) = block_entry r in_block
      by_block (inr in_file) = outer_entry r (Contains-append_right universe file_regions r in_file)

      by_universe : Contains universe r ⊎ Contains (package_block k p ++ file_regions) r → HasEntry (object_id r.object)
      by_universe (inl in_universe) = outer_entry r (Contains-append_left universe file_regions r in_universe)
      by_universe (inr there) = by_block (Contains-append_cases (package_block k p) file_regions r there)

  -- a use is of what an occurrence denotes, or of a member
  resolved_entry : (o : Occurrence) (pair : NodeId × ObjId) (found : Option Region) → resolution regions o ≡ found
      → Contains (option_map_or {U = List (NodeId × ObjId)} (λ (r : Region). (o.id, object_id r.object) ∷ []) found []) pair → HasEntry pair.1
  resolved_entry o pair None is h = absurd (contains_none pair h)
  resolved_entry o pair (Some r) is h =
      let held = filter (holds o) regions in
      subst (λ (x : NodeId × ObjId). HasEntry x.1) (only_is (o.id, object_id r.object) pair h)
      (region_entry r (filter_within (holds o) regions r (find_within (lies_inside_others held) held r is)))

  abbrev resolved_uses : Occurrence → List (NodeId × ObjId)
  resolved_uses o = option_map_or (λ (r : Region). (o.id, object_id r.object) ∷ []) (resolution regions o) []

  abbrev member_uses : Occurrence → List (NodeId × ObjId)
  member_uses o = map (λ (member : Member). (member.id, object_id member.object)) (members_at (known_in m) regions o)

  use_entry : (pair : NodeId × ObjId) → Contains (uses_of (known_in m) k p) pair → HasEntry pair.1
  use_entry pair h =
      let from = flat_cases (uses_at (known_in m) regions) (occurrences_from 0 p.files) pair h in
      by_cases from.0 from.1 (Contains-append_cases (resolved_uses from.0) (member_uses from.0) pair from.2)
    where
      by_cases : (o : Occurrence) → Contains (occurrences_from 0 p.files) o → Contains (resolved_uses o) pair ⊎ Contains (member_uses o) pair → HasEntry pair.1
      by_cases o among (inl resolved) = resolved_entry o pair (resolution regions o) refl resolved
      by_cases o among (inr selected) =
          let made = map_cases (λ (x : Member). (x.id, object_id x.object)) (members_at (known_in m) regions o) pair selected in
          subst (λ (x : NodeId × ObjId). HasEntry x.1) made.2
          (member_entry made.0 (flat_contains (members_at (known_in m) regions) (occurrences_from 0 p.files) o made.0 among made.1))

  -- so what the table of uses has, that of objects has
  pub are_there : AreThere (names_in m k p)
  are_there id d denoted =
      let node : NodeId = record { 0 = id } in
      let used : Contains (uses_of (known_in m) k p) (node, d) =
      subst (λ (o : Option ObjId). IfSome o (λ (v : ObjId). Contains (uses_of (known_in m) k p) (node, v))) denoted
      (node_denotes (uses_table m k p) (uses_of (known_in m) k p) node (lookup (same_node node) (uses_table m k p)) refl refl) in
      let entry = use_entry (node, d) used in
      present_in same_object object_self [] entries d entry.0 entry.1

  -- the tables that are collected are these
  pub collected_names : (scopes : Scopes) → HasTables m k p scopes → names_by scopes.uses.entries scopes.iotas.entries scopes.objects.entries p.path ≡ names_in m k p
  collected_names scopes tables = λ i. names_by (tables.uses i) (tables.iotas i) (tables.objects i) p.path

  pub collected_there : (scopes : Scopes) → HasTables m k p scopes → AreThere (names_by scopes.uses.entries scopes.iotas.entries scopes.objects.entries p.path)
  collected_there scopes tables = let same = collected_names scopes tables in subst AreThere (sym same) are_there
