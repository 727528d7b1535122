-- The table of declaring places is total: each object that an identifier of a module denotes is a universe name or stands
-- in the outline of the module.
use Rattle.std.proofs.Common.{◌≡◌, ℕ, zero, suc, ◌+◌, ◌<◌, ◌≤◌, Bool, true, false, Option, Some, None, List, [], ◌∷◌, ◌++◌, length, map, inl, inr, refl, sym, subst, arith}
use Rattle.std.specs.Prelude.{filter, if◌then◌else◌, option_and_then, slice_get, take, drop}
use Rattle.std.specs.List.{AllByRecursion, Contains, flat_map}
use Rattle.std.specs.Map.{lookup}
use Rattle.std.specs.Option.{option_map_or}
use Rattle.std.proofs.lemmas.Bool.{eq-eqb, lt-ltb}
use Rattle.std.proofs.lemmas.List.Concat.{flat_map-append}
use Rattle.std.proofs.lemmas.List.Elements.{All-contains, All-contains_itself, All-from_recursion, All-weaker, recursion_from_All}
use Rattle.go_base.specs.declared.ids.ObjId.{ObjId}
use Rattle.go_tree.specs.declared.node.NodeId.{NodeId}
use Rattle.go_tree.specs.Tree.{Tree, branch, Trees, no_trees, more_trees, id_of, parts_of}
use Rattle.go_module.specs.declared.block.Occurrence.{Occurrence}
use Rattle.go_module.specs.declared.block.Region.{Region}
use Rattle.go_module.specs.declared.block.Selected.{Selected}
use Rattle.go_module.specs.declared.object.Object.{Object}
use Rattle.go_module.specs.Modules.Heads.{import_specs}
use Rattle.go_module.specs.Modules.Module.{FileData, ModuleData, PackageData, first_number}
use Rattle.go_module.specs.Modules.Paths.{same_text}
use Rattle.go_module.specs.Names.Declarations.{Declaration, declarations_in, declarations_of, declared_in, name_text, number_of, specs_from, specs_in_file}
use Rattle.go_module.specs.Names.Exported.{is_blank_identifier, is_exported}
use Rattle.go_module.specs.Names.Imports.{Importing, PackageNames, dot_region, file_block, import_parts, import_region, import_regions, imports_from, imports_in, imports_of, is_dot, known_by_tables, known_in}
use Rattle.go_module.specs.Names.PackageBlock.{binds, declared_region, names_of, object_id, objects_of, package_block, region_entries}
use Rattle.go_module.specs.Names.Regions.{holds, lies_inside_others, regions_of, resolution}
use Rattle.go_module.specs.Names.Rules.OccurrenceRules.{denoted_package}
use Rattle.go_module.specs.Names.Tables.{Member, member_of, members_at, occurrences_from, uses_at, uses_of}
use Rattle.go_module.specs.Names.Universe.{Predeclared, predeclared, universe, universe_from}
use Rattle.go_module.specs.NodeParts.{first_part}
use Rattle.go_module.specs.Scopes.{same_object}
use Rattle.go_module.proofs.TableLemmas.{object_declared, present_in}
use Rattle.go_report.specs.declared.declared_object.DeclaredObject.{DeclaredObject}
use Rattle.go_report.specs.Laws.{DeclaredEverywhere, IsDeclared}
use Rattle.go_report.specs.Outline.{declared_by, declared_from, declared_in_packages, declaring}
use Rattle.go_report.proofs.EachLemmas.{each_both, each_filter, each_filter_map, each_flat_map, each_found, each_left, each_map, each_of_map, each_right}

-- where something holds of the universe's objects and of what the files of packages declare, it holds of each object that is
-- denoted
module _ (Q : ObjId → Type 0) where
  abbrev OfNode : Tree → Type 0
  OfNode t = Q (record { 0 = id_of t })

  abbrev OfEntry : ObjId × DeclaredObject → Type 0
  OfEntry e = Q e.0

  abbrev OfRegion : Region → Type 0
  OfRegion r = Q (object_id r.object)

  abbrev OfObject : Object → Type 0
  OfObject o = Q (object_id o)

  abbrev OfUse : NodeId × ObjId → Type 0
  OfUse u = Q u.1

  abbrev OfMember : Member → Type 0
  OfMember m = Q (object_id m.object)

  -- the files of a package: their declarations and their imports

  nodes_here : (k : ℕ) (stub : Bool) (file : ℕ) (f : FileData) (files : List FileData) → AllByRecursion OfEntry (declared_from k stub file (f ∷ files)) → AllByRecursion OfNode (declaring file f.tree)
  nodes_here k stub file f files all = each_of_map OfEntry (declared_by k stub f) (declaring file f.tree) (each_left OfEntry (map (declared_by k stub f) (declaring file f.tree)) (declared_from k stub (file + 1) files) all)

  nodes_later : (k : ℕ) (stub : Bool) (file : ℕ) (f : FileData) (files : List FileData) → AllByRecursion OfEntry (declared_from k stub file (f ∷ files)) → AllByRecursion OfEntry (declared_from k stub (file + 1) files)
  nodes_later k stub file f files all = each_right OfEntry (map (declared_by k stub f) (declaring file f.tree)) (declared_from k stub (file + 1) files) all

  imports_here : (file : ℕ) (tree : Tree) → AllByRecursion OfNode (declaring file tree) → AllByRecursion (λ spec. OfNode (first_part spec)) (import_specs tree)
  imports_here file tree all = each_of_map OfNode first_part (import_specs tree) (each_left OfNode (map first_part (import_specs tree)) (map (λ (d : Declaration). d.name) (declarations_in (specs_in_file file tree))) all)

  names_here : (file : ℕ) (tree : Tree) → AllByRecursion OfNode (declaring file tree) → AllByRecursion (λ d. Q (number_of d)) (declarations_in (specs_in_file file tree))
  names_here file tree all = each_of_map OfNode (λ (d : Declaration). d.name) (declarations_in (specs_in_file file tree)) (each_right OfNode (map first_part (import_specs tree)) (map (λ (d : Declaration). d.name) (declarations_in (specs_in_file file tree))) all)

  declarations_each : (k : ℕ) (stub : Bool) (file : ℕ) (files : List FileData) → AllByRecursion OfEntry (declared_from k stub file files) → AllByRecursion (λ d. Q (number_of d)) (declarations_in (specs_from file files))
  declarations_each k stub file [] all = tt
  declarations_each k stub file (f ∷ files) all =
      let here = names_here file f.tree (nodes_here k stub file f files all) in
      let later = declarations_each k stub (file + 1) files (nodes_later k stub file f files all) in
      subst (AllByRecursion (λ (d : Declaration). Q (number_of d))) (sym (flat_map-append declared_in (specs_in_file file f.tree) (specs_from (file + 1) files))) (each_both (λ (d : Declaration). Q (number_of d)) (declarations_in (specs_in_file file f.tree)) (declarations_in (specs_from (file + 1) files)) here later)

  -- the block of a package, and what others know the package by

  block_each : (k q : ℕ) (p : PackageData) → AllByRecursion OfEntry (declared_from k p.stub 0 p.files) → AllByRecursion OfRegion (package_block q p)
  block_each k q p all = each_map OfRegion (declared_region q) (filter binds (declarations_of p)) (each_filter (λ (d : Declaration). Q (number_of d)) binds (declarations_of p) (declarations_each k p.stub 0 p.files all))

  record IsKnown (known : PackageNames) : Type 0 where
    exports : AllByRecursion OfObject known.exports
    exported : (name : List ℕ) (o : Object) → known.exported name ≡ Some o → OfObject o

  entry_found : (rs : List Region) → AllByRecursion OfRegion rs → (d : ObjId) (o : Object) → lookup (same_object d) (objects_of rs) ≡ Some o → OfObject o
  entry_found rs all d o found =
      let there : Contains (region_entries rs) (d, o) = object_declared (objects_of rs) (region_entries rs) d o refl found in
      let each : AllByRecursion (λ (e : ObjId × Object). OfObject e.1) (region_entries rs) = each_map (λ (e : ObjId × Object). OfObject e.1) (λ (r : Region). (object_id r.object, r.object)) rs all in
      All-contains (λ (e : ObjId × Object). OfObject e.1) (region_entries rs) (d, o) (All-from_recursion (λ (e : ObjId × Object). OfObject e.1) (region_entries rs) each) there

  named_found : (rs : List Region) → AllByRecursion OfRegion rs → (b : Bool) (named : Option ObjId) (o : Object) → (if b then option_and_then (λ d. lookup (same_object d) (objects_of rs)) named else None) ≡ Some o → OfObject o
  named_found rs all true None o found = cc
  named_found rs all true (Some d) o found = entry_found rs all d o found
  named_found rs all false named o found = cc

  tables_known : (clause : List ℕ) (rs : List Region) → AllByRecursion OfRegion rs → IsKnown (known_by_tables clause (names_of rs) (objects_of rs))
  tables_known clause rs all = record {
    exports = each_filter_map OfObject (λ (entry : List ℕ × ObjId). lookup (same_object entry.1) (objects_of rs)) (λ entry o found. entry_found rs all entry.1 o found) (filter (λ (entry : List ℕ × ObjId). is_exported entry.0) (names_of rs));
    exported = λ name o found. named_found rs all (is_exported name) (lookup (same_text name) (names_of rs)) o found;
  }

  none_known : IsKnown (known_by_tables [] [] [])
  none_known = tables_known [] [] tt

  -- a package whose files declare such objects
  record Declares (p : PackageData) : Type 0 where
    home : ℕ
    each : AllByRecursion OfEntry (declared_from home p.stub 0 p.files)

  known_by : (q : ℕ) (found : Option PackageData) → ((p : PackageData) → found ≡ Some p → Declares p) → IsKnown (option_map_or (λ (p : PackageData). known_by_tables p.name (names_of (package_block q p)) (objects_of (package_block q p))) found (known_by_tables [] [] []))
  known_by q None has = none_known
  known_by q (Some p) has = let own = has p refl in tables_known p.name (package_block q p) (block_each own.home q p own.each)

  -- the blocks of files

  abbrev OfFirst : Trees → Type 0
  OfFirst no_trees = Unit {0}
  OfFirst (more_trees t ts) = OfNode t

  first_of : (spec : Tree) → OfNode (first_part spec) → OfFirst (parts_of spec)
  first_of (branch id from to kind text no_trees) here = tt
  first_of (branch id from to kind text (more_trees t ts)) here = here

  named_each : (known : PackageNames) → IsKnown known → (i : Importing) (name string : Tree) → OfNode name → (dot blank : Bool) → AllByRecursion OfRegion (if dot then map (dot_region i string) known.exports else if blank then [] else import_region i (name_text name) name ∷ [])
  named_each known is i name string here true blank = each_map OfRegion (dot_region i string) known.exports is.exports
  named_each known is i name string here false true = tt
  named_each known is i name string here false false = (here, tt)

  parts_each : (known : PackageNames) → IsKnown known → (i : Importing) (parts : Trees) → OfFirst parts → AllByRecursion OfRegion (import_parts known i parts)
  parts_each known is i no_trees here = tt
  parts_each known is i (more_trees string no_trees) here = (here, tt)
  parts_each known is i (more_trees name (more_trees string no_trees)) here = named_each known is i name string here (is_dot name) (is_blank_identifier (name_text name))
  parts_each known is i (more_trees a (more_trees b (more_trees c rest))) here = tt

  module _ (known : ℕ → PackageNames) (are : (q : ℕ) → IsKnown (known q)) where
    abbrev importing : ℕ → ℕ → Tree → ℕ → Importing
    importing importer file spec q = record { spec = spec; file = file; importer = importer; imported = q }

    imports_each : (importer file : ℕ) (specs : List Tree) (packages : List ℕ) → AllByRecursion (λ spec. OfNode (first_part spec)) specs → AllByRecursion OfRegion (file_block known (imports_in importer file specs packages))
    imports_each importer file [] packages all = tt
    imports_each importer file (s ∷ specs) [] all = tt
    imports_each importer file (s ∷ specs) (q ∷ packages) all =
        each_both OfRegion (import_regions known (importing importer file s q)) (file_block known (imports_in importer file specs packages))
        (parts_each (known q) (are q) (importing importer file s q) (parts_of s) (first_of s all.0))
        (imports_each importer file specs packages all.1)

    blocks_each : (k : ℕ) (stub : Bool) (importer file : ℕ) (files : List FileData) (packages : List ℕ) → AllByRecursion OfEntry (declared_from k stub file files) → AllByRecursion OfRegion (flat_map (file_block known) (imports_from importer file files packages))
    blocks_each k stub importer file [] packages all = tt
    blocks_each k stub importer file (f ∷ files) packages all =
        let specs = import_specs f.tree in
        each_both OfRegion (file_block known (imports_in importer file specs (take (length specs) packages))) (flat_map (file_block known) (imports_from importer (file + 1) files (drop (length specs) packages)))
        (imports_each importer file specs (take (length specs) packages) (imports_here file f.tree (nodes_here k stub file f files all)))
        (blocks_each k stub importer (file + 1) files (drop (length specs) packages) (nodes_later k stub file f files all))

    -- what identifiers denote

    own_use : (o : Occurrence) (found : Option Region) → ((r : Region) → found ≡ Some r → OfRegion r) → AllByRecursion OfUse (option_map_or (λ (r : Region). (o.id, object_id r.object) ∷ []) found [])
    own_use o None of = tt
    own_use o (Some r) of = (of r refl, tt)

    member_each : (s : Selected) (found : Option Object) → ((object : Object) → found ≡ Some object → OfObject object) → AllByRecursion OfMember (option_map_or (λ (object : Object). record { id = s.id; object = object } ∷ []) found [])
    member_each s None of = tt
    member_each s (Some object) of = (of object refl, tt)

    members_each : (k : Option ℕ) (selected : Option Selected) → AllByRecursion OfMember (member_of known k selected)
    members_each (Some k) (Some s) = member_each s ((known k).exported s.name) ((are k).exported s.name)
    members_each (Some k) None = tt
    members_each None selected = tt

    uses_each : (regions : List Region) → AllByRecursion OfRegion regions → (o : Occurrence) → AllByRecursion OfUse (uses_at known regions o)
    uses_each regions all o =
        each_both OfUse (option_map_or (λ (r : Region). (o.id, object_id r.object) ∷ []) (resolution regions o) []) (map (λ (member : Member). (member.id, object_id member.object)) (members_at known regions o))
        (own_use o (resolution regions o) (λ r found. each_found OfRegion (lies_inside_others (filter (holds o) regions)) (filter (holds o) regions) r (each_filter OfRegion (holds o) regions all) found))
        (each_map OfUse (λ (member : Member). (member.id, object_id member.object)) (members_at known regions o) (members_each (denoted_package regions o) o.selected))

  module _ (predeclared_are : (n : ℕ) → n < first_number → Q (record { 0 = n })) where
    universe_each : (i : ℕ) (names : List Predeclared) → i + length names ≤ first_number → AllByRecursion OfRegion (universe_from i names)
    universe_each i [] le = tt
    universe_each i (name ∷ names) le = (predeclared_are i (omega arith), universe_each (i + 1) names (omega arith))

    universe_all : AllByRecursion OfRegion universe
    unfolding universe
    universe_all = let size : length predeclared ≡ 44 = refl in universe_each 0 predeclared (omega (arith, size))

    module _ (known : ℕ → PackageNames) (are : (q : ℕ) → IsKnown (known q)) where
      all_uses : (k : ℕ) (p : PackageData) → Declares p → AllByRecursion OfUse (uses_of known k p)
      all_uses k p own =
          let regions = regions_of known k p in
          let block = package_block k p in
          let rest = flat_map (file_block known) (imports_of k p) in
          let each : AllByRecursion OfRegion regions = each_both OfRegion universe (block ++ rest) universe_all (each_both OfRegion block rest (block_each own.home k p own.each) (blocks_each known are own.home p.stub k 0 p.files p.imports own.each)) in
          each_flat_map OfUse (uses_at known regions) (uses_each known are regions each) (occurrences_from 0 p.files)

  -- a package of a module
  in_packages : (home : ℕ) (ps : List PackageData) (k : ℕ) (p : PackageData) → AllByRecursion OfEntry (declared_in_packages home ps) → slice_get ps k ≡ Some p → Declares p
  in_packages home [] k p all at = cc
  in_packages home (x ∷ ps) zero p all at =
      let same : x ≡ p = cc at in
      subst Declares same (record { home = home; each = each_left OfEntry (declared_from home x.stub 0 x.files) (declared_in_packages (home + 1) ps) all })
  in_packages home (x ∷ ps) (suc k) p all at = in_packages (home + 1) ps k p (each_right OfEntry (declared_from home x.stub 0 x.files) (declared_in_packages (home + 1) ps) all) at

object_self : (d : ObjId) → same_object d d ≡ true
object_self d = eq-eqb d.0 d.0 refl

-- each object that an identifier of a module denotes is declared
pub declared_everywhere : (m : ModuleData) → DeclaredEverywhere m
declared_everywhere m k p at id d denoted =
    let all = declared_in_packages 0 m.packages in
    let entry : (e : ObjId × DeclaredObject) → Contains all e → IsDeclared m e.0 = λ e there. inr (present_in same_object object_self [] all e.0 e.1 there) in
    let entries : AllByRecursion (λ (e : ObjId × DeclaredObject). IsDeclared m e.0) all = recursion_from_All (λ (e : ObjId × DeclaredObject). IsDeclared m e.0) all (All-weaker (Contains all) (λ (e : ObjId × DeclaredObject). IsDeclared m e.0) entry all (All-contains_itself all)) in
    let of : (q : ℕ) (x : PackageData) → slice_get m.packages q ≡ Some x → Declares (IsDeclared m) x = λ q x here. in_packages (IsDeclared m) 0 m.packages q x entries here in
    let are : (q : ℕ) → IsKnown (IsDeclared m) (known_in m q) = λ q. known_by (IsDeclared m) q (slice_get m.packages q) (of q) in
    let each = all_uses (IsDeclared m) (λ n lt. inl (lt-ltb n first_number lt)) (known_in m) are k p (of k p at) in
    All-contains (λ (u : NodeId × ObjId). IsDeclared m u.1) (uses_of (known_in m) k p) (id, d) (All-from_recursion (λ (u : NodeId × ObjId). IsDeclared m u.1) (uses_of (known_in m) k p) each) denoted
