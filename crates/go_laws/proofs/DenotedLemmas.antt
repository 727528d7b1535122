-- What names denote: the declarations of a package, universe names, the packages that it imports, and what these export.
use Rattle.std.proofs.Common.{◌≡◌, ℕ, ◌+◌, ◌<◌, Bool, true, false, cond, Option, Some, None, List, [], ◌∷◌, ◌⊎◌, inl, inr, map, length, filter, Contains, refl, sym, ap, ◌∙◌, subst, ⊎_elim, arith}
use Rattle.std.specs.Prelude.{if◌then◌else◌, option_and_then, slice_get}
use Rattle.std.specs.List.{flat_map}
use Rattle.std.specs.Map.{lookup}
use Rattle.std.specs.Option.{option_map_or}
use Rattle.std.proofs.lemmas.Bool.{cases_eq, eq-eqb, ne_eqb}
use Rattle.go_base.specs.declared.ids.ObjId.{ObjId}
use Rattle.go_tree.specs.Tree.{Tree, Trees, id_of, list_of, more_trees, no_trees, parts_of}
use Rattle.go_module.specs.declared.block.Region.{Region}
use Rattle.go_module.specs.declared.object.Object.{Object}
use Rattle.go_module.specs.declared.object.ObjKind.TheVariants.{Package}
use Rattle.go_module.specs.Modules.Module.{ModuleData, PackageData, first_number}
use Rattle.go_module.specs.Modules.Paths.{same_text}
use Rattle.go_module.specs.Names.Declarations.{Declaration, declarations_of, name_text, number_of}
use Rattle.go_module.specs.Names.Exported.{is_blank_identifier, is_exported}
use Rattle.go_module.specs.Names.Imports.{Importing, PackageNames, dot_region, file_block, import_parts, import_region, import_regions, imports_of, is_dot, known_by_tables, known_in}
use Rattle.go_module.specs.Names.PackageBlock.{binds, declared_object, declared_region, names_of, object_id, objects_of, package_block, region_entries}
use Rattle.go_module.specs.Names.Universe.{Predeclared, predeclared, universe, universe_from, universe_region}
use Rattle.go_module.specs.Scopes.{same_object}
use Rattle.go_module.proofs.MemberLemmas.{cons_cases, contains_head, contains_none}
use Rattle.go_module.proofs.TableLemmas.{object_declared}
use Rattle.go_values.specs.Declared.{declared_as}
use Rattle.go_laws.specs.NodeNumbers.{nodes_in_files, numbers_in_files}
use Rattle.go_model.proofs.FlatLemmas.{flat_cases, map_cases, map_contains, only_is}
use Rattle.go_laws.proofs.ListLemmas.{found_from}
use Rattle.go_laws.proofs.NameNodeLemmas.{IsOfFiles, of_files}
use Rattle.go_laws.proofs.PickedLemmas.{picked_contains, picked_filter}

-- each declaration has one that its number names
pub declared_by_number : (declarations : List Declaration) (d : Declaration) → Contains declarations d → (first : Declaration) × (declared_as declarations (number_of d).0 ≡ Some first)
declared_by_number [] d h = absurd (contains_none d h)
declared_by_number (x ∷ xs) d h =
    ⊎_elim
    (λ here. (x, ap (λ b. cond b (Some x) (declared_as xs (number_of d).0)) (eq-eqb (number_of x).0 (number_of d).0 here)))
    (λ ne. (let there = later ne (cons_cases x xs d h) (declared_by_number xs d) in
    (there.0, ap (λ b. cond b (Some x) (declared_as xs (number_of d).0)) (ne_eqb (number_of x).0 (number_of d).0 ne) ∙ there.1)))
    (cases_eq (number_of x).0 (number_of d).0)
  where
    later : ((number_of x).0 ≡ (number_of d).0 → ⊥) → (x ≡ d) ⊎ Contains xs d → (Contains xs d → (first : Declaration) × (declared_as xs (number_of d).0 ≡ Some first)) → (first : Declaration) × (declared_as xs (number_of d).0 ≡ Some first)
    later ne (inl same) rest = absurd (ne (ap (λ y. (number_of y).0) same))
    later ne (inr there) rest = rest there

-- a region of the block of a package is of a declaration
pub record IsDeclared (k : ℕ) (p : PackageData) (r : Region) : Type 0 where
  pub declaration : Declaration
  pub among : Contains (declarations_of p) declaration
  pub is : declared_region k declaration ≡ r

pub block_declared : (k : ℕ) (p : PackageData) (r : Region) → Contains (package_block k p) r → IsDeclared k p r
block_declared k p r h =
    let made = map_cases (declared_region k) (filter binds (declarations_of p)) r h in
    record { declaration = made.0; among = picked_contains made.0 (picked_filter binds (declarations_of p)) made.1; is = made.2 }

-- and of no package
pub block_no_package : (k : ℕ) (p : PackageData) (r : Region) → Contains (package_block k p) r → r.denotes ≡ None
block_no_package k p r h = let own = block_declared k p r h in ap (λ (x : Region). x.denotes) (sym own.is)

-- the universe
pub record IsUniversal (r : Region) : Type 0 where
  pub below : r.object.at.0 < first_number
  pub no_package : r.denotes ≡ None

universal_from : (i : ℕ) (names : List Predeclared) (r : Region) → i + length names < first_number → Contains (universe_from i names) r → IsUniversal r
universal_from i [] r lt h = absurd (contains_none r h)
universal_from i (name ∷ names) r lt h = by_cases (cons_cases (universe_region i name) (universe_from (i + 1) names) r h) (universal_from (i + 1) names r (omega arith))
  where
    by_cases : (universe_region i name ≡ r) ⊎ Contains (universe_from (i + 1) names) r → (Contains (universe_from (i + 1) names) r → IsUniversal r) → IsUniversal r
    by_cases (inl here) later = subst IsUniversal here (record { below = omega arith; no_package = refl })
    by_cases (inr there) later = later there

pub universal : (r : Region) → Contains universe r → IsUniversal r
unfolding universe
universal r h = let size : length predeclared ≡ 44 = refl in universal_from 0 predeclared r (omega (arith, size)) h

-- what a package is known by
module _ (P : Object → Type 0) where
  pub record AreKnown (known : PackageNames) : Type 0 where
    pub exports : (o : Object) → Contains known.exports o → P o
    pub exported : (name : List ℕ) (o : Object) → known.exported name ≡ Some o → P o

  module _ (regions : List Region) (each : (r : Region) → Contains regions r → P r.object) where
    entry_found : (d : ObjId) (o : Object) → lookup (same_object d) (objects_of regions) ≡ Some o → P o
    entry_found d o found =
        let there : Contains (region_entries regions) (d, o) = object_declared (objects_of regions) (region_entries regions) d o refl found in
        let made = map_cases (λ (r : Region). (object_id r.object, r.object)) regions (d, o) there in
        subst P (ap (λ (e : ObjId × Object). e.1) made.2) (each made.0 made.1)

    name_found : (b : Bool) (named : Option ObjId) (o : Object) → (if b then option_and_then (λ d. lookup (same_object d) (objects_of regions)) named else None) ≡ Some o → P o
    name_found true None o found = absurd (let never : None ≡ Some o = found in cc)
    name_found true (Some d) o found = entry_found d o found
    name_found false named o found = absurd (let never : None ≡ Some o = found in cc)

    tables_known : (clause : List ℕ) → AreKnown (known_by_tables clause (names_of regions) (objects_of regions))
    tables_known clause = record {
      exports = λ o h. (let from = found_from (λ (entry : List ℕ × ObjId). lookup (same_object entry.1) (objects_of regions)) (filter (λ (entry : List ℕ × ObjId). is_exported entry.0) (names_of regions)) o h in
          entry_found from.0.1 o from.2);
      exported = λ name o found. name_found (is_exported name) (lookup (same_text name) (names_of regions)) o found;
    }

  known_by_package : (m : ModuleData) (q : ℕ) → ((x : PackageData) → slice_get m.packages q ≡ Some x → (d : Declaration) → Contains (declarations_of x) d → (r : Region) → declared_region q d ≡ r → P r.object) → AreKnown (known_in m q)
  known_by_package m q each = by_package (slice_get m.packages q) refl
    where
      by_package : (found : Option PackageData) → slice_get m.packages q ≡ found → AreKnown (option_map_or (λ (x : PackageData). known_by_tables x.name (names_of (package_block q x)) (objects_of (package_block q x))) found (known_by_tables [] [] []))
      by_package None e = tables_known [] (λ r h. absurd (contains_none r h)) []
      by_package (Some x) e = tables_known (package_block q x) (λ r h. (let own = block_declared q x r h in each x e own.declaration own.among r own.is)) x.name

-- an object that the package at a place of the module declares
pub record IsDeclaredAt (m : ModuleData) (k : ℕ) (o : Object) : Type 0 where
  pub home : PackageData
  pub at : slice_get m.packages k ≡ Some home
  pub declaration : Declaration
  pub among : Contains (declarations_of home) declaration
  pub is : declared_object k declaration ≡ o

pub exported_declared : (m : ModuleData) (q : ℕ) → AreKnown (IsDeclaredAt m q) (known_in m q)
exported_declared m q =
    known_by_package (IsDeclaredAt m q) m q
    (λ x at d own r is. record { home = x; at = at; declaration = d; among = own; is = ap (λ (s : Region). s.object) is })

-- the block of a file: names of packages, and what these export

-- the name of the imported package, which a part of the import's spec declares
record IsName (i : Importing) (parts : Trees) (r : Region) : Type 0 where
  denotes : r.denotes ≡ Some i.imported
  kind : r.object.kind ≡ Package
  node : Tree
  among : Contains (list_of parts) node
  number : id_of node ≡ r.object.at.0

abbrev IsOf : PackageNames → Importing → Trees → Region → Type 0
IsOf known i parts r = IsName i parts r ⊎ ((r.denotes ≡ None) × Contains known.exports r.object)

package_of : (known : PackageNames) (i : Importing) (parts : Trees) (name : List ℕ) (node : Tree) (r : Region) → Contains (list_of parts) node → Contains (import_region i name node ∷ []) r → IsOf known i parts r
package_of known i parts name node r among h = inl (subst (IsName i parts) (only_is (import_region i name node) r h) (record { denotes = refl; kind = refl; node = node; among = among; number = refl }))

named_of : (known : PackageNames) (i : Importing) (parts : Trees) (name string : Tree) (r : Region) (dot blank : Bool) → Contains (list_of parts) name
    → Contains (if dot then map (dot_region i string) known.exports else if blank then [] else import_region i (name_text name) name ∷ []) r → IsOf known i parts r
named_of known i parts name string r true blank among h =
    let made = map_cases (dot_region i string) known.exports r h in
    inr (ap (λ (x : Region). x.denotes) (sym made.2), subst (λ (x : Region). Contains known.exports x.object) made.2 made.1)
named_of known i parts name string r false true among h = absurd (contains_none r h)
named_of known i parts name string r false false among h = package_of known i parts (name_text name) name r among h

parts_of_import : (known : PackageNames) (i : Importing) (parts : Trees) (r : Region) → Contains (import_parts known i parts) r → IsOf known i parts r
parts_of_import known i no_trees r h = absurd (contains_none r h)
parts_of_import known i (more_trees string no_trees) r h = package_of known i (more_trees string no_trees) known.clause string r (contains_head string [] string refl) h
parts_of_import known i (more_trees name (more_trees string no_trees)) r h =
    named_of known i (more_trees name (more_trees string no_trees)) name string r (is_dot name) (is_blank_identifier (name_text name)) (contains_head name (string ∷ []) name refl) h
parts_of_import known i (more_trees a (more_trees b (more_trees c rest))) r h = absurd (contains_none r h)

pub record IsImported (known : ℕ → PackageNames) (p : PackageData) (r : Region) : Type 0 where
  pub place : ℕ
  pub among : Contains p.imports place
  pub denoted : ((r.denotes ≡ Some place) × (r.object.kind ≡ Package) × Contains (numbers_in_files p.files) r.object.at.0) ⊎ ((r.denotes ≡ None) × Contains (known place).exports r.object)

pub file_imported : (known : ℕ → PackageNames) (k : ℕ) (p : PackageData) (r : Region) → Contains (flat_map (file_block known) (imports_of k p)) r → IsImported known p r
file_imported known k p r h =
    let file = flat_cases (file_block known) (imports_of k p) r h in
    let from = flat_cases (import_regions known) file.0 r file.2 in
    let is = of_files k 0 p.files p.imports file.0 file.1 from.0 from.1 in
    record { place = from.0.imported; among = is.imported; denoted = by_cases from.0 is (parts_of_import (known from.0.imported) from.0 (parts_of from.0.spec) r from.2) }
  where
    by_cases : (i : Importing) → IsOfFiles p.files p.imports i → IsOf (known i.imported) i (parts_of i.spec) r
        → ((r.denotes ≡ Some i.imported) × (r.object.kind ≡ Package) × Contains (numbers_in_files p.files) r.object.at.0) ⊎ ((r.denotes ≡ None) × Contains (known i.imported).exports r.object)
    by_cases i is (inl name) =
        inl (name.denotes, name.kind, subst (λ n. Contains (numbers_in_files p.files) n) name.number (map_contains id_of (nodes_in_files p.files) name.node (is.part name.node name.among)))
    by_cases i is (inr dot) = inr dot
