-- What the table of a package's objects holds: of a declaration of the package, and of what a package that it imports
-- exports, an object that means something.
use Rattle.std.proofs.Common.{◌≡◌, ℕ, ◌<◌, Bool, true, false, cond, Option, Some, None, List, [], ◌∷◌, ◌++◌, ◌⊎◌, inl, inr, map, Contains, refl, sym, ap, ◌∙◌, subst, arith}
use Rattle.std.specs.Prelude.{filter, if◌then◌else◌, is_some, option_and_then, slice_get}
use Rattle.std.specs.List.{flat_map}
use Rattle.std.specs.Map.{lookup}
use Rattle.std.specs.Option.{option_map_or}
use Rattle.std.proofs.lemmas.Bool.Decides.{nat_tests}
use Rattle.std.proofs.lemmas.List.Elements.{Contains-append_cases, Contains-append_left, Contains-append_right}
use Rattle.go_module.specs.IndexMap.{insert_all, insert_entry}
use Rattle.go_base.specs.declared.ids.ObjId.{ObjId}
use Rattle.go_module.specs.declared.block.Occurrence.{Occurrence}
use Rattle.go_module.specs.declared.block.Region.{Region}
use Rattle.go_module.specs.declared.block.Selected.{Selected}
use Rattle.go_module.specs.declared.object.Object.{Object}
use Rattle.go_module.specs.declared.object.ObjKind.TheVariants.{Package}
use Rattle.go_module.specs.Modules.Module.{ModuleData, PackageData, first_number}
use Rattle.go_module.specs.Modules.ModuleLaws.{ImportsStandBefore}
use Rattle.go_module.specs.Names.Declarations.{Declaration, declarations_of}
use Rattle.go_module.specs.Names.Imports.{file_block, imports_of, known_in}
use Rattle.go_module.specs.Names.PackageBlock.{declared_object, object_id, package_block, region_entries}
use Rattle.go_module.specs.Names.Regions.{holds, lies_inside_others, regions_of, resolution}
use Rattle.go_module.specs.Names.Rules.OccurrenceRules.{denoted_package}
use Rattle.go_module.specs.Names.Tables.{Member, member_of, members_at, members_of, objects_in, occurrences_from, outer_regions}
use Rattle.go_module.specs.Names.Universe.{universe}
use Rattle.go_module.specs.Scopes.{same_object}
use Rattle.go_module.proofs.MemberLemmas.{cons_cases, contains_head, contains_none, contains_tail}
use Rattle.go_module.proofs.TableLemmas.{found_in, object_declared, present_in}
use Rattle.go_model.specs.Naming.{objects_table}
use Rattle.go_model.proofs.FlatLemmas.{filter_within, find_within, flat_cases, map_cases, map_contains, only_is}
use Rattle.go_model.proofs.ThereLemmas.{object_self}
use Rattle.go_laws.specs.NodeNumbers.{NodeNumbersAscend, numbers_in_files}
use Rattle.go_laws.proofs.DenotedLemmas.{IsDeclaredAt, IsImported, block_declared, block_no_package, exported_declared, file_imported, universal}
use Rattle.go_laws.proofs.Declaring.{DeclareHeaders, IsMeaning}
use Rattle.go_laws.proofs.NameNodeLemmas.{declared_means, name_there}

-- TABLES THAT PAIRS ARE PUT INTO: by a key of the last pairs one of these is found

module _ {K V : Type 0} (eq : K → K → Bool) (same : (x y : K) → eq x y ≡ true → x ≡ y) (self : (x : K) → eq x x ≡ true) where
  -- by the key of the new pair its value is found
  new_found : (es : List (K × V)) (k : K) (v : V) → lookup (eq k) (insert_entry eq es k v) ≡ Some v
  new_found [] k v = ap (λ b. cond b (Some v) None) (self k)
  new_found (e ∷ es) k v = by_test (eq k e.0) refl (new_found es k v)
    where
      by_test : (b : Bool) → eq k e.0 ≡ b → lookup (eq k) (insert_entry eq es k v) ≡ Some v → lookup (eq k) (if b then (e.0, v) ∷ es else e ∷ insert_entry eq es k v) ≡ Some v
      by_test true at later = ap (λ b. cond b (Some v) (lookup (eq k) es)) at
      by_test false at later = ap (λ b. cond b (Some e.1) (lookup (eq k) (insert_entry eq es k v))) at ∙ later

  last_found : (es xs : List (K × V)) (k : K) (v w : V) → Contains xs (k, v) → lookup (eq k) (insert_all eq es xs) ≡ Some w → Contains xs (k, w)
  last_found es [] k v w h found = absurd (contains_none (k, v) h)
  last_found es (x ∷ xs) k v w h found = by_cases (cons_cases x xs (k, v) h) (last_found (insert_entry eq es x.0 x.1) xs k v w) (found_in eq same (insert_entry eq es x.0 x.1) xs k w found)
    where
      by_cases : (x ≡ (k, v)) ⊎ Contains xs (k, v) → (Contains xs (k, v) → lookup (eq k) (insert_all eq (insert_entry eq es x.0 x.1) xs) ≡ Some w → Contains xs (k, w))
          → (lookup (eq k) (insert_entry eq es x.0 x.1) ≡ Some w) ⊎ Contains xs (k, w) → Contains (x ∷ xs) (k, w)
      by_cases new later (inr there) = contains_tail x xs (k, w) there
      by_cases (inr there) later (inl before) = contains_tail x xs (k, w) (later there found)
      by_cases (inl here) later (inl before) =
          let is : Some v ≡ Some w = sym (new_found es k v) ∙ ap (λ (y : K × V). lookup (eq k) (insert_entry eq es y.0 y.1)) (sym here) ∙ before in
          let value : v ≡ w = cc in
          contains_head x xs (k, w) (here ∙ ap (λ (u : V). (k, u)) value)

  pub behind_found : (es xs ys : List (K × V)) (k : K) (v w : V) → Contains ys (k, v) → lookup (eq k) (insert_all eq es (xs ++ ys)) ≡ Some w → Contains ys (k, w)
  behind_found es [] ys k v w h found = last_found es ys k v w h found
  behind_found es (x ∷ xs) ys k v w h found = behind_found (insert_entry eq es x.0 x.1) xs ys k v w h found

object_is : (a b : ObjId) → same_object a b ≡ true → a ≡ b
object_is a b e = let at : a.0 ≡ b.0 = grind (arith, nat_tests) in λ i. record { 0 = at i }

some_there : {X : Type 0} (o : Option X) → is_some o ≡ true → (x : X) × (o ≡ Some x)
some_there None e = absurd (let never : false ≡ true = e in cc)
some_there (Some x) e = (x, refl)

-- what a member is an object of
module _ (m : ModuleData) where
  record IsMember (place : Option ℕ) (member : Member) : Type 0 where
    home : ℕ
    denoted : place ≡ Some home
    declared : IsDeclaredAt m home member.object

  member_is : (q : ℕ) (s : Selected) (object : Option Object) (member : Member) → ((o : Object) → object ≡ Some o → IsDeclaredAt m q o)
      → Contains (option_map_or {U = List Member} (λ (o : Object). record { id = s.id; object = o } ∷ []) object []) member → IsMember (Some q) member
  member_is q s None member each h = absurd (contains_none member h)
  member_is q s (Some o) member each h =
      subst (IsMember (Some q)) (only_is (record { id = s.id; object = o }) member h) (record { home = q; denoted = refl; declared = each o refl })

  member_by : (place : Option ℕ) (selected : Option Selected) (member : Member) → Contains (member_of (known_in m) place selected) member → IsMember place member
  member_by None selected member h = absurd (contains_none member h)
  member_by (Some q) None member h = absurd (contains_none member h)
  member_by (Some q) (Some s) member h = member_is q s (((known_in m) q).exported s.name) member (λ o found. (exported_declared m q).exported s.name o found) h

-- WHICH OBJECTS THE TABLE HOLDS

-- where an object comes from: it is a universe name, the name of an imported package, what such a package exports, or
-- what a declaration of the package declares
pub data Origin (m : ModuleData) (k : ℕ) (p : PackageData) (o : Object) : Type 0 where
  of_universe : o.at.0 < first_number → Origin m k p o
  of_import : o.kind ≡ Package → Contains (numbers_in_files p.files) o.at.0 → Origin m k p o
  of_export : (q : ℕ) → Contains p.imports q → IsDeclaredAt m q o → Origin m k p o
  of_block : (d : Declaration) → Contains (declarations_of p) d → declared_object k d ≡ o → Origin m k p o

module _ (m : ModuleData) (k : ℕ) (p : PackageData) where
  abbrev regions : List Region
  regions = regions_of (known_in m) k p

  abbrev entries : List (ObjId × Object)
  entries = objects_in (known_in m) k p

  imported_is : (r : Region) → IsImported (known_in m) p r → Origin m k p r.object
  imported_is r is = by_cases is.denoted
    where
      by_cases : ((r.denotes ≡ Some is.place) × (r.object.kind ≡ Package) × Contains (numbers_in_files p.files) r.object.at.0) ⊎ ((r.denotes ≡ None) × Contains ((known_in m) is.place).exports r.object) → Origin m k p r.object
      by_cases (inl name) = of_import name.1 name.2
      by_cases (inr dot) = of_export is.place is.among ((exported_declared m is.place).exports r.object dot.1)

  outer_is : (r : Region) → Contains (outer_regions (known_in m) k p) r → Origin m k p r.object
  outer_is r h = by_cases (Contains-append_cases universe (flat_map (file_block (known_in m)) (imports_of k p)) r h)
    where
      by_cases : Contains universe r ⊎ Contains (flat_map (file_block (known_in m)) (imports_of k p)) r → Origin m k p r.object
      by_cases (inl in_universe) = of_universe (universal r in_universe).below
      by_cases (inr in_file) = imported_is r (file_imported (known_in m) k p r in_file)

  block_is : (r : Region) → Contains (package_block k p) r → Origin m k p r.object
  block_is r h = let own = block_declared k p r h in of_block own.declaration own.among (ap (λ (s : Region). s.object) own.is)

  -- a package that is denoted is imported
  region_imports : (r : Region) → Contains regions r → (q : ℕ) → r.denotes ≡ Some q → Contains p.imports q
  region_imports r h q named = by_universe (Contains-append_cases universe (package_block k p ++ flat_map (file_block (known_in m)) (imports_of k p)) r h)
    where
      not_none : r.denotes ≡ None → Contains p.imports q
      not_none none = absurd (let never : None ≡ Some q = sym none ∙ named in cc)

      by_denoted : (is : IsImported (known_in m) p r) → ((r.denotes ≡ Some is.place) × (r.object.kind ≡ Package) × Contains (numbers_in_files p.files) r.object.at.0) ⊎ ((r.denotes ≡ None) × Contains ((known_in m) is.place).exports r.object) → Contains p.imports q
      by_denoted is (inl name) = let both : Some is.place ≡ Some q = sym name.0 ∙ named in let same : is.place ≡ q = cc in subst (λ (n : ℕ). Contains p.imports n) same is.among
      by_denoted is (inr dot) = not_none dot.0

      by_block : Contains (package_block k p) r ⊎ Contains (flat_map (file_block (known_in m)) (imports_of k p)) r → Contains p.imports q
      by_block (inl in_block) = not_none (block_no_package k p r in_block)
      by_block (inr in_file) = let is = file_imported (known_in m) k p r in_file in by_denoted is is.denoted

      by_universe : Contains universe r ⊎ Contains (package_block k p ++ flat_map (file_block (known_in m)) (imports_of k p)) r → Contains p.imports q
      by_universe (inl in_universe) = not_none (universal r in_universe).no_package
      by_universe (inr there) = by_block (Contains-append_cases (package_block k p) (flat_map (file_block (known_in m)) (imports_of k p)) r there)

  resolved : (o : Occurrence) (q : ℕ) → denoted_package regions o ≡ Some q → Contains p.imports q
  resolved o q e = by_region (resolution regions o) refl e
    where
      by_region : (found : Option Region) → resolution regions o ≡ found → option_and_then (λ (r : Region). r.denotes) found ≡ Some q → Contains p.imports q
      by_region None is named = absurd (let never : None ≡ Some q = named in cc)
      by_region (Some r) is named =
          let held = filter (holds o) regions in
          region_imports r (filter_within (holds o) regions r (find_within (lies_inside_others held) held r is)) q named

  members_are : (member : Member) → Contains (members_of (known_in m) k p) member → Origin m k p member.object
  members_are member h =
      let from = flat_cases (members_at (known_in m) regions) (occurrences_from 0 p.files) member h in
      let is = member_by m (denoted_package regions from.0) from.0.selected member from.2 in
      of_export is.home (resolved from.0 is.home is.denoted) is.declared

  -- an entry has the number of its object, which comes from one of these
  pub record IsEntry (d : ObjId) (o : Object) : Type 0 where
    pub number : object_id o ≡ d
    pub origin : Origin m k p o

  as_entry : (e : ObjId × Object) (o : Object) → (object_id o, o) ≡ e → Origin m k p o → IsEntry e.0 e.1
  as_entry e o is origin = subst (λ (x : ObjId × Object). IsEntry x.0 x.1) is (record { number = refl; origin = origin })

  entry_of_region : (rs : List Region) → ((r : Region) → Contains rs r → Origin m k p r.object) → (d : ObjId) (o : Object) → Contains (region_entries rs) (d, o) → IsEntry d o
  entry_of_region rs each d o h = let made = map_cases (λ (r : Region). (object_id r.object, r.object)) rs (d, o) h in as_entry (d, o) made.0.object made.2 (each made.0 made.1)

  abbrev member_entries : List (ObjId × Object)
  member_entries = map (λ (member : Member). (object_id member.object, member.object)) (members_of (known_in m) k p)

  entry_is : (d : ObjId) (o : Object) → Contains entries (d, o) → IsEntry d o
  entry_is d o h = by_outer (Contains-append_cases (region_entries (outer_regions (known_in m) k p)) (member_entries ++ region_entries (package_block k p)) (d, o) h)
    where
      by_members : Contains member_entries (d, o) ⊎ Contains (region_entries (package_block k p)) (d, o) → IsEntry d o
      by_members (inl here) =
          let made = map_cases (λ (member : Member). (object_id member.object, member.object)) (members_of (known_in m) k p) (d, o) here in
          as_entry (d, o) made.0.object made.2 (members_are made.0 made.1)
      by_members (inr there) = entry_of_region (package_block k p) block_is d o there

      by_outer : Contains (region_entries (outer_regions (known_in m) k p)) (d, o) ⊎ Contains (member_entries ++ region_entries (package_block k p)) (d, o) → IsEntry d o
      by_outer (inl here) = entry_of_region (outer_regions (known_in m) k p) outer_is d o here
      by_outer (inr there) = by_members (Contains-append_cases member_entries (region_entries (package_block k p)) (d, o) there)

  -- so is what the table has
  pub table_origin : (d : ObjId) (o : Object) → lookup (same_object d) (objects_table m k p) ≡ Some o → IsEntry d o
  table_origin d o found = entry_is d o (object_declared (objects_table m k p) entries d o refl found)

  -- OBJECTS THAT MEAN SOMETHING

  -- the object that a number has in the table means something
  pub record HasMeaning (d : ObjId) : Type 0 where
    pub object : Object
    pub found : lookup (same_object d) (objects_table m k p) ≡ Some object
    pub kind : IsMeaning object.kind

  -- the entries of a dot import, and of a qualified identifier
  pub file_entry : (r : Region) → Contains (flat_map (file_block (known_in m)) (imports_of k p)) r → Contains entries (object_id r.object, r.object)
  file_entry r h =
      Contains-append_left (region_entries (outer_regions (known_in m) k p)) (member_entries ++ region_entries (package_block k p)) (object_id r.object, r.object)
      (map_contains (λ (x : Region). (object_id x.object, x.object)) (outer_regions (known_in m) k p) r (Contains-append_right universe (flat_map (file_block (known_in m)) (imports_of k p)) r h))

  pub member_entry : (member : Member) → Contains (members_of (known_in m) k p) member → Contains entries (object_id member.object, member.object)
  member_entry member h =
      Contains-append_right (region_entries (outer_regions (known_in m) k p)) (member_entries ++ region_entries (package_block k p)) (object_id member.object, member.object)
      (Contains-append_left member_entries (region_entries (package_block k p)) (object_id member.object, member.object)
      (map_contains (λ (x : Member). (object_id x.object, x.object)) (members_of (known_in m) k p) member h))

  there : (d : ObjId) (o : Object) → Contains entries (d, o) → (x : Object) × (lookup (same_object d) (objects_table m k p) ≡ Some x)
  there d o h = some_there (lookup (same_object d) (objects_table m k p)) (present_in same_object object_self [] entries d o h)

  -- in a module whose specs give headers
  module _ (give : DeclareHeaders m) (at : slice_get m.packages k ≡ Some p) where
    object_means : (home : PackageData) (i : ℕ) (d : Declaration) (o : Object) → slice_get m.packages i ≡ Some home → Contains (declarations_of home) d → declared_object i d ≡ o → IsMeaning o.kind
    object_means home i d o there among is = subst (λ (x : Object). IsMeaning x.kind) is (declared_means home (give i home there) d among)

    -- a declaration of the package: its block stands last
    pub block_means : (r : Region) → Contains (package_block k p) r → HasMeaning (object_id r.object)
    block_means r h =
        let front = region_entries (outer_regions (known_in m) k p) in
        let block = region_entries (package_block k p) in
        let own = map_contains (λ (x : Region). (object_id x.object, x.object)) (package_block k p) r h in
        let behind : Contains (member_entries ++ block) (object_id r.object, r.object) = Contains-append_right member_entries block (object_id r.object, r.object) own in
        let found = there (object_id r.object) r.object (Contains-append_right front (member_entries ++ block) (object_id r.object, r.object) behind) in
        let last = behind_found same_object object_is object_self [] front (member_entries ++ block) (object_id r.object) r.object found.0 behind found.1 in
        record { object = found.0; found = found.1; kind = by_cases (object_id r.object) found.0 (Contains-append_cases member_entries block (object_id r.object, found.0) last) }
      where
        by_cases : (d : ObjId) (o : Object) → Contains member_entries (d, o) ⊎ Contains (region_entries (package_block k p)) (d, o) → IsMeaning o.kind
        by_cases d o (inl here) =
            let made = map_cases (λ (member : Member). (object_id member.object, member.object)) (members_of (known_in m) k p) (d, o) here in
            let from = flat_cases (members_at (known_in m) regions) (occurrences_from 0 p.files) made.0 made.1 in
            let member = member_by m (denoted_package regions from.0) from.0.selected made.0 from.2 in
            let is = member.declared in
            subst (λ (e : ObjId × Object). IsMeaning e.1.kind) made.2 (object_means is.home member.home is.declaration made.0.object is.at is.among is.is)
        by_cases d o (inr last) =
            let made = map_cases (λ (x : Region). (object_id x.object, x.object)) (package_block k p) (d, o) last in
            let own = block_declared k p made.0 made.1 in
            subst (λ (e : ObjId × Object). IsMeaning e.1.kind) made.2 (object_means p k own.declaration made.0.object at own.among (ap (λ (s : Region). s.object) own.is))

    -- what an imported package exports: no node of this package has its number
    module _ (up : NodeNumbersAscend m) (stand : ImportsStandBefore m) where
      pub export_means : (q : ℕ) → Contains p.imports q → (o : Object) → IsDeclaredAt m q o → Contains entries (object_id o, o) → HasMeaning (object_id o)
      export_means q among o is h =
          let found = there (object_id o) o h in
          let entry = table_origin (object_id o) found.0 found.1 in
          record { object = found.0; found = found.1; kind = by_origin found.0 (ap (λ (d : ObjId). d.0) entry.number) entry.origin }
        where
          own : Contains (numbers_in_files is.home.files) o.at.0
          own = subst (λ (x : Object). Contains (numbers_in_files is.home.files) x.at.0) is.is (name_there is.home is.declaration is.among)

          not_here : q ≡ k → ⊥
          not_here same = let first = stand.before k p at q among in omega (arith, first, same)

          by_origin : (x : Object) → x.at.0 ≡ o.at.0 → Origin m k p x → IsMeaning x.kind
          by_origin x same (of_universe below) = absurd (let first = up.from_first q is.home is.at o.at.0 own in omega (arith, below, first, same))
          by_origin x same (of_import kind here) =
              absurd (up.apart q k is.home p not_here is.at at o.at.0 own (subst (λ n. Contains (numbers_in_files p.files) n) same here))
          by_origin x same (of_export i imported declared) = object_means declared.home i declared.declaration x declared.at declared.among declared.is
          by_origin x same (of_block d declared made) = object_means p k d x at declared made
