-- What identifiers mean where no rule on names is broken: one that is asked for a record denotes a universe name, or an
-- object that means something.
use Rattle.std.proofs.Common.{◌≡◌, ℕ, Bool, true, false, not, ◌&&◌, Option, Some, None, List, [], ◌∷◌, ◌++◌, ◌⊎◌, inl, inr, map, Contains, refl, sym, ap, ◌∙◌, subst, arith}
use Rattle.std.specs.Prelude.{is_none, is_some, if◌then◌else◌, option_and_then, slice_get}
use Rattle.std.specs.List.{flat_map}
use Rattle.std.specs.Map.{lookup}
use Rattle.std.specs.Option.{option_map_or}
use Rattle.std.proofs.lemmas.Bool.{lt-ltb}
use Rattle.std.proofs.lemmas.List.Elements.{Contains-append_left, Contains-append_right}
use Rattle.go_base.specs.declared.ids.ObjId.{ObjId}
use Rattle.go_base.specs.declared.rule.Broken.{Broken}
use Rattle.go_tree.specs.declared.node.NodeId.{NodeId}
use Rattle.go_tree.specs.declared.node_kind.NodeKind.TheVariants.{Name}
use Rattle.go_tree.specs.Tree.{Tree, Trees, branch, id_of, kind_of, start_of, text_of}
use Rattle.go_module.specs.Broken.{broken_at}
use Rattle.go_module.specs.Places.{with_number}
use Rattle.go_module.specs.declared.block.Occurrence.{Occurrence}
use Rattle.go_module.specs.declared.block.Region.{Region}
use Rattle.go_module.specs.declared.block.Selected.{Selected}
use Rattle.go_module.specs.declared.object.Object.{Object}
use Rattle.go_module.specs.declared.object.ObjKind.TheVariants.{Package}
use Rattle.go_module.specs.Modules.Module.{ModuleData, PackageData, first_number}
use Rattle.go_module.specs.Modules.ModuleLaws.{ImportsStandBefore}
use Rattle.go_module.specs.Names.Declarations.{Spec, specs_in_file, specs_of}
use Rattle.go_module.specs.Names.Exported.{is_blank_identifier}
use Rattle.go_module.specs.Names.Imports.{file_block, import_of, imports_of, known_in}
use Rattle.go_module.specs.Names.Occurrences.{names_in, names_in_parts, occurrence, occurrences_in_file, selected_name, selecting}
use Rattle.go_module.specs.Names.PackageBlock.{object_id, package_block}
use Rattle.go_module.specs.Names.Regions.{is_held, regions_of, resolution}
use Rattle.go_module.specs.Names.Rules.BlockRules.{is_main_name, missing_main_at, repeated, reserved}
use Rattle.go_module.specs.Names.Rules.BrokenNames.{broken_block, broken_files, broken_imports, broken_in_files, broken_names}
use Rattle.go_module.specs.Names.Rules.ImportRules.{conflicting, unused}
use Rattle.go_module.specs.Names.Rules.MemberRules.{broken_in_spec}
use Rattle.go_module.specs.Names.Rules.OccurrenceRules.{blank_at, blank_value, broken_occurrence, broken_occurrences, complex_at, denoted_package, misplaced_at, misplaced_package, missing_at, missing_in, missing_member, undeclared_at, undeclared_name}
use Rattle.go_module.specs.Names.Tables.{Member, member_of, members_at, occurrences_from, uses_at, uses_of}
use Rattle.go_module.specs.Scopes.{same_object}
use Rattle.go_module.proofs.MemberLemmas.{contains_head}
use Rattle.go_constructs.specs.declared.meaning.Meaning.TheVariants.{Other}
use Rattle.go_judge.specs.Headers.{is_predeclared}
use Rattle.go_constructs.specs.Meaning.{denoted_meaning, kind_meaning, meaning_by, predeclared_meaning}
use Rattle.go_model.specs.Naming.{names_in as package_names, objects_table}
use Rattle.go_laws.specs.BuiltTrees.{IsBuilt}
use Rattle.go_laws.specs.Complete.{asked_in, parts_in}
use Rattle.go_laws.specs.NodeNumbers.{NodeNumbersAscend, numbers_in_files}
use Rattle.go_laws.proofs.Declaring.{DeclareHeaders, IsMeaning}
use Rattle.go_laws.proofs.DenotedLemmas.{IsImported, block_no_package, exported_declared, file_imported, universal}
use Rattle.go_laws.proofs.FileLemmas.{AtFile, at_file, spec_file}
use Rattle.go_model.proofs.FlatLemmas.{flat_cases, flat_contains, map_contains}
use Rattle.go_laws.proofs.KindLemmas.{HasMeaning, block_means, export_means, file_entry, member_entry}
use Rattle.go_laws.proofs.ListLemmas.{left_is_empty, map_is_empty, none_of_each, not_told, right_is_empty}
use Rattle.go_laws.proofs.MeantLemmas.{is_universal, predeclared_universal}
use Rattle.go_laws.proofs.OccursLemmas.{Occurs, asked_occurs}
use Rattle.go_laws.proofs.ResolvedLemmas.{Denotes, Stands, held_denotes}
use Rattle.go_laws.proofs.UseLemmas.{use_found}

-- tests
held_by : (blank held : Bool) → blank ≡ false → (not blank && not held) ≡ false → held ≡ true
held_by blank true e f = refl
held_by true false e f = absurd (let never : true ≡ false = e in cc)
held_by false false e f = absurd (let never : true ≡ false = f in cc)

some_found : {X : Type 0} (o : Option X) → is_none o ≡ false → (x : X) × (o ≡ Some x)
some_found None e = absurd (let never : true ≡ false = e in cc)
some_found (Some x) e = (x, refl)

none_found : {X : Type 0} (o : Option X) → is_some o ≡ false → o ≡ None
none_found None e = refl
none_found (Some x) e = absurd (let never : true ≡ false = e in cc)

-- what an object means is not nothing where it is a universe name, or the table has one of that number that means something
never_other : (a : Bool) (o : Option Object) (iota : Option ℕ) (d : ObjId) → (a ≡ true) ⊎ ((x : Object) × (o ≡ Some x) × IsMeaning x.kind) → (if a then predeclared_meaning iota d else option_map_or (λ (x : Object). kind_meaning d x.kind) o Other) ≡ Other → ⊥
never_other true o iota d fine e = let never : false ≡ true = ap is_universal (sym e) ∙ predeclared_universal iota d in cc
never_other false o iota d (inl fine) e = let never : false ≡ true = fine in cc
never_other false o iota d (inr found) e =
    found.2 d (sym (ap (λ (x : Option Object). option_map_or (λ (y : Object). kind_meaning d y.kind) x Other) found.1) ∙ e)

module _ (m : ModuleData) (k : ℕ) (p : PackageData)
    (give : DeclareHeaders m) (up : NodeNumbersAscend m) (here : slice_get m.packages k ≡ Some p) (stand : ImportsStandBefore m)
    (sound : broken_names (known_in m) k p ≡ []) where
  abbrev regions : List Region
  regions = regions_of (known_in m) k p

  abbrev block : List Region
  block = package_block k p

  abbrev is_main : Bool
  is_main = is_main_name p.name

  -- what an object means is not nothing
  abbrev IsFine : ObjId → Type 0
  IsFine d = (is_predeclared d ≡ true) ⊎ HasMeaning m k p d

  use_fine : (id : NodeId) (d : ObjId) → Contains (uses_of (known_in m) k p) (id, d) → IsFine d → meaning_by (package_names m k p) id.0 ≡ Other → ⊥
  use_fine id d used fine e =
      never_other (is_predeclared d) (lookup (same_object d) (objects_table m k p)) ((package_names m k p).iota id.0) d (by_cases fine)
      (sym (ap (denoted_meaning (package_names m k p).objects ((package_names m k p).iota id.0)) (use_found m k p (up.ascend k p here) id d used)) ∙ e)
    where
      by_cases : IsFine d → (is_predeclared d ≡ true) ⊎ ((x : Object) × (lookup (same_object d) (objects_table m k p) ≡ Some x) × IsMeaning x.kind)
      by_cases (inl predeclared) = inl predeclared
      by_cases (inr has) = inr (has.object, has.found, has.kind)

  -- nothing is broken
  in_files : broken_in_files (known_in m) k p ≡ []
  in_files = map_is_empty (with_number p.files) (broken_in_files (known_in m) k p) sound

  abbrev files_broken : List Broken
  files_broken = broken_files (known_in m) is_main regions block 0 p.files (imports_of k p)

  block_once : repeated block ≡ []
  block_once = left_is_empty (repeated block) (reserved is_main block) (left_is_empty (broken_block is_main block) files_broken in_files)

  files_sound : files_broken ≡ []
  files_sound = right_is_empty (broken_block is_main block) files_broken in_files

  module _ (spec : Spec) (file : AtFile (known_in m) k is_main regions block 0 p.files p.imports spec) where
    abbrev own : List Region
    own = file_block (known_in m) file.imports

    abbrev occurring : List Occurrence
    occurring = occurrences_in_file file.number file.file.tree

    abbrev by_occurrences : List Broken
    by_occurrences = broken_occurrences (known_in m) regions occurring ++ flat_map broken_in_spec (specs_in_file file.number file.file.tree)

    abbrev by_imports : List Broken
    by_imports = broken_imports (known_in m) regions block file.number file.file file.imports

    behind_main : reserved is_main own ++ (by_imports ++ by_occurrences) ≡ []
    behind_main = right_is_empty (missing_main_at is_main file.number file.file) (reserved is_main own ++ (by_imports ++ by_occurrences)) file.sound

    behind_reserved : by_imports ++ by_occurrences ≡ []
    behind_reserved = right_is_empty (reserved is_main own) (by_imports ++ by_occurrences) behind_main

    file_once : repeated own ≡ []
    file_once =
        left_is_empty (repeated own) (conflicting block own (flat_map import_of file.imports) ++ unused regions own occurring (flat_map import_of file.imports))
        (left_is_empty by_imports by_occurrences behind_reserved)

    each_sound : (x : Occurrence) → Contains occurring x → broken_occurrence (known_in m) regions x ≡ []
    each_sound =
        none_of_each (broken_occurrence (known_in m) regions) occurring
        (left_is_empty (broken_occurrences (known_in m) regions occurring) (flat_map broken_in_spec (specs_in_file file.number file.file.tree)) (right_is_empty by_imports by_occurrences behind_reserved))

    -- what a region has is fine where it is no package; one that it is, is imported
    record IsGood (r : Region) : Type 0 where
      object : r.denotes ≡ None → IsFine (object_id r.object)
      imported : (q : ℕ) → r.denotes ≡ Some q → Contains p.imports q

    no_package : (r : Region) → IsFine (object_id r.object) → r.denotes ≡ None → IsGood r
    no_package r fine none = record { object = λ same. fine; imported = λ q e. absurd (let never : None ≡ Some q = sym none ∙ e in cc) }

    imported_good : (r : Region) → Contains (flat_map (file_block (known_in m)) (imports_of k p)) r → (is : IsImported (known_in m) p r)
        → ((r.denotes ≡ Some is.place) × (r.object.kind ≡ Package) × Contains (numbers_in_files p.files) r.object.at.0) ⊎ ((r.denotes ≡ None) × Contains ((known_in m) is.place).exports r.object) → IsGood r
    imported_good r h is (inl named) = record {
      object = λ none. absurd (let never : None ≡ Some is.place = sym none ∙ named.0 in cc);
      imported = λ q e. (
          let same : is.place ≡ q = (let both : Some is.place ≡ Some q = sym named.0 ∙ e in cc) in
          subst (λ (n : ℕ). Contains p.imports n) same is.among);
    }
    imported_good r h is (inr dot) =
        let declared = (exported_declared m is.place).exports r.object dot.1 in
        no_package r (inr (export_means m k p give here up stand is.place is.among r.object declared (file_entry m k p r h))) dot.0

    good : (r : Region) → Stands block own r → IsGood r
    good r (inl in_file) =
        let h = flat_contains (file_block (known_in m)) (imports_of k p) file.imports r file.listed in_file in
        let is = file_imported (known_in m) k p r h in
        imported_good r h is is.denoted
    good r (inr (inl in_block)) = no_package r (inr (block_means m k p give here r in_block)) (block_no_package k p r in_block)
    good r (inr (inr in_universe)) = let is = universal r in_universe in no_package r (inl (lt-ltb r.object.at.0 first_number is.below)) is.no_package

    module _ (x : Occurrence) (among : Contains occurring x) (placed : x.file ≡ file.number) where
      not_undeclared : undeclared_at regions x ≡ []
      not_undeclared = left_is_empty (undeclared_at regions x) (blank_at x ++ (misplaced_at regions x ++ (missing_at (known_in m) regions x ++ complex_at regions x))) (each_sound x among)

      behind_undeclared : blank_at x ++ (misplaced_at regions x ++ (missing_at (known_in m) regions x ++ complex_at regions x)) ≡ []
      behind_undeclared = right_is_empty (undeclared_at regions x) (blank_at x ++ (misplaced_at regions x ++ (missing_at (known_in m) regions x ++ complex_at regions x))) (each_sound x among)

      behind_blank : misplaced_at regions x ++ (missing_at (known_in m) regions x ++ complex_at regions x) ≡ []
      behind_blank = right_is_empty (blank_at x) (misplaced_at regions x ++ (missing_at (known_in m) regions x ++ complex_at regions x)) behind_undeclared

      not_misplaced : misplaced_at regions x ≡ []
      not_misplaced = left_is_empty (misplaced_at regions x) (missing_at (known_in m) regions x ++ complex_at regions x) behind_blank

      not_missing : missing_at (known_in m) regions x ≡ []
      not_missing = left_is_empty (missing_at (known_in m) regions x) (complex_at regions x) (right_is_empty (misplaced_at regions x) (missing_at (known_in m) regions x ++ complex_at regions x) behind_blank)

      held : is_held regions x ≡ true
      held =
          held_by (is_blank_identifier x.name) (is_held regions x)
          (not_told (is_blank_identifier x.name) (broken_at x.file x.at blank_value) (left_is_empty (blank_at x) (misplaced_at regions x ++ (missing_at (known_in m) regions x ++ complex_at regions x)) behind_undeclared))
          (not_told (not (is_blank_identifier x.name) && not (is_held regions x)) (broken_at x.file x.at undeclared_name) not_undeclared)

      denoted : Denotes regions block own x
      denoted =
          let place : x.file ≡ file.place = (let at = file.numbered in omega (arith, at, placed)) in
          held_denotes (known_in m) k p x file.imports (ap (slice_get (imports_of k p)) place ∙ file.found) held block_once file_once

      -- what it denotes, and what stands behind its `.`, are among the uses
      own_use : Contains (uses_of (known_in m) k p) (x.id, object_id denoted.region.object)
      own_use =
          flat_contains (uses_at (known_in m) regions) (occurrences_from 0 p.files) x (x.id, object_id denoted.region.object) (file.occurs x among)
          (Contains-append_left (option_map_or {U = List (NodeId × ObjId)} (λ (r : Region). (x.id, object_id r.object) ∷ []) (resolution regions x) []) (map (λ (member : Member). (member.id, object_id member.object)) (members_at (known_in m) regions x)) (x.id, object_id denoted.region.object)
          (subst (λ (o : Option Region). Contains (option_map_or {U = List (NodeId × ObjId)} (λ (r : Region). (x.id, object_id r.object) ∷ []) o []) (x.id, object_id denoted.region.object)) (sym denoted.is)
          (contains_head (x.id, object_id denoted.region.object) [] (x.id, object_id denoted.region.object) refl)))

      package_is : denoted_package regions x ≡ denoted.region.denotes
      package_is = ap (option_and_then (λ (r : Region). r.denotes)) denoted.is

      -- so is the object of a qualified identifier that begins with it
      module _ (q : ℕ) (s : Selected) (o : Object) (place : denoted_package regions x ≡ Some q) (selected : x.selected ≡ Some s) (found : ((known_in m) q).exported s.name ≡ Some o) where
        abbrev member : Member
        member = record { id = s.id; object = o }

        member_here : Contains (members_at (known_in m) regions x) member
        member_here =
            subst (λ (at : Option ℕ). Contains (member_of (known_in m) at x.selected) member) (sym place)
            (subst (λ (chosen : Option Selected). Contains (member_of (known_in m) (Some q) chosen) member) (sym selected)
            (subst (λ (object : Option Object). Contains (option_map_or {U = List Member} (λ (object : Object). record { id = s.id; object = object } ∷ []) object []) member) (sym found)
            (contains_head member [] member refl)))

        member_use : Contains (uses_of (known_in m) k p) (s.id, object_id o)
        member_use =
            flat_contains (uses_at (known_in m) regions) (occurrences_from 0 p.files) x (s.id, object_id o) (file.occurs x among)
            (Contains-append_right (option_map_or {U = List (NodeId × ObjId)} (λ (r : Region). (x.id, object_id r.object) ∷ []) (resolution regions x) []) (map (λ (member : Member). (member.id, object_id member.object)) (members_at (known_in m) regions x)) (s.id, object_id o)
            (map_contains (λ (member : Member). (member.id, object_id member.object)) (members_at (known_in m) regions x) member member_here))

        member_fine : Contains p.imports q → IsFine (object_id o)
        member_fine imported =
            inr (export_means m k p give here up stand q imported o ((exported_declared m q).exported s.name o found)
            (member_entry m k p member (flat_contains (members_at (known_in m) regions) (occurrences_from 0 p.files) x member (file.occurs x among) member_here)))

      -- by itself it denotes no package
      alone_fine : x.selected ≡ None → meaning_by (package_names m k p) x.id.0 ≡ Other → ⊥
      alone_fine selected e =
          let misplaced : (is_none x.selected && is_some (denoted_package regions x)) ≡ false = not_told (is_none x.selected && is_some (denoted_package regions x)) (broken_at x.file x.at misplaced_package) not_misplaced in
          let none : is_some (denoted_package regions x) ≡ false = ap (λ (o : Option Selected). is_none o && is_some (denoted_package regions x)) (sym selected) ∙ misplaced in
          use_fine x.id (object_id denoted.region.object) own_use ((good denoted.region denoted.stands).object (sym package_is ∙ none_found (denoted_package regions x) none)) e

      -- before a `.` it denotes none where what stands behind denotes nothing
      before_fine : (s : Selected) → x.selected ≡ Some s → meaning_by (package_names m k p) s.id.0 ≡ Other → meaning_by (package_names m k p) x.id.0 ≡ Other → ⊥
      before_fine s selected behind e = by_denoted denoted.region.denotes refl
        where
          by_denoted : (o : Option ℕ) → denoted.region.denotes ≡ o → ⊥
          by_denoted None none = use_fine x.id (object_id denoted.region.object) own_use ((good denoted.region denoted.stands).object none) e
          by_denoted (Some q) named =
              let at : denoted_package regions x ≡ Some q = package_is ∙ named in
              let missing : missing_in (known_in m) x.file (Some q) (Some s) ≡ [] = sym (λ i. missing_in (known_in m) x.file (at i) (selected i)) ∙ not_missing in
              let found = some_found (((known_in m) q).exported s.name) (not_told (is_none (((known_in m) q).exported s.name)) (broken_at x.file s.at missing_member) missing) in
              use_fine s.id (object_id found.0) (member_use q s found.0 at selected found.1) (member_fine q s found.0 at selected found.1 ((good denoted.region denoted.stands).imported q named)) behind

  asked_fine : (t : Tree) → Contains (parts_in p) t → IsBuilt t → (s : Tree) → Contains (asked_in (package_names m k p) t) s → kind_of s ≡ Name → meaning_by (package_names m k p) (id_of s) ≡ Other → ⊥
  asked_fine t among built s asked is e =
      let from = flat_cases (λ (spec : Spec). spec.types ++ spec.values) (specs_of p) t among in
      in_spec from.0 from.2 (at_file (known_in m) k is_main regions block 0 p.files p.imports from.0 from.1 files_sound)
    where
      in_spec : (spec : Spec) → Contains (spec.types ++ spec.values) t → AtFile (known_in m) k is_main regions block 0 p.files p.imports spec → ⊥
      in_spec spec part file = by_cases (asked_occurs (package_names m k p) spec.file spec.told_at t built s is asked)
        where
          placed : spec.file ≡ file.number
          placed = spec_file file.number file.file.tree spec file.among

          inside : (x : Occurrence) → Contains (names_in spec.file spec.told_at t) x → Contains (occurrences_in_file file.number file.file.tree) x
          inside x h = flat_contains names_in_parts (specs_in_file file.number file.file.tree) spec x file.among (flat_contains (names_in spec.file spec.told_at) (spec.types ++ spec.values) t x part h)

          by_cases : Occurs (package_names m k p) spec.file spec.told_at (names_in spec.file spec.told_at t) (occurrence spec.file spec.told_at (id_of s) (start_of s) (text_of s)) → ⊥
          by_cases (inl alone) =
              let x = occurrence spec.file spec.told_at (id_of s) (start_of s) (text_of s) in
              alone_fine spec file x (inside x alone) placed refl e
          by_cases (inr is_before) =
              let x = selecting spec.file spec.told_at is_before.selected (occurrence spec.file spec.told_at (id_of s) (start_of s) (text_of s)) in
              before_fine spec file x (inside x is_before.among) placed (selected_name spec.file spec.told_at is_before.selected) refl is_before.other e

-- So an identifier that is asked for a record (not the name of a package before a `.`) does not mean nothing: it
-- denotes a universe name, or what the package declares or one that it imports exports.
pub names_denote : (m : ModuleData) (k : ℕ) (p : PackageData) → DeclareHeaders m → NodeNumbersAscend m → slice_get m.packages k ≡ Some p → ImportsStandBefore m
    → broken_names (known_in m) k p ≡ []
    → ((t : Tree) → Contains (parts_in p) t → IsBuilt t)
    → (t : Tree) → Contains (parts_in p) t → (s : Tree) → Contains (asked_in (package_names m k p) t) s
    → (id from to : ℕ) (text : List ℕ) (parts : Trees) → s ≡ branch id from to Name text parts
    → meaning_by (package_names m k p) id ≡ Other → ⊥
names_denote m k p give up at stand sound built t among s asked id from to text parts is e =
    asked_fine m k p give up at stand sound t among (built t among) s asked (ap kind_of is) (ap (λ (r : Tree). meaning_by (package_names m k p) (id_of r)) is ∙ e)
