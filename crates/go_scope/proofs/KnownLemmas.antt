-- What packages are known by: two ways of knowing that agree on all imported packages tell the same.
use Rattle.std.proofs.Common.{◌≡◌, ℕ, ◌+◌, Bool, true, false, cond, Option, Some, None, List, [], ◌∷◌, ◌++◌, map, filter, find, take, drop, length, refl, subst, ap, ◌∙◌}
use Rattle.std.specs.Prelude.{if◌then◌else◌, option_and_then}
use Rattle.std.specs.Option.{is_none, option_map_or}
use Rattle.std.specs.List.{Contains, flat_map}
use Rattle.std.proofs.lemmas.List.{take-append-drop}
use Rattle.std.proofs.lemmas.List.Elements.{Contains-append_left, Contains-append_right}
use Rattle.go_tree.specs.Tree.{Tree, Trees, no_trees, more_trees, parts_of}
use Rattle.go_module.specs.declared.block.Region.{Region}
use Rattle.go_module.specs.declared.block.Occurrence.{Occurrence}
use Rattle.go_module.specs.declared.block.Selected.{Selected}
use Rattle.go_module.specs.declared.object.Object.{Object}
use Rattle.go_module.specs.Broken.{broken_at, told_if}
use Rattle.go_module.specs.Names.Universe.{Predeclared, predeclared, universe, universe_from}
use Rattle.go_module.specs.Modules.Heads.{import_specs}
use Rattle.go_module.specs.Modules.Module.{FileData, PackageData}
use Rattle.go_module.specs.Names.Rules.BlockRules.{missing_main_at, reserved, repeated, is_main_name}
use Rattle.go_module.specs.Names.Rules.BrokenNames.{broken_block, broken_file, broken_files, broken_in_files}
use Rattle.go_module.specs.Names.Declarations.{Declaration, declarations_of, name_text, specs_in_file}
use Rattle.go_module.specs.Names.PackageBlock.{binds, declared_region, object_id, package_block, region_entries}
use Rattle.go_module.specs.Names.Exported.{is_blank_identifier}
use Rattle.go_module.specs.Names.Rules.ImportRules.{conflicting, unused}
use Rattle.go_module.specs.Names.Imports.{PackageNames, Importing, import_region, dot_region, is_dot, import_parts, import_regions, file_block, import_of, imports_in, imports_from, imports_of}
use Rattle.go_module.specs.Names.Rules.MemberRules.{broken_in_spec}
use Rattle.go_module.specs.Names.Rules.OccurrenceRules.{missing_member, denoted_package, missing_in, broken_occurrence, broken_occurrences, undeclared_at, blank_at, misplaced_at, complex_at}
use Rattle.go_module.specs.Names.Occurrences.{occurrences_in_file}
use Rattle.go_module.specs.Names.Regions.{regions_of, resolution, holds, lies_inside_others}
use Rattle.go_module.specs.Names.Tables.{Member, members_at, member_of, members_of, uses_at, uses_of, objects_in, occurrences_from}
use Rattle.go_module.proofs.MemberLemmas.{contains_head, contains_tail}

-- parts of a list have no other elements

in_front : {X : Type 0} (n : ℕ) (xs : List X) (x : X) → Contains (take n xs) x → Contains xs x
in_front n xs x h = subst (λ ys. Contains ys x) (take-append-drop n xs) (Contains-append_left (take n xs) (drop n xs) x h)

in_rest : {X : Type 0} (n : ℕ) (xs : List X) (x : X) → Contains (drop n xs) x → Contains xs x
in_rest n xs x h = subst (λ ys. Contains ys x) (take-append-drop n xs) (Contains-append_right (take n xs) (drop n xs) x h)

module _ (f g : ℕ → PackageNames) where
  -- both know the packages of these imports alike
  abbrev Alike : List Importing → Type 0
  Alike [] = Unit {0}
  Alike (i ∷ imports) = (f i.imported ≡ g i.imported) × Alike imports

  alike_in : (importer file : ℕ) (specs : List Tree) (packages : List ℕ) → ((q : ℕ) → Contains packages q → f q ≡ g q) → Alike (imports_in importer file specs packages)
  alike_in importer file [] packages same = tt
  alike_in importer file (s ∷ specs) [] same = tt
  alike_in importer file (s ∷ specs) (q ∷ packages) same = (same q (contains_head q packages q refl), alike_in importer file specs packages (λ r here. same r (contains_tail q packages r here)))

  -- the same for each file
  abbrev AllAlike : List (List Importing) → Type 0
  AllAlike [] = Unit {0}
  AllAlike (imports ∷ others) = Alike imports × AllAlike others

  alike_from : (importer file : ℕ) (files : List FileData) (packages : List ℕ) → ((q : ℕ) → Contains packages q → f q ≡ g q) → AllAlike (imports_from importer file files packages)
  alike_from importer file [] packages same = tt
  alike_from importer file (x ∷ files) packages same = (
    alike_in importer file (import_specs x.tree) (take (length (import_specs x.tree)) packages) (λ q here. same q (in_front (length (import_specs x.tree)) packages q here)),
    alike_from importer (file + 1) files (drop (length (import_specs x.tree)) packages) (λ q here. same q (in_rest (length (import_specs x.tree)) packages q here)),
  )

  -- they declare the same names
  pub block_alike : (imports : List Importing) → Alike imports → file_block f imports ≡ file_block g imports
  block_alike [] same = refl
  block_alike (i ∷ imports) same = (λ at. import_parts (same.0 at) i (parts_of i.spec) ++ block_alike imports same.1 at)

  blocks_alike : (lists : List (List Importing)) → AllAlike lists → flat_map (file_block f) lists ≡ flat_map (file_block g) lists
  blocks_alike [] same = refl
  blocks_alike (imports ∷ others) same = (λ at. block_alike imports same.0 at ++ blocks_alike others same.1 at)

  pub regions_alike : (k : ℕ) (p : PackageData) → AllAlike (imports_of k p) → regions_of f k p ≡ regions_of g k p
  regions_alike k p same = ap (λ rest. universe ++ (package_block k p ++ rest)) (blocks_alike (imports_of k p) same)

  -- both know alike what a region denotes
  abbrev KnowsDenoted : Region → Type 0
  KnowsDenoted r = (q : ℕ) → r.denotes ≡ Some q → f q ≡ g q

  abbrev AllDenoted : List Region → Type 0
  AllDenoted [] = Unit {0}
  AllDenoted (r ∷ regions) = KnowsDenoted r × AllDenoted regions

  denoted_append : (xs ys : List Region) → AllDenoted xs → AllDenoted ys → AllDenoted (xs ++ ys)
  denoted_append [] ys xs_are ys_are = ys_are
  denoted_append (x ∷ xs) ys xs_are ys_are = (xs_are.0, denoted_append xs ys xs_are.1 ys_are)

  universe_denotes : (i : ℕ) (names : List Predeclared) → AllDenoted (universe_from i names)
  universe_denotes i [] = tt
  universe_denotes i (name ∷ names) = ((λ q e. cc), universe_denotes (i + 1) names)

  declared_denote : (k : ℕ) (declarations : List Declaration) → AllDenoted (map (declared_region k) declarations)
  declared_denote k [] = tt
  declared_denote k (d ∷ declarations) = ((λ q e. cc), declared_denote k declarations)

  package_denotes : (k : ℕ) (p : PackageData) → AllDenoted (package_block k p)
  package_denotes k p = declared_denote k (filter binds (declarations_of p))

  -- the names of an import
  import_denotes : (i : Importing) (name : List ℕ) (node : Tree) → f i.imported ≡ g i.imported → KnowsDenoted (import_region i name node)
  import_denotes i name node same q e =
      let at : i.imported ≡ q = cc in
      subst (λ (n : ℕ). f n ≡ g n) at same

  exports_denote : (i : Importing) (string : Tree) (objects : List Object) → AllDenoted (map (dot_region i string) objects)
  exports_denote i string [] = tt
  exports_denote i string (object ∷ objects) = ((λ q none. cc), exports_denote i string objects)

  named_denote : (i : Importing) (name string : Tree) (dot blank : Bool) → f i.imported ≡ g i.imported → AllDenoted (if dot then map (dot_region i string) (g i.imported).exports else if blank then [] else import_region i (name_text name) name ∷ [])
  named_denote i name string true blank same = exports_denote i string (g i.imported).exports
  named_denote i name string false true same = tt
  named_denote i name string false false same = (import_denotes i (name_text name) name same, tt)

  parts_denote : (i : Importing) (parts : Trees) → f i.imported ≡ g i.imported → AllDenoted (import_parts (g i.imported) i parts)
  parts_denote i no_trees same = tt
  parts_denote i (more_trees string no_trees) same = (import_denotes i (g i.imported).clause string same, tt)
  parts_denote i (more_trees name (more_trees string no_trees)) same = named_denote i name string (is_dot name) (is_blank_identifier (name_text name)) same
  parts_denote i (more_trees name (more_trees string (more_trees other others))) same = tt

  block_denotes : (imports : List Importing) → Alike imports → AllDenoted (file_block g imports)
  block_denotes [] same = tt
  block_denotes (i ∷ imports) same = denoted_append (import_regions g i) (file_block g imports) (parts_denote i (parts_of i.spec) same.0) (block_denotes imports same.1)

  blocks_denote : (lists : List (List Importing)) → AllAlike lists → AllDenoted (flat_map (file_block g) lists)
  blocks_denote [] same = tt
  blocks_denote (imports ∷ others) same = denoted_append (file_block g imports) (flat_map (file_block g) others) (block_denotes imports same.0) (blocks_denote others same.1)

  universe_is_denoted : AllDenoted universe
  unfolding universe
  universe_is_denoted = universe_denotes 0 predeclared

  regions_denote : (k : ℕ) (p : PackageData) → AllAlike (imports_of k p) → AllDenoted (regions_of g k p)
  regions_denote k p same = denoted_append universe (package_block k p ++ flat_map (file_block g) (imports_of k p)) universe_is_denoted (denoted_append (package_block k p) (flat_map (file_block g) (imports_of k p)) (package_denotes k p) (blocks_denote (imports_of k p) same))

  -- what is filtered and found is among them
  filter_denotes : (test : Region → Bool) (regions : List Region) → AllDenoted regions → AllDenoted (filter test regions)
  filter_denotes test [] all = tt
  filter_denotes test (r ∷ regions) all = by_test (test r) (filter_denotes test regions all.1) where
    by_test : (b : Bool) → AllDenoted (filter test regions) → AllDenoted (cond b (r ∷ filter test regions) (filter test regions))
    by_test true rest = (all.0, rest)
    by_test false rest = rest

  found_denotes : (test : Region → Bool) (regions : List Region) (r : Region) → AllDenoted regions → find test regions ≡ Some r → KnowsDenoted r
  found_denotes test [] r all found = cc
  found_denotes test (x ∷ regions) r all found = by_test (test x) (found_denotes test regions r all.1) found where
    by_test : (b : Bool) → (find test regions ≡ Some r → KnowsDenoted r) → cond b (Some x) (find test regions) ≡ Some r → KnowsDenoted r
    by_test true go_on here = let at : x ≡ r = cc in subst KnowsDenoted at all.0
    by_test false go_on here = go_on here

  package_alike : (x : Option Region) (q : ℕ) → ((r : Region) → x ≡ Some r → KnowsDenoted r) → option_and_then (λ r. r.denotes) x ≡ Some q → f q ≡ g q
  package_alike None q all e = cc
  package_alike (Some r) q all e = all r refl q e

  -- what an occurrence denotes is known alike
  denoted_alike : (regions : List Region) (o : Occurrence) → AllDenoted regions → (q : ℕ) → denoted_package regions o ≡ Some q → f q ≡ g q
  denoted_alike regions o all q e = package_alike (resolution regions o) q (λ r found. found_denotes (lies_inside_others (filter (holds o) regions)) (filter (holds o) regions) r (filter_denotes (holds o) regions all) found) e

  missing_alike : (file : ℕ) (denoted : Option ℕ) (selected : Option Selected) → ((q : ℕ) → denoted ≡ Some q → f q ≡ g q) → missing_in f file denoted selected ≡ missing_in g file denoted selected
  missing_alike file None selected same = refl
  missing_alike file (Some q) None same = refl
  missing_alike file (Some q) (Some s) same = ap (λ known. told_if (is_none (known.exported s.name)) (broken_at file s.at missing_member)) (same q refl)

  members_alike : (denoted : Option ℕ) (selected : Option Selected) → ((q : ℕ) → denoted ≡ Some q → f q ≡ g q) → member_of f denoted selected ≡ member_of g denoted selected
  members_alike None selected same = refl
  members_alike (Some q) None same = refl
  members_alike (Some q) (Some s) same = ap (λ known. option_map_or (λ object. record { id = s.id; object = object } ∷ []) (known.exported s.name) []) (same q refl)

  module _ (regions : List Region) (all : AllDenoted regions) where
    occurrence_alike : (o : Occurrence) → broken_occurrence f regions o ≡ broken_occurrence g regions o
    occurrence_alike o = ap (λ missing. undeclared_at regions o ++ (blank_at o ++ (misplaced_at regions o ++ (missing ++ complex_at regions o)))) (missing_alike o.file (denoted_package regions o) o.selected (denoted_alike regions o all))

    occurrences_alike : (occurrences : List Occurrence) → broken_occurrences f regions occurrences ≡ broken_occurrences g regions occurrences
    occurrences_alike [] = refl
    occurrences_alike (o ∷ occurrences) = (λ at. occurrence_alike o at ++ occurrences_alike occurrences at)

    at_alike : (o : Occurrence) → members_at f regions o ≡ members_at g regions o
    at_alike o = members_alike (denoted_package regions o) o.selected (denoted_alike regions o all)

    all_members_alike : (occurrences : List Occurrence) → flat_map (members_at f regions) occurrences ≡ flat_map (members_at g regions) occurrences
    all_members_alike [] = refl
    all_members_alike (o ∷ occurrences) = (λ at. at_alike o at ++ all_members_alike occurrences at)

    all_uses_alike : (occurrences : List Occurrence) → flat_map (uses_at f regions) occurrences ≡ flat_map (uses_at g regions) occurrences
    all_uses_alike [] = refl
    all_uses_alike (o ∷ occurrences) = (λ at. (option_map_or (λ r. (o.id, object_id r.object) ∷ []) (resolution regions o) [] ++ map (λ (member : Member). (member.id, object_id member.object)) (at_alike o at)) ++ all_uses_alike occurrences at)

    file_alike : (is_main : Bool) (block : List Region) (file : ℕ) (x : FileData) (imports : List Importing) → Alike imports → broken_file f is_main regions block file x imports ≡ broken_file g is_main regions block file x imports
    file_alike is_main block file x imports same =
        (λ at. missing_main_at is_main file x ++ (reserved is_main (block_alike imports same at) ++ ((repeated (block_alike imports same at) ++ (conflicting block (block_alike imports same at) (flat_map import_of imports) ++ unused regions (block_alike imports same at) (occurrences_in_file file x.tree) (flat_map import_of imports))) ++ (occurrences_alike (occurrences_in_file file x.tree) at ++ flat_map broken_in_spec (specs_in_file file x.tree)))))

    files_alike : (is_main : Bool) (block : List Region) (file : ℕ) (files : List FileData) (lists : List (List Importing)) → AllAlike lists → broken_files f is_main regions block file files lists ≡ broken_files g is_main regions block file files lists
    files_alike is_main block file [] lists same = refl
    files_alike is_main block file (x ∷ files) [] same = refl
    files_alike is_main block file (x ∷ files) (imports ∷ lists) same = (λ at. file_alike is_main block file x imports same.0 at ++ files_alike is_main block (file + 1) files lists same.1 at)

  -- so the package breaks the same, and has the same tables
  pub names_alike : (k : ℕ) (p : PackageData) → ((q : ℕ) → Contains p.imports q → f q ≡ g q) → broken_in_files f k p ≡ broken_in_files g k p
  names_alike k p same =
      let all : AllAlike (imports_of k p) = alike_from k 0 p.files p.imports same in
      let block = package_block k p in
      ap (λ rest. broken_block (is_main_name p.name) block ++ rest)
      (ap (λ regions. broken_files f (is_main_name p.name) regions block 0 p.files (imports_of k p)) (regions_alike k p all)
      ∙ files_alike (regions_of g k p) (regions_denote k p all) (is_main_name p.name) block 0 p.files (imports_of k p) all)

  pub uses_alike : (k : ℕ) (p : PackageData) → ((q : ℕ) → Contains p.imports q → f q ≡ g q) → uses_of f k p ≡ uses_of g k p
  uses_alike k p same =
      let all : AllAlike (imports_of k p) = alike_from k 0 p.files p.imports same in
      ap (λ regions. flat_map (uses_at f regions) (occurrences_from 0 p.files)) (regions_alike k p all)
      ∙ all_uses_alike (regions_of g k p) (regions_denote k p all) (occurrences_from 0 p.files)

  pub objects_alike : (k : ℕ) (p : PackageData) → ((q : ℕ) → Contains p.imports q → f q ≡ g q) → objects_in f k p ≡ objects_in g k p
  objects_alike k p same =
      let all : AllAlike (imports_of k p) = alike_from k 0 p.files p.imports same in
      let members : members_of f k p ≡ members_of g k p =
      ap (λ regions. flat_map (members_at f regions) (occurrences_from 0 p.files)) (regions_alike k p all)
      ∙ all_members_alike (regions_of g k p) (regions_denote k p all) (occurrences_from 0 p.files) in
      (λ at. region_entries (universe ++ blocks_alike (imports_of k p) all at) ++ (map (λ (member : Member). (object_id member.object, member.object)) (members at) ++ region_entries (package_block k p)))
