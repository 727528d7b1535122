-- What files denote and break, file after file, is what the definitions say of the package.
use Rattle.std.proofs.Common.{◌≡◌, ℕ, suc, ◌+◌, Bool, true, false, not, ◌&&◌, ◌||◌, Option, Some, None, List, [], ◌∷◌, ◌++◌, length, drop, map, refl, sym, ap, ◌∙◌, subst, arith}
use Rattle.std.specs.Prelude.{if◌then◌else◌, option_and_then, slice_get}
use Rattle.std.specs.List.{flat_map, list_any}
use Rattle.std.specs.Option.{option_map, option_map_or, is_none, is_some}
use Rattle.std.proofs.lemmas.List.{map-append}
use Rattle.go_tree.specs.declared.node.NodeId.{NodeId}
use Rattle.go_tree.specs.declared.node_kind.NodeKind.{NodeKind}
use Rattle.go_tree.specs.declared.node_kind.NodeKind.TheVariants.{Name, SelectorExpr, ConstDecl, ConstGroup, VarDecl, VarGroup, TypeDecl, TypeGroup, TypeSpec, AliasSpec}
use Rattle.go_tree.specs.Tree.{Tree, branch, Trees, no_trees, more_trees, list_of, parts_of}
use Rattle.go_module.specs.Broken.{broken_at, told_if}
use Rattle.go_module.specs.declared.block.Import.{Import}
use Rattle.go_module.specs.declared.block.Occurrence.{Occurrence}
use Rattle.go_module.specs.declared.block.Region.{Region}
use Rattle.go_base.specs.declared.ids.ObjId.{ObjId}
use Rattle.go_tree.specs.Grammar.Trees.TypeTrees.{is_name}
use Rattle.go_module.specs.Modules.Heads.{import_specs}
use Rattle.go_module.specs.Modules.Module.{FileData, PackageData}
use Rattle.go_module.specs.Scopes.{same_node}
use Rattle.go_module.specs.Names.Rules.BlockRules.{missing_main_at, reserved, repeated}
use Rattle.go_module.specs.Names.Rules.BrokenNames.{broken_file, broken_files}
use Rattle.go_module.specs.Names.Declarations.{Spec, const_spec, specs_in, specs_in_file, type_spec, var_spec}
use Rattle.go_module.specs.Names.Inner.{inner_of, inner_by}
use Rattle.go_module.specs.Names.PackageBlock.{object_id, package_block}
use Rattle.go_module.specs.Names.Rules.ImportRules.{conflicting, declares, is_repeated_by, uses_import, unused, unused_import}
use Rattle.go_module.specs.Names.Imports.{PackageNames, Importing, file_block, import_of, imports_from, imports_of}
use Rattle.go_module.specs.Names.Rules.MemberRules.{broken_in_spec}
use Rattle.go_module.specs.Names.Rules.OccurrenceRules.{broken_occurrence, broken_occurrences, blank_at, missing_in, misplaced_package, undeclared_at, complex_name, is_complex}
use Rattle.go_module.specs.Names.Occurrences.{found_in, selecting, names_in, names_of_each, names_in_parts, occurrences_in_file}
use Rattle.go_module.specs.Names.Regions.{regions_of, resolution, is_held}
use Rattle.go_module.specs.Names.Tables.{member_of, members_at, uses_at, occurrences_from}
use Rattle.go_module.specs.Names.Universe.{universe}
use Rattle.go_names.specs.Views.{specs_by_file}
use Rattle.go_scope.specs.declared.resolved.Denoted.{Denoted}
use Rattle.go_scope.specs.declared.resolved.Resolved.{Resolved}
use Rattle.go_scope.specs.Blocks.{block_data}
use Rattle.go_scope.specs.Checked.{all_of, broken_from, resolved_from, resolved_parts}
use Rattle.go_scope.specs.Resolved.{denoted_of, resolved_in, broken_by, broken_file_by, uses_by, unused_by, members_by, member_pair, pairs_by}
use Rattle.go_scope.proofs.InnerLemmas.{holds_inner}
use Rattle.go_scope.proofs.ResolutionLemmas.{innermost_is, declared_is}

-- an occurrence among all regions of its package
abbrev pub resolved_of : List Region → Occurrence → Resolved
resolved_of regions o = record { occurrence = o; held = is_held regions o; denoted = option_map denoted_of (resolution regions o) }

-- what is asked of a region is what is asked of what it tells
package_is : (x : Option Region) → option_and_then (λ (d : Denoted). d.denotes) (option_map denoted_of x) ≡ option_and_then (λ (r : Region). r.denotes) x
package_is None = refl
package_is (Some r) = refl

complex_is : (x : Option Region) → option_map_or (λ (d : Denoted). d.complex) (option_map denoted_of x) false ≡ option_map_or is_complex x false
complex_is None = refl
complex_is (Some r) = refl

use_is : (i : Import) (x : Option Region) → option_map_or (λ (d : Denoted). option_map_or (λ spec. same_node i.id spec) d.import false) (option_map denoted_of x) false ≡ option_map_or (declares i) x false
use_is i None = refl
use_is i (Some r) = refl

pair_is : (id : NodeId) (x : Option Region) → option_map_or {U = List (NodeId × ObjId)} (λ (d : Denoted). (id, d.object) ∷ []) (option_map denoted_of x) [] ≡ option_map_or {U = List (NodeId × ObjId)} (λ (r : Region). (id, object_id r.object) ∷ []) x []
pair_is id None = refl
pair_is id (Some r) = refl

module _ (known : ℕ → PackageNames) (regions : List Region) where
  broken_is : (o : Occurrence) → broken_by known (resolved_of regions o) ≡ broken_occurrence known regions o
  broken_is o =
      let place = package_is (resolution regions o) in
      (λ at. undeclared_at regions o ++ (blank_at o ++ (told_if (is_none o.selected && is_some (place at)) (broken_at o.file o.at misplaced_package) ++ (missing_in known o.file (place at) o.selected ++ told_if (complex_is (resolution regions o) at) (broken_at o.file o.at complex_name)))))

  all_broken : (occurrences : List Occurrence) → flat_map (broken_by known) (map (resolved_of regions) occurrences) ≡ broken_occurrences known regions occurrences
  all_broken [] = refl
  all_broken (o ∷ occurrences) = (λ at. broken_is o at ++ all_broken occurrences at)

  any_use : (i : Import) (occurrences : List Occurrence) → list_any (uses_by i.id) (map (resolved_of regions) occurrences) ≡ list_any (uses_import regions i) occurrences
  any_use i [] = refl
  any_use i (o ∷ occurrences) = (λ at. use_is i (resolution regions o) at || any_use i occurrences at)

  all_unused : (file : List Region) (occurrences : List Occurrence) (imports : List Import) → flat_map (unused_by file (map (resolved_of regions) occurrences)) imports ≡ unused regions file occurrences imports
  all_unused file occurrences [] = refl
  all_unused file occurrences (i ∷ imports) = (λ at. told_if (not (is_repeated_by file i) && not (any_use i occurrences at)) (broken_at i.file i.at unused_import) ++ all_unused file occurrences imports at)

  pairs_are : (o : Occurrence) → pairs_by known (resolved_of regions o) ≡ uses_at known regions o
  pairs_are o = (λ at. pair_is o.id (resolution regions o) at ++ map member_pair (member_of known (package_is (resolution regions o) at) o.selected))

  pub all_pairs : (occurrences : List Occurrence) → flat_map (pairs_by known) (map (resolved_of regions) occurrences) ≡ flat_map (uses_at known regions) occurrences
  all_pairs [] = refl
  all_pairs (o ∷ occurrences) = (λ at. pairs_are o at ++ all_pairs occurrences at)

  members_are : (o : Occurrence) → members_by known (resolved_of regions o) ≡ members_at known regions o
  members_are o = ap (λ place. member_of known place o.selected) (package_is (resolution regions o))

  pub all_members : (occurrences : List Occurrence) → flat_map (members_by known) (map (resolved_of regions) occurrences) ≡ flat_map (members_at known regions) occurrences
  all_members [] = refl
  all_members (o ∷ occurrences) = (λ at. members_are o at ++ all_members occurrences at)

-- the occurrences of a file stand in that file
abbrev AllAt : ℕ → List Occurrence → Type 0
AllAt file [] = Unit {0}
AllAt file (o ∷ occurrences) = (o.file ≡ file) × AllAt file occurrences

at_append : (file : ℕ) (xs ys : List Occurrence) → AllAt file xs → AllAt file ys → AllAt file (xs ++ ys)
at_append file [] ys xs_are ys_are = ys_are
at_append file (x ∷ xs) ys xs_are ys_are = (xs_are.0, at_append file xs ys xs_are.1 ys_are)

at_selected : (file : ℕ) (told_at : Option ℕ) (name : Tree) (xs : List Occurrence) → AllAt file xs → AllAt file (map (selecting file told_at name) xs)
at_selected file told_at name [] all = tt
at_selected file told_at name (x ∷ xs) all = (all.0, at_selected file told_at name xs all.1)

at_with : (file : ℕ) (told_at : Option ℕ) (name : Tree) (b : Bool) (xs : List Occurrence) → AllAt file xs → AllAt file (if b then map (selecting file told_at name) xs else xs)
at_with file told_at name true xs all = at_selected file told_at name xs all
at_with file told_at name false xs all = all

-- of parts, each beside what occurs in it
abbrev PartsAt : ℕ → List (Tree × List Occurrence) → Type 0
PartsAt file [] = Unit {0}
PartsAt file (part ∷ parts) = AllAt file part.1 × PartsAt file parts

at_parts : (file : ℕ) (parts : List (Tree × List Occurrence)) → PartsAt file parts → AllAt file (flat_map (λ part. part.1) parts)
at_parts file [] all = tt
at_parts file (part ∷ parts) all = at_append file part.1 (flat_map (λ part. part.1) parts) all.0 (at_parts file parts all.1)

at_found : (file : ℕ) (kind : NodeKind) (parts : List (Tree × List Occurrence)) → PartsAt file parts → AllAt file (found_in kind parts)
at_found file kind parts all =
    let inner = holds_inner (λ (part : Tree × List Occurrence). part.0) (λ low. PartsAt file) (λ low xs has. tt) (λ low x xs has. has.1) (λ low x xs ys go_on has. (has.0, go_on low has.1)) in
    at_parts file (inner_by (λ part. part.0) (inner_of kind) parts) (inner (inner_of kind) 0 parts all)

mutual
  at_tree : (file : ℕ) (told_at : Option ℕ) (t : Tree) → AllAt file (names_in file told_at t)
  at_tree file told_at (branch id from to Name text parts) = (refl, tt)
  at_tree file told_at (branch id from to SelectorExpr text (more_trees operand (more_trees name no_trees))) = at_with file told_at name (is_name operand) (names_in file told_at operand) (at_tree file told_at operand)
  at_tree file told_at (branch id from to kind text parts) = at_found file kind (names_of_each file told_at parts) (at_trees file told_at parts)

  at_trees : (file : ℕ) (told_at : Option ℕ) (ts : Trees) → PartsAt file (names_of_each file told_at ts)
  at_trees file told_at no_trees = tt
  at_trees file told_at (more_trees t ts) = (at_tree file told_at t, at_trees file told_at ts)

at_list : (file : ℕ) (told_at : Option ℕ) (ts : List Tree) → AllAt file (flat_map (names_in file told_at) ts)
at_list file told_at [] = tt
at_list file told_at (t ∷ ts) = at_append file (names_in file told_at t) (flat_map (names_in file told_at) ts) (at_tree file told_at t) (at_list file told_at ts)

-- the specs of a file
abbrev AreOf : ℕ → List Spec → Type 0
AreOf file [] = Unit {0}
AreOf file (spec ∷ specs) = (spec.file ≡ file) × AreOf file specs

of_both : (file : ℕ) (xs ys : List Spec) → AreOf file xs → AreOf file ys → AreOf file (xs ++ ys)
of_both file [] ys xs_are ys_are = ys_are
of_both file (x ∷ xs) ys xs_are ys_are = (xs_are.0, of_both file xs ys xs_are.1 ys_are)

of_map : (file : ℕ) (make : Tree → Spec) → ((t : Tree) → (make t).file ≡ file) → (ts : List Tree) → AreOf file (map make ts)
of_map file make one [] = tt
of_map file make one (t ∷ ts) = (one t, of_map file make one ts)

of_each : (file : ℕ) (make : Tree → List Spec) → ((t : Tree) → AreOf file (make t)) → (ts : List Tree) → AreOf file (flat_map make ts)
of_each file make one [] = tt
of_each file make one (t ∷ ts) = of_both file (make t) (flat_map make ts) (one t) (of_each file make one ts)

of_type : (file : ℕ) (t : Tree) → AreOf file (type_spec file t)
of_type file (branch id from to TypeSpec text parts) = (refl, tt)
of_type file (branch id from to AliasSpec text parts) = (refl, tt)
of_type file (branch id from to kind text parts) = tt

of_declaration : (file : ℕ) (declaration : Tree) → AreOf file (specs_in file declaration)
of_declaration file (branch id from to ConstDecl text parts) = of_map file (const_spec file) (λ t. refl) (list_of parts)
of_declaration file (branch id from to ConstGroup text parts) = of_map file (const_spec file) (λ t. refl) (list_of parts)
of_declaration file (branch id from to VarDecl text parts) = of_map file (var_spec file) (λ t. refl) (list_of parts)
of_declaration file (branch id from to VarGroup text parts) = of_map file (var_spec file) (λ t. refl) (list_of parts)
of_declaration file (branch id from to TypeDecl text parts) = of_each file (type_spec file) (of_type file) (list_of parts)
of_declaration file (branch id from to TypeGroup text parts) = of_each file (type_spec file) (of_type file) (list_of parts)
of_declaration file (branch id from to kind text parts) = tt

of_declarations : (file : ℕ) (declarations : List Tree) → AreOf file (flat_map (specs_in file) declarations)
of_declarations file declarations = of_each file (specs_in file) (of_declaration file) declarations

at_specs : (file : ℕ) (specs : List Spec) → AreOf file specs → AllAt file (flat_map names_in_parts specs)
at_specs file [] are = tt
at_specs file (spec ∷ specs) are =
    let own : AllAt file (names_in_parts spec) = subst (λ (n : ℕ). AllAt n (names_in_parts spec)) are.0 (at_list spec.file spec.told_at (spec.types ++ spec.values)) in
    at_append file (names_in_parts spec) (flat_map names_in_parts specs) own (at_specs file specs are.1)

-- the file at a place among those of the package, with its imports
module _ (known : ℕ → PackageNames) (k : ℕ) (p : PackageData) where
  one_resolved : (o : Occurrence) (i : ℕ) (imports : List Importing) → o.file ≡ i → slice_get (imports_of k p) i ≡ Some imports → resolved_in universe (package_block k p) (file_block known imports) o ≡ resolved_of (regions_of known k p) o
  one_resolved o i imports at found =
      let here : slice_get (imports_of k p) o.file ≡ Some imports = ap (slice_get (imports_of k p)) at ∙ found in
      let innermost_at = innermost_is known k p o imports here in
      let declared_at = declared_is known k p o imports here in
      (λ j. record { occurrence = o; held = declared_at j; denoted = option_map denoted_of (innermost_at j) })

  all_resolved : (i : ℕ) (imports : List Importing) (occurrences : List Occurrence) → AllAt i occurrences → slice_get (imports_of k p) i ≡ Some imports → map (resolved_in universe (package_block k p) (file_block known imports)) occurrences ≡ map (resolved_of (regions_of known k p)) occurrences
  all_resolved i imports [] all found = refl
  all_resolved i imports (o ∷ occurrences) all found = (λ j. one_resolved o i imports all.0 found j ∷ all_resolved i imports occurrences all.1 found j)

  file_resolved : (i : ℕ) (imports : List Importing) (f : FileData) → slice_get (imports_of k p) i ≡ Some imports → resolved_parts universe (package_block k p) (block_data known imports) (specs_in_file i f.tree) ≡ map (resolved_of (regions_of known k p)) (occurrences_in_file i f.tree)
  file_resolved i imports f found = all_resolved i imports (occurrences_in_file i f.tree) (at_specs i (specs_in_file i f.tree) (of_declarations i (list_of (parts_of f.tree)))) found

  file_is : (is_main : Bool) (i : ℕ) (imports : List Importing) (f : FileData) → slice_get (imports_of k p) i ≡ Some imports → broken_file_by known is_main (package_block k p) (block_data known imports) i f (resolved_parts universe (package_block k p) (block_data known imports) (specs_in_file i f.tree)) (specs_in_file i f.tree) ≡ broken_file known is_main (regions_of known k p) (package_block k p) i f imports
  file_is is_main i imports f found =
      let block = package_block k p in
      let own = file_block known imports in
      let regions = regions_of known k p in
      let occurrences = occurrences_in_file i f.tree in
      let specs = specs_in_file i f.tree in
      ap (λ resolved. broken_file_by known is_main block (block_data known imports) i f resolved specs) (file_resolved i imports f found)
      ∙ (λ j. missing_main_at is_main i f ++ (reserved is_main own ++ ((repeated own ++ (conflicting block own (flat_map import_of imports) ++ all_unused known regions own occurrences (flat_map import_of imports) j)) ++ (all_broken known regions occurrences j ++ flat_map broken_in_spec specs))))

  -- the imports of the files that are left are those of the package behind a place
  abbrev StandsAt : ℕ → List (List Importing) → Type 0
  StandsAt i lists = (j : ℕ) (imports : List Importing) → slice_get lists j ≡ Some imports → slice_get (imports_of k p) (i + j) ≡ Some imports

  first_stands : (i : ℕ) (imports : List Importing) (lists : List (List Importing)) → StandsAt i (imports ∷ lists) → slice_get (imports_of k p) i ≡ Some imports
  first_stands i imports lists stands =
      let same : i + 0 ≡ i = omega arith in
      subst (λ (n : ℕ). slice_get (imports_of k p) n ≡ Some imports) same (stands 0 imports refl)

  rest_stands : (i : ℕ) (imports : List Importing) (lists : List (List Importing)) → StandsAt i (imports ∷ lists) → StandsAt (i + 1) lists
  rest_stands i imports lists stands j others found =
      let same : i + suc j ≡ (i + 1) + j = omega arith in
      subst (λ (n : ℕ). slice_get (imports_of k p) n ≡ Some others) same (stands (suc j) others found)

  files_are : (is_main : Bool) (i : ℕ) (lists : List (List Importing)) (files : List FileData) → StandsAt i lists → broken_from known is_main universe (package_block k p) i (map (block_data known) lists) files (specs_by_file i files) ≡ broken_files known is_main (regions_of known k p) (package_block k p) i files lists
  files_are is_main i [] [] stands = refl
  files_are is_main i [] (f ∷ files) stands = refl
  files_are is_main i (imports ∷ lists) [] stands = refl
  files_are is_main i (imports ∷ lists) (f ∷ files) stands = (λ j. file_is is_main i imports f (first_stands i imports lists stands) j ++ files_are is_main (i + 1) lists files (rest_stands i imports lists stands) j)

  all_are : (i : ℕ) (lists : List (List Importing)) (files : List FileData) → length lists ≡ length files → StandsAt i lists → all_of (resolved_from universe (package_block k p) (map (block_data known) lists) (specs_by_file i files)) ≡ map (resolved_of (regions_of known k p)) (occurrences_from i files)
  all_are i [] [] long stands = refl
  all_are i [] (f ∷ files) long stands = cc
  all_are i (imports ∷ lists) [] long stands = cc
  all_are i (imports ∷ lists) (f ∷ files) long stands =
      (λ j. file_resolved i imports f (first_stands i imports lists stands) j ++ all_are (i + 1) lists files (omega arith) (rest_stands i imports lists stands) j)
      ∙ sym (map-append (resolved_of (regions_of known k p)) (occurrences_in_file i f.tree) (occurrences_from (i + 1) files))

  whole_stands : StandsAt 0 (imports_of k p)
  whole_stands j imports found =
      let same : j ≡ 0 + j = omega arith in
      subst (λ (n : ℕ). slice_get (imports_of k p) n ≡ Some imports) same found

pub imports_long : (k i : ℕ) (files : List FileData) (packages : List ℕ) → length (imports_from k i files packages) ≡ length files
imports_long k i [] packages = refl
imports_long k i (f ∷ files) packages = ap suc (imports_long k (i + 1) files (drop (length (import_specs f.tree)) packages))

-- the whole package
pub package_breaks : (known : ℕ → PackageNames) (k : ℕ) (p : PackageData) (is_main : Bool) → broken_from known is_main universe (package_block k p) 0 (map (block_data known) (imports_of k p)) p.files (specs_by_file 0 p.files) ≡ broken_files known is_main (regions_of known k p) (package_block k p) 0 p.files (imports_of k p)
package_breaks known k p is_main = files_are known k p is_main 0 (imports_of k p) p.files (whole_stands known k p)

pub package_resolves : (known : ℕ → PackageNames) (k : ℕ) (p : PackageData) → all_of (resolved_from universe (package_block k p) (map (block_data known) (imports_of k p)) (specs_by_file 0 p.files)) ≡ map (resolved_of (regions_of known k p)) (occurrences_from 0 p.files)
package_resolves known k p = all_are known k p 0 (imports_of k p) p.files (imports_long k 0 p.files p.imports) (whole_stands known k p)
