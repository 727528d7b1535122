-- The whole call: what is found is what the names of the package break, and the tables are those of its
-- names.
use Rattle.std.proofs.Common.{◌≡◌, ℕ, suc, ◌+◌, ◌==◌, true, false, List, [], ◌∷◌, ◌++◌, length, map, refl, sym, ap, ◌∙◌, subst, arith}
use Rattle.std.specs.List.{Contains, flat_map}
use Rattle.std.proofs.lemmas.Bool.Decides.{nat_tests}
use Rattle.std.proofs.lemmas.List.{length-map}
use Rattle.go_base.specs.declared.rule.Broken.{Broken}
use Rattle.go_module.specs.declared.block.Region.{Region}
use Rattle.go_module.specs.declared.module.Package.{Package}
use Rattle.go_module.specs.declared.module.SourceFile.{SourceFile}
use Rattle.go_module.specs.Order.{IsListOf}
use Rattle.go_module.specs.Modules.Module.{FileData, PackageData, ModuleData, file_view, package_view}
use Rattle.go_module.specs.Names.Rules.BlockRules.{is_main_name}
use Rattle.go_module.specs.Names.Rules.BrokenNames.{broken_block, broken_in_files}
use Rattle.go_module.specs.Names.Declarations.{Spec, declarations_in, specs_from, specs_in_file}
use Rattle.go_module.specs.Names.PackageBlock.{block_of as region_block, package_block, region_entries}
use Rattle.go_module.specs.Names.Imports.{PackageNames, Importing, known_in, file_block, imports_from, imports_of}
use Rattle.go_module.specs.Names.Regions.{regions_of}
use Rattle.go_names.specs.Views.{all_specs, specs_by_file}
use Rattle.go_module.specs.Names.Tables.{objects_in, uses_of, occurrences_from, outer_regions}
use Rattle.go_module.specs.Names.Universe.{universe}
use Rattle.go_module.proofs.MemberLemmas.{contains_head, contains_none}
use Rattle.go_scope.specs.declared.file_block.FileBlock.{FileBlock}
use Rattle.go_scope.specs.declared.known.Before.{Before}
use Rattle.go_scope.specs.declared.resolved.Resolved.{Resolved}
use Rattle.go_scope.specs.Blocks.{BlockData, block_of, block_data}
use Rattle.go_scope.specs.Checked.{all_of, broken_from, resolved_from}
use Rattle.go_scope.specs.Known.{known_by}
use Rattle.go_scope.specs.Resolved.{member_entry, members_by, pairs_by}
use Rattle.go_scope.specs.Stands.{StandsIn}
use Rattle.go_scope.proofs.CheckedLemmas.{imports_long, package_breaks, package_resolves, resolved_of, all_pairs, all_members}
use Rattle.go_scope.proofs.KnownLemmas.{names_alike, uses_alike, objects_alike}

-- each file has a block
pub blocks_long : (blocks : List FileBlock) (known : ℕ → PackageNames) (k : ℕ) (files : List FileData) (packages : List ℕ) → map block_of blocks ≡ map (block_data known) (imports_from k 0 files packages) → length blocks ≡ length files
blocks_long blocks known k files packages are =
    sym (length-map blocks block_of)
    ∙ ap length are
    ∙ length-map (imports_from k 0 files packages) (block_data known)
    ∙ imports_long k 0 files packages

-- the regions of blocks
regions_in : (blocks : List FileBlock) → flat_map (λ b. b.regions.items) blocks ≡ flat_map (λ (d : BlockData). d.regions) (map block_of blocks)
regions_in [] = refl
regions_in (b ∷ blocks) = ap (λ rest. b.regions.items ++ rest) (regions_in blocks)

regions_made : (known : ℕ → PackageNames) (lists : List (List Importing)) → flat_map (λ (d : BlockData). d.regions) (map (block_data known) lists) ≡ flat_map (file_block known) lists
regions_made known [] = refl
regions_made known (imports ∷ lists) = ap (λ rest. file_block known imports ++ rest) (regions_made known lists)

-- the specs of all files, and how many lists there are
all_from : (file : ℕ) (files : List FileData) → all_specs (specs_by_file file files) ≡ specs_from file files
all_from file [] = refl
all_from file (f ∷ files) = ap (λ rest. specs_in_file file f.tree ++ rest) (all_from (file + 1) files)

pub specs_long : (file : ℕ) (files : List FileData) → length (specs_by_file file files) ≡ length files
specs_long file [] = refl
specs_long file (f ∷ files) = ap suc (specs_long (file + 1) files)

-- the blocks and the specs that the code has are those of the package
pub record AreBlocks (known : ℕ → PackageNames) (k : ℕ) (p : PackageData) (outer block : List Region) (blocks : List FileBlock) (specs : List (List Spec)) : Type 0 where
  pub outer_is : outer ≡ universe
  pub block_is : block ≡ package_block k p
  pub blocks_are : map block_of blocks ≡ map (block_data known) (imports_of k p)
  pub specs_are : specs ≡ specs_by_file 0 p.files

-- so it is where they are made of its files and imports
pub are_blocks : (known : ℕ → PackageNames) (k : ℕ) (own : Package) {outer all block declared : List Region} {blocks imported : List FileBlock} {specs : List (List Spec)} {files others : List SourceFile} {imports : List ℕ} → outer ≡ all → all ≡ universe → specs ≡ specs_by_file 0 (map file_view files) → files ≡ own.files.items → block ≡ declared → declared ≡ region_block k (declarations_in (all_specs specs)) → blocks ≡ imported → map block_of imported ≡ map (block_data known) (imports_from k 0 (map file_view others) imports) → others ≡ own.files.items → imports ≡ own.imports.items → AreBlocks known k (package_view own) outer block blocks specs
are_blocks known k own outer_at all_is listed files_at block_at declared_is blocks_at imported_is others_at imports_at =
    let specs_are = listed ∙ ap (λ files. specs_by_file 0 (map file_view files)) files_at in
    record {
      outer_is = outer_at ∙ all_is;
      block_is = block_at ∙ declared_is ∙ ap (λ specs. region_block k (declarations_in (all_specs specs))) specs_are ∙ ap (λ specs. region_block k (declarations_in specs)) (all_from 0 (package_view own).files);
      blocks_are = ap (map block_of) blocks_at ∙ imported_is ∙ (λ j. map (block_data known) (imports_from k 0 (map file_view (others_at j)) (imports_at j)));
      specs_are = specs_are;
    }

module _ (m : ModuleData) (K : Before) (k : ℕ) (own : Package) (stands : StandsIn m k own K) where
  module _ (outer block : List Region) (blocks : List FileBlock) (specs : List (List Spec)) (are : AreBlocks (known_by K) k (package_view own) outer block blocks specs) where
    -- what is found is what the names break
    pub found_from : (start found : List Broken) → start ≡ [] → found ≡ start ++ (broken_block (is_main_name own.name) block ++ broken_from (known_by K) (is_main_name own.name) outer block 0 (map block_of blocks) (package_view own).files specs) → found ≡ broken_in_files (known_in m) k (package_view own)
    found_from start found none is =
        is
        ∙ (λ j. none j ++ (broken_block (is_main_name own.name) (are.block_is j) ++ broken_from (known_by K) (is_main_name own.name) (are.outer_is j) (are.block_is j) 0 (are.blocks_are j) (package_view own).files (are.specs_are j)))
        ∙ ap (λ rest. broken_block (is_main_name own.name) (package_block k (package_view own)) ++ rest) (package_breaks (known_by K) k (package_view own) (is_main_name own.name))
        ∙ names_alike (known_by K) (known_in m) k (package_view own) stands.imported

    module _ (lists : List (List Resolved)) (lists_are : lists ≡ resolved_from outer block (map block_of blocks) specs) where
      all_resolved : all_of lists ≡ map (resolved_of (regions_of (known_by K) k (package_view own))) (occurrences_from 0 (package_view own).files)
      all_resolved =
          ap all_of lists_are
          ∙ (λ j. all_of (resolved_from (are.outer_is j) (are.block_is j) (are.blocks_are j) (are.specs_are j)))
          ∙ package_resolves (known_by K) k (package_view own)

      file_regions : flat_map (λ b. b.regions.items) blocks ≡ flat_map (file_block (known_by K)) (imports_of k (package_view own))
      file_regions = regions_in blocks ∙ ap (flat_map (λ (d : BlockData). d.regions)) are.blocks_are ∙ regions_made (known_by K) (imports_of k (package_view own))

      pub uses_are : flat_map (pairs_by (known_by K)) (all_of lists) ≡ uses_of (known_in m) k (package_view own)
      uses_are =
          ap (flat_map (pairs_by (known_by K))) all_resolved
          ∙ all_pairs (known_by K) (regions_of (known_by K) k (package_view own)) (occurrences_from 0 (package_view own).files)
          ∙ uses_alike (known_by K) (known_in m) k (package_view own) stands.imported

      pub objects_are : region_entries (outer ++ flat_map (λ b. b.regions.items) blocks) ++ (map member_entry (flat_map (members_by (known_by K)) (all_of lists)) ++ region_entries block) ≡ objects_in (known_in m) k (package_view own)
      objects_are =
          (λ j. region_entries (are.outer_is j ++ file_regions j) ++ (map member_entry (flat_map (members_by (known_by K)) (all_resolved j)) ++ region_entries (are.block_is j)))
          ∙ ap (λ members. region_entries (outer_regions (known_by K) k (package_view own)) ++ (map member_entry members ++ region_entries (package_block k (package_view own)))) (all_members (known_by K) (regions_of (known_by K) k (package_view own)) (occurrences_from 0 (package_view own).files))
          ∙ objects_alike (known_by K) (known_in m) k (package_view own) stands.imported

-- what is told by the numbers of files is empty where what was found is
pub some_numbered : (f : Broken → Broken) (found told : List Broken) → told ≡ map f found → (found ≡ [] → ⊥) → told ≡ [] → ⊥
some_numbered f [] told is some none = some refl
some_numbered f (b ∷ found) told is some none = cc

-- a list of something is not empty
pub some_told : (found list : List Broken) → IsListOf found list → (found ≡ [] → ⊥) → list ≡ [] → ⊥
some_told [] list is some none = some refl
some_told (b ∷ found) list is some none =
    let here : Contains list b = (is.same b).1 (contains_head b found b refl) in
    contains_none b (subst (λ (l : List Broken). Contains l b) none here)

-- whether a list is empty, by its length
pub not_none : (xs : List Broken) (n : ℕ) → length xs ≡ n → false ≡ (n == 0) → xs ≡ [] → ⊥
not_none xs n long some none =
    let wrong : false ≡ true = some ∙ ap (λ m. m == 0) (sym long) ∙ ap (λ (l : List Broken). length l == 0) none in
    cc

pub is_none : (xs : List Broken) (n : ℕ) → length xs ≡ n → true ≡ (n == 0) → xs ≡ []
is_none [] n long none = refl
is_none (x ∷ xs) n long none =
    let zero_long : n ≡ 0 = grind (arith, nat_tests) in
    absurd (omega arith)
