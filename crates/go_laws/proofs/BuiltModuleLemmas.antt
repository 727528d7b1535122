-- In a module that is loaded the specs of each package are built, and so is what stands behind their names.
use Rattle.std.proofs.Common.{◌≡◌, ℕ, zero, suc, ◌+◌, List, [], ◌∷◌, ◌++◌, Some, Contains, map, refl, sym, ap, subst}
use Rattle.std.specs.Prelude.{slice_get}
use Rattle.std.specs.List.{filter_map}
use Rattle.std.proofs.lemmas.Option.{none-some, same_Some}
use Rattle.go_base.specs.declared.rule.Broken.{Broken}
use Rattle.go_graph.specs.Graph.{row_at}
use Rattle.go_tree.specs.Tree.{Tree, id_of}
use Rattle.go_text.specs.Files.{IsFileOf}
use Rattle.go_parse_s.proofs.LawLemmas.{one_file_lem}
use Rattle.go_module.specs.declared.object.ObjKind.{ObjKind}
use Rattle.go_module.specs.declared.object.ObjKind.TheVariants.{Alias, Const, Defined, Var}
use Rattle.go_module.specs.Modules.Module.{AreTrees, FileData, ModuleData, PackageData, files_from, first_number, in_order, package_at}
use Rattle.go_module.specs.Modules.Texts.{SourceText}
use Rattle.go_module.specs.Names.Declarations.{Spec, specs_from, specs_in_file, specs_of}
use Rattle.go_module.specs.Order.{IsListOf}
use Rattle.go_module.specs.Places.{placed_in}
use Rattle.go_module.proofs.BrokenListLemmas.{none_found}
use Rattle.go_form.specs.Whole.{broken_forms}
use Rattle.go_mod.specs.Folders.{Folder}
use Rattle.go_load.specs.Loading.{IsModule, TextsBreakFrom}
use Rattle.go_load.specs.Sources.{AreBrokenWith, NumbersOn, SourceBreaks, broken_path, by_form, no_tree, too_long, whole, broken}
use Rattle.go_load.proofs.FrontLemmas.{result_at}
use Rattle.go_laws.specs.BuiltTrees.{IsBuiltSpec, PartsAreBuilt, SpecsAreBuilt}
use Rattle.go_laws.proofs.BuiltRoles.{HasBuiltParts}
use Rattle.go_laws.proofs.BuiltTreeLemmas.{form_built}
use Rattle.go_laws.proofs.Declaring.{DeclareHeaders, GivesHeaders}
use Rattle.go_laws.proofs.FileLemmas.{file_of_spec}
use Rattle.go_model.proofs.FlatLemmas.{flat_cases}
use Rattle.go_laws.proofs.ListLemmas.{found_from, left_is_empty, map_is_empty, right_is_empty}

-- A TEXT THAT BREAKS NO RULE

-- the specs of a file are built
abbrev IsBuiltFile : Tree → Type 0
IsBuiltFile tree = (file : ℕ) (d : Spec) → Contains (specs_in_file file tree) d → HasBuiltParts d

module _ (file first : ℕ) (path bytes : List ℕ) where
  tree_built : (tree : Tree) (list : List Broken) → list ≡ [] → IsFileOf bytes first tree → AreBrokenWith file path bytes tree list → IsBuiltFile tree
  tree_built tree list e is with =
      let none = none_found (broken_path file path ++ broken_forms file with.constraints tree) (subst (λ (bs : List Broken). IsListOf (broken_path file path ++ broken_forms file with.constraints tree) bs) e with.is_list) in
      form_built bytes first file with.constraints tree is (right_is_empty (broken_path file path) (broken_forms file with.constraints tree) none)

  source_built : (list : List Broken) → list ≡ [] → SourceBreaks file first path bytes list → (tree : Tree) → IsFileOf bytes first tree → IsBuiltFile tree
  source_built list e (too_long lt) tree is = absurd (cc e)
  source_built list e (no_tree fault b le at told) tree is = absurd (cc e)
  source_built list e (by_form other found le it with) tree is = subst IsBuiltFile (one_file_lem bytes first other tree it is) (tree_built other list e it with)

-- the numbers of the next text go on behind the last node
numbers_on : (first : ℕ) (bytes : List ℕ) (list : List Broken) (mid : ℕ) (tree : Tree) → list ≡ [] → NumbersOn first bytes list mid → IsFileOf bytes first tree → mid ≡ id_of tree + 1
numbers_on first bytes list mid tree e (whole other it) is = ap (λ (t : Tree). id_of t + 1) (one_file_lem bytes first other tree it is)
numbers_on first bytes list mid tree e (broken b bs) is = absurd (cc e)

-- the files of texts that break no rule
files_built : (number first : ℕ) (texts : List SourceText) (trees : List Tree) (next : ℕ) → TextsBreakFrom number first texts next [] → AreTrees first texts trees
    → (i : ℕ) (f : FileData) → slice_get (files_from number texts trees) i ≡ Some f → IsBuiltFile f.tree
files_built number first [] trees next breaks are i f at = absurd (none-some f at)
files_built number first (text ∷ texts) [] next breaks are i f at = absurd are
files_built number first (text ∷ texts) (tree ∷ trees) next breaks are zero f at =
    let none = map_is_empty (placed_in text) breaks.0 (left_is_empty (map (placed_in text) breaks.0) breaks.1 (sym breaks.6)) in
    let built = source_built number first text.path text.bytes breaks.0 none breaks.3 tree are.0 in
    subst (λ (g : FileData). IsBuiltFile g.tree) (same_Some (record { path = text.path; bytes = text.bytes; number = number; tree = tree }) f at) built
files_built number first (text ∷ texts) (tree ∷ trees) next breaks are (suc i) f at =
    let none = map_is_empty (placed_in text) breaks.0 (left_is_empty (map (placed_in text) breaks.0) breaks.1 (sym breaks.6)) in
    let others = right_is_empty (map (placed_in text) breaks.0) breaks.1 (sym breaks.6) in
    let mid : breaks.2 ≡ id_of tree + 1 = numbers_on first text.bytes breaks.0 breaks.2 tree none breaks.4 are.0 in
    let rest : TextsBreakFrom (number + 1) (id_of tree + 1) texts next [] = subst (λ x. TextsBreakFrom (number + 1) x texts next []) mid (subst (λ x. TextsBreakFrom (number + 1) breaks.2 texts next x) others breaks.5) in
    files_built (number + 1) (id_of tree + 1) texts trees next rest are.1 i f at

-- PACKAGES

-- a spec of a package stands in one of its files, which are among those of the module
package_built : (files : List FileData) → ((i : ℕ) (f : FileData) → slice_get files i ≡ Some f → IsBuiltFile f.tree) → (row : List ℕ) (d : Spec)
    → Contains (specs_from 0 (filter_map (slice_get files) row)) d → HasBuiltParts d
package_built files built row d h =
    let from = file_of_spec 0 (filter_map (slice_get files) row) d h in
    let place = found_from (slice_get files) row from.1 from.2 in
    built place.0 from.1 place.2 from.0 d from.3

-- each spec of each package is built
abbrev HaveBuiltParts : ModuleData → Type 0
HaveBuiltParts m = (k : ℕ) (p : PackageData) → slice_get m.packages k ≡ Some p → (d : Spec) → Contains (specs_of p) d → HasBuiltParts d

module_built : (own stubs : Folder) (m : ModuleData) → IsModule own stubs m → HaveBuiltParts m
module_built own stubs m is =
    let loaded = is.loaded in
    let made = loaded.is_module in
    let files = files_from 0 loaded.texts loaded.trees in
    let list = in_order loaded.table made.order in
    let built : (i : ℕ) (f : FileData) → slice_get files i ≡ Some f → IsBuiltFile f.tree =
    files_built 0 first_number loaded.texts loaded.trees is.sound.0 is.sound.1 loaded.parts.are_trees in
    subst HaveBuiltParts (sym made.module_is) (λ n p at d h.
    (let z = result_at (package_at files loaded.heads loaded.table list) list n p at in
    package_built files built (row_at loaded.table.files z.0) d (subst (λ (q : PackageData). Contains (specs_of q) d) (sym z.2) h)))

pub parts_are_built : (own stubs : Folder) (m : ModuleData) → IsModule own stubs m → PartsAreBuilt m
parts_are_built own stubs m is k p at t h =
    let spec = flat_cases (λ (d : Spec). d.types ++ d.values) (specs_of p) t h in
    (module_built own stubs m is k p at spec.0 spec.1).built t spec.2

pub specs_are_built : (own stubs : Folder) (m : ModuleData) → IsModule own stubs m → SpecsAreBuilt m
specs_are_built own stubs m is k p at d h = (module_built own stubs m is k p at d h).is

-- such specs give their declarations headers
gives_headers : (kind : ObjKind) (types values : List Tree) → IsBuiltSpec kind types values → GivesHeaders kind types
gives_headers Const [] (value ∷ values) is = tt
gives_headers Var (type ∷ []) [] is = refl
gives_headers Defined (type ∷ []) [] is = refl
gives_headers Alias (type ∷ []) [] is = refl
gives_headers kind types values is = absurd is

pub specs_give_headers : (own stubs : Folder) (m : ModuleData) → IsModule own stubs m → DeclareHeaders m
specs_give_headers own stubs m is k p at d h = gives_headers d.kind d.types d.values (specs_are_built own stubs m is k p at d h)
