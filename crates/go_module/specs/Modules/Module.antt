-- Packages; Import declarations; Source file organization (Go specification).
-- Decides which module files make whose phases before its packages are checked break no rule: its packages
-- in import order, each with its files and their trees. What is loaded from two folders is in `Loading` of go_load.
use Rattle.std.specs.Prelude.{◌≡◌, ℕ, ◌+◌, ◌==◌, Bool, List, [], ◌∷◌, filter, map, position, slice_get}
use Rattle.std.specs.List.{filter_map}
use Rattle.go_tree.specs.Tree.{Tree, id_of, tree_of}
use Rattle.go_text.specs.Files.{IsFileOf}
use Rattle.go_module.specs.declared.module.Module.{Module}
use Rattle.go_module.specs.declared.module.Package.{Package}
use Rattle.go_module.specs.declared.module.SourceFile.{SourceFile}
use Rattle.go_module.specs.Modules.BrokenImports.{AreBrokenPackages, name_at}
use Rattle.go_module.specs.Modules.Texts.{SourceText, as_text}
use Rattle.go_module.specs.Modules.Heads.{FileHead, IsHeadOf}
use Rattle.go_graph.specs.Order.{IsOrder}
use Rattle.go_module.specs.Modules.Packages.{PackageTable, IsTableOf}
use Rattle.go_graph.specs.Graph.{is_marked, row_at}

-- what a file, a package and a module stand for
pub record FileData : Type 0 where
  pub path : List ℕ
  pub bytes : List ℕ
  pub number : ℕ
  pub tree : Tree

pub record PackageData : Type 0 where
  pub path : List ℕ
  pub name : List ℕ
  pub stub : Bool
  pub files : List FileData
  pub imports : List ℕ

pub record ModuleData : Type 0 where
  pub path : List ℕ
  pub version : ℕ
  pub packages : List PackageData

abbrev pub file_view : SourceFile → FileData
file_view file = record { path = file.name; bytes = file.bytes; number = file.tree.number; tree = tree_of file.tree.root }

abbrev pub package_view : Package → PackageData
package_view p = record { path = p.path; name = p.name; stub = p.stub; files = map file_view p.files.items; imports = p.imports.items }

abbrev pub module_view : Module → ModuleData
module_view m = record { path = m.path; version = m.version; packages = map package_view m.packages.items }

-- own: the number of the first node of a module; 0 to 43 are those of predeclared identifiers, and 44 is none's
abbrev pub first_number : ℕ
first_number = 45

-- the trees of the texts; the numbers of nodes run on from text to text
abbrev pub AreTrees : ℕ → List SourceText → List Tree → Type 0
AreTrees first [] [] = Unit {0}
AreTrees first [] (tree ∷ trees) = ⊥
AreTrees first (text ∷ texts) [] = ⊥
AreTrees first (text ∷ texts) (tree ∷ trees) = IsFileOf text.bytes first tree × AreTrees (id_of tree + 1) texts trees

-- the head of each text
abbrev pub AreHeads : List SourceText → List Tree → List FileHead → Type 0
AreHeads (text ∷ texts) (tree ∷ trees) (head ∷ heads) = IsHeadOf text.stub text.path tree head × AreHeads texts trees heads
AreHeads [] [] [] = Unit {0}
AreHeads _ _ _ = ⊥

-- the files that texts and trees make, numbered from the first on
abbrev pub files_from : ℕ → List SourceText → List Tree → List FileData
files_from number (text ∷ texts) (tree ∷ trees) = record { path = text.path; bytes = text.bytes; number = number; tree = tree } ∷ files_from (number + 1) texts trees
files_from number _ _ = []

-- the name in the package clause of the first of these files
abbrev pub first_name : List FileHead → List ℕ → List ℕ
first_name heads [] = []
first_name heads (file ∷ files) = as_text (name_at heads file)

-- the places of packages in an order
abbrev pub places_in : List ℕ → List ℕ → List ℕ
places_in order packages = filter_map (λ q. position (λ p. p == q) order) packages

-- a package of the table, where the module's packages stand in an order
abbrev pub package_at : List FileData → List FileHead → PackageTable → List ℕ → ℕ → PackageData
package_at files heads t order k = record {
  path = as_text (row_at t.paths k);
  name = first_name heads (row_at t.files k);
  stub = is_marked t.stubs k;
  files = filter_map (slice_get files) (row_at t.files k);
  imports = places_in order (row_at t.imports k);
}

-- the packages of the module: those that are reached, in import order
abbrev pub in_order : PackageTable → List ℕ → List ℕ
in_order t order = filter (is_marked t.reached) order

abbrev pub module_data : List ℕ → List FileData → List FileHead → PackageTable → List ℕ → ModuleData
module_data path files heads t order = record { path = as_text path; version = 21; packages = map (package_at files heads t order) order }

-- the trees, heads and packages of the texts of a module with that path
pub record AreParts (path : List ℕ) (texts : List SourceText) (trees : List Tree) (heads : List FileHead) (t : PackageTable) : Type 0 where
  pub are_trees : AreTrees first_number texts trees
  pub are_heads : AreHeads texts trees heads
  pub is_table : IsTableOf path heads t

-- the module that these files make
pub record IsModuleOf (path : List ℕ) (files : List FileData) (heads : List FileHead) (t : PackageTable) (m : ModuleData) : Type 0 where
  pub order : List ℕ
  pub is_order : IsOrder t.imports order
  pub module_is : m ≡ module_data path files heads t (in_order t order)

-- What a module that is loaded is, what each of its files breaks by itself aside: its texts have trees whose nodes
-- are numbered on, its imports and package clauses break nothing, and it is what these make. That its files break
-- nothing by themselves stands in `IsModule` of go_load.
pub record IsLoaded (m : ModuleData) : Type 0 where
  pub path : List ℕ
  pub texts : List SourceText
  pub trees : List Tree
  pub heads : List FileHead
  pub table : PackageTable
  pub parts : AreParts path texts trees heads table
  pub sound : AreBrokenPackages heads table []
  pub is_module : IsModuleOf path (files_from 0 texts trees) heads table m
