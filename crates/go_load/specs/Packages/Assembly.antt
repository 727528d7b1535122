-- Modules put together.
-- Says which files are left while packages are made one after another, where packages stand in an order,
-- and what packages are so made.
use Rattle.std.specs.Prelude.{◌≡◌, ℕ, List, [], ◌∷◌, Option, None, Some, map, slice_get, slice_set, unwrap_or}
use Rattle.std.specs.List.{cons_option, filter_map}
use Rattle.std.specs.Option.{option_map, option_or}
use Rattle.go_module.specs.declared.module.SourceFile.{SourceFile}
use Rattle.go_module.specs.Modules.Texts.{as_text}
use Rattle.go_module.specs.Modules.Heads.{FileHead}
use Rattle.go_graph.specs.Order.{IsOrder}
use Rattle.go_module.specs.Modules.Module.{FileData, PackageData, file_view, first_name, in_order}
use Rattle.go_graph.specs.Graph.{row_at, is_marked}
use Rattle.go_module.specs.Modules.Packages.{PackageTable}

-- what stands at a place, if there is such a place and something stands there
abbrev pub slot_at : {X : Type 0} → List (Option X) → ℕ → Option X
slot_at slots k = unwrap_or (slice_get slots k) None

-- what is taken at these places, one after another
abbrev pub taken : {X : Type 0} → List (Option X) → List ℕ → List X
taken slots [] = []
taken slots (k ∷ ks) = cons_option (slot_at slots k) (taken (slice_set slots k None) ks)

-- what is left behind that
abbrev pub cleared : {X : Type 0} → List (Option X) → List ℕ → List (Option X)
cleared slots [] = slots
cleared slots (k ∷ ks) = cleared (slice_set slots k None) ks

-- a place for a package that has none
abbrev pub put_first : List (Option ℕ) → ℕ → ℕ → List (Option ℕ)
put_first places k place = slice_set places k (option_or (slot_at places k) (Some place))

-- the files that are left in slots
abbrev pub files_left : List (Option SourceFile) → List (Option FileData)
files_left slots = map (option_map file_view) slots

-- a package of the table, by the files that are left and the places of packages
abbrev pub package_with : List (Option FileData) → List FileHead → PackageTable → List (Option ℕ) → ℕ → PackageData
package_with slots heads t places k = record {
  path = as_text (row_at t.paths k);
  name = first_name heads (row_at t.files k);
  stub = is_marked t.stubs k;
  files = taken slots (row_at t.files k);
  imports = filter_map (slot_at places) (row_at t.imports k);
}

-- packages of the table, one after another
abbrev pub packages_with : List (Option FileData) → List FileHead → PackageTable → List (Option ℕ) → List ℕ → List PackageData
packages_with slots heads t places [] = []
packages_with slots heads t places (k ∷ ks) = package_with slots heads t places k ∷ packages_with (cleared slots (row_at t.files k)) heads t places ks

-- the packages of a module in import order
pub record IsModuleOrder (t : PackageTable) (list : List ℕ) : Type 0 where
  pub order : List ℕ
  pub is_order : IsOrder t.imports order
  pub list_is : list ≡ in_order t order
