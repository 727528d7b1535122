-- What a rulebook over scopes that are collected says of identifiers and objects.
use Rattle.std.proofs.Common.{◌≡◌, ℕ, Option, None, Some, List, [], map, refl, sym, ap, ◌∙◌, subst}
use Rattle.std.specs.Prelude.{slice_get}
use Rattle.std.specs.Option.{option_map, option_map_or}
use Rattle.std.proofs.lemmas.Option.{slice_get-map}
use Rattle.go_module.specs.declared.module.Module.{Module}
use Rattle.go_module.specs.declared.module.Package.{Package}
use Rattle.go_module.specs.declared.scopes.Scopes.{Scopes}
use Rattle.go_module.specs.Modules.Module.{PackageData, module_view, package_view}
use Rattle.go_module.specs.Names.Imports.{known_in}
use Rattle.go_module.specs.Names.Rules.BrokenNames.{broken_names}
use Rattle.go_judge.specs.Naming.{AreThere, no_names}
use Rattle.go_model.specs.Naming.{names_in}
use Rattle.go_model.proofs.ThereLemmas.{collected_names, collected_there}
use Rattle.go_scope.specs.Collecting.{IsCollected}
use Rattle.go_check.specs.Packages.Book.{home_at, names_at, scope_names}

-- the path of a package that is there
path_there : (packages : List Package) (other : List ℕ) (k : ℕ) (p : PackageData) (o : Option Package) → slice_get packages k ≡ o → slice_get (map package_view packages) k ≡ Some p → option_map_or (λ (q : Package). q.path) o other ≡ p.path
path_there packages other k p None at is = absurd (let never : ◌≡◌ {A = Option PackageData} None (Some p) = sym (slice_get-map package_view packages k ∙ ap (option_map package_view) at) ∙ is in cc)
path_there packages other k p (Some q) at is =
    let same : Some (package_view q) ≡ Some p = sym (slice_get-map package_view packages k ∙ ap (option_map package_view) at) ∙ is in
    let here : package_view q ≡ p = cc in
    ap (λ (r : PackageData). r.path) here

module _ («module» : Module) (k : ℕ) (scopes : List Scopes) (is : IsCollected (module_view «module») k scopes) where
  home_is : home_at «module» k ≡ is.is.p.path
  home_is = path_there «module».packages.items «module».path k is.is.p (slice_get «module».packages.items k) refl is.is.at

  names_there : names_at «module» scopes k ≡ scope_names is.is.p.path is.scopes
  names_there =
      ap (λ o. option_map_or (scope_names (home_at «module» k)) o (record no_names { home = home_at «module» k })) is.at
      ∙ ap (λ (home : List ℕ). scope_names home is.scopes) home_is

  pub there_at : AreThere (names_at «module» scopes k)
  there_at = subst AreThere (sym names_there) (collected_there (module_view «module») k is.is.p is.scopes is.is.tables)

  module _ (p : PackageData) (at : slice_get (module_view «module»).packages k ≡ Some p) where
    same : is.is.p ≡ p
    same = cc (is.is.at, at)

    pub names_are : names_at «module» scopes k ≡ names_in (module_view «module») k p
    names_are = names_there ∙ collected_names (module_view «module») k is.is.p is.scopes is.is.tables ∙ ap (names_in (module_view «module») k) same

    pub sound_there : broken_names (known_in (module_view «module»)) k p ≡ []
    sound_there = ap (broken_names (known_in (module_view «module»)) k) (sym same) ∙ is.is.sound
