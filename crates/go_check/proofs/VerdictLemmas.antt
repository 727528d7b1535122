-- The verdict on a package, by what was found of it.
use Rattle.std.proofs.Common.{◌≡◌, ◌≢◌, ℕ, Option, Some, List, [], ◌∷◌, map, refl, sym, ap, ◌∙◌, subst}
use Rattle.std.specs.Prelude.{slice_get}
use Rattle.std.specs.Option.{option_map_or}
use Rattle.go_base.specs.declared.rule.Broken.{Broken}
use Rattle.go_base.specs.declared.ids.ObjId.{ObjId}
use Rattle.go_tree.specs.declared.node.NodeId.{NodeId}
use Rattle.go_module.specs.declared.module.Module.{Module}
use Rattle.go_module.specs.Modules.Module.{ModuleData, PackageData, module_view}
use Rattle.go_module.specs.Names.Imports.{known_in}
use Rattle.go_module.specs.Names.Rules.BrokenNames.{broken_names}
use Rattle.go_module.specs.Order.{IsListOf}
use Rattle.go_module.specs.Places.{placed_by}
use Rattle.go_module.specs.declared.scopes.Scopes.{Scopes}
use Rattle.go_report.specs.Outline.{outline_of}
use Rattle.go_report.specs.PackageLines.{AreLines}
use Rattle.go_report.specs.Phases.{ArePackageLines, BreaksShapes, BreaksValues, IsVerdict, by_names, by_shapes, by_values, denoted_in, sound}
use Rattle.go_report.specs.Report.{VerdictData, refused}
use Rattle.go_model.specs.Naming.{names_in}
use Rattle.go_judge.specs.Naming.{no_names}
use Rattle.go_judge.specs.Headers.{Headers}
use Rattle.go_scope.specs.Collecting.{IsBrokenNames}
use Rattle.go_cycles.specs.Shapes.{AreShapes, denoted_by}
use Rattle.go_check.specs.Packages.Book.{home_at, names_at, scope_names}
use Rattle.go_check.specs.Packages.Verdicts.{IsAccepting}

-- what the type declarations of the package at a place break, by its scopes
pub shapes_here : («module» : Module) (scopes : List Scopes) (k : ℕ) (p own : PackageData) (s : Scopes) (list : List Broken)
    → slice_get scopes k ≡ Some s → own ≡ p → names_at «module» scopes k ≡ names_in (module_view «module») k p
    → broken_names (known_in (module_view «module»)) k p ≡ [] → AreShapes (denoted_by s) own list
    → BreaksShapes (module_view «module») k p list
shapes_here «module» scopes k p own s list at same names unbroken shapes =
    let home = home_at «module» k in
    let there : scope_names home s ≡ names_in (module_view «module») k p =
    sym (ap (λ o. option_map_or (scope_names home) o (record no_names { home = home })) at) ∙ names in
    let here : AreShapes (denoted_by s) p list = subst (λ (q : PackageData). AreShapes (denoted_by s) q list) same shapes in
    record {
      sound_names = unbroken;
      are_shapes = subst (λ (ds : NodeId → Option ObjId). AreShapes ds p list) (λ i id. (there i).denotes id.0) here;
    }

module _ (m : ModuleData) (k : ℕ) (p : PackageData) (before : Headers) where
  -- no rule is broken
  pub sound_verdict : (headers : Headers) (denotes : NodeId → Option ObjId) (list : List Broken) (verdict : VerdictData) → BreaksValues m k p before headers list → list ≡ []
      → denotes ≡ denoted_in m k p
      → IsAccepting (outline_of m) k p denotes (names_in m k p) headers verdict → IsVerdict m k p before verdict headers
  sound_verdict headers denotes list verdict found none denotes_are accepting =
      let own : ArePackageLines m k p headers accepting.lines =
      subst (λ ds. AreLines (outline_of m) k p ds (names_in m k p) headers accepting.lines) denotes_are accepting.are_lines in
      let is = sound headers accepting.lines (subst (BreaksValues m k p before headers) none found) own in
      subst (λ v. IsVerdict m k p before v headers) (sym accepting.is) is

  -- some rule is
  pub refused_values : (headers : Headers) (list : List Broken) → BreaksValues m k p before headers list → list ≢ [] → IsVerdict m k p before (refused (map (placed_by p) list)) headers
  refused_values headers [] found some = absurd (some refl)
  refused_values headers (b ∷ bs) found some = by_values headers b bs found

  -- some type declaration leads back to itself
  pub refused_shapes : (list : List Broken) → BreaksShapes m k p list → list ≢ [] → IsVerdict m k p before (refused (map (placed_by p) list)) before
  refused_shapes [] found some = absurd (some refl)
  refused_shapes (b ∷ bs) found some = by_shapes b bs found

  names_by : (list : List Broken) → IsListOf (broken_names (known_in m) k p) list → list ≢ [] → IsVerdict m k p before (refused (map (placed_by p) list)) before
  names_by [] found some = absurd (some refl)
  names_by (b ∷ bs) found some = by_names b bs found

  pub refused_names : (list : List Broken) → slice_get m.packages k ≡ Some p → IsBrokenNames m k list → IsVerdict m k p before (refused (map (placed_by p) list)) before
  refused_names list at broken =
      let same : broken.p ≡ p = cc (at, broken.at) in
      names_by list (subst (λ (q : PackageData). IsListOf (broken_names (known_in m) k q) list) same broken.is_list) broken.some
