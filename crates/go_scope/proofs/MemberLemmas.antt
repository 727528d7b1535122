-- Which names within types stand several times.
use Rattle.std.specs.Prelude.{if◌then◌else◌, count_by, unwrap_or}
use Rattle.std.proofs.Common.{◌≡◌, ℕ, suc, ◌-◌, ◌<◌, Bool, true, false, not, ◌&&◌, ◌||◌, Option, Some, None, List, [], ◌∷◌, ◌++◌, length, map, take, nat_lt, Bor, refl, sym, ap, ◌∙◌, arith, length-append}
use Rattle.std.proofs.lemmas.Bool.{le-ltb, ltb-false}
use Rattle.std.proofs.lemmas.List.{length-map, take-map}
use Rattle.std.specs.List.{list_any}
use Rattle.std.specs.Map.{lookup}
use Rattle.go_base.specs.declared.rule.Broken.{Broken}
use Rattle.go_base.specs.declared.rule.Rule.{Rule}
use Rattle.go_tree.specs.declared.node.Node.{Node}
use Rattle.go_tree.specs.Tree.{Tree, kind_of, tree_of}
use Rattle.go_module.specs.Broken.{told_if}
use Rattle.go_module.specs.Modules.Paths.{same_text}
use Rattle.go_module.specs.Names.Declarations.{name_text}
use Rattle.go_module.specs.Names.Exported.{is_blank_identifier}
use Rattle.go_module.specs.Names.Inner.{is_named_param}
use Rattle.go_module.specs.Names.Rules.MemberRules.{all_but_last, broken_name, is_several}
use Rattle.go_names.specs.Views.{trees_at}
use Rattle.go_scope.specs.Members.{AreMarks, several_by}

-- what is marked stands several times
marked_by : (count : ℕ) (b : Bool) → nat_lt 0 count ≡ b → unwrap_or (if b then Some (nat_lt 1 count) else None) false ≡ nat_lt 1 count
marked_by count true some = refl
marked_by count false none =
    let most = ltb-false 0 count none in
    sym (le-ltb 1 count (omega (arith, most)))

module _ (file : ℕ) (told_at : Option ℕ) (rule : Rule) where
  abbrev pub several_at : List Tree → Tree → List Broken
  several_at names name = told_if (is_several file told_at names name) (broken_name file told_at rule name)

  pub several_is : (names : List Tree) (marks : List (List ℕ × Bool)) → AreMarks names marks → (name : Tree) → several_by file told_at rule (lookup (same_text (name_text name)) marks) name ≡ several_at names name
  several_is names marks are name =
      let count = count_by (λ other. same_text (name_text name) (name_text other)) names in
      let marked = ap (λ mark. unwrap_or mark false) (are (name_text name)) ∙ marked_by count (nat_lt 0 count) refl in
      ap (λ b. told_if (not (is_blank_identifier (name_text name)) && b) (broken_name file told_at rule name)) marked
