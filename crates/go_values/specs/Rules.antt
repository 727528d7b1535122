-- The rules that the values of declarations can break.
-- Decides where the declarations of a package break them: C1, C13, R1 and R37 of specs, and what the nodes of expressions and
-- types break (`Outcomes`).
-- Which declaration waits for which: `Waiting`. Rules on names: `Names` of go_module; on the form of a file: go_form.
use Rattle.std.specs.Prelude.{ℕ, ◌==◌, ◌&&◌, Bool, false, not, Option, List, [], ◌++◌, length, map, unwrap_or}
use Rattle.std.specs.List.{flat_map, list_all}
use Rattle.std.specs.Option.{option_map_or}
use Rattle.go_base.specs.declared.rule.Broken.{Broken}
use Rattle.go_base.specs.declared.rule.Rule.{Rule}
use Rattle.go_base.specs.declared.rule.Family.TheVariants.{C, R}
use Rattle.go_tree.specs.Tree.{Tree, start_of}
use Rattle.go_judge.specs.Naming.{Naming}
use Rattle.go_module.specs.declared.object.ObjKind.{ObjKind}
use Rattle.go_module.specs.declared.object.ObjKind.TheVariants.{Const}
use Rattle.go_module.specs.Broken.{broken_at, told_if}
use Rattle.go_module.specs.Places.{with_number}
use Rattle.go_module.specs.Modules.Module.{PackageData}
use Rattle.go_module.specs.Names.Declarations.{Declaration, Spec, declarations_of, number_of, specs_of}
use Rattle.go_operands.specs.Operands.{expressions_in}
use Rattle.go_judge.specs.Kinds.{no_type, no_value}
use Rattle.go_judge.specs.Judged.{OutcomeData}
use Rattle.go_judge.specs.Operands.{is_constant, is_type}
use Rattle.go_model.specs.Outcomes.Readings.{broken_spots, record_by}
use Rattle.go_judge.specs.Records.{RecData}
use Rattle.go_judge.specs.Headers.{Headers}
use Rattle.go_model.specs.Outcomes.Walk.{outcome}

abbrev pub cyclic_declaration : Rule
cyclic_declaration = record { family = C; number = 1 }

abbrev pub unequal_sides : Rule
unequal_sides = record { family = R; number = 37 }

-- C1: the name of a declaration that needs its own header
abbrev pub cyclic_at : Bool → Declaration → List Broken
cyclic_at cyclic d = told_if cyclic (broken_at d.file (start_of d.name) cyclic_declaration)

abbrev pub broken_cycles : (ℕ → Bool) → List Declaration → List Broken
broken_cycles cyclic declarations = flat_map (λ d. cyclic_at (cyclic (number_of d).0) d) declarations

-- by whatever says which outcome a node has: what the nodes of an expression or a type break, in the file at a place among
-- those of its package: told where a node breaks it, or at the offset at which a copy is told
module _ (outcome : Tree → OutcomeData RecData) where
  abbrev pub broken_by : ℕ → Option ℕ → Tree → List Broken
  broken_by file told t = flat_map (λ node. broken_spots file told node (outcome node)) (expressions_in t)

  -- what the record of a node says, where it has one
  abbrev pub has_record : (RecData → Bool) → Tree → Bool
  has_record says t = option_map_or says (record_by outcome t) false

  -- this rule at each of these nodes of a spec that is another thing than what is needed there
  abbrev pub others_by : Rule → (RecData → Bool) → Spec → List Tree → List Broken
  others_by rule needed spec ts =
      flat_map (λ t. told_if (has_record (λ r. not (needed r)) t) (broken_at spec.file (unwrap_or spec.told_at (start_of t)) rule)) ts

  -- R1: a value of a spec of constants that is none. C13: something other than a type behind the names of a variable, a type
  -- or an alias
  abbrev pub others_by_kind : ObjKind → Spec → List Tree → List Tree → List Broken
  others_by_kind Const spec types values = others_by no_value is_constant spec values
  others_by_kind kind spec types values = others_by no_type is_type spec types

  -- R37: the spec of constants whose numbers of names and of expressions differ, where all its expressions are constants
  abbrev pub are_unequal_by : List Tree → List Tree → Bool
  are_unequal_by names values = not (length names == length values) && list_all (has_record is_constant) values

  abbrev pub unequal_by_kind : ObjKind → Spec → List Broken
  unequal_by_kind Const spec = told_if (are_unequal_by spec.names spec.values) (broken_at spec.file (start_of spec.node) unequal_sides)
  unequal_by_kind kind spec = []

  abbrev pub unequal_by : Spec → List Broken
  unequal_by spec = unequal_by_kind spec.kind spec

  -- what a spec breaks
  abbrev pub broken_spec_by : Spec → List Broken
  broken_spec_by spec = unequal_by spec ++ (others_by_kind spec.kind spec spec.types spec.values ++ flat_map (broken_by spec.file spec.told_at) (spec.types ++ spec.values))

-- what a node, the nodes of an expression or a type, and a spec break over the headers
abbrev pub broken_node : ℕ → Option ℕ → Naming → Headers → Tree → List Broken
broken_node file told naming headers t = broken_spots file told t (outcome naming headers t)

abbrev pub broken_in : ℕ → Option ℕ → Naming → Headers → Tree → List Broken
broken_in file told naming headers t = broken_by (outcome naming headers) file told t

abbrev pub are_unequal : Naming → Headers → List Tree → List Tree → Bool
are_unequal naming headers names values = are_unequal_by (outcome naming headers) names values

abbrev pub unequal_at : Naming → Headers → Spec → List Broken
unequal_at naming headers spec = unequal_by (outcome naming headers) spec

abbrev pub broken_spec : Naming → Headers → Spec → List Broken
broken_spec naming headers spec = broken_spec_by (outcome naming headers) spec

-- what the values of a package break, by the places of its files
abbrev pub broken_in_files : Naming → Headers → (ℕ → Bool) → PackageData → List Broken
broken_in_files naming headers cyclic p = broken_cycles cyclic (declarations_of p) ++ flat_map (broken_spec naming headers) (specs_of p)

-- what the values of a package break, in any order
abbrev pub broken_values : Naming → Headers → (ℕ → Bool) → PackageData → List Broken
broken_values naming headers cyclic p = map (with_number p.files) (broken_in_files naming headers cyclic p)
