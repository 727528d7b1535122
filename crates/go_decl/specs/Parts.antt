-- Constant declarations; Declarations and scope (Go specification).
-- Decides which declaration of a module a number names, with the spec that makes it, and what the types and the
-- expressions on which its header rests break.
use Rattle.std.specs.Prelude.{ℕ, ◌==◌, Bool, List, [], ◌++◌, Option, find, map}
use Rattle.std.specs.List.{flat_map}
use Rattle.go_base.specs.declared.rule.Broken.{Broken}
use Rattle.go_tree.specs.Tree.{Tree}
use Rattle.go_module.specs.declared.declaration.Built.{Built}
use Rattle.go_module.specs.declared.declaration.Built.TheVariants.{Itself, Pair, WholeList}
use Rattle.go_module.specs.Modules.Module.{ModuleData, PackageData, package_view}
use Rattle.go_module.specs.Names.Declarations.{Declaration, Spec, declared_in, number_of, rests_on, specs_of}
use Rattle.go_module.specs.Places.{with_number}
use Rattle.go_judge.specs.Naming.{Naming}
use Rattle.go_judge.specs.Judged.{OutcomeData}
use Rattle.go_judge.specs.Records.{RecData}
use Rattle.go_judge.specs.Headers.{Headers}
use Rattle.go_model.specs.Outcomes.Walk.{outcome}
use Rattle.go_values.specs.Rules.{broken_by, others_by_kind, unequal_by}
use Rattle.go_names.specs.Views.{declaration_view, spec_view}
use Rattle.go_decl.specs.declared.parts.FoundPart.{FoundPart}

-- a declaration, the spec that makes it, and the package where that stands
pub record Part : Type 0 where
  pub own : PackageData
  pub spec : Spec
  pub declaration : Declaration

abbrev pub part_of : PackageData → Spec → Declaration → Part
part_of p spec declaration = record { own = p; spec = spec; declaration = declaration }

-- those of a spec, and those of a package, in the order in which the declarations stand
abbrev pub parts_in : PackageData → Spec → List Part
parts_in p spec = map (part_of p spec) (declared_in spec)

abbrev pub parts_of : PackageData → List Part
parts_of p = flat_map (parts_in p) (specs_of p)

-- that of the declaration whose object has a number; the first, where numbers repeat
abbrev pub is_numbered : ℕ → Part → Bool
is_numbered d part = (number_of part.declaration).0 == d

abbrev pub part_named : ModuleData → ℕ → Option Part
part_named m d = find (is_numbered d) (flat_map parts_of m.packages)

-- by whatever says which outcome a node has: R37 at the spec, where the header of a declaration rests on its whole list;
-- R1 and C13 at the expressions and the types on which the header rests, and what the nodes of these break
module _ (outcome : Tree → OutcomeData RecData) where
  abbrev pub unequal_for : Built → Spec → List Broken
  unequal_for WholeList spec = unequal_by outcome spec
  unequal_for Pair spec = []
  unequal_for Itself spec = []

  abbrev pub broken_under : Spec → Declaration → List Broken
  broken_under spec d =
      unequal_for d.built spec
      ++ (others_by_kind outcome spec.kind spec d.types d.values ++ flat_map (broken_by outcome spec.file spec.told_at) (rests_on d))

  -- each told by the number of its file
  abbrev pub broken_part_by : Part → List Broken
  broken_part_by part = map (with_number part.own.files) (broken_under part.spec part.declaration)

-- what a part breaks over the headers, in any order
abbrev pub broken_part : Naming → Headers → Part → List Broken
broken_part naming headers part = broken_part_by (outcome naming headers) part

-- what a part of the program stands for
abbrev pub part_view : FoundPart → Part
part_view part = part_of (package_view part.own.now) (spec_view part.spec) (declaration_view part.declaration)
