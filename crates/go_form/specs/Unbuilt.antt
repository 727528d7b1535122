-- Source file organization; Declarations and scope; Types; Expressions (Go specification).
-- Decides where the forms of a file stand that are not built yet. It is no rule of Go. Which forms are built, and which
-- parts they have, is left to `BuiltForms` and `BuiltTypes`.
use Rattle.std.specs.Prelude.{ℕ, Bool, true, false, if◌then◌else◌, List, [], ◌∷◌, ◌++◌}
use Rattle.go_tree.specs.declared.node_kind.NodeKind.TheVariants.{StringLit}
use Rattle.go_tree.specs.Tree.{Tree, branch, Trees, no_trees, more_trees, end_of}
use Rattle.go_form.specs.declared.parts.Parts.{Parts}
use Rattle.go_form.specs.declared.parts.Parts.TheVariants.{AnyParts, NoParts, One, Two, Three, Each, OneAndEach, NamesAndType, TypeArguments}
use Rattle.go_form.specs.declared.role.Role.{Role}
use Rattle.go_form.specs.declared.role.Role.TheVariants.{AnyType, Identifier, SourceFile}
use Rattle.go_form.specs.BuiltForms.{parts_as}

-- Tag = string_lit .
abbrev pub are_none : Trees → Bool
are_none no_trees = true
are_none (more_trees t ts) = false

abbrev pub is_tag : Tree → Bool
is_tag (branch id from to StringLit text parts) = are_none parts
is_tag t = false

-- what may stand behind the type of a field: nothing, or a tag
abbrev pub ends_field : Trees → Bool
ends_field no_trees = true
ends_field (more_trees t no_trees) = is_tag t
ends_field (more_trees t (more_trees u ts)) = false

-- The unbuilt forms in a tree, by what it stands for, each by its first byte; what stands in one is not asked. A node
-- with other parts than those of a built form is one. Type arguments are told where the part ends that stands before
-- them, which is at their `[` where nothing stands between.
abbrev mutual
  pub unbuilt_as : Role → Tree → List ℕ
  unbuilt_as role (branch id from to kind text parts) = unbuilt_parts (parts_as role kind parts) from parts

  -- those in the parts of a node that begins there
  pub unbuilt_parts : Parts → ℕ → Trees → List ℕ
  unbuilt_parts AnyParts from parts = []
  unbuilt_parts NoParts from no_trees = []
  unbuilt_parts (One a) from (more_trees x no_trees) = unbuilt_as a x
  unbuilt_parts (Two a b) from (more_trees x (more_trees y no_trees)) = unbuilt_as a x ++ unbuilt_as b y
  unbuilt_parts (Three a b c) from (more_trees x (more_trees y (more_trees z no_trees))) =
      unbuilt_as a x ++ (unbuilt_as b y ++ unbuilt_as c z)
  unbuilt_parts (Each a) from no_trees = []
  unbuilt_parts (Each a) from (more_trees x parts) = unbuilt_as a x ++ unbuilt_each a parts
  unbuilt_parts (OneAndEach a b) from (more_trees x parts) = unbuilt_as a x ++ unbuilt_each b parts
  unbuilt_parts NamesAndType from (more_trees name parts) = unbuilt_as Identifier name ++ unbuilt_behind_name from parts
  unbuilt_parts TypeArguments from (more_trees x arguments) = end_of x ∷ []
  unbuilt_parts other from parts = from ∷ []

  pub unbuilt_each : Role → Trees → List ℕ
  unbuilt_each role no_trees = []
  unbuilt_each role (more_trees t ts) = unbuilt_as role t ++ unbuilt_each role ts

  -- behind the first name of a field that begins there: more names, and the type
  pub unbuilt_behind_name : ℕ → Trees → List ℕ
  unbuilt_behind_name from no_trees = from ∷ []
  unbuilt_behind_name from (more_trees t ts) =
      if ends_field ts then unbuilt_as AnyType t else unbuilt_as Identifier t ++ unbuilt_behind_name from ts

-- those in a file
abbrev pub unbuilt_in : Tree → List ℕ
unbuilt_in t = unbuilt_as SourceFile t
