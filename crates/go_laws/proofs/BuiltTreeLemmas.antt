-- Where the form of a file breaks no rule, what stands behind the names of its specs is built: by induction over what each
-- node stands for.
use Rattle.std.proofs.Common.{◌≡◌, ℕ, Bool, true, false, cond, List, [], ◌∷◌, ◌++◌, Contains, refl, sym, ◌∙◌, subst, ⊎_elim}
use Rattle.std.specs.List.{flat_map}
use Rattle.go_tree.specs.declared.node_kind.NodeKind.TheVariants as k
use Rattle.go_tree.specs.Tree.{Tree, Trees, branch, end_of, kind_of, list_of, more_trees, no_trees}
use Rattle.go_text.specs.Files.{IsFileOf}
use Rattle.go_module.specs.Broken.{broken_at, told}
use Rattle.go_module.specs.Names.Declarations.{Spec, specs_in_file}
use Rattle.go_module.specs.Names.Inner.{is_tag_kind}
use Rattle.go_module.specs.Rules.{unbuilt_form}
use Rattle.go_module.proofs.MemberLemmas.{cons_cases, contains_none}
use Rattle.go_form.specs.declared.parts.Parts.{Parts}
use Rattle.go_form.specs.declared.parts.Parts.TheVariants.{AnyParts, Each, NamesAndType, NoParts, One, OneAndEach, Three, Two, TypeArguments}
use Rattle.go_form.specs.declared.role.Role.{Role}
use Rattle.go_form.specs.declared.role.Role.TheVariants.{AnyType, Identifier, SourceFile}
use Rattle.go_form.specs.AtNode.{broken_at_node, broken_declarations, broken_parameters, unsupported_forms}
use Rattle.go_form.specs.BuiltForms.{parts_as}
use Rattle.go_form.specs.Families.Declarations.{float_literal_at}
use Rattle.go_form.specs.Rules as rule
use Rattle.go_form.specs.Unbuilt.{ends_field, unbuilt_as, unbuilt_behind_name, unbuilt_each, unbuilt_in, unbuilt_parts}
use Rattle.go_form.specs.Whole.{broken_forms, written}
use Rattle.go_model.proofs.FlatLemmas.{only_is}
use Rattle.go_laws.specs.BuiltTrees.{IsBuilt, IsIdentifier}
use Rattle.go_laws.proofs.BuiltRoleLemmas.{identifier_built}
use Rattle.go_laws.proofs.BuiltRoles.{AllStand, AreFieldParts, HasBuiltParts, HasParts, Stands}
use Rattle.go_laws.proofs.BuiltSpecLemmas.{stands_by}
use Rattle.go_laws.proofs.CopyFreeLemmas.{AreFree, IsFree}
use Rattle.go_laws.proofs.FloatLemmas.{file_float_free, is_float}
use Rattle.go_laws.proofs.ListLemmas.{left_is_empty, map_is_empty, none_of_each, right_is_empty}

-- FIELDS

tag_kind : (t : Tree) → ends_field (more_trees t no_trees) ≡ true → is_tag_kind (kind_of t) ≡ true
tag_kind (branch id from to k.StringLit text parts) ends = refl
tag_kind t ends = absurd (let never : false ≡ true = ends in cc)

tags_alone : (ts : Trees) → ends_field ts ≡ true → (t : Tree) → Contains (list_of ts) t → is_tag_kind (kind_of t) ≡ true
tags_alone no_trees ends t h = absurd (contains_none t h)
tags_alone (more_trees x no_trees) ends t h =
    subst (λ (u : Tree). is_tag_kind (kind_of u) ≡ true) (only_is x t h) (tag_kind x ends)
tags_alone (more_trees x (more_trees y ys)) ends t h = absurd (let never : false ≡ true = ends in cc)

-- one more part of a field: the type, where a tag alone may follow, or a name
field_parts : (t : Tree) (ts : Trees) (type name others : List ℕ) (b : Bool) → ends_field ts ≡ b
    → cond b type (name ++ others) ≡ []
    → (type ≡ [] → IsBuilt t) → (name ≡ [] → IsIdentifier t) → (others ≡ [] → AreFieldParts ts) → AreFieldParts (more_trees t ts)
field_parts t ts type name others true ends none is_type is_name rest u h plain =
    ⊎_elim
    (λ (here : t ≡ u). subst IsBuilt here (is_type none))
    (λ (there : Contains (list_of ts) u). absurd (let never : true ≡ false = sym (tags_alone ts ends u there) ∙ plain in cc))
    (cons_cases t (list_of ts) u h)
field_parts t ts type name others false ends none is_type is_name rest u h plain =
    ⊎_elim
    (λ (here : t ≡ u). subst IsBuilt here (identifier_built (is_name (left_is_empty name others none))))
    (λ (there : Contains (list_of ts) u). rest (right_is_empty name others none) u there plain)
    (cons_cases t (list_of ts) u h)

-- WHERE NO FORM IS UNBUILT, and no node is a floating-point literal

mutual
  stands : (role : Role) (t : Tree) → unbuilt_as role t ≡ [] → IsFree is_float t → Stands role t
  stands role (branch id from to kind text parts) none free =
      stands_by role (branch id from to kind text parts) free.0 (have_parts (parts_as role kind parts) from parts none free.1)

  have_parts : (are : Parts) (from : ℕ) (parts : Trees) → unbuilt_parts are from parts ≡ [] → AreFree is_float parts
      → HasParts are parts
  have_parts AnyParts from parts none free = tt
  have_parts NoParts from no_trees none free = tt
  have_parts (One a) from (more_trees x no_trees) none free = stands a x none free.0
  have_parts (Two a b) from (more_trees x (more_trees y no_trees)) none free = (
    stands a x (left_is_empty (unbuilt_as a x) (unbuilt_as b y) none) free.0,
    stands b y (right_is_empty (unbuilt_as a x) (unbuilt_as b y) none) free.1.0,
  )
  have_parts (Three a b c) from (more_trees x (more_trees y (more_trees z no_trees))) none free =
      let behind = right_is_empty (unbuilt_as a x) (unbuilt_as b y ++ unbuilt_as c z) none in (
        stands a x (left_is_empty (unbuilt_as a x) (unbuilt_as b y ++ unbuilt_as c z) none) free.0,
        stands b y (left_is_empty (unbuilt_as b y) (unbuilt_as c z) behind) free.1.0,
        stands c z (right_is_empty (unbuilt_as b y) (unbuilt_as c z) behind) free.1.1.0,
      )
  have_parts (Each a) from no_trees none free = tt
  have_parts (Each a) from (more_trees x parts) none free = (
    stands a x (left_is_empty (unbuilt_as a x) (unbuilt_each a parts) none) free.0,
    all_stand a parts (right_is_empty (unbuilt_as a x) (unbuilt_each a parts) none) free.1,
  )
  have_parts (OneAndEach a b) from (more_trees x parts) none free = (
    stands a x (left_is_empty (unbuilt_as a x) (unbuilt_each b parts) none) free.0,
    all_stand b parts (right_is_empty (unbuilt_as a x) (unbuilt_each b parts) none) free.1,
  )
  have_parts NamesAndType from (more_trees x parts) none free = (
    stands Identifier x (left_is_empty (unbuilt_as Identifier x) (unbuilt_behind_name from parts) none) free.0,
    behind_name from parts (right_is_empty (unbuilt_as Identifier x) (unbuilt_behind_name from parts) none) free.1,
  )
  have_parts TypeArguments from (more_trees x arguments) none free = absurd (let never : end_of x ∷ [] ≡ [] = none in cc)
  have_parts other from parts none free = absurd (let never : from ∷ [] ≡ [] = none in cc)

  all_stand : (role : Role) (ts : Trees) → unbuilt_each role ts ≡ [] → AreFree is_float ts → AllStand role ts
  all_stand role no_trees none free = tt
  all_stand role (more_trees x ts) none free = (
    stands role x (left_is_empty (unbuilt_as role x) (unbuilt_each role ts) none) free.0,
    all_stand role ts (right_is_empty (unbuilt_as role x) (unbuilt_each role ts) none) free.1,
  )

  behind_name : (from : ℕ) (ts : Trees) → unbuilt_behind_name from ts ≡ [] → AreFree is_float ts → AreFieldParts ts
  behind_name from no_trees none free = λ t h plain. absurd (contains_none t h)
  behind_name from (more_trees x ts) none free =
      field_parts x ts (unbuilt_as AnyType x) (unbuilt_as Identifier x) (unbuilt_behind_name from ts) (ends_field ts) refl none
      (λ type. stands AnyType x type free.0) (λ name. stands Identifier x name free.0) (λ others. behind_name from ts others free.1)

-- WHAT BREAKS NO RULE BY ITS FORM

no_float_at : (file : ℕ) (t : Tree) → broken_at_node file t ≡ [] → float_literal_at t ≡ []
no_float_at file t e =
    let behind_parameters = right_is_empty (broken_parameters file t) _ e in
    let behind_declarations = right_is_empty (broken_declarations file t) _ behind_parameters in
    let forms = left_is_empty (unsupported_forms file t) _ behind_declarations in
    map_is_empty (λ offset. broken_at file offset rule.float_literal) (float_literal_at t)
    (left_is_empty (told file rule.float_literal (float_literal_at t)) _ forms)

pub form_built : (bytes : List ℕ) (first number : ℕ) (constraints : List ℕ) (t : Tree) → IsFileOf bytes first t
    → broken_forms number constraints t ≡ [] → (file : ℕ) (d : Spec) → Contains (specs_in_file file t) d → HasBuiltParts d
form_built bytes first number constraints t is e =
    let in_tree = right_is_empty (told number rule.build_constraint constraints) _ e in
    let unbuilt = left_is_empty (told number unbuilt_form (unbuilt_in t)) (flat_map (broken_at_node number) (written t)) in_tree in
    let at_nodes = right_is_empty (told number unbuilt_form (unbuilt_in t)) (flat_map (broken_at_node number) (written t)) in_tree in
    stands SourceFile t (map_is_empty (λ offset. broken_at number offset unbuilt_form) (unbuilt_in t) unbuilt)
    (file_float_free bytes first t is (λ s h. no_float_at number s (none_of_each (broken_at_node number) (written t) at_nodes s h)))
