-- What a node is by what it stands for: a type and an expression are built, what holds others together hands up what is
-- built, and a spec has what is built behind its names.
use Rattle.std.proofs.Common.{◌≡◌, ℕ, false, [], ◌++◌, length, Contains, subst, ⊎_elim}
use Rattle.go_tree.specs.declared.node_kind.NodeKind.{NodeKind}
use Rattle.go_tree.specs.declared.node_kind.NodeKind.TheVariants as k
use Rattle.go_tree.specs.Tree.{Tree, Trees, kind_of, list_of, more_trees, no_trees, parts_of}
use Rattle.go_module.specs.Names.Declarations.{Spec, const_spec, specs_in, specs_in_file, type_spec, types_behind, values_behind, var_spec}
use Rattle.go_module.specs.Names.Inner.{is_tag_kind}
use Rattle.go_module.specs.declared.object.ObjKind.TheVariants.{Const}
use Rattle.go_module.proofs.MemberLemmas.{cons_cases, contains_none}
use Rattle.go_form.specs.declared.parts.Parts.{Parts}
use Rattle.go_form.specs.declared.parts.Parts.TheVariants.{AnyParts, Each, NamesAndType, NoParts, One, OneAndEach, Three, Two}
use Rattle.go_form.specs.declared.role.Role.{Role}
use Rattle.go_form.specs.declared.role.Role.TheVariants as r
use Rattle.go_form.specs.BuiltForms.{parts_as}
use Rattle.go_operands.specs.Operands.{operands_from}
use Rattle.go_laws.specs.BuiltTrees.{IsBuilt, IsBuiltSpec, IsIdentifier}
use Rattle.go_laws.proofs.BuiltPartLemmas.{IsHanded, IsHolding}

-- a part of a channel type hands up one operand
pub record IsOneHanded (kind : NodeKind) (t : Tree) : Type 0 where
  pub handed : IsHanded kind t
  pub many : length (operands_from kind t) ≡ 1

-- the values of a spec
pub record AreValues (list : Tree) : Type 0 where
  pub some : IsBuiltSpec Const [] (list_of (parts_of list))
  pub built : (t : Tree) → Contains (list_of (parts_of list)) t → IsBuilt t

-- the copy of the list that a spec of constants omits
pub record AreCopied (copy : Tree) : Type 0 where
  pub some : IsBuiltSpec Const (types_behind (list_of (parts_of copy))) (values_behind (list_of (parts_of copy)))
  pub built : (t : Tree) → Contains (types_behind (list_of (parts_of copy)) ++ values_behind (list_of (parts_of copy))) t → IsBuilt t

-- a spec
pub record HasBuiltParts (spec : Spec) : Type 0 where
  pub is : IsBuiltSpec spec.kind spec.types spec.values
  pub built : (t : Tree) → Contains (spec.types ++ spec.values) t → IsBuilt t

-- by what a node stands for
abbrev pub Stands : Role → Tree → Type 0
Stands r.SourceFile t = (file : ℕ) (d : Spec) → Contains (specs_in_file file t) d → HasBuiltParts d
Stands r.Declaration t = (file : ℕ) (d : Spec) → Contains (specs_in file t) d → HasBuiltParts d
Stands r.ConstSpec t = (file : ℕ) → HasBuiltParts (const_spec file t)
Stands r.ConstCopy t = AreCopied t
Stands r.VarSpec t = (file : ℕ) → HasBuiltParts (var_spec file t)
Stands r.TypeSpec t = (file : ℕ) (d : Spec) → Contains (type_spec file t) d → HasBuiltParts d
Stands r.IdentifierList t = Unit {0}
Stands r.ExpressionList t = AreValues t
Stands r.Identifier t = IsIdentifier t
Stands r.Expression t = IsBuilt t
Stands r.AnyType t = IsBuilt t
Stands r.ChannelElement t = IsOneHanded k.ChanType t
Stands r.ReceiveChannel t = IsOneHanded k.ArrowExpr t
Stands r.Signature t = IsHolding t
Stands r.Parameters t = IsHanded k.Signature t
Stands r.Results t = IsHanded k.Signature t
Stands r.ParameterDecl t = IsHolding t
Stands r.FieldDecl t = IsHanded k.StructType t
Stands r.Tag t = Unit {0}
Stands r.InterfaceElem t = IsHolding t
Stands r.Unbuilt t = ⊥

abbrev pub AllStand : Role → Trees → Type 0
AllStand role no_trees = Unit {0}
AllStand role (more_trees t ts) = Stands role t × AllStand role ts

-- the names behind the first, the type and the tag of a field
abbrev pub AreFieldParts : Trees → Type 0
AreFieldParts parts = (t : Tree) → Contains (list_of parts) t → is_tag_kind (kind_of t) ≡ false → IsBuilt t

-- the parts of a node
abbrev pub HasParts : Parts → Trees → Type 0
HasParts AnyParts parts = Unit {0}
HasParts NoParts no_trees = Unit {0}
HasParts (One a) (more_trees x no_trees) = Stands a x
HasParts (Two a b) (more_trees x (more_trees y no_trees)) = Stands a x × Stands b y
HasParts (Three a b c) (more_trees x (more_trees y (more_trees z no_trees))) = Stands a x × Stands b y × Stands c z
HasParts (Each a) parts = AllStand a parts
HasParts (OneAndEach a b) (more_trees x parts) = Stands a x × AllStand b parts
HasParts NamesAndType (more_trees name parts) = IsIdentifier name × AreFieldParts parts
HasParts other parts = ⊥

-- the parts of a node that stands for this are what they stand for
abbrev pub HasPartsAs : Role → Tree → Type 0
HasPartsAs role t = HasParts (parts_as role (kind_of t) (parts_of t)) (parts_of t)

pub each_stands : (role : Role) (ts : Trees) → AllStand role ts → (t : Tree) → Contains (list_of ts) t → Stands role t
each_stands role no_trees all t h = absurd (contains_none t h)
each_stands role (more_trees x ts) all t h =
    ⊎_elim
    (λ (here : x ≡ t). subst (Stands role) here all.0)
    (λ (there : Contains (list_of ts) t). each_stands role ts all.1 t there)
    (cons_cases x (list_of ts) t h)
