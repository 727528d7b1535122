-- Declarations and scope; Constant declarations; Variable declarations; Type declarations (Go specification).
-- Decides what the files of a package declare outside functions: one list, by which its scopes, its headers, the rules on
-- them, its lines and their places know the declarations of a package; none of these matches on kinds of declarations
-- by itself. Functions, methods, and types with type parameters are not built yet. Imports: `Heads`.
use Rattle.std.specs.Prelude.{ℕ, ◌+◌, ◌==◌, Bool, true, false, if◌then◌else◌, List, [], ◌∷◌, ◌++◌, length, map, Option, None, Some}
use Rattle.std.specs.List.{flat_map}
use Rattle.go_tree.specs.declared.node_kind.NodeKind.TheVariants.{ConstDecl, ConstGroup, ConstCopy, ExprList, TypeDecl, TypeGroup, TypeSpec, AliasSpec, VarDecl, VarGroup}
use Rattle.go_tree.specs.Tree.{Tree, branch, Trees, no_trees, more_trees, id_of, list_of, parts_of, start_of, text_of}
use Rattle.go_base.specs.declared.ids.ObjId.{ObjId}
use Rattle.go_module.specs.declared.declaration.Built.{Built}
use Rattle.go_module.specs.declared.declaration.Built.TheVariants.{Itself, Pair, WholeList}
use Rattle.go_module.specs.declared.object.ObjKind.{ObjKind}
use Rattle.go_module.specs.declared.object.ObjKind.TheVariants.{Alias, Const, Defined, Var}
use Rattle.go_module.specs.Modules.Texts.{as_text}
use Rattle.go_module.specs.Modules.Module.{FileData, PackageData}
use Rattle.go_module.specs.Names.Inner.{first_alone}
use Rattle.go_module.specs.NodeParts.{all_but_first, first_part}

-- a spec: the place of its file among the files of its package; what its names are declared as; its node; its names;
-- behind them the type, where one stands, and the expressions; and, where both are the copy of a list before, the
-- offset at which it is told what is broken in them
pub record Spec : Type 0 where
  pub file : ℕ
  pub kind : ObjKind
  pub node : Tree
  pub names : List Tree
  pub types : List Tree
  pub values : List Tree
  pub told_at : Option ℕ

-- a declaration of a name: as its spec, but with the type and the expressions that its header rests on, and how the
-- header is built of them
pub record Declaration : Type 0 where
  pub file : ℕ
  pub kind : ObjKind
  pub name : Tree
  pub types : List Tree
  pub values : List Tree
  pub built : Built

-- ConstSpec = IdentifierList [ [ Type ] "=" ExpressionList ] .
abbrev pub names_in_spec : Tree → List Tree
names_in_spec spec = list_of (parts_of (first_part spec))

-- [ Type ] "=" ExpressionList
abbrev pub types_behind : List Tree → List Tree
types_behind (type ∷ (list ∷ [])) = type ∷ []
types_behind parts = []

abbrev pub values_behind : List Tree → List Tree
values_behind (list ∷ []) = list_of (parts_of list)
values_behind (type ∷ (list ∷ [])) = list_of (parts_of list)
values_behind parts = []

-- what stands behind the names: what is written there or, where the list is omitted, its copy
abbrev pub behind_names : List Tree → List Tree
behind_names (branch id from to ConstCopy text parts ∷ []) = list_of parts
behind_names parts = parts

-- own: what is broken in a copy is told at the first name of its spec
abbrev pub told_for : Tree → List Tree → Option ℕ
told_for spec (branch id from to ConstCopy text parts ∷ []) = Some (start_of spec)
told_for spec parts = None

abbrev pub const_spec : ℕ → Tree → Spec
const_spec file spec = record {
  file = file;
  kind = Const;
  node = spec;
  names = names_in_spec spec;
  types = types_behind (behind_names (all_but_first (parts_of spec)));
  values = values_behind (behind_names (all_but_first (parts_of spec)));
  told_at = told_for spec (all_but_first (parts_of spec));
}

-- VarSpec = IdentifierList ( Type [ "=" ExpressionList ] | "=" ExpressionList ) .
abbrev pub type_alone : Tree → List Tree
type_alone (branch id from to ExprList text parts) = []
type_alone type = type ∷ []

abbrev pub list_alone : Tree → List Tree
list_alone (branch id from to ExprList text parts) = list_of parts
list_alone type = []

abbrev pub type_before : List Tree → List Tree
type_before [] = []
type_before (part ∷ []) = type_alone part
type_before (type ∷ parts) = type ∷ []

abbrev pub list_behind : List Tree → List Tree
list_behind (part ∷ []) = list_alone part
list_behind (type ∷ (list ∷ [])) = list_of (parts_of list)
list_behind parts = []

abbrev pub var_spec : ℕ → Tree → Spec
var_spec file spec = record {
  file = file;
  kind = Var;
  node = spec;
  names = names_in_spec spec;
  types = type_before (all_but_first (parts_of spec));
  values = list_behind (all_but_first (parts_of spec));
  told_at = None;
}

-- AliasDecl = identifier "=" Type . TypeDef = identifier [ TypeParameters ] Type .
abbrev pub type_spec_as : ObjKind → ℕ → Tree → Trees → Spec
type_spec_as kind file spec parts = record {
  file = file;
  kind = kind;
  node = spec;
  names = first_alone (λ t. t) (list_of parts);
  types = all_but_first parts;
  values = [];
  told_at = None;
}

abbrev pub type_spec : ℕ → Tree → List Spec
type_spec file (branch id from to TypeSpec text parts) = type_spec_as Defined file (branch id from to TypeSpec text parts) parts ∷ []
type_spec file (branch id from to AliasSpec text parts) = type_spec_as Alias file (branch id from to AliasSpec text parts) parts ∷ []
type_spec file spec = []

-- ConstDecl = "const" ( ConstSpec | "(" { ConstSpec ";" } ")" ) . VarDecl and TypeDecl likewise.
abbrev pub specs_in : ℕ → Tree → List Spec
specs_in file (branch id from to ConstDecl text parts) = map (const_spec file) (list_of parts)
specs_in file (branch id from to ConstGroup text parts) = map (const_spec file) (list_of parts)
specs_in file (branch id from to VarDecl text parts) = map (var_spec file) (list_of parts)
specs_in file (branch id from to VarGroup text parts) = map (var_spec file) (list_of parts)
specs_in file (branch id from to TypeDecl text parts) = flat_map (type_spec file) (list_of parts)
specs_in file (branch id from to TypeGroup text parts) = flat_map (type_spec file) (list_of parts)
specs_in file declaration = []

abbrev pub specs_in_file : ℕ → Tree → List Spec
specs_in_file file tree = flat_map (specs_in file) (list_of (parts_of tree))

-- the specs of these files, of which the first has this place
abbrev pub specs_from : ℕ → List FileData → List Spec
specs_from file [] = []
specs_from file (f ∷ files) = specs_in_file file f.tree ++ specs_from (file + 1) files

abbrev pub specs_of : PackageData → List Spec
specs_of p = specs_from 0 p.files

-- "the nth identifier on the left is bound to the value of the nth expression on the right"
abbrev pub pairs : Spec → List Tree → List Tree → List Declaration
pairs spec (name ∷ names) (value ∷ values) =
    record { file = spec.file; kind = spec.kind; name = name; types = spec.types; values = value ∷ []; built = Pair } ∷ pairs spec names values
pairs spec names values = []

-- own: where the numbers of names and expressions differ, the whole list belongs to each name; of constants none has a value
abbrev pub with_list : Spec → Tree → Declaration
with_list spec name = record { file = spec.file; kind = spec.kind; name = name; types = spec.types; values = spec.values; built = WholeList }

-- a type, an alias or a variable with a type: by its type alone
abbrev pub by_itself : Spec → Tree → Declaration
by_itself spec name = record { file = spec.file; kind = spec.kind; name = name; types = spec.types; values = []; built = Itself }

-- constants, and variables without a type, by their values
abbrev pub by_values : Spec → List Declaration
by_values spec = if length spec.names == length spec.values then pairs spec spec.names spec.values else map (with_list spec) spec.names

-- what the names of a spec are declared as says by what, with the types behind them
abbrev pub declared_by_kind : ObjKind → List Tree → Spec → List Declaration
declared_by_kind Const types spec = by_values spec
declared_by_kind Var [] spec = by_values spec
declared_by_kind kind types spec = map (by_itself spec) spec.names

abbrev pub declared_in : Spec → List Declaration
declared_in spec = declared_by_kind spec.kind spec.types spec

abbrev pub declarations_in : List Spec → List Declaration
declarations_in specs = flat_map declared_in specs

-- the declarations of a package, in the order in which they stand, file after file
abbrev pub declarations_of : PackageData → List Declaration
declarations_of p = declarations_in (specs_of p)

-- the parts that the header of a declaration rests on
abbrev pub rests_on : Declaration → List Tree
rests_on d = d.types ++ d.values

-- the number of the object that a declaration makes: that of the name's node
abbrev pub number_of : Declaration → ObjId
number_of d = record { 0 = id_of d.name }

abbrev pub numbers_of : List Declaration → List ObjId
numbers_of declarations = map number_of declarations

-- the text of an identifier
abbrev pub name_text : Tree → List ℕ
name_text name = as_text (text_of name)
