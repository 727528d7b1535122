-- The lines of the report of an accepted package.
-- Decides which lines it has: one for each name that is written where it is declared, one for each use of a name, and one
-- for each expression or type; of what stands in a copy of an omitted list, neither uses nor expressions, nor members. Which
-- names type literals declare: `Members`. Which type an untyped expression has in the end: `Finals`. How lines are ordered:
-- `LineOrder`. How a line reads: `Text`.
use Rattle.std.specs.Prelude.{◌≡◌, ℕ, ◌+◌, Bool, is_none, if◌then◌else◌, List, [], ◌∷◌, ◌++◌, Option, Some, None, filter, map, option_and_then}
use Rattle.std.specs.List.{flat_map}
use Rattle.std.specs.Option.{option_map, option_map_or}
use Rattle.go_base.specs.Place.{line_of, column_of}
use Rattle.go_base.specs.declared.ids.ObjId.{ObjId}
use Rattle.go_term.specs.Types.{Head, named, param, TypeData, Parts, made, no_parts, more_parts}
use Rattle.go_tree.specs.declared.node.NodeId.{NodeId}
use Rattle.go_tree.specs.declared.node_kind.NodeKind.TheVariants.{EmbeddedPointer}
use Rattle.go_tree.specs.Tree.{Tree, branch, Trees, no_trees, more_trees, end_of, parts_of, start_of}
use Rattle.go_module.specs.IndexMap.{insert_all}
use Rattle.go_module.specs.declared.block.Occurrence.{Occurrence}
use Rattle.go_module.specs.declared.block.Selected.{Selected}
use Rattle.go_module.specs.Modules.Module.{FileData, PackageData}
use Rattle.go_module.specs.Names.Declarations.{Declaration, Spec, declarations_in, name_text, number_of, specs_in_file}
use Rattle.go_module.specs.Names.Imports.{Importing, imports_of, is_dot}
use Rattle.go_module.specs.Names.Occurrences.{names_in_parts}
use Rattle.go_operands.specs.Operands.{expressions_in_parts}
use Rattle.go_module.specs.Places.{at_offset}
use Rattle.go_module.specs.Scopes.{same_object}
use Rattle.go_judge.specs.Naming.{Naming}
use Rattle.go_report.specs.Finals.Nodes.{Finals, final_among, finals_in_spec, in_the_end}
use Rattle.go_report.specs.Outline.{Outline, declared_at, named_by, path_at}
use Rattle.go_report.specs.LineOrder.{AreInOrder}
use Rattle.go_report.specs.Members.{Member, members_of}
use Rattle.go_report.specs.Report.{DefinedData, alias, constant, definition, field, function, imported, variable, WhatData, defined, used, expression, LineData, NamedData}
use Rattle.go_judge.specs.Records as headers
use Rattle.go_judge.specs.Records.{HeaderData, RecData}
use Rattle.go_judge.specs.Judged.{OutcomeData}
use Rattle.go_judge.specs.Headers.{Headers}
use Rattle.go_model.specs.Outcomes.Walk.{outcome}
use Rattle.go_model.specs.Outcomes.Readings.{record_by}
use Rattle.go_values.specs.Records.{header_by}

-- the specs that are written, and no copies
abbrev pub written : List Spec → List Spec
written specs = filter (λ spec. is_none spec.told_at) specs

abbrev pub line_at : Bool → FileData → ℕ → WhatData → LineData
line_at stub f from what = record { at = at_offset stub f from; what = what }

-- an import with a name that is written: the name, and the path of the package
abbrev pub import_def : Outline → Bool → FileData → ℕ → Tree → List LineData
import_def outline stub f place name =
    if is_dot name then [] else line_at stub f (start_of name) (defined (name_text name) (imported (path_at outline place))) ∷ []

abbrev pub import_defs_in : Outline → Bool → FileData → ℕ → Trees → List LineData
import_defs_in outline stub f place (more_trees name (more_trees string no_trees)) = import_def outline stub f place name
import_defs_in outline stub f place parts = []

abbrev pub import_defs : Outline → Bool → FileData → Importing → List LineData
import_defs outline stub f i = import_defs_in outline stub f i.imported (parts_of i.spec)

-- what the declaration of this object is told as, by its header; a function is not built yet, and is not told
abbrev pub told_as : ObjId → HeaderData → Option DefinedData
told_as d (headers.constant type value) = Some (constant type value)
told_as d (headers.variable type) = Some (variable type)
told_as d (headers.func params type) = None
told_as d (headers.definition params right methods) = Some (definition (made (named d) no_parts) right)
told_as d (headers.alias type) = Some (alias type)

-- by whatever says which outcome a node has
abbrev pub def_by : (Tree → OutcomeData RecData) → Bool → FileData → Declaration → List LineData
def_by outcome stub f d =
    option_map_or (λ kind. line_at stub f (start_of d.name) (defined (name_text d.name) kind) ∷ []) (option_and_then (told_as (number_of d)) (header_by outcome d)) []

abbrev pub declaration_defs : Bool → FileData → Naming → Headers → Declaration → List LineData
declaration_defs stub f naming headers d = def_by (outcome naming headers) stub f d

-- the names that a node declares, where it is a type literal
abbrev pub members_by : (Tree → OutcomeData RecData) → Tree → List Member
members_by outcome t = option_map_or (members_of t) (option_and_then (λ r. r.type) (record_by outcome t)) []

abbrev pub member_def : Bool → FileData → Member → LineData
member_def stub f m = line_at stub f (start_of m.0) (defined (name_text m.0) m.1)

abbrev pub member_defs_by : (Tree → OutcomeData RecData) → Bool → FileData → Tree → List LineData
member_defs_by outcome stub f t = map (member_def stub f) (members_by outcome t)

abbrev pub member_defs : Bool → FileData → Naming → Headers → Tree → List LineData
member_defs stub f naming headers t = member_defs_by (outcome naming headers) stub f t

-- all nodes of a file's specs that can have records, but those of copies
abbrev pub written_nodes : ℕ → FileData → List Tree
written_nodes file f = flat_map expressions_in_parts (written (specs_in_file file f.tree))

-- those of imports, of declarations, and of members of types
abbrev pub defs_in : Outline → Bool → Naming → Headers → ℕ → FileData → List Importing → List LineData
defs_in outline stub naming headers file f imports =
    flat_map (import_defs outline stub f) imports
    ++ (flat_map (declaration_defs stub f naming headers) (declarations_in (specs_in_file file f.tree))
    ++ flat_map (member_defs stub f naming headers) (written_nodes file f))

-- those of each of these files, of which the first has this place
abbrev pub defs_from : Outline → Bool → Naming → Headers → ℕ → List FileData → List (List Importing) → List (List LineData)
defs_from outline stub naming headers file (f ∷ files) (imports ∷ others) = defs_in outline stub naming headers file f imports ∷ defs_from outline stub naming headers (file + 1) files others
defs_from outline stub naming headers file files imports = []

-- an identifier that denotes an object: its name, and where that is declared
abbrev pub use_at : Outline → Bool → FileData → (NodeId → Option ObjId) → NodeId → ℕ → List ℕ → List LineData
use_at outline stub f denotes id from name =
    option_map_or (λ d. line_at stub f from (used name (declared_at outline d)) ∷ []) (denotes id) []

abbrev pub selected_use : Outline → Bool → FileData → (NodeId → Option ObjId) → Option Selected → List LineData
selected_use outline stub f denotes None = []
selected_use outline stub f denotes (Some s) = use_at outline stub f denotes s.id s.at s.name

abbrev pub occurrence_uses : Outline → Bool → FileData → (NodeId → Option ObjId) → Occurrence → List LineData
occurrence_uses outline stub f denotes o = use_at outline stub f denotes o.id o.at o.name ++ selected_use outline stub f denotes o.selected

abbrev pub uses_in : Outline → Bool → (NodeId → Option ObjId) → ℕ → FileData → List LineData
uses_in outline stub denotes file f = flat_map (occurrence_uses outline stub f denotes) (flat_map names_in_parts (written (specs_in_file file f.tree)))

abbrev pub uses_from : Outline → Bool → (NodeId → Option ObjId) → ℕ → List FileData → List (List LineData)
uses_from outline stub denotes file [] = []
uses_from outline stub denotes file (f ∷ files) = uses_in outline stub denotes file f ∷ uses_from outline stub denotes (file + 1) files

-- a node, where it has a record: the place of its end, and its record
abbrev pub record_line : Bool → FileData → ℕ → ℕ → Option RecData → List LineData
record_line stub f from to found =
    option_map_or (λ r. line_at stub f from (expression (record { line = line_of f.bytes to; col = column_of f.bytes to }) r.mode r.type r.value) ∷ []) found []

-- where an expression or a type ends: the type `*E` of an embedded field before its tag
abbrev pub expr_end : Tree → ℕ
expr_end (branch id from to EmbeddedPointer text (more_trees type tag)) = end_of type
expr_end t = end_of t

-- the final types of what is untyped in these specs, but in copies
abbrev pub finals_in : Headers → (Tree → OutcomeData RecData) → List Spec → Finals
finals_in headers outcome specs = flat_map (finals_in_spec headers outcome) (written specs)

-- a node by its record in the end, by what says which final type a node has
abbrev pub expr_by : (Tree → OutcomeData RecData) → (NodeId → Option TypeData) → Bool → FileData → Tree → List LineData
expr_by outcome final stub f t = record_line stub f (start_of t) (expr_end t) (option_map (in_the_end final t) (record_by outcome t))

abbrev pub exprs_in : Bool → Naming → Headers → ℕ → FileData → List LineData
exprs_in stub naming headers file f =
    flat_map (expr_by (outcome naming headers) (final_among (finals_in headers (outcome naming headers) (specs_in_file file f.tree))) stub f) (written_nodes file f)

abbrev pub exprs_from : Bool → Naming → Headers → ℕ → List FileData → List (List LineData)
exprs_from stub naming headers file [] = []
exprs_from stub naming headers file (f ∷ files) = exprs_in stub naming headers file f ∷ exprs_from stub naming headers (file + 1) files

-- the lines of the package at a place of the module: each kind in order
pub record AreLines (outline : Outline) (k : ℕ) (p : PackageData) (denotes : NodeId → Option ObjId) (naming : Naming) (headers : Headers) (lines : List LineData) : Type 0 where
  pub defs : List LineData
  pub uses : List LineData
  pub exprs : List LineData
  pub are_defs : AreInOrder (defs_from outline p.stub naming headers 0 p.files (imports_of k p)) defs
  pub are_uses : AreInOrder (uses_from outline p.stub denotes 0 p.files) uses
  pub are_exprs : AreInOrder (exprs_from p.stub naming headers 0 p.files) exprs
  pub all : lines ≡ defs ++ (uses ++ exprs)

-- the objects that a type names: declarations, and those of type parameters
abbrev pub objects_at : Head → List ObjId
objects_at (named d) = d ∷ []
objects_at (param d i) = d ∷ []
objects_at head = []

abbrev mutual
  pub objects_in_type : TypeData → List ObjId
  objects_in_type (made head parts) = objects_at head ++ objects_in_parts parts

  pub objects_in_parts : Parts → List ObjId
  objects_in_parts no_parts = []
  objects_in_parts (more_parts t ts) = objects_in_type t ++ objects_in_parts ts

abbrev pub objects_in_some : Option TypeData → List ObjId
objects_in_some None = []
objects_in_some (Some type) = objects_in_type type

abbrev pub objects_in_defined : DefinedData → List ObjId
objects_in_defined (constant type value) = objects_in_type type
objects_in_defined (definition type right) = objects_in_type type ++ objects_in_type right
objects_in_defined (alias type) = objects_in_type type
objects_in_defined (variable type) = objects_in_type type
objects_in_defined (field type) = objects_in_type type
objects_in_defined (function type) = objects_in_type type
objects_in_defined (imported path) = []

abbrev pub objects_in_what : WhatData → List ObjId
objects_in_what (defined name kind) = objects_in_defined kind
objects_in_what (used name declared) = []
objects_in_what (expression end mode type value) = objects_in_some type

-- the objects that the types of these lines name, each once, in the order in which they first stand there
abbrev pub named_in : Outline → List LineData → List NamedData
named_in outline lines =
    map (λ entry. named_by outline entry.0) (insert_all same_object [] (map (λ d. (d, d)) (flat_map (λ line. objects_in_what line.what) lines)))
