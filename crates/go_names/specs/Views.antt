-- What the specs and declarations of the program stand for.
use Rattle.std.specs.Prelude.{ℕ, ◌+◌, List, [], ◌∷◌, map}
use Rattle.std.specs.List.{flat_map}
use Rattle.std.specs.Borrow.{Bor}
use Rattle.go_tree.specs.declared.node.Node.{Node}
use Rattle.go_tree.specs.Tree.{Tree, tree_of}
use Rattle.go_module.specs.Modules.Module.{FileData}
use Rattle.go_module.specs.Names.Declarations.{Spec, Declaration, specs_in_file}
use Rattle.go_names.specs.declared.declaration.Declaration.{Declaration as OwnDeclaration}
use Rattle.go_names.specs.declared.spec.Spec.{Spec as OwnSpec}

abbrev pub trees_at : List (Bor Node) → List Tree
trees_at nodes = map (λ node. tree_of node.now) nodes

abbrev pub spec_view : OwnSpec → Spec
spec_view s = record {
  file = s.file;
  kind = s.kind;
  node = tree_of s.node.now;
  names = map tree_of s.names.now;
  types = map tree_of s.types.now;
  values = map tree_of s.values.now;
  told_at = s.told_at;
}

abbrev pub specs_view : List OwnSpec → List Spec
specs_view specs = map spec_view specs

abbrev pub declaration_view : OwnDeclaration → Declaration
declaration_view d = record {
  file = d.file;
  kind = d.kind;
  name = tree_of d.name.now;
  types = map tree_of d.types.now;
  values = map tree_of d.values.now;
  built = d.built;
}

abbrev pub declarations_view : List OwnDeclaration → List Declaration
declarations_view list = map declaration_view list

-- the specs of each of these files, of which the first has this place
abbrev pub specs_by_file : ℕ → List FileData → List (List Spec)
specs_by_file file [] = []
specs_by_file file (f ∷ files) = specs_in_file file f.tree ∷ specs_by_file (file + 1) files

-- one list of those of all files
abbrev pub all_specs : List (List Spec) → List Spec
all_specs lists = flat_map (λ list. list) lists
