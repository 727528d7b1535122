-- Iota (Go specification).
-- Decides which number each identifier `iota` of a package stands for. That an identifier denotes the predeclared iota is
-- left to scopes: of one that denotes something else the number is not asked.
use Rattle.std.specs.Prelude.{ℕ, ◌+◌, Bool, true, false, if◌then◌else◌, List, [], ◌∷◌, ◌++◌, Option, None, Some, codes}
use Rattle.std.specs.List.{flat_map}
use Rattle.go_tree.specs.declared.node.NodeId.{NodeId}
use Rattle.go_tree.specs.declared.node_kind.NodeKind.{NodeKind}
use Rattle.go_tree.specs.declared.node_kind.NodeKind.TheVariants.{ConstDecl, ConstGroup, Name}
use Rattle.go_tree.specs.Tree.{Tree, Trees, branch, more_trees, no_trees}
use Rattle.go_module.specs.Modules.Module.{FileData, PackageData}
use Rattle.go_module.specs.Modules.Paths.{same_text}

-- "Within a constant declaration": the nodes whose parts are its constant specs
abbrev pub has_specs : NodeKind → Bool
has_specs ConstDecl = true
has_specs ConstGroup = true
has_specs kind = false

abbrev pub is_iota : NodeKind → List ℕ → Bool
is_iota Name text = same_text text (codes "iota")
is_iota kind text = false

-- an identifier with its number, where a constant spec stands around it
abbrev pub numbered : ℕ → Option ℕ → List (NodeId × ℕ)
numbered id None = []
numbered id (Some n) = (record { 0 = id }, n) ∷ []

abbrev pub iota_at : Option ℕ → ℕ → NodeKind → List ℕ → List (NodeId × ℕ)
iota_at around id kind text = if is_iota kind text then numbered id around else []

-- "Its value is the index of the respective ConstSpec in that constant declaration, starting at zero": the number within
-- the n-th part of a node, which is a spec or not, where that around the node is known
abbrev pub round_part : Bool → Option ℕ → ℕ → Option ℕ
round_part true around n = Some n
round_part false around n = around

-- each identifier `iota` in a tree, in source order, with the number of the innermost spec around it
abbrev mutual
  pub iotas_in : Option ℕ → Tree → List (NodeId × ℕ)
  iotas_in around (branch id from to kind text parts) = iota_at around id kind text ++ iotas_in_parts (has_specs kind) around 0 parts

  -- in parts from the n-th on
  pub iotas_in_parts : Bool → Option ℕ → ℕ → Trees → List (NodeId × ℕ)
  iotas_in_parts specs around n no_trees = []
  iotas_in_parts specs around n (more_trees t ts) = iotas_in (round_part specs around n) t ++ iotas_in_parts specs around (n + 1) ts

-- those in the files of a package
abbrev pub iotas_of : PackageData → List (NodeId × ℕ)
iotas_of p = flat_map (λ f. iotas_in None f.tree) p.files
