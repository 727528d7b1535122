-- Expressions; Types (Go specification).
-- Decides which expressions and types are the operands of a node: those that stand directly in it. What only holds others
-- together, as a field, a signature or a union does, is none and hands up what it holds; and the arrow and the `chan` of a
-- channel type are one node. Literals of functions and of composite types are not built yet.
use Rattle.std.specs.Prelude.{Bool, true, false, if◌then◌else◌, List, [], ◌∷◌, ◌++◌, map}
use Rattle.std.specs.List.{flat_map}
use Rattle.go_tree.specs.declared.node_kind.NodeKind.{NodeKind}
use Rattle.go_tree.specs.declared.node_kind.NodeKind.TheVariants.{ArrowExpr, ChanType, EmbeddedPointer, FuncType, InterfaceType, MethodElem, Params, Signature, StructType, TildeType, Union}
use Rattle.go_tree.specs.Tree.{Tree, branch, Trees, no_trees, more_trees, kind_of, list_of, parts_of}
use Rattle.go_module.specs.Names.Declarations.{Spec}
use Rattle.go_module.specs.Names.Inner.{inner_of, inner_by}

-- whether a part of the second kind, in a node of the first, is no operand and hands up what it holds. The result of a
-- signature can be a type, and `*E` is the type of an embedded field
abbrev pub passes : NodeKind → NodeKind → Bool
passes StructType EmbeddedPointer = false
passes StructType part = true
passes FuncType part = true
passes Signature Params = true
passes Params part = true
passes InterfaceType part = true
passes MethodElem part = true
passes Union TildeType = true
passes ChanType ArrowExpr = true
passes ArrowExpr ChanType = true
passes kind part = false

-- what comes to a node by itself, and what a node holds that is no operand
pub record Folded (A : Type 0) : Type 0 where
  pub own : A
  pub held : List A

abbrev pub handed : {A : Type 0} → NodeKind → Tree × Folded A → List A
handed kind part = if passes kind (kind_of part.0) then part.1.held else part.1.own ∷ []

-- what stands in a node of this kind, by its parts
abbrev pub standing_in : {A : Type 0} → NodeKind → List (Tree × Folded A) → List A
standing_in kind parts = flat_map (handed kind) (inner_by (λ part. part.0) (inner_of kind) parts)

-- behind the arrow and behind the `chan` of a channel type, all is an operand
abbrev pub held_in : {A : Type 0} → NodeKind → List (Tree × Folded A) → List A
held_in ArrowExpr parts = map (λ part. part.1.own) parts
held_in ChanType parts = map (λ part. part.1.own) parts
held_in kind parts = standing_in kind parts

-- what comes to a node, where this comes to one from what comes to its operands
module _ {A : Type 0} (own : Tree → List A → A) where
  abbrev mutual
    pub folded : Tree → Folded A
    folded (branch id from to kind text parts) = record {
      own = own (branch id from to kind text parts) (standing_in kind (folded_each parts));
      held = held_in kind (folded_each parts);
    }

    pub folded_each : Trees → List (Tree × Folded A)
    folded_each no_trees = []
    folded_each (more_trees t ts) = (t, folded t) ∷ folded_each ts

-- the operands of a node, in source order
abbrev pub operands_of : Tree → List Tree
operands_of t = standing_in (kind_of t) (folded_each (λ node operands. node) (parts_of t))

-- what a node holds, if it is no operand itself
abbrev pub held_by : NodeKind → Tree → List Tree
held_by ArrowExpr t = list_of (parts_of t)
held_by ChanType t = list_of (parts_of t)
held_by kind t = operands_of t

abbrev pub held_of : Tree → List Tree
held_of t = held_by (kind_of t) t

-- what a part hands up to a node of this kind: itself if it is an operand, else what it holds
abbrev pub operands_from : NodeKind → Tree → List Tree
operands_from kind part = if passes kind (kind_of part) then held_of part else part ∷ []

-- a node, and all that stands in its operands, a node before its operands: the nodes that can have records, and names of
-- packages before a `.`, which have none
abbrev pub with_all : Tree → List (List Tree) → List Tree
with_all node operands = node ∷ flat_map (λ nodes. nodes) operands

abbrev pub expressions_in : Tree → List Tree
expressions_in t = (folded with_all t).own

-- those of the types and the expressions of a spec
abbrev pub expressions_in_parts : Spec → List Tree
expressions_in_parts spec = flat_map expressions_in (spec.types ++ spec.values)
