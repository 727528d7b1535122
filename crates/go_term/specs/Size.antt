-- Limits on types (own).
-- Decides how deep a type is and how many nodes it has, by which it is too deep or too large to be kept.
use Rattle.std.specs.Prelude.{ℕ, ◌+◌, max, nat_lt, Option, Some, None, if◌then◌else◌}
use Rattle.go_term.specs.Types.{Head, list, field, method, union, union_term, TypeData, Parts, made, no_parts, more_parts}
use Rattle.go_term.specs.declared.fault.TermFault.{TermFault}
use Rattle.go_term.specs.declared.fault.TermFault.TheVariants.{Deep, Large}

-- 1 at a type, and 0 at what only holds types
abbrev pub weight : Head → ℕ
weight list = 0
weight (field f) = 0
weight (method m) = 0
weight union = 0
weight (union_term tilde) = 0
weight head = 1

abbrev mutual
  -- that of a type without parts is 1, that of any other 1 more than the deepest of its parts
  pub depth : TypeData → ℕ
  depth (made head parts) = weight head + greatest_depth parts

  pub greatest_depth : Parts → ℕ
  greatest_depth no_parts = 0
  greatest_depth (more_parts t ts) = max (depth t) (greatest_depth ts)

abbrev mutual
  -- how many types stand in it, itself among them
  pub nodes : TypeData → ℕ
  nodes (made head parts) = weight head + nodes_of_all parts

  pub nodes_of_all : Parts → ℕ
  nodes_of_all no_parts = 0
  nodes_of_all (more_parts t ts) = nodes t + nodes_of_all ts

abbrev pub most_depth : ℕ
most_depth = 256

abbrev pub most_nodes : ℕ
most_nodes = 65536

-- Deep where it is too deep, else Large where it has too many nodes
abbrev pub size_fault : TypeData → Option TermFault
size_fault t =
    if nat_lt most_depth (depth t) then Some Deep
    else if nat_lt most_nodes (nodes t) then Some Large
    else None
