-- The sizes that are measured: a depth and a number of nodes past the limits are one more than these.
use Rattle.std.specs.Prelude.{◌≡◌, ℕ, ◌+◌, max, min, nat_lt, map, if◌then◌else◌, Result, Ok, Err}
use Rattle.go_base.specs.declared.ids.ObjId.{ObjId}
use Rattle.go_term.specs.declared.size.TermSize.{TermSize}
use Rattle.go_term.specs.declared.size.Arguments.{Arguments}
use Rattle.go_term.specs.declared.fault.TermFault.{TermFault}
use Rattle.go_term.specs.declared.fault.TermFault.TheVariants.{Deep, Large}
use Rattle.go_term.specs.Size.{depth, nodes, greatest_depth, nodes_of_all, most_depth, most_nodes}
use Rattle.go_term.specs.Types.{param, TypeData, Parts, made, no_parts}
use Rattle.go_term.specs.View.{type_of}

abbrev pub size_by : ℕ → ℕ → TermSize
size_by d n = record { depth = min d (most_depth + 1); nodes = min n (most_nodes + 1) }

abbrev pub size_of : TypeData → TermSize
size_of t = size_by (depth t) (nodes t)

abbrev pub size_of_all : Parts → TermSize
size_of_all ts = size_by (greatest_depth ts) (nodes_of_all ts)

abbrev pub param_type : ObjId → ℕ → TypeData
param_type d i = made (param d i) no_parts

-- parts of one size beside others
abbrev pub joined : TermSize → Parts → TermSize
joined a ts = size_by (max a.depth (greatest_depth ts)) (a.nodes + nodes_of_all ts)

-- the sizes are those of the arguments
abbrev pub AreSized : Arguments → Type 0
AreSized a = a.sizes.now ≡ map (λ t. size_of (type_of t)) a.to.now

-- what is answered of a type of this size
abbrev pub check_of : TermSize → Result (Unit {0}) TermFault
check_of size = if nat_lt most_depth size.depth then Err Deep else if nat_lt most_nodes size.nodes then Err Large else Ok tt
