-- Expressions; Types (Go specification).
-- Decides the outcome of each node of an expression or a type: its construct, by its kind, judged with the outcomes of its
-- operands. Which nodes these are: `Operands` of go_operands. Each construct has a file of its own.
use Rattle.std.specs.Prelude.{ℕ, List, length, map}
use Rattle.go_tree.specs.declared.node_kind.NodeKind.TheVariants.{ArrayType, ArrowExpr, ChanType, EmbeddedPointer, FuncType, IntLit, InterfaceType, MapType, Name, ParenExpr, RuneLit, SelectorExpr, SliceType, StarExpr, StringLit, StructType}
use Rattle.go_tree.specs.Tree.{Tree, branch, id_of, kind_of, list_of, more_trees, no_trees}
use Rattle.go_term.specs.declared.term.Dir.TheVariants.{Both, Receive, Send}
use Rattle.go_operands.specs.Operands.{folded, operands_of}
use Rattle.go_judge.specs.Headers.{Headers}
use Rattle.go_judge.specs.Naming.{Naming}
use Rattle.go_constructs.specs.Meaning.{meaning_by}
use Rattle.go_judge.specs.Judged.{OutcomeData, Construct, judged}
use Rattle.go_constructs.specs.Array.{array}
use Rattle.go_constructs.specs.Channel.{channel}
use Rattle.go_constructs.specs.Function.{function}
use Rattle.go_constructs.specs.Interface.{interface_of}
use Rattle.go_constructs.specs.Literal.{integer_literal, rune_literal, string_literal}
use Rattle.go_constructs.specs.MapType.{map_of}
use Rattle.go_constructs.specs.Name.{name}
use Rattle.go_constructs.specs.Parentheses.{parentheses}
use Rattle.go_constructs.specs.Pointer.{pointer_to}
use Rattle.go_constructs.specs.Selector.{selector}
use Rattle.go_constructs.specs.Slice.{slice}
use Rattle.go_constructs.specs.Struct.{struct_of}
use Rattle.go_constructs.specs.Operators.Nodes.{operator}
use Rattle.go_judge.specs.Records.{HeaderData, RecData}

abbrev pub many_operands : Tree → ℕ
many_operands t = length (operands_of t)

-- the construct of a node, where this is known of identifiers
abbrev pub construct : Naming → Tree → Construct HeaderData RecData
construct naming (branch id from to IntLit text parts) = integer_literal text
construct naming (branch id from to RuneLit text parts) = rune_literal text
construct naming (branch id from to StringLit text parts) = string_literal text
construct naming (branch id from to Name text parts) = name (meaning_by naming id)
construct naming (branch id from to SelectorExpr text (more_trees operand (more_trees selected no_trees))) = selector (meaning_by naming (id_of selected))
construct naming (branch id from to ParenExpr text parts) = parentheses
construct naming (branch id from to StarExpr text parts) = pointer_to
construct naming (branch id from to EmbeddedPointer text parts) = pointer_to
construct naming (branch id from to SliceType text parts) = slice
construct naming (branch id from to ArrayType text parts) = array
construct naming (branch id from to MapType text parts) = map_of
construct naming (branch id from to ChanType text (more_trees (branch i f t ArrowExpr x element) parts)) = channel Send
construct naming (branch id from to ChanType text parts) = channel Both
construct naming (branch id from to ArrowExpr text (more_trees (branch i f t ChanType x element) parts)) = channel Receive
construct naming (branch id from to FuncType text (more_trees signature parts)) = function (many_operands (branch id from to FuncType text (more_trees signature parts))) signature
construct naming (branch id from to StructType text decls) = struct_of naming.home (many_operands (branch id from to StructType text decls)) (list_of decls)
construct naming (branch id from to InterfaceType text elems) = interface_of naming.home (many_operands (branch id from to InterfaceType text elems)) (list_of elems)
construct naming t = operator (kind_of t)

-- over these headers
abbrev pub outcome : Naming → Headers → Tree → OutcomeData RecData
outcome naming headers t = (folded (λ node operands. judged headers (construct naming node) operands) t).own

-- those of a node's operands
abbrev pub operand_outcomes : Naming → Headers → Tree → List (OutcomeData RecData)
operand_outcomes naming headers t = map (outcome naming headers) (operands_of t)
