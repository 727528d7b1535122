-- Where the operands of a node of a built form have records that name good objects only, and a type and a value where they are
-- those of constants, only headers of good objects are asked of it, and its record is such a one.
use Rattle.std.proofs.Common.{ℕ}
use Rattle.go_term.specs.declared.term.Dir.TheVariants.{Both, Receive, Send}
use Rattle.go_tree.specs.declared.node_kind.NodeKind.TheVariants.{ArrayType, ArrowExpr, ChanType, EmbeddedPointer, FuncType, IntLit, InterfaceType, MapType, Name, ParenExpr, RuneLit, SelectorExpr, SliceType, StarExpr, StringLit, StructType}
use Rattle.go_tree.specs.Tree.{Tree, branch, id_of, kind_of, list_of, more_trees, no_trees}
use Rattle.go_constructs.specs.Meaning.{meaning_by}
use Rattle.go_judge.specs.Naming.{Naming}
use Rattle.go_model.specs.Outcomes.Walk.{construct, many_operands}
use Rattle.go_laws.proofs.Denoting.{MeansGood}
use Rattle.go_laws.proofs.PlainLemmas.{ArePlain, integer_plain, name_plain, parentheses_plain, rune_plain, selector_plain, string_plain}
use Rattle.go_laws.proofs.PlainOperatorLemmas.{operator_plain}
use Rattle.go_laws.proofs.PlainTypeLemmas.{array_plain, channel_plain, function_plain, interface_plain, map_plain, pointer_plain, slice_plain, struct_plain}

-- and so of a node of another form, of which nothing is asked
pub construct_plain : (naming : Naming) (good : ℕ → Type 0) → MeansGood naming good → (t : Tree) → ArePlain good (construct naming t)
construct_plain naming good means (branch id from to IntLit text parts) = integer_plain good text
construct_plain naming good means (branch id from to RuneLit text parts) = rune_plain good text
construct_plain naming good means (branch id from to StringLit text parts) = string_plain good text
construct_plain naming good means (branch id from to Name text parts) = name_plain good (meaning_by naming id) (means id)
construct_plain naming good means (branch id from to SelectorExpr text (more_trees operand (more_trees selected no_trees))) = selector_plain good (meaning_by naming (id_of selected)) (means (id_of selected))
construct_plain naming good means (branch id from to ParenExpr text parts) = parentheses_plain good
construct_plain naming good means (branch id from to StarExpr text parts) = pointer_plain good
construct_plain naming good means (branch id from to EmbeddedPointer text parts) = pointer_plain good
construct_plain naming good means (branch id from to SliceType text parts) = slice_plain good
construct_plain naming good means (branch id from to ArrayType text parts) = array_plain good
construct_plain naming good means (branch id from to MapType text parts) = map_plain good
construct_plain naming good means (branch id from to ChanType text (more_trees (branch i f t ArrowExpr x element) parts)) = channel_plain good Send
construct_plain naming good means (branch id from to ChanType text parts) = channel_plain good Both
construct_plain naming good means (branch id from to ArrowExpr text (more_trees (branch i f t ChanType x element) parts)) = channel_plain good Receive
construct_plain naming good means (branch id from to FuncType text (more_trees signature parts)) = function_plain good (many_operands (branch id from to FuncType text (more_trees signature parts))) signature
construct_plain naming good means (branch id from to StructType text decls) = struct_plain good naming.home (many_operands (branch id from to StructType text decls)) (list_of decls)
construct_plain naming good means (branch id from to InterfaceType text elems) = interface_plain good naming.home (many_operands (branch id from to InterfaceType text elems)) (list_of elems)
construct_plain naming good means t = operator_plain good (kind_of t)
