-- The construct of a node of each kind, and the outcome of the node by it.
use Rattle.std.proofs.Common.{◌≡◌, List, map, sym, ap, ◌∙◌}
use Rattle.go_tree.specs.declared.node_kind.NodeKind.TheVariants.{IntLit, ParenExpr, RuneLit, SelectorExpr, StringLit}
use Rattle.go_tree.specs.Tree.{Tree, branch, id_of, kind_of, more_trees, no_trees, parts_of, text_of}
use Rattle.go_operands.specs.Operands.{operands_of}
use Rattle.go_judge.specs.Headers.{Headers}
use Rattle.go_judge.specs.Judged.{Construct, OutcomeData, judged}
use Rattle.go_judge.specs.Naming.{Naming}
use Rattle.go_judge.specs.Records.{HeaderData, RecData}
use Rattle.go_constructs.specs.Literal.{integer_literal, rune_literal, string_literal}
use Rattle.go_constructs.specs.Meaning.{meaning_by}
use Rattle.go_constructs.specs.Parentheses.{parentheses}
use Rattle.go_constructs.specs.Selector.{selector}
use Rattle.go_model.specs.Outcomes.Walk.{construct, outcome}
use Rattle.go_model.proofs.OutcomeLemmas.{outcome-operands}

pub node_outcome : (naming : Naming) (headers : Headers) (t : Tree) (xs : List (OutcomeData RecData)) (s : Construct HeaderData RecData) → construct naming t ≡ s
    → (x : OutcomeData RecData) → x ≡ judged headers s xs → x ≡ judged headers (construct naming t) xs
node_outcome naming headers t xs s same x is = is ∙ ap (λ c. judged headers c xs) (sym same)

-- by the outcomes of its operands, over what stayed
pub walked_outcome : (naming inner : Naming) (headers more : Headers) → inner ≡ naming → more ≡ headers → (t : Tree) (xs : List (OutcomeData RecData)) → xs ≡ map (outcome naming headers) (operands_of t)
    → (x : OutcomeData RecData) → x ≡ judged more (construct inner t) xs → x ≡ outcome naming headers t
walked_outcome naming inner headers more named same t xs parts x is =
    is ∙ (λ j. judged (same j) (construct (named j) t) (parts j)) ∙ sym (outcome-operands naming headers t)

pub at_integer : (naming : Naming) (t : Tree) → kind_of t ≡ IntLit → construct naming t ≡ integer_literal (text_of t)
at_integer naming (branch id from to kind text parts) e = ap (λ k. construct naming (branch id from to k text parts)) e

pub at_rune : (naming : Naming) (t : Tree) → kind_of t ≡ RuneLit → construct naming t ≡ rune_literal (text_of t)
at_rune naming (branch id from to kind text parts) e = ap (λ k. construct naming (branch id from to k text parts)) e

pub at_string : (naming : Naming) (t : Tree) → kind_of t ≡ StringLit → construct naming t ≡ string_literal (text_of t)
at_string naming (branch id from to kind text parts) e = ap (λ k. construct naming (branch id from to k text parts)) e

pub at_parentheses : (naming : Naming) (t : Tree) → kind_of t ≡ ParenExpr → construct naming t ≡ parentheses
at_parentheses naming (branch id from to kind text parts) e = ap (λ k. construct naming (branch id from to k text parts)) e

pub at_selector : (naming : Naming) (t x f : Tree) → kind_of t ≡ SelectorExpr → parts_of t ≡ more_trees x (more_trees f no_trees) → construct naming t ≡ selector (meaning_by naming (id_of f))
at_selector naming (branch id from to kind text parts) x f e p = (λ i. construct naming (branch id from to (e i) text (p i)))
