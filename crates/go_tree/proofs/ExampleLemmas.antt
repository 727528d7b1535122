-- Files that are read by computation, and files that are refused.
use Rattle.std.proofs.Common.{◌≡◌, ℕ, List, [], ◌∷◌, refl, Option, None, Some}
use Rattle.go_tree.specs.declared.token.Token.{Token}
use Rattle.go_tree.specs.declared.token.TokenKind.{TokenKind}
use Rattle.go_tree.specs.declared.node_kind.NodeKind.{NodeKind}
use Rattle.go_tree.specs.declared.production.Production.{Production}
use Rattle.go_tree.specs.declared.production.Production.TheVariants.{File}
use Rattle.go_tree.specs.Tree.{Tree, branch, no_trees, trees_of}
use Rattle.go_tree.specs.Grammar.RightSide.{Call}
use Rattle.go_tree.specs.Grammar.Trees.Reading.{State, before, tree_read}
use Rattle.go_tree.specs.Grammar.Tables.Prediction.{AllDecided}
use Rattle.go_tree.specs.Grammar.Trees.Sentence.{production, tables, Derives, IsSentence}
use Rattle.go_tree.proofs.RunLemmas.{Outcome, Whole, Stuck, Short, run, run_reads, run_stuck}
use Rattle.go_tree.proofs.GrammarLemmas.{tables_right}

-- a token, a node and a leaf of an example
abbrev pub at : TokenKind → ℕ → ℕ → Token
at kind from to = record { kind = kind; start = from; end = to }

abbrev pub node : NodeKind → ℕ → ℕ → List Tree → Tree
node kind from to parts = branch 0 from to kind [] (trees_of parts)

abbrev pub leaf : NodeKind → ℕ → ℕ → List ℕ → Tree
leaf kind from to text = branch 0 from to kind text no_trees

abbrev pub reading : List ℕ → List Token → Outcome
reading bytes tokens = run Production production bytes tables tables_right 5000 (Call File ∷ []) (before tokens)

abbrev tree_of_rest : State → List Token → Option Tree
tree_of_rest s [] = tree_read s.open_nodes
tree_of_rest s (t ∷ ts) = None

abbrev pub tree_of_outcome : Outcome → Option Tree
tree_of_outcome (Whole s) = tree_of_rest s s.rest
tree_of_outcome Stuck = None
tree_of_outcome Short = None

pub derives : (bytes : List ℕ) (tokens : List Token) (t : Tree) → tree_of_outcome (reading bytes tokens) ≡ Some t → Derives bytes File tokens t
derives bytes tokens t h = go (reading bytes tokens) refl h
  where
    all_read : (s : State) (r : List Token) → reading bytes tokens ≡ Whole s → s.rest ≡ r → tree_of_rest s r ≡ Some t → Derives bytes File tokens t
    all_read s [] q z h = record { whole = record { end = s; reads = run_reads Production production bytes tables tables_right 5000 (Call File ∷ []) (before tokens) s q; all = z }; tree = h }
    all_read s (u ∷ us) q z h = cc

    go : (o : Outcome) → reading bytes tokens ≡ o → tree_of_outcome o ≡ Some t → Derives bytes File tokens t
    go (Whole s) q h = all_read s s.rest q refl h
    go Stuck q h = cc
    go Short q h = cc

pub refused : (bytes : List ℕ) (tokens : List Token) → reading bytes tokens ≡ Stuck → IsSentence bytes tokens → ⊥
refused bytes tokens h d =
    let alone : AllDecided tables (Call File ∷ []) = ((λ k h. cc), tt) in
    run_stuck Production production bytes tables tables_right 5000 (Call File ∷ []) (before tokens) alone h d.1.whole.end d.1.whole.reads d.1.whole.all
