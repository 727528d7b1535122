-- In the grammar what is read leaves a node: by computation.
use Rattle.std.proofs.Common.{◌≡◌, ℕ, true, false, List, [], ◌∷◌, ◌++◌, refl, subst, append_assoc}
use Rattle.go_tree.specs.declared.token.Token.{Token}
use Rattle.go_tree.specs.declared.production.Production.{Production}
use Rattle.go_tree.specs.declared.production.Production.TheVariants as p
use Rattle.go_tree.specs.declared.node_kind.NodeKind.TheVariants as k
use Rattle.go_tree.specs.Tree.{Tree}
use Rattle.go_tree.specs.Grammar.Trees.Reading.{OpenNode, State, Reads, before, node_read}
use Rattle.go_tree.specs.Grammar.RightSide.{RightSide, Call, Nothing, Seq}
use Rattle.go_tree.specs.Grammar.Tables.Completion.{completion, tokens_of}
use Rattle.go_tree.specs.Grammar.Tables.Rank.{top_rank}
use Rattle.go_tree.specs.Grammar.Trees.Fronts.{Passes}
use Rattle.go_tree.specs.Grammar.Trees.Sentence.{production, texts, is_whole, IsA, Derives, Begins}
use Rattle.go_tree.proofs.SentenceLemmas.{front_lem}
use Rattle.go_tree.proofs.ShapeLemmas.{Shape, flow, leaves_node}
use Rattle.go_tree.proofs.BalanceLemmas.{has_node, one_node}
use Rattle.go_tree.proofs.ByProduction.{by_production, by_test}
use Rattle.std.specs.Bool.{MatchBool}
use Rattle.std.proofs.lemmas.Bool.{MatchBool-at_true}

-- which of the innermost open nodes a production needs, and of which of them a part
abbrev pub needs : Production → Shape
needs p.TypeSpecBracket = false ∷ false ∷ false ∷ []
needs (p.More l) = true ∷ []
needs p.TypeArgs = true ∷ []
needs p.ParamAfterName = true ∷ false ∷ []
needs p.FieldAfterName = true ∷ false ∷ []
needs (p.OrTail w) = true ∷ []
needs (p.AndTail w) = true ∷ []
needs (p.CompareTail w) = true ∷ []
needs (p.AddTail w) = true ∷ []
needs (p.MulTail w) = true ∷ []
needs p.AfterName = true ∷ []
needs p.AfterSelector = true ∷ []
needs p.AfterIndex = true ∷ []
needs p.Suffix = true ∷ []
needs p.CallRest = false ∷ false ∷ []
needs p.AfterArg = false ∷ false ∷ []
needs p.Tails = true ∷ []
needs p.CallOrDot = true ∷ []
needs (p.AfterExpr w) = true ∷ []
needs (p.SimpleTail w) = true ∷ []
needs (p.ClauseBody c) = false ∷ false ∷ []
needs (p.AfterClauseStmt c) = false ∷ false ∷ []
needs p.ForAfterExpr = true ∷ false ∷ []
needs p.ForClauses = false ∷ false ∷ []
needs _ = false ∷ []

needs_checked : (n : Production) → leaves_node (flow needs (production n) (needs n)) ≡ true
needs_checked = by_test _ refl

whole_checked : (n : Production) → MatchBool (is_whole n) (needs n ≡ false ∷ []) (Unit {0})
whole_checked = by_production _ assumption

whole_needs : (n : Production) → is_whole n ≡ true → needs n ≡ false ∷ []
whole_needs n h = MatchBool-at_true _ _ h (whole_checked n)

-- what is an n has a tree
pub tree_lem : (bytes : List ℕ) (n : Production) (tokens : List Token) → is_whole n ≡ true → IsA bytes n tokens → (t : Tree) × Derives bytes n tokens t
tree_lem bytes n tokens whole d =
    let node = has_node Production production bytes needs needs_checked n (whole_needs n whole) (before tokens) d.end (record { start = 0; parts = [] }) d.reads refl in
    (node.0, record { whole = d; tree = node.1 })

-- tokens that a reading passes begin an n, and the completion of what it leaves open completes them
pub front_tree_lem : (bytes : List ℕ) (n : Production) (front : List Token) (hs : List (RightSide Production)) → is_whole n ≡ true → Passes bytes n front hs → (t : Tree) × Derives bytes n (front ++ tokens_of (completion texts top_rank hs)) t
front_tree_lem bytes n front hs whole passes = tree_lem bytes n (front ++ tokens_of (completion texts top_rank hs)) whole (front_lem bytes n front hs passes)

-- what stands between the begin of a node and its end
abbrev pub inside : RightSide Production → RightSide Production
inside (Seq g (Seq h f)) = h
inside _ = Nothing

-- what a file reads is one node
pub file_node : (bytes : List ℕ) (tokens : List Token) (e : State) → Reads Production production bytes (Call p.File ∷ []) (before tokens) e → (g : OpenNode) × (e.open_nodes ≡ record { start = 0; parts = node_read bytes k.File e.last g ∷ [] } ∷ [])
file_node bytes tokens e d = one_node Production production bytes needs needs_checked p.File (inside (production p.File)) k.File refl true refl (before tokens) e (record { start = 0; parts = [] }) d refl

-- what begins such tokens begins an n too
pub front_begins_lem : (bytes : List ℕ) (n : Production) (front more : List Token) (hs : List (RightSide Production)) → is_whole n ≡ true → Passes bytes n (front ++ more) hs → Begins bytes n front
front_begins_lem bytes n front more hs whole passes =
    let z = front_tree_lem bytes n (front ++ more) hs whole passes in
    let end : List Token = tokens_of (completion texts top_rank hs) in
    (more ++ end, z.0, subst (λ x. Derives bytes n x z.0) (append_assoc front more end) z.1)
