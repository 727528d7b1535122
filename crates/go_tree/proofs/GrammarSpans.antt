-- In the grammar each node has a token: by computation.
use Rattle.std.proofs.Common.{◌≡◌, ℕ, Bool, true, false, List, refl, sym, ap, subst, ◌∙◌, Some}
use Rattle.go_tree.specs.declared.token.Token.{Token}
use Rattle.go_tree.specs.declared.production.Production.{Production}
use Rattle.go_tree.specs.declared.production.Production.TheVariants as p
use Rattle.go_tree.specs.declared.node_kind.NodeKind.TheVariants as k
use Rattle.go_tree.specs.Tree.{Tree}
use Rattle.go_tree.specs.Grammar.RightSide.{Do, Seq, Close}
use Rattle.go_tree.specs.Grammar.Trees.Reading.{node_read, next_start, tree_read}
use Rattle.go_tree.specs.Grammar.Trees.Sentence.{production, tables, Derives}
use Rattle.go_tree.specs.Grammar.Trees.Spans.{HasSpans, HasRun}
use Rattle.go_tree.proofs.DecidedTests.{implied}
use Rattle.go_tree.proofs.GrammarLemmas.{tables_right}
use Rattle.go_tree.proofs.SpanActLemmas.{ends_early, has_tokens}
use Rattle.go_tree.proofs.SpanLemmas.{tree_spans, last_read, whole_run}
use Rattle.go_tree.proofs.OutermostLemmas.{Begun, begun_by_node}
use Rattle.go_tree.proofs.GrammarBalance.{inside, file_node}
use Rattle.go_tree.proofs.TruthLemmas.{implies}
use Rattle.go_tree.proofs.ByProduction.{by_test}

-- the productions in which a node can end before a token is passed
abbrev early : Production → Bool
early p.ParamAfterName = true
early p.FieldAfterName = true
early (p.AfterExpr w) = true
early (p.SimpleTail w) = true
early (p.ClauseBody c) = true
early (p.AfterClauseStmt c) = true
early p.ForAfterExpr = true
early _ = false

early_checked : (n : Production) → implied (ends_early tables early (production n)) (early n) ≡ true
early_checked = by_test _ refl

tokens_checked : (n : Production) → has_tokens tables early (production n) ≡ true
tokens_checked = by_test _ refl

-- each node of a tree has a run of the tokens
pub spans_lem : (bytes : List ℕ) (n : Production) (tokens : List Token) (t : Tree) → Derives bytes n tokens t → HasSpans tokens t
spans_lem bytes n tokens t d = tree_spans Production production bytes tables early (λ m. implies (ends_early tables early (production m)) (early m) (early_checked m)) tables_right.empty tokens_checked n tokens d.whole.end t d.whole.reads d.whole.all d.tree

-- a file has all tokens
pub file_lem : (bytes : List ℕ) (tokens : List Token) (t : Tree) → Derives bytes p.File tokens t → HasRun tokens t
file_lem bytes tokens t d =
    let e = d.whole.end in
    let node = file_node bytes tokens e d.whole.reads in
    let x : Tree = node_read bytes k.File e.last node.0 in
    let same : Some x ≡ Some t = sym (ap tree_read node.1) ∙ d.tree in
    let start = subst (Begun (next_start 0 tokens)) node.1 (begun_by_node Production production bytes p.File (Seq (inside (production p.File)) (Do (Close k.File))) refl tokens e d.whole.reads) in
    let last = last_read Production production bytes tables early (λ m. implies (ends_early tables early (production m)) (early m) (early_checked m)) tables_right.empty tokens_checked p.File tokens e d.whole.reads d.whole.all in
    let q : x ≡ t = inner x t same in
    subst (HasRun tokens) q (whole_run tokens x (subst (HasSpans tokens) (sym q) (spans_lem bytes p.File tokens t d)) start last)
  where
    inner : (x y : Tree) → Some x ≡ Some y → x ≡ y
    inner x y h = cc
