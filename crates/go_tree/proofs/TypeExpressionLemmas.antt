-- What is read as a type is read as an expression, with the same tree; and that tree is written as a type is.
use Rattle.std.proofs.Common.{◌≡◌, ℕ, zero, suc, ◌≤◌, true, false, List, [], ◌∷◌, ◌++◌, length, refl, sym, ap, subst, ◌∙◌, Some, ◌&&◌, append_assoc, arith}
use Rattle.go_tree.specs.declared.token.Token.{Token}
use Rattle.go_tree.specs.declared.token.TokenKind.TheVariants.{Ident, KwChan, Mul, Arrow, LeftParen, LeftBracket, Comma, Dot, RightParen, RightBracket}
use Rattle.go_tree.specs.declared.node_kind.NodeKind.{NodeKind}
use Rattle.go_tree.specs.declared.node_kind.NodeKind.TheVariants as k
use Rattle.go_tree.specs.declared.production.Form.TheVariants.{Plain}
use Rattle.go_tree.specs.declared.production.Items.{Items}
use Rattle.go_tree.specs.declared.production.Items.TheVariants.{Types, Indexes}
use Rattle.go_tree.specs.declared.production.Production.{Production}
use Rattle.go_tree.specs.declared.production.Production.TheVariants as p
use Rattle.go_tree.specs.Tree.{Tree, start_of, trees_of}
use Rattle.go_tree.specs.Grammar.RightSide.{RightSide, Call, Nothing, Seq, Or, Many, When, Pass, Reopen, Close, OneOf, Both}
use Rattle.go_tree.specs.Grammar.Trees.Reading.{State, OpenNode, at_end, does, calls, nothing, in_turn, left, right, done, chosen, passed_by, looks, acted, next_start, reopen, close_last, node_read}
use Rattle.go_tree.specs.Grammar.Trees.TypeTrees.{is_name, is_type_name, is_type, all_types}
use Rattle.go_tree.specs.Grammar.Words.{◌•◌, tok, the, opt, many, node, extend}
use Rattle.go_tree.specs.Grammar.Expressions.{dot, index}
use Rattle.go_tree.specs.Grammar.Types.{type_name_rest, word_type}
use Rattle.go_tree.specs.Grammar.Trees.Sentence.{production, ReadsGo}
use Rattle.go_tree.proofs.ReadingLemmas.{split, join, in_turn_of}
use Rattle.go_tree.proofs.NetEffectLemmas.{with_parts}
use Rattle.go_tree.proofs.ReadingStepLemmas.{Passed, passes, opens, reopens, closes, reads_less, pass_less, NodeParts, node_parts, node_back, last_act, ExtendParts, extend_parts, behind_argument, bracket_next, comma_next, paren_next, left_bracket_next, both_next}
use Rattle.go_tree.proofs.TypeTreeLemmas.{index_lem, types_behind, and_true, name_is_type}

-- a `]`, `,` or `)` comes next
abbrev pub EndsArgument : List Token → Type 0
EndsArgument ts = looks (OneOf behind_argument) ts ≡ true

module _ (bytes : List ℕ) where
  -- ---- nodes

  pub node_begun : (kind : NodeKind) (body : RightSide Production) (s e : State) (fs : List OpenNode) (n : NodeParts bytes kind body s e) → s.open_nodes ≡ fs → n.begun.open_nodes ≡ record { start = next_start s.last s.rest; parts = [] } ∷ fs
  node_begun kind body s e fs n are = (opens bytes s n.begun n.opened).nodes ∙ ap (λ x. record { start = next_start s.last s.rest; parts = [] } ∷ x) are

  pub node_ended : (kind : NodeKind) (ends e : State) (h f : OpenNode) (fs : List OpenNode) → acted bytes (Close kind) ends ≡ Some e → ends.open_nodes ≡ h ∷ f ∷ fs → e.open_nodes ≡ with_parts (node_read bytes kind ends.last h ∷ []) f ∷ fs
  node_ended kind ends e h f fs q are = (closes bytes kind ends e q).nodes ∙ ap (close_last bytes kind ends.last) are

  pub extend_begun : (s m : State) (x : Tree) (f : OpenNode) (fs : List OpenNode) → acted bytes Reopen s ≡ Some m → s.open_nodes ≡ with_parts (x ∷ []) f ∷ fs → m.open_nodes ≡ record { start = start_of x; parts = x ∷ [] } ∷ f ∷ fs
  extend_begun s m x f fs q are = (reopens bytes s m q).nodes ∙ ap reopen are

  pub record NameRead (s e : State) (f : OpenNode) (fs : List OpenNode) : Type 0 where
    pub tree : Tree
    pub is : is_name tree ≡ true
    pub nodes : e.open_nodes ≡ with_parts (tree ∷ []) f ∷ fs
    pub before : State
    pub behind : State
    pub rest : before.rest ≡ s.rest
    pub ident : Passed Ident before behind
    pub less : suc (length e.rest) ≤ length s.rest

  pub name_lem : (s e : State) (f : OpenNode) (fs : List OpenNode) → ReadsGo bytes (Call p.Name ∷ []) s e → s.open_nodes ≡ f ∷ fs → NameRead s e f fs
  name_lem s e f fs (calls d) are =
      let n = node_parts bytes k.Name (tok Ident) s e d in
      let i = passes bytes Ident n.begun n.ends (last_act bytes (Pass Ident) n.begun n.ends n.reads) in
      let same = (opens bytes s n.begun n.opened).rest in
      let fewer = pass_less bytes Ident n.begun n.ends i in
      let rows = ap length same in
      let end = ap length (closes bytes k.Name n.ends e n.closed).rest in
      record {
        tree = node_read bytes k.Name n.ends.last (record { start = next_start s.last s.rest; parts = [] });
        is = refl;
        nodes = node_ended k.Name n.ends e (record { start = next_start s.last s.rest; parts = [] }) f fs n.closed (i.same ∙ node_begun k.Name (tok Ident) s e (f ∷ fs) n are);
        before = n.begun;
        behind = n.ends;
        rest = same;
        ident = i;
        less = omega (arith, fewer, rows, end);
      }

  pub record SelectorRead (s e : State) (x : Tree) (f : OpenNode) (fs : List OpenNode) : Type 0 where
    pub tree : Tree
    pub is : is_type tree ≡ is_name x
    pub names : is_type_name tree ≡ is_name x
    pub unnamed : is_name tree ≡ false
    pub nodes : e.open_nodes ≡ with_parts (tree ∷ []) f ∷ fs
    pub dot : looks (Both Dot Ident) s.rest ≡ true
    pub less : suc (length e.rest) ≤ length s.rest

  pub selector_lem : (s e : State) (x : Tree) (f : OpenNode) (fs : List OpenNode) → ReadsGo bytes (extend k.SelectorExpr (tok Dot • the p.Name) ∷ []) s e → s.open_nodes ≡ with_parts (x ∷ []) f ∷ fs → SelectorRead s e x f fs
  selector_lem s e x f fs d are = go n.reads
    where
      n : ExtendParts bytes k.SelectorExpr (tok Dot • the p.Name) s e
      n = extend_parts bytes k.SelectorExpr (tok Dot • the p.Name) s e d

      go : ReadsGo bytes ((tok Dot • the p.Name) ∷ []) n.begun n.ends → SelectorRead s e x f fs
      go (in_turn (does {m = m} h c)) =
          let dot = passes bytes Dot n.begun m h in
          let name = name_lem m n.ends (record { start = start_of x; parts = x ∷ [] }) (f ∷ fs) c (dot.same ∙ extend_begun s n.begun x f fs n.reopened are) in
          let fewer = pass_less bytes Dot n.begun m dot in
          let less = name.less in
          let rows = ap length (reopens bytes s n.begun n.reopened).rest in
          let end = ap length (closes bytes k.SelectorExpr n.ends e n.closed).rest in
          let both = both_next Dot Ident n.begun m name.before name.behind dot name.rest name.ident in
          record {
            tree = node_read bytes k.SelectorExpr n.ends.last (record { start = start_of x; parts = name.tree ∷ x ∷ [] });
            is = refl;
            names = refl;
            unnamed = refl;
            nodes = node_ended k.SelectorExpr n.ends e (record { start = start_of x; parts = name.tree ∷ x ∷ [] }) f fs n.closed name.nodes;
            dot = subst (λ y. looks (Both Dot Ident) y ≡ true) (reopens bytes s n.begun n.reopened).rest both;
            less = omega (arith, fewer, less, rows, end);
          }

  -- ---- expressions without operators

  pub level_up : (n b : Production) (tail : RightSide Production) → production n ≡ Seq (Call b) (Many tail) → (s e : State) → ReadsGo bytes (Call b ∷ []) s e → ReadsGo bytes (Call n ∷ []) s e
  level_up n b tail q s e d = calls (subst (λ g. ReadsGo bytes (g ∷ []) s e) (sym q) (in_turn (join Production production bytes d (done at_end))))

  pub unary_is_expr : (s e : State) → ReadsGo bytes (Call (p.Unary Plain) ∷ []) s e → ReadsGo bytes (Call (p.Expr Plain) ∷ []) s e
  unary_is_expr s e d =
      level_up (p.Expr Plain) (p.Conjunction Plain) (the (p.OrTail Plain)) refl s e
      (level_up (p.Conjunction Plain) (p.Comparison Plain) (the (p.AndTail Plain)) refl s e
      (level_up (p.Comparison Plain) (p.Sum Plain) (the (p.CompareTail Plain)) refl s e
      (level_up (p.Sum Plain) (p.Product Plain) (the (p.AddTail Plain)) refl s e
      (level_up (p.Product Plain) (p.Unary Plain) (the (p.MulTail Plain)) refl s e d))))

  pub operand_is_unary : (s e : State) → ReadsGo bytes (Call p.Operand ∷ []) s e → ReadsGo bytes (Call (p.Unary Plain) ∷ []) s e
  operand_is_unary s e d = calls (right (left (in_turn (join Production production bytes d (done at_end)))))

  pub name_is_unary : (s m e : State) → ReadsGo bytes (Call p.Name ∷ []) s m → ReadsGo bytes (opt (the p.AfterName) ∷ []) m e → ReadsGo bytes (Call (p.Unary Plain) ∷ []) s e
  name_is_unary s m e d c = calls (left (in_turn (join Production production bytes d c)))

  -- ---- types of channels

  abbrev pub chan_of : RightSide Production → RightSide Production
  chan_of g = node k.ChanType (tok KwChan • g)

  abbrev ChanMoves : ℕ → Type 0
  ChanMoves j = (s e : State) → suc (length s.rest) ≤ j → ReadsGo bytes (chan_of (the p.AnyType) ∷ []) s e → ReadsGo bytes (Call p.ChanType ∷ []) s e

  pub word_is_type : (s e : State) → ReadsGo bytes (word_type ∷ []) s e → ReadsGo bytes (Call p.AnyType ∷ []) s e
  word_is_type s e d = calls (right (right (right (right (right d)))))

  recv_is_arrow : (j : ℕ) → ChanMoves j → (s e : State) → suc (length s.rest) ≤ suc j → ReadsGo bytes (node k.ArrowExpr (tok Arrow • chan_of (the p.AnyType)) ∷ []) s e → ReadsGo bytes (node k.ArrowExpr (tok Arrow • the p.AnyType) ∷ []) s e
  recv_is_arrow j moves s e less d = go n.reads
    where
      n : NodeParts bytes k.ArrowExpr (tok Arrow • chan_of (the p.AnyType)) s e
      n = node_parts bytes k.ArrowExpr (tok Arrow • chan_of (the p.AnyType)) s e d

      go : ReadsGo bytes ((tok Arrow • chan_of (the p.AnyType)) ∷ []) n.begun n.ends → ReadsGo bytes (node k.ArrowExpr (tok Arrow • the p.AnyType) ∷ []) s e
      go (in_turn (does {m = m} h c)) =
          let fewer = pass_less bytes Arrow n.begun m (passes bytes Arrow n.begun m h) in
          let rows = ap length (opens bytes s n.begun n.opened).rest in
          let chan = moves m n.ends (omega (arith, less, fewer, rows)) c in
          node_back bytes k.ArrowExpr (tok Arrow • the p.AnyType) s n.begun n.ends e n.opened (in_turn (does h (word_is_type m n.ends (right (left chan))))) n.closed

  chan_element : (j : ℕ) → ChanMoves j → (s e : State) → suc (length s.rest) ≤ suc j → ReadsGo bytes (Call p.AnyType ∷ []) s e → ReadsGo bytes (Or (node k.ArrowExpr (tok Arrow • the p.AnyType)) (the p.ChanElem) ∷ []) s e
  chan_element j moves s e less (calls (left d)) = right (calls (left d))
  chan_element j moves s e less (calls (right (left d))) = right (calls (right (left d)))
  chan_element j moves s e less (calls (right (right (left d)))) = right (calls (right (right (left d))))
  chan_element j moves s e less (calls (right (right (right (left d))))) = right (calls (right (right (right (left d)))))
  chan_element j moves s e less (calls (right (right (right (right (left (calls d))))))) = left (recv_is_arrow j moves s e less d)
  chan_element j moves s e less (calls (right (right (right (right (right d)))))) = right (calls (right (right (right (right d)))))

  -- a `<-` behind `chan` belongs to it: read as that of the element it gives the same
  pub chan_moves : (j : ℕ) → ChanMoves j
  chan_moves zero s e less d = absurd (omega (arith, less))
  chan_moves (suc j) s e less d = go (chan_moves j) n.reads
    where
      n : NodeParts bytes k.ChanType (tok KwChan • the p.AnyType) s e
      n = node_parts bytes k.ChanType (tok KwChan • the p.AnyType) s e d

      go : ChanMoves j → ReadsGo bytes ((tok KwChan • the p.AnyType) ∷ []) n.begun n.ends → ReadsGo bytes (Call p.ChanType ∷ []) s e
      go moves (in_turn (does {m = m} h a)) =
          let fewer = pass_less bytes KwChan n.begun m (passes bytes KwChan n.begun m h) in
          let rows = ap length (opens bytes s n.begun n.opened).rest in
          calls (node_back bytes k.ChanType (tok KwChan • Or (node k.ArrowExpr (tok Arrow • the p.AnyType)) (the p.ChanElem)) s n.begun n.ends e n.opened (in_turn (does h (chan_element j moves m n.ends (omega (arith, less, fewer, rows)) a))) n.closed)

  -- ---- types

  pub record TypeRead (s e : State) (f : OpenNode) (fs : List OpenNode) : Type 0 where
    pub tree : Tree
    pub nodes : e.open_nodes ≡ with_parts (tree ∷ []) f ∷ fs
    pub is : is_type tree ≡ true
    pub reads : ReadsGo bytes (Call (p.Unary Plain) ∷ []) s e

  unfoldable pub TypesRead : ℕ → Type 0
  TypesRead j = (s e : State) (f : OpenNode) (fs : List OpenNode) → suc (length s.rest) ≤ j → ReadsGo bytes (Call p.AnyType ∷ []) s e → s.open_nodes ≡ f ∷ fs → EndsArgument e.rest → TypeRead s e f fs

  -- where further arguments can stand, a `]`, `,` or `)` comes next
  pub more_ends : (l : Items) → (item_of : RightSide Production) → production (p.More l) ≡ Seq (tok Comma) (opt (item_of • opt (the (p.More l)))) → (s e : State) → ReadsGo bytes (opt (the (p.More l)) ∷ []) s e → EndsArgument e.rest → EndsArgument s.rest
  more_ends l g q s e (right (nothing at_end)) end = end
  more_ends l g q s e (left (calls d)) end = go (subst (λ x. ReadsGo bytes (x ∷ []) s e) q d)
    where
      go : ReadsGo bytes (Seq (tok Comma) (opt (g • opt (the (p.More l)))) ∷ []) s e → EndsArgument s.rest
      go (in_turn (does {m = m} h c)) = comma_next s m (passes bytes Comma s m h)

  pub record ListRead (more : RightSide Production) (s e : State) (g : OpenNode) (gs : List OpenNode) : Type 0 where
    pub trees : List Tree
    pub nodes : e.open_nodes ≡ with_parts trees g ∷ gs
    pub are : all_types (trees_of trees) ≡ true
    pub reads : ReadsGo bytes (more ∷ []) s e

  pub with_more : (zs : List Tree) (t : Tree) (g : OpenNode) (gs : List OpenNode) → with_parts zs (with_parts (t ∷ []) g) ∷ gs ≡ with_parts (zs ++ (t ∷ [])) g ∷ gs
  with_more zs t g gs = ap (λ x. record { start = g.start; parts = x } ∷ gs) (sym (append_assoc zs (t ∷ []) g.parts))

  both_types : (zs : List Tree) (t : Tree) → is_type t ≡ true → all_types (trees_of zs) ≡ true → all_types (trees_of (zs ++ (t ∷ []))) ≡ true
  both_types zs t h q = types_behind zs t ∙ (ap (λ x. x && all_types (trees_of zs)) h ∙ q)

  MoreRead : ℕ → Type 0
  MoreRead i = (s e : State) (g : OpenNode) (gs : List OpenNode) → length s.rest ≤ i → ReadsGo bytes (opt (the (p.More Types)) ∷ []) s e → s.open_nodes ≡ g ∷ gs → EndsArgument e.rest → ListRead (opt (the (p.More Indexes))) s e g gs

  more_step : (i j : ℕ) → suc i ≤ j → TypesRead j → MoreRead i → MoreRead (suc i)
  unfolding TypesRead MoreRead
  more_step i j low types later s e g gs less (right (nothing at_end)) are end = record { trees = []; nodes = are; are = refl; reads = right (nothing at_end) }
  more_step i j low types later s e g gs less (left (calls (in_turn (does h (right (nothing at_end)))))) are end = record { trees = []; nodes = (passes bytes Comma s e h).same ∙ are; are = refl; reads = left (calls (in_turn (does h (right (nothing at_end))))) }
  more_step i j low types later s e g gs less (left (calls (in_turn (does {m = m} h (left (in_turn d)))))) are end =
      let comma = passes bytes Comma s m h in
      let fewer = pass_less bytes Comma s m comma in
      let r = split Production production bytes d (Call p.AnyType ∷ []) (opt (the (p.More Types)) ∷ []) refl in
      let mid = reads_less bytes r.1 in
      let first = types m r.0 g gs (omega (arith, less, fewer, low)) r.1 (comma.same ∙ are) (more_ends Types (the p.AnyType) refl r.0 e r.2 end) in
      let rest = later r.0 e (with_parts (first.tree ∷ []) g) gs (omega (arith, less, fewer, mid)) r.2 first.nodes end in
      record {
        trees = rest.trees ++ (first.tree ∷ []);
        nodes = rest.nodes ∙ with_more rest.trees first.tree g gs;
        are = both_types rest.trees first.tree first.is rest.are;
        reads = left (calls (in_turn (does h (left (in_turn (join Production production bytes (unary_is_expr m r.0 first.reads) rest.reads))))));
      }

  more_none : (s e : State) (g : OpenNode) (gs : List OpenNode) → length s.rest ≤ 0 → ReadsGo bytes (opt (the (p.More Types)) ∷ []) s e → s.open_nodes ≡ g ∷ gs → ListRead (opt (the (p.More Indexes))) s e g gs
  more_none s e g gs less (right (nothing at_end)) are = record { trees = []; nodes = are; are = refl; reads = right (nothing at_end) }
  more_none s e g gs less (left (calls (in_turn (does {m = m} h d)))) are = let fewer = pass_less bytes Comma s m (passes bytes Comma s m h) in absurd (omega (arith, less, fewer))

  more_read : (i j : ℕ) → i ≤ j → TypesRead j → MoreRead i
  unfolding MoreRead
  more_read zero j low types = λ s e g gs less d are end. more_none s e g gs less d are
  more_read (suc i) j low types = more_step i j low types (more_read i j (omega (arith, low)) types)

  -- the first argument and the others, behind `[`
  pub record ArgumentsRead (s e : State) (x : Tree) (f : OpenNode) (fs : List OpenNode) : Type 0 where
    pub tree : Tree
    pub nodes : e.open_nodes ≡ with_parts (tree ∷ []) f ∷ fs
    pub is : is_type tree ≡ is_type_name x
    pub bracket : looks (OneOf (LeftBracket ∷ [])) s.rest ≡ true
    pub reads : (sliced : RightSide Production) → ReadsGo bytes (index (opt (the p.AfterIndex)) sliced ∷ []) s e

  arguments_read : (j : ℕ) → TypesRead j → (s e : State) (x : Tree) (f : OpenNode) (fs : List OpenNode) → suc (length s.rest) ≤ suc j → ReadsGo bytes (Call p.TypeArgs ∷ []) s e → s.open_nodes ≡ with_parts (x ∷ []) f ∷ fs → ArgumentsRead s e x f fs
  unfolding TypesRead MoreRead
  arguments_read j types s e x f fs less (calls d) are = go n.reads
    where
      body : RightSide Production
      body = tok LeftBracket • the p.AnyType • opt (the (p.More Types)) • tok RightBracket

      n : ExtendParts bytes k.IndexExpr body s e
      n = extend_parts bytes k.IndexExpr body s e d

      go : ReadsGo bytes (body ∷ []) n.begun n.ends → ArgumentsRead s e x f fs
      go (in_turn (does {m = m} h (in_turn c))) =
          let g : OpenNode = record { start = start_of x; parts = x ∷ [] } in
          let bracket = passes bytes LeftBracket n.begun m h in
          let rows = ap length (reopens bytes s n.begun n.reopened).rest in
          let fewer = pass_less bytes LeftBracket n.begun m bracket in
          let r = split Production production bytes c (Call p.AnyType ∷ []) ((opt (the (p.More Types)) • tok RightBracket) ∷ []) refl in
          let q = split Production production bytes (in_turn_of r.2) (opt (the (p.More Types)) ∷ []) (tok RightBracket ∷ []) refl in
          let mid = reads_less bytes r.1 in
          let last = last_act bytes (Pass RightBracket) q.0 n.ends q.2 in
          let close = passes bytes RightBracket q.0 n.ends last in
          let end = bracket_next q.0 n.ends close in
          let first = types m r.0 g (f ∷ fs) (omega (arith, less, fewer, rows)) r.1 (bracket.same ∙ extend_begun s n.begun x f fs n.reopened are) (more_ends Types (the p.AnyType) refl r.0 q.0 q.1 end) in
          let rest = more_read j j (omega arith) types r.0 q.0 (with_parts (first.tree ∷ []) g) (f ∷ fs) (omega (arith, less, fewer, rows, mid)) q.1 first.nodes end in
          let all : List Tree = rest.trees ++ (first.tree ∷ []) in
          record {
            tree = node_read bytes k.IndexExpr n.ends.last (record { start = start_of x; parts = all ++ (x ∷ []) });
            nodes = node_ended k.IndexExpr n.ends e (with_parts all g) f fs n.closed (close.same ∙ (rest.nodes ∙ with_more rest.trees first.tree g (f ∷ fs)));
            is = index_lem bytes n.ends.last (start_of x) x all ∙ (ap (λ y. is_type_name x && y) (both_types rest.trees first.tree first.is rest.are) ∙ and_true (is_type_name x));
            bracket = subst (λ y. looks (OneOf (LeftBracket ∷ [])) y ≡ true) (reopens bytes s n.begun n.reopened).rest (left_bracket_next n.begun m bracket);
            reads = λ sliced. in_turn (does n.reopened (in_turn (does h (right (in_turn (join Production production bytes (unary_is_expr m r.0 first.reads) (left (in_turn (join Production production bytes rest.reads (in_turn (does last (in_turn (does n.closed (right (nothing at_end)))))))))))))));
          }

  -- what a selector reads is read by `dot` too
  pub dot_back : (selected asserted : RightSide Production) (s m e : State) → ReadsGo bytes (extend k.SelectorExpr (tok Dot • the p.Name) ∷ []) s m → ReadsGo bytes (selected ∷ []) m e → ReadsGo bytes (dot selected asserted ∷ []) s e
  dot_back selected asserted s m e d c = go n.reads
    where
      n : ExtendParts bytes k.SelectorExpr (tok Dot • the p.Name) s m
      n = extend_parts bytes k.SelectorExpr (tok Dot • the p.Name) s m d

      go : ReadsGo bytes ((tok Dot • the p.Name) ∷ []) n.begun n.ends → ReadsGo bytes (dot selected asserted ∷ []) s e
      go (in_turn (does h name)) = in_turn (does n.reopened (in_turn (does h (right (in_turn (join Production production bytes name (in_turn (does n.closed c))))))))

  record RestRead (more : RightSide Production) (s e : State) (f : OpenNode) (fs : List OpenNode) : Type 0 where
    tree : Tree
    nodes : e.open_nodes ≡ with_parts (tree ∷ []) f ∷ fs
    is : is_type tree ≡ true
    reads : ReadsGo bytes (more ∷ []) s e

  selected_read : (j : ℕ) → TypesRead j → (s e : State) (x : Tree) (f : OpenNode) (fs : List OpenNode) → suc (length s.rest) ≤ suc j → ReadsGo bytes (When (OneOf (LeftBracket ∷ [])) (the p.TypeArgs) Nothing ∷ []) s e → s.open_nodes ≡ with_parts (x ∷ []) f ∷ fs → is_type x ≡ true → is_type_name x ≡ true → RestRead (opt (the p.AfterSelector)) s e f fs
  selected_read j types s e x f fs less (passed_by w (nothing at_end)) are is names = record { tree = x; nodes = are; is = is; reads = right (nothing at_end) }
  selected_read j types s e x f fs less (chosen w d) are is names =
      let a = arguments_read j types s e x f fs less d are in
      record { tree = a.tree; nodes = a.nodes; is = a.is ∙ names; reads = left (calls (right (left (a.reads (many (the p.Suffix)))))) }

  name_rest_read : (j : ℕ) → TypesRead j → (s e : State) (x : Tree) (f : OpenNode) (fs : List OpenNode) → suc (length s.rest) ≤ suc j → ReadsGo bytes (type_name_rest ∷ []) s e → s.open_nodes ≡ with_parts (x ∷ []) f ∷ fs → is_name x ≡ true → RestRead (opt (the p.AfterName)) s e f fs
  name_rest_read j types s e x f fs less (in_turn (passed_by w (nothing (passed_by v (nothing at_end))))) are name = record { tree = x; nodes = are; is = (name_is_type x name).0; reads = right (nothing at_end) }
  name_rest_read j types s e x f fs less (in_turn (passed_by w (nothing (chosen v d)))) are name =
      let a = arguments_read j types s e x f fs less d are in
      record { tree = a.tree; nodes = a.nodes; is = a.is ∙ (name_is_type x name).1; reads = left (calls (right (left (a.reads (many (the p.Suffix)))))) }
  name_rest_read j types s e x f fs less (in_turn (chosen w d)) are name =
      let r = split Production production bytes d (extend k.SelectorExpr (tok Dot • the p.Name) ∷ []) (When (OneOf (LeftBracket ∷ [])) (the p.TypeArgs) Nothing ∷ []) refl in
      let y = selector_lem s r.0 x f fs r.1 are in
      let fewer = y.less in
      let z = selected_read j types r.0 e y.tree f fs (omega (arith, less, fewer)) r.2 y.nodes (y.is ∙ name) (y.names ∙ name) in
      record { tree = z.tree; nodes = z.nodes; is = z.is; reads = left (calls (left (dot_back (opt (the p.AfterSelector)) (many (the p.Suffix)) s r.0 e r.1 z.reads))) }

  pub type_name_read : (j : ℕ) → TypesRead j → (s e : State) (f : OpenNode) (fs : List OpenNode) → suc (length s.rest) ≤ suc j → ReadsGo bytes (Call p.TypeName ∷ []) s e → s.open_nodes ≡ f ∷ fs → TypeRead s e f fs
  type_name_read j types s e f fs less (calls (in_turn d)) are =
      let r = split Production production bytes d (Call p.Name ∷ []) (type_name_rest ∷ []) refl in
      let x = name_lem s r.0 f fs r.1 are in
      let fewer = x.less in
      let z = name_rest_read j types r.0 e x.tree f fs (omega (arith, less, fewer)) r.2 x.nodes x.is in
      record { tree = z.tree; nodes = z.nodes; is = z.is; reads = name_is_unary s r.0 e r.1 z.reads }

  pub paren_read : (j : ℕ) → TypesRead j → (s e : State) (f : OpenNode) (fs : List OpenNode) → suc (length s.rest) ≤ suc j → ReadsGo bytes (Call p.ParenType ∷ []) s e → s.open_nodes ≡ f ∷ fs → TypeRead s e f fs
  unfolding TypesRead
  paren_read j types s e f fs less (calls d) are = go n.reads
    where
      n : NodeParts bytes k.ParenExpr (tok LeftParen • the p.AnyType • tok RightParen) s e
      n = node_parts bytes k.ParenExpr (tok LeftParen • the p.AnyType • tok RightParen) s e d

      go : ReadsGo bytes ((tok LeftParen • the p.AnyType • tok RightParen) ∷ []) n.begun n.ends → TypeRead s e f fs
      go (in_turn (does {m = m} h (in_turn c))) =
          let g : OpenNode = record { start = next_start s.last s.rest; parts = [] } in
          let paren = passes bytes LeftParen n.begun m h in
          let rows = ap length (opens bytes s n.begun n.opened).rest in
          let fewer = pass_less bytes LeftParen n.begun m paren in
          let r = split Production production bytes c (Call p.AnyType ∷ []) (tok RightParen ∷ []) refl in
          let last = last_act bytes (Pass RightParen) r.0 n.ends r.2 in
          let close = passes bytes RightParen r.0 n.ends last in
          let t = types m r.0 g (f ∷ fs) (omega (arith, less, fewer, rows)) r.1 (paren.same ∙ node_begun k.ParenExpr (tok LeftParen • the p.AnyType • tok RightParen) s e (f ∷ fs) n are) (paren_next r.0 n.ends close) in
          record {
            tree = node_read bytes k.ParenExpr n.ends.last (with_parts (t.tree ∷ []) g);
            nodes = node_ended k.ParenExpr n.ends e (with_parts (t.tree ∷ []) g) f fs n.closed (close.same ∙ t.nodes);
            is = ap (λ y. y && true) t.is;
            reads = operand_is_unary s e (calls (right (left (node_back bytes k.ParenExpr (tok LeftParen • the (p.Expr Plain) • tok RightParen) s n.begun n.ends e n.opened (in_turn (does h (in_turn (join Production production bytes (unary_is_expr m r.0 t.reads) (does last at_end))))) n.closed))));
          }

  pub star_read : (j : ℕ) → TypesRead j → (s e : State) (f : OpenNode) (fs : List OpenNode) → suc (length s.rest) ≤ suc j → ReadsGo bytes (Call p.StarType ∷ []) s e → s.open_nodes ≡ f ∷ fs → EndsArgument e.rest → TypeRead s e f fs
  unfolding TypesRead
  star_read j types s e f fs less (calls d) are end = go n.reads
    where
      n : NodeParts bytes k.StarExpr (tok Mul • the p.AnyType) s e
      n = node_parts bytes k.StarExpr (tok Mul • the p.AnyType) s e d

      go : ReadsGo bytes ((tok Mul • the p.AnyType) ∷ []) n.begun n.ends → TypeRead s e f fs
      go (in_turn (does {m = m} h c)) =
          let g : OpenNode = record { start = next_start s.last s.rest; parts = [] } in
          let star = passes bytes Mul n.begun m h in
          let rows = ap length (opens bytes s n.begun n.opened).rest in
          let fewer = pass_less bytes Mul n.begun m star in
          let t = types m n.ends g (f ∷ fs) (omega (arith, less, fewer, rows)) c (star.same ∙ node_begun k.StarExpr (tok Mul • the p.AnyType) s e (f ∷ fs) n are) (subst EndsArgument (closes bytes k.StarExpr n.ends e n.closed).rest end) in
          record {
            tree = node_read bytes k.StarExpr n.ends.last (with_parts (t.tree ∷ []) g);
            nodes = node_ended k.StarExpr n.ends e (with_parts (t.tree ∷ []) g) f fs n.closed t.nodes;
            is = ap (λ y. y && true) t.is;
            reads = calls (right (right (right (right (right (right (left (node_back bytes k.StarExpr (tok Mul • the (p.Unary Plain)) s n.begun n.ends e n.opened (in_turn (does h t.reads)) n.closed))))))));
          }
