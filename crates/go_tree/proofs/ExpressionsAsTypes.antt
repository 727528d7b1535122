-- Before `]`, `,` or `)` what is read as an expression and written as a type is, is read as a type.
use Rattle.std.proofs.Common.{◌≡◌, ℕ, zero, suc, ◌≤◌, true, false, List, [], ◌∷◌, length, refl, sym, ap, subst, ◌∙◌, Some, ◌&&◌, ◌⊎◌, inl, inr, arith}
use Rattle.go_tree.specs.declared.token.TokenKind.TheVariants.{KwChan, KwFunc, Add, Sub, Mul, And, Xor, Arrow, Not, LeftParen, LeftBracket, LeftBrace, RightParen}
use Rattle.go_tree.specs.declared.node_kind.NodeKind.TheVariants as k
use Rattle.go_tree.specs.declared.production.Form.TheVariants.{Plain}
use Rattle.go_tree.specs.declared.production.Production.{Production}
use Rattle.go_tree.specs.declared.production.Production.TheVariants as p
use Rattle.go_tree.specs.Tree.{Tree, kind_of, parts_of}
use Rattle.go_tree.specs.Grammar.RightSide.{RightSide, Call, Nothing, When, Pass, OneOf}
use Rattle.go_tree.specs.Grammar.Trees.Reading.{State, OpenNode, at_end, does, calls, nothing, in_turn, left, right, done, again, chosen, passed_by, looks, next_start, node_read, ends_in_type, tree_read}
use Rattle.go_tree.specs.Grammar.Trees.TypeTrees.{is_name, is_type_name, is_type, all_types}
use Rattle.go_tree.specs.Grammar.Words.{◌•◌, ◌or◌, tok, the, opt, many, close, node}
use Rattle.go_tree.specs.Grammar.Expressions.{index, call, literal}
use Rattle.go_tree.specs.Grammar.Types.{type_name_rest}
use Rattle.go_tree.specs.Grammar.Trees.Sentence.{production, ReadsGo}
use Rattle.go_tree.proofs.ReadingLemmas.{split, join}
use Rattle.go_tree.proofs.NetEffects.{TypeLiteral, ChanLiteral, ByParts, Sorts, sorts, has, sort_of, any_sort, no_type, nameless, only, flow, stack}
use Rattle.go_tree.proofs.NetEffectLemmas.{with_parts, any_tree}
use Rattle.go_tree.proofs.GrammarNetEffects.{effects, adds_one, turns_one, ends_one}
use Rattle.go_tree.proofs.ReadingStepLemmas.{passes, opens, reopens, closes, reads_less, pass_less, last_act, NodeParts, node_parts, node_back, no_bracket, no_dot, bracket_no_dot, paren_next, left_bracket_next}
use Rattle.go_tree.proofs.TypeTreeLemmas.{no_type_lem, no_type_nameless, nameless_lem, arrow_lem, and_true, chan_is_type}
use Rattle.go_tree.proofs.TypeExpressionLemmas.{EndsArgument, node_begun, node_ended, name_lem, chan_of, word_is_type}
use Rattle.go_tree.proofs.ExpressionTypeLemmas.{Judged, JudgedBelow, no_type_judged, exprs_judged, Ended, Indexed, index_read, Selected, dot_read, suffixes_judged, ended_judged, more_suffixes_judged}

module _ (bytes : List ℕ) where
  args_next : (s e : State) → ReadsGo bytes (Call p.TypeArgs ∷ []) s e → looks (OneOf (LeftBracket ∷ [])) s.rest ≡ true
  args_next s e (calls (in_turn (does {m = m} ro (in_turn (in_turn (does {m = o} h d)))))) = subst (λ y. looks (OneOf (LeftBracket ∷ [])) y ≡ true) (reopens bytes s m ro).rest (left_bracket_next m o (passes bytes LeftBracket m o h))

  -- ---- what follows a name

  abbrev ArgsRead : State → State → Type 0
  ArgsRead s e = ReadsGo bytes (Call p.TypeArgs ∷ []) s e

  -- behind `x[..]`
  after_index_judged : (j : ℕ) → JudgedBelow bytes (p.Expr Plain) j → (More : Type 0) (s e : State) (x : Tree) (f : OpenNode) (fs : List OpenNode) → suc (length s.rest) ≤ suc j → ReadsGo bytes (Call p.AfterIndex ∷ []) s e → s.open_nodes ≡ with_parts (x ∷ []) f ∷ fs → is_type_name x ≡ false → Judged bytes e f fs More
  after_index_judged j exprs More s e x f fs less (calls (in_turn (left d))) are names = more_suffixes_judged bytes j exprs More s e x f fs less d are names
  after_index_judged j exprs More s e x f fs less (calls (in_turn (right d))) are names =
      let r = split Production production bytes d (literal ∷ []) (many (the p.Suffix) ∷ []) refl in
      let t = turns_one bytes literal any_sort no_type refl s r.0 x f fs r.1 (any_tree x) are in
      let mid = reads_less bytes r.1 in
      suffixes_judged bytes j exprs More r.0 e t.0 f fs (omega (arith, less, mid)) r.2 t.2 (no_type_lem t.0 t.1) (no_type_nameless t.0 t.1)

  indexed_judged : (j : ℕ) → JudgedBelow bytes (p.Expr Plain) j → (s e : State) (x : Tree) (f : OpenNode) (fs : List OpenNode) → suc (length s.rest) ≤ suc j → ReadsGo bytes (index (opt (the p.AfterIndex)) (many (the p.Suffix)) ∷ []) s e → s.open_nodes ≡ with_parts (x ∷ []) f ∷ fs → Judged bytes e f fs (ArgsRead s e)
  indexed_judged j exprs s e x f fs less d are = go (index_read bytes j exprs (opt (the p.AfterIndex)) (many (the p.Suffix)) s e x f fs less d are)
    where
      rest : (mid : State) (t : Tree) → is_type_name t ≡ false → mid.open_nodes ≡ with_parts (t ∷ []) f ∷ fs → (is_type t ≡ true → ArgsRead s mid) → suc (length mid.rest) ≤ length s.rest → ReadsGo bytes (opt (the p.AfterIndex) ∷ []) mid e → Judged bytes e f fs (ArgsRead s e)
      rest mid t names nodes back few (right (nothing at_end)) = record { tree = t; nodes = nodes; back = back }
      rest mid t names nodes back few (left c) = after_index_judged j exprs (ArgsRead s e) mid e t f fs (omega (arith, less, few)) c nodes names

      go : Ended bytes (many (the p.Suffix)) s e f fs ⊎ Indexed bytes (opt (the p.AfterIndex)) s e x f fs → Judged bytes e f fs (ArgsRead s e)
      go (inl y) = ended_judged bytes j exprs (ArgsRead s e) s e f fs less y
      go (inr y) = rest y.mid y.tree y.names y.nodes (λ h. (y.back h).1) y.less y.reads

  called_judged : (j : ℕ) → JudgedBelow bytes (p.Expr Plain) j → (More : Type 0) (s e : State) (x : Tree) (f : OpenNode) (fs : List OpenNode) → suc (length s.rest) ≤ suc j → ReadsGo bytes (((call or literal) • many (the p.Suffix)) ∷ []) s e → s.open_nodes ≡ with_parts (x ∷ []) f ∷ fs → Judged bytes e f fs More
  called_judged j exprs More s e x f fs less (in_turn d) are =
      let r = split Production production bytes d ((call or literal) ∷ []) (many (the p.Suffix) ∷ []) refl in
      let t = turns_one bytes (call or literal) any_sort no_type refl s r.0 x f fs r.1 (any_tree x) are in
      let mid = reads_less bytes r.1 in
      suffixes_judged bytes j exprs More r.0 e t.0 f fs (omega (arith, less, mid)) r.2 t.2 (no_type_lem t.0 t.1) (no_type_nameless t.0 t.1)

  abbrev SelectedRest : State → State → Type 0
  SelectedRest s e = ReadsGo bytes (When (OneOf (LeftBracket ∷ [])) (the p.TypeArgs) Nothing ∷ []) s e

  -- behind `x.y`
  after_selector_judged : (j : ℕ) → JudgedBelow bytes (p.Expr Plain) j → (s e : State) (x : Tree) (f : OpenNode) (fs : List OpenNode) → suc (length s.rest) ≤ suc j → ReadsGo bytes (opt (the p.AfterSelector) ∷ []) s e → s.open_nodes ≡ with_parts (x ∷ []) f ∷ fs → is_name x ≡ false → EndsArgument e.rest → Judged bytes e f fs (SelectedRest s e)
  after_selector_judged j exprs s e x f fs less (right (nothing at_end)) are name end = record { tree = x; nodes = are; back = λ h. passed_by (no_bracket e.rest end) (nothing at_end) }
  after_selector_judged j exprs s e x f fs less (left (calls (left d))) are name end = go (dot_read bytes (many (the p.Suffix)) (many (the p.Suffix)) s e x f fs d are)
    where
      go : Ended bytes (many (the p.Suffix)) s e f fs ⊎ Selected bytes (many (the p.Suffix)) s e x f fs → Judged bytes e f fs (SelectedRest s e)
      go (inl y) = ended_judged bytes j exprs (SelectedRest s e) s e f fs less y
      go (inr y) = let z = y.selector in let few = z.less in suffixes_judged bytes j exprs (SelectedRest s e) y.mid e z.tree f fs (omega (arith, less, few)) y.reads z.nodes (z.is ∙ name) (z.names ∙ name)
  after_selector_judged j exprs s e x f fs less (left (calls (right (left d)))) are name end =
      let t = indexed_judged j exprs s e x f fs less d are in
      record { tree = t.tree; nodes = t.nodes; back = λ h. chosen (args_next s e (t.back h)) (t.back h) }
  after_selector_judged j exprs s e x f fs less (left (calls (right (right d)))) are name end = called_judged j exprs (SelectedRest s e) s e x f fs less d are

  after_name_judged : (j : ℕ) → JudgedBelow bytes (p.Expr Plain) j → (s e : State) (x : Tree) (f : OpenNode) (fs : List OpenNode) → suc (length s.rest) ≤ suc j → ReadsGo bytes (opt (the p.AfterName) ∷ []) s e → s.open_nodes ≡ with_parts (x ∷ []) f ∷ fs → EndsArgument e.rest → Judged bytes e f fs (ReadsGo bytes (type_name_rest ∷ []) s e)
  after_name_judged j exprs s e x f fs less (right (nothing at_end)) are end = record { tree = x; nodes = are; back = λ h. in_turn (passed_by (no_dot e.rest end) (nothing (passed_by (no_bracket e.rest end) (nothing at_end)))) }
  after_name_judged j exprs s e x f fs less (left (calls (left d))) are end = go (dot_read bytes (opt (the p.AfterSelector)) (many (the p.Suffix)) s e x f fs d are)
    where
      go : Ended bytes (many (the p.Suffix)) s e f fs ⊎ Selected bytes (opt (the p.AfterSelector)) s e x f fs → Judged bytes e f fs (ReadsGo bytes (type_name_rest ∷ []) s e)
      go (inl y) = ended_judged bytes j exprs (ReadsGo bytes (type_name_rest ∷ []) s e) s e f fs less y
      go (inr y) =
          let z = y.selector in
          let few = z.less in
          let t = after_selector_judged j exprs y.mid e z.tree f fs (omega (arith, less, few)) y.reads z.nodes z.unnamed end in
          record { tree = t.tree; nodes = t.nodes; back = λ h. in_turn (chosen z.dot (join Production production bytes y.dotted (t.back h))) }
  after_name_judged j exprs s e x f fs less (left (calls (right (left d)))) are end =
      let t = indexed_judged j exprs s e x f fs less d are in
      record { tree = t.tree; nodes = t.nodes; back = λ h. let w = args_next s e (t.back h) in in_turn (passed_by (bracket_no_dot s.rest w) (nothing (chosen w (t.back h)))) }
  after_name_judged j exprs s e x f fs less (left (calls (right (right d)))) are end = called_judged j exprs (ReadsGo bytes (type_name_rest ∷ []) s e) s e x f fs less d are

  -- ---- types of channels

  newest_same : (t u : Tree) (f : OpenNode) (fs gs : List OpenNode) → gs ≡ with_parts (t ∷ []) f ∷ fs → gs ≡ with_parts (u ∷ []) f ∷ fs → t ≡ u
  newest_same t u f fs gs p q = let y : Some t ≡ Some u = ap tree_read (sym p ∙ q) in cc

  elem_is_type : (s e : State) → ReadsGo bytes (Call p.ChanElem ∷ []) s e → ReadsGo bytes (Call p.AnyType ∷ []) s e
  elem_is_type s e (calls (left d)) = calls (left d)
  elem_is_type s e (calls (right (left d))) = calls (right (left d))
  elem_is_type s e (calls (right (right (left d)))) = calls (right (right (left d)))
  elem_is_type s e (calls (right (right (right (left d))))) = calls (right (right (right (left d))))
  elem_is_type s e (calls (right (right (right (right d))))) = word_is_type bytes s e d

  -- a reading of another kind of node than of `chan`
  other_kind : (X : Type 0) (n : Production) (c : Sorts) → flow effects (Call n) (stack [] []) ≡ Some (stack [] (c ∷ [])) → has c ChanLiteral ≡ false → (s e : State) (f : OpenNode) (fs : List OpenNode) (t : Tree) → ReadsGo bytes (Call n ∷ []) s e → s.open_nodes ≡ f ∷ fs → e.open_nodes ≡ with_parts (t ∷ []) f ∷ fs → kind_of t ≡ k.ChanType → X
  other_kind X n c q none s e f fs t d are nodes kind =
      let u = adds_one bytes (Call n) c q s e f fs d are in
      let same = newest_same t u.0 f fs e.open_nodes nodes u.2 in
      let at = ap (λ y. has c (sort_of y)) (sym kind) ∙ (ap (λ (y : Tree). has c (sort_of (kind_of y))) same ∙ u.1) in
      absurd (let z = sym none ∙ at in cc)

  ChanBack : ℕ → Type 0
  ChanBack j = (s e : State) (f : OpenNode) (fs : List OpenNode) (t : Tree) → suc (length s.rest) ≤ j → ReadsGo bytes (Call p.AnyType ∷ []) s e → s.open_nodes ≡ f ∷ fs → e.open_nodes ≡ with_parts (t ∷ []) f ∷ fs → kind_of t ≡ k.ChanType → all_types (parts_of t) ≡ true → ReadsGo bytes (chan_of bytes (the p.AnyType) ∷ []) s e

  -- `<-` of a type of a channel of types
  arrow_back : (j : ℕ) → ChanBack j → (s e : State) (f : OpenNode) (fs : List OpenNode) (t : Tree) → suc (length s.rest) ≤ suc j → ReadsGo bytes (node k.ArrowExpr (tok Arrow • the p.AnyType) ∷ []) s e → s.open_nodes ≡ f ∷ fs → e.open_nodes ≡ with_parts (t ∷ []) f ∷ fs → is_type t ≡ true → ReadsGo bytes (Call p.AnyType ∷ []) s e
  unfolding ChanBack
  arrow_back j back s e f fs t less d are nodes is = go n.reads
    where
      n : NodeParts bytes k.ArrowExpr (tok Arrow • the p.AnyType) s e
      n = node_parts bytes k.ArrowExpr (tok Arrow • the p.AnyType) s e d

      g : OpenNode
      g = record { start = next_start s.last s.rest; parts = [] }

      go : ReadsGo bytes ((tok Arrow • the p.AnyType) ∷ []) n.begun n.ends → ReadsGo bytes (Call p.AnyType ∷ []) s e
      go (in_turn (does {m = m} h c)) =
          let arrow = passes bytes Arrow n.begun m h in
          let fewer = pass_less bytes Arrow n.begun m arrow in
          let rows = ap length (opens bytes s n.begun n.opened).rest in
          let at = arrow.same ∙ node_begun bytes k.ArrowExpr (tok Arrow • the p.AnyType) s e (f ∷ fs) n are in
          let u = adds_one bytes (Call p.AnyType) any_sort refl m n.ends g (f ∷ fs) c at in
          let x : Tree = node_read bytes k.ArrowExpr n.ends.last (with_parts (u.0 ∷ []) g) in
          let same = newest_same t x f fs e.open_nodes nodes (node_ended bytes k.ArrowExpr n.ends e (with_parts (u.0 ∷ []) g) f fs n.closed u.2) in
          let a = arrow_lem 0 (next_start s.last s.rest) n.ends.last [] u.0 (ap is_type (sym same) ∙ is) in
          let r = back m n.ends g (f ∷ fs) u.0 (omega (arith, less, fewer, rows)) c at u.2 a.0 a.1 in
          calls (right (right (right (right (left (calls (node_back bytes k.ArrowExpr (tok Arrow • chan_of bytes (the p.AnyType)) s n.begun n.ends e n.opened (in_turn (does h r)) n.closed)))))))

  chan_step : (j : ℕ) → ChanBack j → (s e : State) (f : OpenNode) (fs : List OpenNode) (t : Tree) → suc (length s.rest) ≤ suc j → ReadsGo bytes (Call p.ChanType ∷ []) s e → s.open_nodes ≡ f ∷ fs → e.open_nodes ≡ with_parts (t ∷ []) f ∷ fs → all_types (parts_of t) ≡ true → ReadsGo bytes (chan_of bytes (the p.AnyType) ∷ []) s e
  chan_step j back s e f fs t less (calls d) are nodes all = go n.reads
    where
      n : NodeParts bytes k.ChanType (tok KwChan • (node k.ArrowExpr (tok Arrow • the p.AnyType) or the p.ChanElem)) s e
      n = node_parts bytes k.ChanType (tok KwChan • (node k.ArrowExpr (tok Arrow • the p.AnyType) or the p.ChanElem)) s e d

      g : OpenNode
      g = record { start = next_start s.last s.rest; parts = [] }

      go : ReadsGo bytes ((tok KwChan • (node k.ArrowExpr (tok Arrow • the p.AnyType) or the p.ChanElem)) ∷ []) n.begun n.ends → ReadsGo bytes (chan_of bytes (the p.AnyType) ∷ []) s e
      go (in_turn (does {m = m} h (right c))) = node_back bytes k.ChanType (tok KwChan • the p.AnyType) s n.begun n.ends e n.opened (in_turn (does h (elem_is_type m n.ends c))) n.closed
      go (in_turn (does {m = m} h (left c))) =
          let chan = passes bytes KwChan n.begun m h in
          let fewer = pass_less bytes KwChan n.begun m chan in
          let rows = ap length (opens bytes s n.begun n.opened).rest in
          let at = chan.same ∙ node_begun bytes k.ChanType (tok KwChan • (node k.ArrowExpr (tok Arrow • the p.AnyType) or the p.ChanElem)) s e (f ∷ fs) n are in
          let u = adds_one bytes (node k.ArrowExpr (tok Arrow • the p.AnyType)) (only ByParts) refl m n.ends g (f ∷ fs) c at in
          let x : Tree = node_read bytes k.ChanType n.ends.last (with_parts (u.0 ∷ []) g) in
          let same = newest_same t x f fs e.open_nodes nodes (node_ended bytes k.ChanType n.ends e (with_parts (u.0 ∷ []) g) f fs n.closed u.2) in
          let one : (is_type u.0 && true) ≡ true = ap (λ (y : Tree). all_types (parts_of y)) (sym same) ∙ all in
          let a = arrow_back j back m n.ends g (f ∷ fs) u.0 (omega (arith, less, fewer, rows)) c at u.2 (sym (and_true (is_type u.0)) ∙ one) in
          node_back bytes k.ChanType (tok KwChan • the p.AnyType) s n.begun n.ends e n.opened (in_turn (does h a)) n.closed

  -- a type of a channel of types is `chan` before a type
  chan_back : (j : ℕ) → ChanBack j
  unfolding ChanBack
  chan_back zero s e f fs t less d are nodes kind all = absurd (omega (arith, less))
  chan_back (suc j) s e f fs t less (calls (right (right (right (right (right (right (left d)))))))) are nodes kind all = chan_step j (chan_back j) s e f fs t less d are nodes all
  chan_back (suc j) s e f fs t less (calls (left d)) are nodes kind all = other_kind _ p.TypeName (sorts true true false false false) refl refl s e f fs t d are nodes kind
  chan_back (suc j) s e f fs t less (calls (right (left d))) are nodes kind all = other_kind _ p.ParenType (only ByParts) refl refl s e f fs t d are nodes kind
  chan_back (suc j) s e f fs t less (calls (right (right (left d)))) are nodes kind all = other_kind _ p.StarType (only ByParts) refl refl s e f fs t d are nodes kind
  chan_back (suc j) s e f fs t less (calls (right (right (right (left d))))) are nodes kind all = other_kind _ p.BracketType (only TypeLiteral) refl refl s e f fs t d are nodes kind
  chan_back (suc j) s e f fs t less (calls (right (right (right (right (left d)))))) are nodes kind all = other_kind _ p.RecvChan (only ByParts) refl refl s e f fs t d are nodes kind
  chan_back (suc j) s e f fs t less (calls (right (right (right (right (right (left d))))))) are nodes kind all = other_kind _ p.MapType (only TypeLiteral) refl refl s e f fs t d are nodes kind
  chan_back (suc j) s e f fs t less (calls (right (right (right (right (right (right (right (left d))))))))) are nodes kind all = other_kind _ p.FuncType (only TypeLiteral) refl refl s e f fs t d are nodes kind
  chan_back (suc j) s e f fs t less (calls (right (right (right (right (right (right (right (right (left d)))))))))) are nodes kind all = other_kind _ p.StructType (only TypeLiteral) refl refl s e f fs t d are nodes kind
  chan_back (suc j) s e f fs t less (calls (right (right (right (right (right (right (right (right (right d)))))))))) are nodes kind all = other_kind _ p.InterfaceType (only TypeLiteral) refl refl s e f fs t d are nodes kind

  -- ---- operands and operators

  JudgedType : State → State → OpenNode → List OpenNode → Type 0
  JudgedType s e f fs = Judged bytes e f fs (ReadsGo bytes (Call p.AnyType ∷ []) s e)

  kind_judged : (g : RightSide Production) → flow effects g (stack [] []) ≡ Some (stack [] (no_type ∷ [])) → (s e : State) (f : OpenNode) (fs : List OpenNode) → ReadsGo bytes (g ∷ []) s e → s.open_nodes ≡ f ∷ fs → JudgedType s e f fs
  unfolding JudgedType
  kind_judged g q s e f fs d are = let t = adds_one bytes g no_type q s e f fs d are in no_type_judged bytes (ReadsGo bytes (Call p.AnyType ∷ []) s e) e f fs t.0 (no_type_lem t.0 t.1) t.2

  literal_judged : (g : RightSide Production) (c : Sorts) → flow effects g (stack [] []) ≡ Some (stack [] (c ∷ [])) → (s e : State) (f : OpenNode) (fs : List OpenNode) → ReadsGo bytes (g ∷ []) s e → s.open_nodes ≡ f ∷ fs → ReadsGo bytes (Call p.AnyType ∷ []) s e → JudgedType s e f fs
  unfolding JudgedType
  literal_judged g c q s e f fs d are type = let t = adds_one bytes g c q s e f fs d are in record { tree = t.0; nodes = t.2; back = λ h. type }

  parens_judged : (j : ℕ) → JudgedBelow bytes (p.Expr Plain) j → (s e : State) (f : OpenNode) (fs : List OpenNode) → suc (length s.rest) ≤ suc j → ReadsGo bytes (node k.ParenExpr (tok LeftParen • the (p.Expr Plain) • tok RightParen) ∷ []) s e → s.open_nodes ≡ f ∷ fs → JudgedType s e f fs
  unfolding JudgedBelow JudgedType
  parens_judged j exprs s e f fs less d are = go n.reads
    where
      n : NodeParts bytes k.ParenExpr (tok LeftParen • the (p.Expr Plain) • tok RightParen) s e
      n = node_parts bytes k.ParenExpr (tok LeftParen • the (p.Expr Plain) • tok RightParen) s e d

      g : OpenNode
      g = record { start = next_start s.last s.rest; parts = [] }

      go : ReadsGo bytes ((tok LeftParen • the (p.Expr Plain) • tok RightParen) ∷ []) n.begun n.ends → Judged bytes e f fs (ReadsGo bytes (Call p.AnyType ∷ []) s e)
      go (in_turn (does {m = m} h (in_turn c))) =
          let paren = passes bytes LeftParen n.begun m h in
          let rows = ap length (opens bytes s n.begun n.opened).rest in
          let fewer = pass_less bytes LeftParen n.begun m paren in
          let r = split Production production bytes c (Call (p.Expr Plain) ∷ []) (tok RightParen ∷ []) refl in
          let last = last_act bytes (Pass RightParen) r.0 n.ends r.2 in
          let shut = passes bytes RightParen r.0 n.ends last in
          let t = exprs m r.0 g (f ∷ fs) (omega (arith, less, fewer, rows)) r.1 (paren.same ∙ node_begun bytes k.ParenExpr (tok LeftParen • the (p.Expr Plain) • tok RightParen) s e (f ∷ fs) n are) (paren_next r.0 n.ends shut) in
          record {
            tree = node_read bytes k.ParenExpr n.ends.last (with_parts (t.tree ∷ []) g);
            nodes = node_ended bytes k.ParenExpr n.ends e (with_parts (t.tree ∷ []) g) f fs n.closed (shut.same ∙ t.nodes);
            back = λ b. calls (right (left (calls (node_back bytes k.ParenExpr (tok LeftParen • the p.AnyType • tok RightParen) s n.begun n.ends e n.opened (in_turn (does h (in_turn (join Production production bytes (t.back (sym (and_true (is_type t.tree)) ∙ b)) (does last at_end))))) n.closed))));
          }

  func_judged : (s e : State) (f : OpenNode) (fs : List OpenNode) → ReadsGo bytes (Call p.FuncOperand ∷ []) s e → s.open_nodes ≡ f ∷ fs → JudgedType s e f fs
  unfolding JudgedType
  func_judged s e f fs (calls (in_turn (does {m = m} o (in_turn (does {m = n} h (in_turn c)))))) are =
      let r = split Production production bytes c (Call p.Signature ∷ []) (When (OneOf (LeftBrace ∷ [])) (the p.Block • close k.FuncLit) (close k.FuncType) ∷ []) refl in
      go r.0 r.1 r.2
    where
      g : OpenNode
      g = record { start = next_start s.last s.rest; parts = [] }

      at : n.open_nodes ≡ g ∷ f ∷ fs
      at = (passes bytes KwFunc m n h).same ∙ ((opens bytes s m o).nodes ∙ ap (λ y. g ∷ y) are)

      go : (q : State) → ReadsGo bytes (Call p.Signature ∷ []) n q → ReadsGo bytes (When (OneOf (LeftBrace ∷ [])) (the p.Block • close k.FuncLit) (close k.FuncType) ∷ []) q e → Judged bytes e f fs (ReadsGo bytes (Call p.AnyType ∷ []) s e)
      go q u (chosen w d) =
          let x = adds_one bytes (Call p.Signature) any_sort refl n q g (f ∷ fs) u at in
          let t = ends_one bytes (the p.Block • close k.FuncLit) false no_type refl q e (with_parts (x.0 ∷ []) g) f fs d (λ z. cc) x.2 in
          no_type_judged bytes (ReadsGo bytes (Call p.AnyType ∷ []) s e) e f fs t.0 (no_type_lem t.0 t.1) t.2
      go q u (passed_by w (does cl at_end)) =
          let x = adds_one bytes (Call p.Signature) any_sort refl n q g (f ∷ fs) u at in
          record {
            tree = node_read bytes k.FuncType q.last (with_parts (x.0 ∷ []) g);
            nodes = node_ended bytes k.FuncType q e (with_parts (x.0 ∷ []) g) f fs cl x.2;
            back = λ b. word_is_type bytes s e (right (right (left (calls (node_back bytes k.FuncType (tok KwFunc • the p.Signature) s m q e o (in_turn (does h u)) cl)))));
          }

  operand_judged : (j : ℕ) → JudgedBelow bytes (p.Expr Plain) j → (s e : State) (f : OpenNode) (fs : List OpenNode) → suc (length s.rest) ≤ suc j → ReadsGo bytes (Call p.Operand ∷ []) s e → s.open_nodes ≡ f ∷ fs → JudgedType s e f fs
  unfolding JudgedType
  operand_judged j exprs s e f fs less (calls (left d)) are = kind_judged (Call p.BasicLit) refl s e f fs d are
  operand_judged j exprs s e f fs less (calls (right (left d))) are = parens_judged j exprs s e f fs less d are
  operand_judged j exprs s e f fs less (calls (right (right (left (in_turn d))))) are =
      let r = split Production production bytes d ((the p.BracketType or the p.MapType or the p.StructType) ∷ []) (When (OneOf (LeftBrace ∷ [])) literal Nothing ∷ []) refl in
      go r.0 r.1 r.2
    where
      as_type : (q : State) → ReadsGo bytes ((the p.BracketType or the p.MapType or the p.StructType) ∷ []) s q → ReadsGo bytes (Call p.AnyType ∷ []) s q
      as_type q (left d) = calls (right (right (right (left d))))
      as_type q (right (left d)) = word_is_type bytes s q (left d)
      as_type q (right (right d)) = word_is_type bytes s q (right (right (right (left d))))

      go : (q : State) → ReadsGo bytes ((the p.BracketType or the p.MapType or the p.StructType) ∷ []) s q → ReadsGo bytes (When (OneOf (LeftBrace ∷ [])) literal Nothing ∷ []) q e → Judged bytes e f fs (ReadsGo bytes (Call p.AnyType ∷ []) s e)
      go q u (chosen w d) =
          let x = adds_one bytes (the p.BracketType or the p.MapType or the p.StructType) (only TypeLiteral) refl s q f fs u are in
          let t = turns_one bytes literal any_sort no_type refl q e x.0 f fs d (any_tree x.0) x.2 in
          no_type_judged bytes (ReadsGo bytes (Call p.AnyType ∷ []) s e) e f fs t.0 (no_type_lem t.0 t.1) t.2
      go q u (passed_by w (nothing at_end)) = literal_judged (the p.BracketType or the p.MapType or the p.StructType) (only TypeLiteral) refl s e f fs u are (as_type e u)
  operand_judged j exprs s e f fs less (calls (right (right (right (left d))))) are = literal_judged (Call p.ChanType) (only ChanLiteral) refl s e f fs d are (word_is_type bytes s e (right (left d)))
  operand_judged j exprs s e f fs less (calls (right (right (right (right (left d)))))) are = literal_judged (Call p.InterfaceType) (only TypeLiteral) refl s e f fs d are (word_is_type bytes s e (right (right (right (right d)))))
  operand_judged j exprs s e f fs less (calls (right (right (right (right (right d)))))) are = func_judged s e f fs d are

  star_judged : (j : ℕ) → JudgedBelow bytes (p.Unary Plain) j → (s e : State) (f : OpenNode) (fs : List OpenNode) → suc (length s.rest) ≤ suc j → ReadsGo bytes (node k.StarExpr (tok Mul • the (p.Unary Plain)) ∷ []) s e → s.open_nodes ≡ f ∷ fs → EndsArgument e.rest → JudgedType s e f fs
  unfolding JudgedBelow JudgedType
  star_judged j unaries s e f fs less d are end = go n.reads
    where
      n : NodeParts bytes k.StarExpr (tok Mul • the (p.Unary Plain)) s e
      n = node_parts bytes k.StarExpr (tok Mul • the (p.Unary Plain)) s e d

      g : OpenNode
      g = record { start = next_start s.last s.rest; parts = [] }

      go : ReadsGo bytes ((tok Mul • the (p.Unary Plain)) ∷ []) n.begun n.ends → Judged bytes e f fs (ReadsGo bytes (Call p.AnyType ∷ []) s e)
      go (in_turn (does {m = m} h c)) =
          let star = passes bytes Mul n.begun m h in
          let rows = ap length (opens bytes s n.begun n.opened).rest in
          let fewer = pass_less bytes Mul n.begun m star in
          let t = unaries m n.ends g (f ∷ fs) (omega (arith, less, fewer, rows)) c (star.same ∙ node_begun bytes k.StarExpr (tok Mul • the (p.Unary Plain)) s e (f ∷ fs) n are) (subst EndsArgument (closes bytes k.StarExpr n.ends e n.closed).rest end) in
          record {
            tree = node_read bytes k.StarExpr n.ends.last (with_parts (t.tree ∷ []) g);
            nodes = node_ended bytes k.StarExpr n.ends e (with_parts (t.tree ∷ []) g) f fs n.closed t.nodes;
            back = λ b. calls (right (right (left (calls (node_back bytes k.StarExpr (tok Mul • the p.AnyType) s n.begun n.ends e n.opened (in_turn (does h (t.back (sym (and_true (is_type t.tree)) ∙ b)))) n.closed)))));
          }

  arrow_judged : (j : ℕ) → JudgedBelow bytes (p.Unary Plain) j → (s e : State) (f : OpenNode) (fs : List OpenNode) → suc (length s.rest) ≤ suc j → ReadsGo bytes (node k.ArrowExpr (tok Arrow • the (p.Unary Plain)) ∷ []) s e → s.open_nodes ≡ f ∷ fs → EndsArgument e.rest → JudgedType s e f fs
  unfolding JudgedBelow JudgedType ChanBack
  arrow_judged j unaries s e f fs less d are end = go n.reads
    where
      n : NodeParts bytes k.ArrowExpr (tok Arrow • the (p.Unary Plain)) s e
      n = node_parts bytes k.ArrowExpr (tok Arrow • the (p.Unary Plain)) s e d

      g : OpenNode
      g = record { start = next_start s.last s.rest; parts = [] }

      go : ReadsGo bytes ((tok Arrow • the (p.Unary Plain)) ∷ []) n.begun n.ends → Judged bytes e f fs (ReadsGo bytes (Call p.AnyType ∷ []) s e)
      go (in_turn (does {m = m} h c)) =
          let arrow = passes bytes Arrow n.begun m h in
          let rows = ap length (opens bytes s n.begun n.opened).rest in
          let fewer = pass_less bytes Arrow n.begun m arrow in
          let at = arrow.same ∙ node_begun bytes k.ArrowExpr (tok Arrow • the (p.Unary Plain)) s e (f ∷ fs) n are in
          let t = unaries m n.ends g (f ∷ fs) (omega (arith, less, fewer, rows)) c at (subst EndsArgument (closes bytes k.ArrowExpr n.ends e n.closed).rest end) in
          record {
            tree = node_read bytes k.ArrowExpr n.ends.last (with_parts (t.tree ∷ []) g);
            nodes = node_ended bytes k.ArrowExpr n.ends e (with_parts (t.tree ∷ []) g) f fs n.closed t.nodes;
            back = λ b.
                let a = arrow_lem 0 (next_start s.last s.rest) n.ends.last [] t.tree b in
                let r = chan_back (suc (length m.rest)) m n.ends g (f ∷ fs) t.tree (omega arith) (t.back (chan_is_type t.tree a.0)) at t.nodes a.0 a.1 in
                calls (right (right (right (right (left (calls (node_back bytes k.ArrowExpr (tok Arrow • chan_of bytes (the p.AnyType)) s n.begun n.ends e n.opened (in_turn (does h r)) n.closed)))))));
          }

  unary_step : (j : ℕ) → JudgedBelow bytes (p.Unary Plain) j → JudgedBelow bytes (p.Unary Plain) (suc j)
  unfolding JudgedBelow JudgedType
  unary_step j unaries s e f fs less (calls (left (in_turn d))) are end =
      let r = split Production production bytes d (Call p.Name ∷ []) (opt (the p.AfterName) ∷ []) refl in
      let x = name_lem bytes s r.0 f fs r.1 are in
      let fewer = x.less in
      let t = after_name_judged j (exprs_judged bytes j unaries) r.0 e x.tree f fs (omega (arith, less, fewer)) r.2 x.nodes end in
      record { tree = t.tree; nodes = t.nodes; back = λ b. calls (left (calls (in_turn (join Production production bytes r.1 (t.back b))))) }
  unary_step j unaries s e f fs less (calls (right (left (in_turn d)))) are end =
      let r = split Production production bytes d (Call p.Operand ∷ []) (many (the p.Suffix) ∷ []) refl in
      go r.0 r.1 r.2
    where
      go : (q : State) → ReadsGo bytes (Call p.Operand ∷ []) s q → ReadsGo bytes (many (the p.Suffix) ∷ []) q e → Judged bytes e f fs (ReadsGo bytes (Call p.AnyType ∷ []) s e)
      go q u (done at_end) = operand_judged j (exprs_judged bytes j unaries) s e f fs less u are
      go q u (again c) =
          let x = adds_one bytes (Call p.Operand) nameless refl s q f fs u are in
          let mid = reads_less bytes u in
          more_suffixes_judged bytes j (exprs_judged bytes j unaries) (ReadsGo bytes (Call p.AnyType ∷ []) s e) q e x.0 f fs (omega (arith, less, mid)) c x.2 (nameless_lem x.0 x.1)
  unary_step j unaries s e f fs less (calls (right (right (left d)))) are end = kind_judged (node k.PlusExpr (tok Add • the (p.Unary Plain))) refl s e f fs d are
  unary_step j unaries s e f fs less (calls (right (right (right (left d))))) are end = kind_judged (node k.MinusExpr (tok Sub • the (p.Unary Plain))) refl s e f fs d are
  unary_step j unaries s e f fs less (calls (right (right (right (right (left d)))))) are end = kind_judged (node k.NotExpr (tok Not • the (p.Unary Plain))) refl s e f fs d are
  unary_step j unaries s e f fs less (calls (right (right (right (right (right (left d))))))) are end = kind_judged (node k.ComplementExpr (tok Xor • the (p.Unary Plain))) refl s e f fs d are
  unary_step j unaries s e f fs less (calls (right (right (right (right (right (right (left d)))))))) are end = star_judged j unaries s e f fs less d are end
  unary_step j unaries s e f fs less (calls (right (right (right (right (right (right (right (left d))))))))) are end = kind_judged (node k.AddressExpr (tok And • the (p.Unary Plain))) refl s e f fs d are
  unary_step j unaries s e f fs less (calls (right (right (right (right (right (right (right (right d))))))))) are end = arrow_judged j unaries s e f fs less d are end

  unaries_judged : (j : ℕ) → JudgedBelow bytes (p.Unary Plain) j
  unfolding JudgedBelow
  unaries_judged zero = λ s e f fs less d are end. absurd (omega (arith, less))
  unaries_judged (suc j) = unary_step j (unaries_judged j)

  pub expr_lem : (s e : State) (f : OpenNode) (fs : List OpenNode) → ReadsGo bytes (Call (p.Expr Plain) ∷ []) s e → s.open_nodes ≡ f ∷ fs → EndsArgument e.rest → Judged bytes e f fs (ReadsGo bytes (Call p.AnyType ∷ []) s e)
  unfolding JudgedBelow
  expr_lem s e f fs d are end = exprs_judged bytes (suc (length s.rest)) (unaries_judged (suc (length s.rest))) s e f fs (omega arith) d are end

  -- An expression that is written as a type is, is a type. Some node has to be open: with none the tree is put nowhere.
  pub expression_is_type : (s e : State) (f : OpenNode) (fs : List OpenNode) → ReadsGo bytes (Call (p.Expr Plain) ∷ []) s e → s.open_nodes ≡ f ∷ fs → ends_in_type e.open_nodes ≡ true → EndsArgument e.rest → ReadsGo bytes (Call p.AnyType ∷ []) s e
  expression_is_type s e f fs d are is end = let t = expr_lem s e f fs d are end in t.back (sym (ap ends_in_type t.nodes) ∙ is)
