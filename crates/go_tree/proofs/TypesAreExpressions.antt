-- Before `]`, `,` or `)` what is read as a type is read as an expression, and written as a type is.
use Rattle.std.proofs.Common.{◌≡◌, ℕ, zero, suc, ◌≤◌, true, List, [], ◌∷◌, length, refl, ap, subst, ◌∙◌, Some, ◌&&◌, arith}
use Rattle.go_tree.specs.declared.token.TokenKind.TheVariants.{KwChan, KwFunc, Arrow}
use Rattle.go_tree.specs.declared.node_kind.NodeKind.TheVariants as k
use Rattle.go_tree.specs.declared.production.Form.TheVariants.{Plain}
use Rattle.go_tree.specs.declared.production.Production.{Production}
use Rattle.go_tree.specs.declared.production.Production.TheVariants as p
use Rattle.go_tree.specs.Grammar.RightSide.{Call}
use Rattle.go_tree.specs.Grammar.Trees.Reading.{State, OpenNode, at_end, does, calls, nothing, in_turn, left, right, passed_by, next_start, node_read, ends_in_type}
use Rattle.go_tree.specs.Grammar.Words.{◌•◌, ◌or◌, tok, the}
use Rattle.go_tree.specs.Grammar.Trees.Sentence.{production, ReadsGo}
use Rattle.go_tree.proofs.ReadingLemmas.{join}
use Rattle.go_tree.proofs.NetEffects.{TypeLiteral, ChanLiteral, Sorts, only, within, flow, stack}
use Rattle.go_tree.proofs.NetEffectLemmas.{with_parts, is_within}
use Rattle.go_tree.proofs.GrammarNetEffects.{effects, adds_one}
use Rattle.go_tree.proofs.ReadingStepLemmas.{passes, opens, closes, pass_less, NodeParts, node_parts, node_back, no_brace}
use Rattle.go_tree.proofs.TypeTreeLemmas.{type_literal, type_literal_lem}
use Rattle.go_tree.proofs.TypeExpressionLemmas.{EndsArgument, node_begun, node_ended, operand_is_unary, unary_is_expr, chan_of, chan_moves, TypeRead, TypesRead, type_name_read, paren_read, star_read}

module _ (bytes : List ℕ) where
  recv_read : (j : ℕ) → TypesRead bytes j → (s e : State) (f : OpenNode) (fs : List OpenNode) → suc (length s.rest) ≤ suc j → ReadsGo bytes (Call p.RecvChan ∷ []) s e → s.open_nodes ≡ f ∷ fs → EndsArgument e.rest → TypeRead bytes s e f fs
  unfolding TypesRead
  recv_read j types s e f fs less (calls d) are end = outer n.reads
    where
      n : NodeParts bytes k.ArrowExpr (tok Arrow • chan_of bytes (the p.AnyType)) s e
      n = node_parts bytes k.ArrowExpr (tok Arrow • chan_of bytes (the p.AnyType)) s e d

      g : OpenNode
      g = record { start = next_start s.last s.rest; parts = [] }

      outer : ReadsGo bytes ((tok Arrow • chan_of bytes (the p.AnyType)) ∷ []) n.begun n.ends → TypeRead bytes s e f fs
      outer (in_turn (does {m = m} h c)) = inner i.reads
        where
          i : NodeParts bytes k.ChanType (tok KwChan • the p.AnyType) m n.ends
          i = node_parts bytes k.ChanType (tok KwChan • the p.AnyType) m n.ends c

          inner : ReadsGo bytes ((tok KwChan • the p.AnyType) ∷ []) i.begun i.ends → TypeRead bytes s e f fs
          inner (in_turn (does {m = o} q a)) =
              let arrow = passes bytes Arrow n.begun m h in
              let chan = passes bytes KwChan i.begun o q in
              let rows = ap length (opens bytes s n.begun n.opened).rest in
              let rows' = ap length (opens bytes m i.begun i.opened).rest in
              let fewer = pass_less bytes Arrow n.begun m arrow in
              let fewer' = pass_less bytes KwChan i.begun o chan in
              let w : OpenNode = record { start = next_start m.last m.rest; parts = [] } in
              let ending = subst EndsArgument (closes bytes k.ChanType i.ends n.ends i.closed).rest (subst EndsArgument (closes bytes k.ArrowExpr n.ends e n.closed).rest end) in
              let at = node_begun bytes k.ArrowExpr (tok Arrow • chan_of bytes (the p.AnyType)) s e (f ∷ fs) n are in
              let inside = node_begun bytes k.ChanType (tok KwChan • the p.AnyType) m n.ends (g ∷ f ∷ fs) i (arrow.same ∙ at) in
              let t = types o i.ends w (g ∷ f ∷ fs) (omega (arith, less, fewer, fewer', rows, rows')) a (chan.same ∙ inside) ending in
              let x = node_read bytes k.ChanType i.ends.last (with_parts (t.tree ∷ []) w) in
              record {
                tree = node_read bytes k.ArrowExpr n.ends.last (with_parts (x ∷ []) g);
                nodes = node_ended bytes k.ArrowExpr n.ends e (with_parts (x ∷ []) g) f fs n.closed (node_ended bytes k.ChanType i.ends n.ends (with_parts (t.tree ∷ []) w) g (f ∷ fs) i.closed t.nodes);
                is = ap (λ y. y && true) t.is;
                reads = arrow_unary (chan_moves bytes (suc (length m.rest)) m n.ends (omega arith) c);
              }
            where
              arrow_unary : ReadsGo bytes (Call p.ChanType ∷ []) m n.ends → ReadsGo bytes (Call (p.Unary Plain) ∷ []) s e
              arrow_unary r = calls (right (right (right (right (right (right (right (right (node_back bytes k.ArrowExpr (tok Arrow • the (p.Unary Plain)) s n.begun n.ends e n.opened (in_turn (does h (operand_is_unary bytes m n.ends (calls (right (right (right (left r)))))))) n.closed)))))))))

  -- types that begin with a word or `[`
  literal_read : (n : Production) (c : Sorts) → flow effects (Call n) (stack [] []) ≡ Some (stack [] (c ∷ [])) → within c type_literal ≡ true → (s e : State) (f : OpenNode) (fs : List OpenNode) → ReadsGo bytes (Call n ∷ []) s e → s.open_nodes ≡ f ∷ fs → ReadsGo bytes (Call p.Operand ∷ []) s e → TypeRead bytes s e f fs
  literal_read n c q w s e f fs d are o =
      let t = adds_one bytes (Call n) c q s e f fs d are in
      record { tree = t.0; nodes = t.2; is = type_literal_lem t.0 (is_within c type_literal t.0 w t.1); reads = operand_is_unary bytes s e o }

  -- no `{` follows, so no value does
  before_value : (s e : State) → EndsArgument e.rest → ReadsGo bytes ((the p.BracketType or the p.MapType or the p.StructType) ∷ []) s e → ReadsGo bytes (Call p.Operand ∷ []) s e
  before_value s e end d = calls (right (right (left (in_turn (join Production production bytes d (passed_by (no_brace e.rest end) (nothing at_end)))))))

  func_operand : (s e : State) → EndsArgument e.rest → ReadsGo bytes (Call p.FuncType ∷ []) s e → ReadsGo bytes (Call p.Operand ∷ []) s e
  func_operand s e end (calls d) = go n.reads
    where
      n : NodeParts bytes k.FuncType (tok KwFunc • the p.Signature) s e
      n = node_parts bytes k.FuncType (tok KwFunc • the p.Signature) s e d

      go : ReadsGo bytes ((tok KwFunc • the p.Signature) ∷ []) n.begun n.ends → ReadsGo bytes (Call p.Operand ∷ []) s e
      go (in_turn (does h c)) =
          let w = no_brace n.ends.rest (subst EndsArgument (closes bytes k.FuncType n.ends e n.closed).rest end) in
          calls (right (right (right (right (right (calls (in_turn (does n.opened (in_turn (does h (in_turn (join Production production bytes c (passed_by w (does n.closed at_end))))))))))))))

  types_step : (j : ℕ) → TypesRead bytes j → TypesRead bytes (suc j)
  unfolding TypesRead
  types_step j types s e f fs less (calls (left d)) are end = type_name_read bytes j types s e f fs less d are
  types_step j types s e f fs less (calls (right (left d))) are end = paren_read bytes j types s e f fs less d are
  types_step j types s e f fs less (calls (right (right (left d)))) are end = star_read bytes j types s e f fs less d are end
  types_step j types s e f fs less (calls (right (right (right (left d))))) are end = literal_read p.BracketType (only TypeLiteral) refl refl s e f fs d are (before_value s e end (left d))
  types_step j types s e f fs less (calls (right (right (right (right (left d)))))) are end = recv_read j types s e f fs less d are end
  types_step j types s e f fs less (calls (right (right (right (right (right (left d))))))) are end = literal_read p.MapType (only TypeLiteral) refl refl s e f fs d are (before_value s e end (right (left d)))
  types_step j types s e f fs less (calls (right (right (right (right (right (right (left d)))))))) are end = literal_read p.ChanType (only ChanLiteral) refl refl s e f fs d are (calls (right (right (right (left d)))))
  types_step j types s e f fs less (calls (right (right (right (right (right (right (right (left d))))))))) are end = literal_read p.FuncType (only TypeLiteral) refl refl s e f fs d are (func_operand s e end d)
  types_step j types s e f fs less (calls (right (right (right (right (right (right (right (right (left d)))))))))) are end = literal_read p.StructType (only TypeLiteral) refl refl s e f fs d are (before_value s e end (right (right d)))
  types_step j types s e f fs less (calls (right (right (right (right (right (right (right (right (right d)))))))))) are end = literal_read p.InterfaceType (only TypeLiteral) refl refl s e f fs d are (calls (right (right (right (right (left d))))))

  types_read : (j : ℕ) → TypesRead bytes j
  unfolding TypesRead
  types_read zero = λ s e f fs less d are end. absurd (omega (arith, less))
  types_read (suc j) = types_step j (types_read j)

  pub type_lem : (s e : State) (f : OpenNode) (fs : List OpenNode) → ReadsGo bytes (Call p.AnyType ∷ []) s e → s.open_nodes ≡ f ∷ fs → EndsArgument e.rest → TypeRead bytes s e f fs
  unfolding TypesRead
  type_lem s e f fs d are end = types_read (suc (length s.rest)) s e f fs (omega arith) d are end

  -- A type is an expression that is written as a type is. Some node has to be open: with none the tree is put nowhere.
  pub type_is_expression : (s e : State) (f : OpenNode) (fs : List OpenNode) → ReadsGo bytes (Call p.AnyType ∷ []) s e → s.open_nodes ≡ f ∷ fs → EndsArgument e.rest → ReadsGo bytes (Call (p.Expr Plain) ∷ []) s e × (ends_in_type e.open_nodes ≡ true)
  type_is_expression s e f fs d are end =
      let t = type_lem s e f fs d are end in
      (unary_is_expr bytes s e t.reads, ap ends_in_type t.nodes ∙ t.is)
