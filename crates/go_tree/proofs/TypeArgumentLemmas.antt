-- The arguments of a type that is a single name: the first of them can be read as an expression that is written as a
-- type is.
use Rattle.std.proofs.Common.{◌≡◌, ℕ, zero, suc, ◌≤◌, true, List, [], ◌∷◌, ◌++◌, length, refl, sym, ap, subst, ◌∙◌, cond, Some, None, append_assoc, ◌↔◌, arith}
use Rattle.go_tree.specs.declared.token.TokenKind.{TokenKind}
use Rattle.go_tree.specs.declared.token.TokenKind.TheVariants.{LeftBracket, Comma, RightBracket}
use Rattle.go_tree.specs.declared.node_kind.NodeKind.TheVariants as k
use Rattle.go_tree.specs.declared.production.Form.TheVariants.{Plain}
use Rattle.go_tree.specs.declared.production.Items.TheVariants.{Types}
use Rattle.go_tree.specs.declared.production.Production.{Production}
use Rattle.go_tree.specs.declared.production.Production.TheVariants as p
use Rattle.go_tree.specs.Tree.{Tree, start_of}
use Rattle.go_tree.specs.Grammar.RightSide.{RightSide, Call, Act, Pass, Open, Reopen, Adopt, CheckType, Close}
use Rattle.go_tree.specs.Grammar.Trees.Reading.{State, OpenNode, at_end, does, calls, nothing, in_turn, left, right, acted, passed, next_start, reopen, adopt, close_last, ends_in_type}
use Rattle.go_tree.specs.Grammar.Trees.TypeTrees.{is_type}
use Rattle.go_tree.specs.Grammar.Words.{◌•◌, ◌or◌, tok, the, opt, open_node, adopt_last, check_type, close}
use Rattle.go_tree.specs.Grammar.Trees.Sentence.{production, ReadsGo}
use Rattle.go_tree.proofs.ReadingLemmas.{split, join, in_turn_of}
use Rattle.go_tree.proofs.NetEffects.{any_sort}
use Rattle.go_tree.proofs.NetEffectLemmas.{with_parts}
use Rattle.go_tree.proofs.ReadingEffectLemmas.{at, passed_any}
use Rattle.go_tree.proofs.GrammarNetEffects.{added_lem}
use Rattle.go_tree.proofs.ReadingStepLemmas.{passes, opens, reopens, checks, reads_less, pass_less, bracket_next}
use Rattle.go_tree.proofs.TypeExpressionLemmas.{name_lem, extend_begun, more_ends, with_more}
use Rattle.go_tree.proofs.TypesAreExpressions.{type_is_expression}
use Rattle.go_tree.proofs.ExpressionsAsTypes.{expression_is_type}

-- the `]` behind the first argument, or further ones and a `]`
abbrev pub more_arguments : RightSide Production
more_arguments = tok RightBracket or tok Comma • opt (the p.AnyType • opt (the (p.More Types))) • tok RightBracket

-- TypeArgs directly behind a single name, of which the first is read as an expression
abbrev pub args_of_name : RightSide Production
args_of_name = open_node • tok LeftBracket • the (p.Expr Plain) • check_type • more_arguments • adopt_last • close k.IndexExpr

-- the same, as it stands behind a name in a parameter and a field
abbrev pub factored_args_of_name : RightSide Production
factored_args_of_name =
    open_node • tok LeftBracket • the (p.Expr Plain) • (
    tok RightBracket • check_type
    or check_type • tok Comma • opt (the p.AnyType • opt (the (p.More Types))) • tok RightBracket
    ) • adopt_last • close k.IndexExpr

module _ (bytes : List ℕ) where
  made : (a : Act) (s m o : State) → acted bytes a s ≡ Some o → acted bytes a s ≡ Some m → o ≡ m
  made a s m o q h = let y = sym q ∙ h in cc

  pass_at : (k : TokenKind) (s m t : State) (fs : List OpenNode) → acted bytes (Pass k) s ≡ Some m → s.rest ≡ t.rest → acted bytes (Pass k) (at t fs) ≡ Some (at m fs)
  pass_at k s m t fs h q = ap (λ r. passed k r fs) (sym q) ∙ (passed_any k s.rest s.open_nodes fs m h).0

  -- ---- further arguments

  record MoreMoves (s e : State) (g : OpenNode) (gs : List OpenNode) : Type 0 where
    trees : List Tree
    nodes : e.open_nodes ≡ with_parts trees g ∷ gs
    moves : (g' : OpenNode) (gs' : List OpenNode) → ReadsGo bytes (opt (the (p.More Types)) ∷ []) (at s (g' ∷ gs')) (at e (with_parts trees g' ∷ gs'))

  more_moves : (i : ℕ) (s e : State) (g : OpenNode) (gs : List OpenNode) → suc (length s.rest) ≤ i → ReadsGo bytes (opt (the (p.More Types)) ∷ []) s e → s.open_nodes ≡ g ∷ gs → MoreMoves s e g gs
  more_moves zero s e g gs less d are = absurd (omega (arith, less))
  more_moves (suc i) s e g gs less (right (nothing at_end)) are = record { trees = []; nodes = are; moves = λ g' gs'. right (nothing at_end) }
  more_moves (suc i) s e g gs less (left (calls (in_turn (does h (right (nothing at_end)))))) are = record { trees = []; nodes = (passes bytes Comma s e h).same ∙ are; moves = λ g' gs'. left (calls (in_turn (does (pass_at Comma s e s (g' ∷ gs') h refl) (right (nothing at_end))))) }
  more_moves (suc i) s e g gs less (left (calls (in_turn (does {m = m} h (left (in_turn d)))))) are =
      let comma = passes bytes Comma s m h in
      let fewer = pass_less bytes Comma s m comma in
      let r = split Production production bytes d (Call p.AnyType ∷ []) (opt (the (p.More Types)) ∷ []) refl in
      let mid = reads_less bytes r.1 in
      let first = added_lem bytes (Call p.AnyType) any_sort refl m r.0 g gs r.1 (comma.same ∙ are) in
      let rest = more_moves i r.0 e (with_parts (first.tree ∷ []) g) gs (omega (arith, less, fewer, mid)) r.2 first.nodes in
      record {
        trees = rest.trees ++ (first.tree ∷ []);
        nodes = rest.nodes ∙ with_more bytes rest.trees first.tree g gs;
        moves = λ g' gs'.
            let others = subst (λ x. ReadsGo bytes (opt (the (p.More Types)) ∷ []) (at r.0 (with_parts (first.tree ∷ []) g' ∷ gs')) (at e x)) (with_more bytes rest.trees first.tree g' gs') (rest.moves (with_parts (first.tree ∷ []) g') gs') in
            left (calls (in_turn (does (pass_at Comma s m s (g' ∷ gs') h refl) (left (in_turn (join Production production bytes (first.moves g' gs') others))))));
      }

  arguments_ahead : (s e : State) (gs : List (RightSide Production)) → ReadsGo bytes (more_arguments ∷ gs) s e → ReadsGo bytes (opt (the (p.More Types)) ∷ tok RightBracket ∷ gs) s e
  arguments_ahead s e gs (left d) = right (nothing d)
  arguments_ahead s e gs (right (in_turn (does h (in_turn d)))) = left (calls (in_turn (does h d)))

  arguments_back : (s e : State) (gs : List (RightSide Production)) → ReadsGo bytes (opt (the (p.More Types)) ∷ tok RightBracket ∷ gs) s e → ReadsGo bytes (more_arguments ∷ gs) s e
  arguments_back s e gs (right (nothing d)) = left d
  arguments_back s e gs (left (calls (in_turn (does h d)))) = right (in_turn (does h (in_turn d)))

  -- ---- behind a name

  -- the open nodes with the name as first part, read one way and the other
  name_moved : (zs : List Tree) (t x : Tree) (start : ℕ) (f : OpenNode) (fs : List OpenNode) → adopt (with_parts zs (with_parts (t ∷ []) (record { start = start; parts = [] })) ∷ with_parts (x ∷ []) f ∷ fs) ≡ with_parts zs (with_parts (t ∷ []) (record { start = start_of x; parts = x ∷ [] })) ∷ f ∷ fs
  name_moved zs t x start f fs = ap (λ y. record { start = start_of x; parts = y } ∷ f ∷ fs) (append_assoc zs (t ∷ []) (x ∷ []))

  module _ (m e : State) (x : Tree) (f : OpenNode) (fs : List OpenNode) (gs : List (RightSide Production)) (are : m.open_nodes ≡ with_parts (x ∷ []) f ∷ fs) where
    ahead : ReadsGo bytes (args_of_name ∷ gs) m e → ReadsGo bytes (Call p.TypeArgs ∷ gs) m e
    ahead (in_turn (does {m = a} o (in_turn (does {m = b} h (in_turn c))))) =
        let r = split Production production bytes c (Call (p.Expr Plain) ∷ []) ((check_type • more_arguments • adopt_last • close k.IndexExpr) ∷ gs) refl in
        checked r.0 r.1 r.2
      where
        at_b : b.open_nodes ≡ record { start = next_start m.last m.rest; parts = [] } ∷ with_parts (x ∷ []) f ∷ fs
        at_b = (passes bytes LeftBracket a b h).same ∙ ((opens bytes m a o).nodes ∙ ap (λ y. record { start = next_start m.last m.rest; parts = [] } ∷ y) are)

        closed : (c : State) → ReadsGo bytes (Call (p.Expr Plain) ∷ []) b c → ends_in_type c.open_nodes ≡ true → (q : State) → ReadsGo bytes (opt (the (p.More Types)) ∷ []) c q → ReadsGo bytes (tok RightBracket ∷ (adopt_last • close k.IndexExpr) ∷ gs) q e → ReadsGo bytes (Call p.TypeArgs ∷ gs) m e
        closed c u is q v (does {m = d} rb (in_turn (does {m = w} ad (does {m = z} cl g)))) =
            let new : OpenNode = record { start = next_start m.last m.rest; parts = [] } in
            let named : OpenNode = record { start = start_of x; parts = x ∷ [] } in
            let outer : List OpenNode = with_parts (x ∷ []) f ∷ fs in
            let shut = passes bytes RightBracket q d rb in
            let end = more_ends bytes Types (the p.AnyType) refl c q v (bracket_next q d shut) in
            let one = added_lem bytes (Call p.AnyType) any_sort refl b c new outer (expression_is_type bytes b c new outer u at_b is end) at_b in
            let more = more_moves (suc (length c.rest)) c q (with_parts (one.tree ∷ []) new) outer (omega arith) v one.nodes in
            let all : List OpenNode = with_parts more.trees (with_parts (one.tree ∷ []) named) ∷ f ∷ fs in
            let adopts : at d (adopt d.open_nodes) ≡ w = made Adopt d w (at d (adopt d.open_nodes)) refl ad in
            let ends : at w (close_last bytes k.IndexExpr w.last w.open_nodes) ≡ z = made (Close k.IndexExpr) w z (at w (close_last bytes k.IndexExpr w.last w.open_nodes)) refl cl in
            let same : adopt d.open_nodes ≡ all = ap adopt (shut.same ∙ more.nodes) ∙ name_moved more.trees one.tree x (next_start m.last m.rest) f fs in
            let begin : acted bytes Reopen m ≡ Some (at m (named ∷ f ∷ fs)) = ap (λ y. Some (at m (reopen y))) are in
            let finish : acted bytes (Close k.IndexExpr) (at d all) ≡ Some z = ap (λ y. Some (at d (close_last bytes k.IndexExpr d.last y))) (sym same) ∙ (ap (λ (y : State). Some (at y (close_last bytes k.IndexExpr y.last y.open_nodes))) adopts ∙ ap Some ends) in
            calls (in_turn (does begin (in_turn (in_turn (does (pass_at LeftBracket a b m (named ∷ f ∷ fs) h (opens bytes m a o).rest) (in_turn (join Production production bytes (one.moves named (f ∷ fs)) (in_turn (join Production production bytes (more.moves (with_parts (one.tree ∷ []) named) (f ∷ fs)) (does (pass_at RightBracket q d q all rb refl) (does finish g)))))))))))

        checked : (c : State) → ReadsGo bytes (Call (p.Expr Plain) ∷ []) b c → ReadsGo bytes ((check_type • more_arguments • adopt_last • close k.IndexExpr) ∷ gs) c e → ReadsGo bytes (Call p.TypeArgs ∷ gs) m e
        checked c u (in_turn (does {m = c'} ck (in_turn v))) =
            let same = checks bytes c c' ck in
            let w = subst (λ y. ReadsGo bytes (opt (the (p.More Types)) ∷ tok RightBracket ∷ (adopt_last • close k.IndexExpr) ∷ gs) y e) (sym same.1) (arguments_ahead c' e ((adopt_last • close k.IndexExpr) ∷ gs) v) in
            let r = split Production production bytes w (opt (the (p.More Types)) ∷ []) (tok RightBracket ∷ (adopt_last • close k.IndexExpr) ∷ gs) refl in
            closed c u same.0 r.0 r.1 r.2

    back : ReadsGo bytes (Call p.TypeArgs ∷ gs) m e → ReadsGo bytes (args_of_name ∷ gs) m e
    back (calls (in_turn (does {m = a} o (in_turn (in_turn (does {m = b} h (in_turn c))))))) =
        let r = split Production production bytes c (Call p.AnyType ∷ []) ((opt (the (p.More Types)) • tok RightBracket) ∷ close k.IndexExpr ∷ gs) refl in
        further r.0 r.1 r.2
      where
        at_b : b.open_nodes ≡ record { start = start_of x; parts = x ∷ [] } ∷ f ∷ fs
        at_b = (passes bytes LeftBracket a b h).same ∙ extend_begun bytes m a x f fs o are

        closed : (c : State) → ReadsGo bytes (Call p.AnyType ∷ []) b c → (q : State) → ReadsGo bytes (opt (the (p.More Types)) ∷ []) c q → ReadsGo bytes (tok RightBracket ∷ close k.IndexExpr ∷ gs) q e → ReadsGo bytes (args_of_name ∷ gs) m e
        closed c u q v (does {m = d} rb (does {m = z} cl g)) =
            let new : OpenNode = record { start = next_start m.last m.rest; parts = [] } in
            let named : OpenNode = record { start = start_of x; parts = x ∷ [] } in
            let outer : List OpenNode = with_parts (x ∷ []) f ∷ fs in
            let shut = passes bytes RightBracket q d rb in
            let end = more_ends bytes Types (the p.AnyType) refl c q v (bracket_next q d shut) in
            let expr = type_is_expression bytes b c named (f ∷ fs) u at_b end in
            let one = added_lem bytes (Call (p.Expr Plain)) any_sort refl b c named (f ∷ fs) expr.0 at_b in
            let more = more_moves (suc (length c.rest)) c q (with_parts (one.tree ∷ []) named) (f ∷ fs) (omega arith) v one.nodes in
            let first : List OpenNode = with_parts (one.tree ∷ []) new ∷ outer in
            let all : List OpenNode = with_parts more.trees (with_parts (one.tree ∷ []) new) ∷ outer in
            let ends : at d (close_last bytes k.IndexExpr d.last d.open_nodes) ≡ z = made (Close k.IndexExpr) d z (at d (close_last bytes k.IndexExpr d.last d.open_nodes)) refl cl in
            let same : adopt all ≡ d.open_nodes = name_moved more.trees one.tree x (next_start m.last m.rest) f fs ∙ sym (shut.same ∙ more.nodes) in
            let is : is_type one.tree ≡ true = sym (ap ends_in_type one.nodes) ∙ expr.1 in
            let begin : acted bytes Open m ≡ Some (at m (new ∷ outer)) = ap (λ y. Some (at m (new ∷ y))) are in
            let check : acted bytes CheckType (at c first) ≡ Some (at c first) = ap (λ y. cond y (Some (at c first)) None) is in
            let finish : acted bytes (Close k.IndexExpr) (at d (adopt all)) ≡ Some z = ap (λ y. Some (at d (close_last bytes k.IndexExpr d.last y))) same ∙ ap Some ends in
            let rest = arguments_back (at c first) z ((adopt_last • close k.IndexExpr) ∷ []) (join Production production bytes (more.moves (with_parts (one.tree ∷ []) new) outer) (does (pass_at RightBracket q d q all rb refl) (in_turn (does refl (does finish at_end))))) in
            in_turn (does begin (in_turn (does (pass_at LeftBracket a b m (new ∷ outer) h (reopens bytes m a o).rest) (in_turn (join Production production bytes (one.moves new outer) (in_turn (does check (in_turn (join Production production bytes rest g)))))))))

        further : (c : State) → ReadsGo bytes (Call p.AnyType ∷ []) b c → ReadsGo bytes ((opt (the (p.More Types)) • tok RightBracket) ∷ close k.IndexExpr ∷ gs) c e → ReadsGo bytes (args_of_name ∷ gs) m e
        further c u (in_turn v) =
            let r = split Production production bytes v (opt (the (p.More Types)) ∷ []) (tok RightBracket ∷ close k.IndexExpr ∷ gs) refl in
            closed c u r.0 r.1 r.2

  -- directly behind a single name both read the same
  pub args_of_name_lem : (gs : List (RightSide Production)) (s e : State) (f : OpenNode) (fs : List OpenNode) → s.open_nodes ≡ f ∷ fs → ReadsGo bytes (the p.Name ∷ args_of_name ∷ gs) s e ↔ ReadsGo bytes (the p.Name ∷ the p.TypeArgs ∷ gs) s e
  args_of_name_lem gs s e f fs are = (there, here)
    where
      there : ReadsGo bytes (the p.Name ∷ args_of_name ∷ gs) s e → ReadsGo bytes (the p.Name ∷ the p.TypeArgs ∷ gs) s e
      there d =
          let r = split Production production bytes d (the p.Name ∷ []) (args_of_name ∷ gs) refl in
          let x = name_lem bytes s r.0 f fs r.1 are in
          join Production production bytes r.1 (ahead r.0 e x.tree f fs gs x.nodes r.2)

      here : ReadsGo bytes (the p.Name ∷ the p.TypeArgs ∷ gs) s e → ReadsGo bytes (the p.Name ∷ args_of_name ∷ gs) s e
      here d =
          let r = split Production production bytes d (the p.Name ∷ []) (the p.TypeArgs ∷ gs) refl in
          let x = name_lem bytes s r.0 f fs r.1 are in
          join Production production bytes r.1 (back r.0 e x.tree f fs gs x.nodes r.2)

  -- ---- as a parameter and a field have it

  -- a token can be passed before the node read last is tested, or behind
  check_later : (kind : TokenKind) (gs : List (RightSide Production)) (s e : State) → ReadsGo bytes (tok kind ∷ check_type ∷ gs) s e ↔ ReadsGo bytes (check_type ∷ tok kind ∷ gs) s e
  check_later kind gs s e = (there, here)
    where
      there : ReadsGo bytes (tok kind ∷ check_type ∷ gs) s e → ReadsGo bytes (check_type ∷ tok kind ∷ gs) s e
      there (does {m = m} h (does {m = o} c d)) =
          let z = checks bytes m o c in
          let is : ends_in_type s.open_nodes ≡ true = sym (ap ends_in_type (passes bytes kind s m h).same) ∙ z.0 in
          does (ap (λ y. cond y (Some s) None) is) (does h (subst (λ y. ReadsGo bytes gs y e) (sym z.1) d))

      here : ReadsGo bytes (check_type ∷ tok kind ∷ gs) s e → ReadsGo bytes (tok kind ∷ check_type ∷ gs) s e
      here (does {m = m} c (does {m = o} h d)) =
          let z = checks bytes s m c in
          let q : acted bytes (Pass kind) s ≡ Some o = ap (acted bytes (Pass kind)) z.1 ∙ h in
          let is : ends_in_type o.open_nodes ≡ true = ap ends_in_type (passes bytes kind s o q).same ∙ z.0 in
          does q (does (ap (λ y. cond y (Some o) None) is) d)

  factored_ahead : (gs : List (RightSide Production)) (s e : State) → ReadsGo bytes (factored_args_of_name ∷ gs) s e → ReadsGo bytes (args_of_name ∷ gs) s e
  factored_ahead gs s e (in_turn (does o (in_turn (does {m = b} h (in_turn c))))) =
      let r = split Production production bytes c (Call (p.Expr Plain) ∷ []) (((tok RightBracket • check_type or check_type • tok Comma • opt (the p.AnyType • opt (the (p.More Types))) • tok RightBracket) • adopt_last • close k.IndexExpr) ∷ gs) refl in
      in_turn (does o (in_turn (does h (in_turn (join Production production bytes r.1 (go r.0 r.2))))))
    where
      go : (q : State) → ReadsGo bytes (((tok RightBracket • check_type or check_type • tok Comma • opt (the p.AnyType • opt (the (p.More Types))) • tok RightBracket) • adopt_last • close k.IndexExpr) ∷ gs) q e → ReadsGo bytes ((check_type • more_arguments • adopt_last • close k.IndexExpr) ∷ gs) q e
      go q (in_turn (left (in_turn d))) = in_turn (first ((check_later RightBracket ((adopt_last • close k.IndexExpr) ∷ gs) q e).0 d))
        where
          first : ReadsGo bytes (check_type ∷ tok RightBracket ∷ (adopt_last • close k.IndexExpr) ∷ gs) q e → ReadsGo bytes (check_type ∷ (more_arguments • adopt_last • close k.IndexExpr) ∷ gs) q e
          first (does c u) = does c (in_turn (left u))
      go q (in_turn (right (in_turn (does c d)))) = in_turn (does c (in_turn (right d)))

  factored_back : (gs : List (RightSide Production)) (s e : State) → ReadsGo bytes (args_of_name ∷ gs) s e → ReadsGo bytes (factored_args_of_name ∷ gs) s e
  factored_back gs s e (in_turn (does o (in_turn (does {m = b} h (in_turn c))))) =
      let r = split Production production bytes c (Call (p.Expr Plain) ∷ []) ((check_type • more_arguments • adopt_last • close k.IndexExpr) ∷ gs) refl in
      in_turn (does o (in_turn (does h (in_turn (join Production production bytes r.1 (go r.0 r.2))))))
    where
      go : (q : State) → ReadsGo bytes ((check_type • more_arguments • adopt_last • close k.IndexExpr) ∷ gs) q e → ReadsGo bytes (((tok RightBracket • check_type or check_type • tok Comma • opt (the p.AnyType • opt (the (p.More Types))) • tok RightBracket) • adopt_last • close k.IndexExpr) ∷ gs) q e
      go q (in_turn (does c (in_turn (left d)))) = in_turn (left (in_turn ((check_later RightBracket ((adopt_last • close k.IndexExpr) ∷ gs) q e).1 (does c d))))
      go q (in_turn (does c (in_turn (right d)))) = in_turn (right (in_turn (does c d)))

  -- where a node begins with a name and its arguments
  pub args_in_node_lem : (g : RightSide Production) (gs : List (RightSide Production)) (s e : State) → ReadsGo bytes ((open_node • the p.Name • factored_args_of_name • g) ∷ gs) s e ↔ ReadsGo bytes ((open_node • the p.Name • the p.TypeArgs • g) ∷ gs) s e
  args_in_node_lem g gs s e = (there, here)
    where
      there : ReadsGo bytes ((open_node • the p.Name • factored_args_of_name • g) ∷ gs) s e → ReadsGo bytes ((open_node • the p.Name • the p.TypeArgs • g) ∷ gs) s e
      there (in_turn (does {m = m} o (in_turn d))) =
          let r = split Production production bytes d (the p.Name ∷ []) ((factored_args_of_name • g) ∷ gs) refl in
          let u = (args_of_name_lem (g ∷ gs) m e (record { start = next_start s.last s.rest; parts = [] }) s.open_nodes (opens bytes s m o).nodes).0 (join Production production bytes r.1 (factored_ahead (g ∷ gs) r.0 e (in_turn_of r.2))) in
          let v = split Production production bytes u (the p.Name ∷ []) (the p.TypeArgs ∷ g ∷ gs) refl in
          in_turn (does o (in_turn (join Production production bytes v.1 (in_turn v.2))))

      here : ReadsGo bytes ((open_node • the p.Name • the p.TypeArgs • g) ∷ gs) s e → ReadsGo bytes ((open_node • the p.Name • factored_args_of_name • g) ∷ gs) s e
      here (in_turn (does {m = m} o (in_turn d))) =
          let r = split Production production bytes d (the p.Name ∷ []) ((the p.TypeArgs • g) ∷ gs) refl in
          let u = (args_of_name_lem (g ∷ gs) m e (record { start = next_start s.last s.rest; parts = [] }) s.open_nodes (opens bytes s m o).nodes).1 (join Production production bytes r.1 (in_turn_of r.2)) in
          let v = split Production production bytes u (the p.Name ∷ []) (args_of_name ∷ g ∷ gs) refl in
          in_turn (does o (in_turn (join Production production bytes v.1 (in_turn (factored_back (g ∷ gs) v.0 e v.2)))))
