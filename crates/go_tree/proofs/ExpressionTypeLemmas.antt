-- What follows an operand: of which expressions it makes one that is written as a type is.
use Rattle.std.proofs.Common.{◌≡◌, ℕ, zero, suc, ◌≤◌, Bool, true, false, List, [], ◌∷◌, ◌++◌, length, refl, sym, ap, subst, ◌∙◌, Some, ◌⊎◌, inl, inr, arith}
use Rattle.std.proofs.lemmas.Bool.{and_parts}
use Rattle.go_tree.specs.declared.token.TokenKind.TheVariants.{KwType, LeftParen, LeftBracket, Comma, Dot, RightParen, RightBracket}
use Rattle.go_tree.specs.declared.node_kind.NodeKind.TheVariants as k
use Rattle.go_tree.specs.declared.production.Form.TheVariants.{Plain}
use Rattle.go_tree.specs.declared.production.Items.TheVariants.{Types, Indexes}
use Rattle.go_tree.specs.declared.production.Production.{Production}
use Rattle.go_tree.specs.declared.production.Production.TheVariants as p
use Rattle.go_tree.specs.Tree.{Tree, start_of, trees_of}
use Rattle.go_tree.specs.Grammar.RightSide.{RightSide, Call, Nothing, Seq, Or, Many}
use Rattle.go_tree.specs.Grammar.Trees.Reading.{State, OpenNode, at_end, does, calls, nothing, in_turn, left, right, done, again, node_read}
use Rattle.go_tree.specs.Grammar.Trees.TypeTrees.{is_type_name, is_type, all_types}
use Rattle.go_tree.specs.Grammar.Words.{◌•◌, ◌or◌, tok, the, opt, many, close, extend}
use Rattle.go_tree.specs.Grammar.Expressions.{dot, index, slice_bounds, call}
use Rattle.go_tree.specs.Grammar.Trees.Sentence.{production, ReadsGo}
use Rattle.go_tree.proofs.ReadingLemmas.{split, join, in_turn_of}
use Rattle.go_tree.proofs.NetEffects.{any_sort, no_type, Is, flow, stack}
use Rattle.go_tree.proofs.NetEffectLemmas.{with_parts, any_tree}
use Rattle.go_tree.proofs.GrammarNetEffects.{effects, adds_one, turns_one, ends_one}
use Rattle.go_tree.proofs.ReadingStepLemmas.{passes, reopens, closes, reads_less, pass_less, extend_back, bracket_next}
use Rattle.go_tree.proofs.TypeTreeLemmas.{no_type_lem, no_type_nameless, index_lem, types_behind, unnamed}
use Rattle.go_tree.proofs.TypeExpressionLemmas.{EndsArgument, node_ended, extend_begun, SelectorRead, selector_lem, more_ends, with_more}

not_true : (b : Bool) → (b ≡ true → ⊥) → b ≡ false
not_true true h = absurd (h refl)
not_true false h = refl

module _ (bytes : List ℕ) where
  -- a tree is read; if it is written as a type is, something more holds
  pub record Judged (e : State) (f : OpenNode) (fs : List OpenNode) (More : Type 0) : Type 0 where
    pub tree : Tree
    pub nodes : e.open_nodes ≡ with_parts (tree ∷ []) f ∷ fs
    pub back : is_type tree ≡ true → More

  unfoldable pub JudgedBelow : Production → ℕ → Type 0
  JudgedBelow n j = (s e : State) (f : OpenNode) (fs : List OpenNode) → suc (length s.rest) ≤ j → ReadsGo bytes (Call n ∷ []) s e → s.open_nodes ≡ f ∷ fs → EndsArgument e.rest → Judged e f fs (ReadsGo bytes (Call p.AnyType ∷ []) s e)

  pub no_type_judged : (More : Type 0) (e : State) (f : OpenNode) (fs : List OpenNode) (t : Tree) → is_type t ≡ false → e.open_nodes ≡ with_parts (t ∷ []) f ∷ fs → Judged e f fs More
  no_type_judged More e f fs t q nodes = record { tree = t; nodes = nodes; back = λ h. absurd (let y = sym q ∙ h in cc) }

  -- ---- operators

  -- an expression with an operator of the level is no type
  pub level_judged : (n b : Production) (tail : Production) → production n ≡ Seq (Call b) (Many (Call tail)) → flow effects (Call b) (stack [] []) ≡ Some (stack [] (any_sort ∷ [])) → flow effects (Call tail) (stack [] (any_sort ∷ [])) ≡ Some (stack [] (no_type ∷ [])) → flow effects (Many (Call tail)) (stack [] (no_type ∷ [])) ≡ Some (stack [] (no_type ∷ [])) → (j : ℕ) → JudgedBelow b j → JudgedBelow n j
  unfolding JudgedBelow
  level_judged n b tail q tb tt tm j judge s e f fs less (calls d) are end =
      let r = split Production production bytes (in_turn_of (subst (λ g. ReadsGo bytes (g ∷ []) s e) q d)) (Call b ∷ []) (Many (Call tail) ∷ []) refl in
      go r.0 r.1 r.2
    where
      go : (m : State) → ReadsGo bytes (Call b ∷ []) s m → ReadsGo bytes (Many (Call tail) ∷ []) m e → Judged e f fs (ReadsGo bytes (Call p.AnyType ∷ []) s e)
      go m u (done at_end) = judge s m f fs less u are end
      go m u (again c) =
          let r = split Production production bytes c (Call tail ∷ []) (Many (Call tail) ∷ []) refl in
          let x = adds_one bytes (Call b) any_sort tb s m f fs u are in
          let y = turns_one bytes (Call tail) any_sort no_type tt m r.0 x.0 f fs r.1 x.1 x.2 in
          let z = turns_one bytes (Many (Call tail)) no_type no_type tm r.0 e y.0 f fs r.2 y.1 y.2 in
          no_type_judged (ReadsGo bytes (Call p.AnyType ∷ []) s e) e f fs z.0 (no_type_lem z.0 z.1) z.2

  pub exprs_judged : (j : ℕ) → JudgedBelow (p.Unary Plain) j → JudgedBelow (p.Expr Plain) j
  exprs_judged j unaries =
      level_judged (p.Expr Plain) (p.Conjunction Plain) (p.OrTail Plain) refl refl refl refl j
      (level_judged (p.Conjunction Plain) (p.Comparison Plain) (p.AndTail Plain) refl refl refl refl j
      (level_judged (p.Comparison Plain) (p.Sum Plain) (p.CompareTail Plain) refl refl refl refl j
      (level_judged (p.Sum Plain) (p.Product Plain) (p.AddTail Plain) refl refl refl refl j
      (level_judged (p.Product Plain) (p.Unary Plain) (p.MulTail Plain) refl refl refl refl j unaries))))

  -- ---- indexes

  record ListJudged (s e : State) (g : OpenNode) (gs : List OpenNode) : Type 0 where
    trees : List Tree
    nodes : e.open_nodes ≡ with_parts trees g ∷ gs
    back : all_types (trees_of trees) ≡ true → ReadsGo bytes (opt (the (p.More Types)) ∷ []) s e

  more_judged : (i j : ℕ) → i ≤ suc j → JudgedBelow (p.Expr Plain) j → (s e : State) (g : OpenNode) (gs : List OpenNode) → suc (length s.rest) ≤ i → ReadsGo bytes (opt (the (p.More Indexes)) ∷ []) s e → s.open_nodes ≡ g ∷ gs → EndsArgument e.rest → ListJudged s e g gs
  unfolding JudgedBelow
  more_judged zero j low exprs s e g gs less d are end = absurd (omega (arith, less))
  more_judged (suc i) j low exprs s e g gs less (right (nothing at_end)) are end = record { trees = []; nodes = are; back = λ h. right (nothing at_end) }
  more_judged (suc i) j low exprs s e g gs less (left (calls (in_turn (does h (right (nothing at_end)))))) are end = record { trees = []; nodes = (passes bytes Comma s e h).same ∙ are; back = λ q. left (calls (in_turn (does h (right (nothing at_end))))) }
  more_judged (suc i) j low exprs s e g gs less (left (calls (in_turn (does {m = m} h (left (in_turn d)))))) are end =
      let comma = passes bytes Comma s m h in
      let fewer = pass_less bytes Comma s m comma in
      let r = split Production production bytes d (Call (p.Expr Plain) ∷ []) (opt (the (p.More Indexes)) ∷ []) refl in
      let mid = reads_less bytes r.1 in
      let first = exprs m r.0 g gs (omega (arith, less, fewer, low)) r.1 (comma.same ∙ are) (more_ends bytes Indexes (the (p.Expr Plain)) refl r.0 e r.2 end) in
      let rest = more_judged i j (omega (arith, low)) exprs r.0 e (with_parts (first.tree ∷ []) g) gs (omega (arith, less, fewer, mid)) r.2 first.nodes end in
      record {
        trees = rest.trees ++ (first.tree ∷ []);
        nodes = rest.nodes ∙ with_more bytes rest.trees first.tree g gs;
        back = λ q.
            let b = and_parts (is_type first.tree) (all_types (trees_of rest.trees)) (sym (types_behind rest.trees first.tree) ∙ q) in
            left (calls (in_turn (does h (left (in_turn (join Production production bytes (first.back b.0) (rest.back b.1)))))));
      }

  -- a node has ended that is no type, and then the rest is read
  pub record Ended (rest : RightSide Production) (s e : State) (f : OpenNode) (fs : List OpenNode) : Type 0 where
    pub mid : State
    pub tree : Tree
    pub none : Is no_type tree
    pub nodes : mid.open_nodes ≡ with_parts (tree ∷ []) f ∷ fs
    pub reads : ReadsGo bytes (rest ∷ []) mid e
    pub less : suc (length mid.rest) ≤ length s.rest

  pub record Indexed (rest : RightSide Production) (s e : State) (x : Tree) (f : OpenNode) (fs : List OpenNode) : Type 0 where
    pub mid : State
    pub tree : Tree
    pub names : is_type_name tree ≡ false
    pub nodes : mid.open_nodes ≡ with_parts (tree ∷ []) f ∷ fs
    pub back : is_type tree ≡ true → (is_type_name x ≡ true) × ReadsGo bytes (Call p.TypeArgs ∷ []) s mid
    pub reads : ReadsGo bytes (rest ∷ []) mid e
    pub less : suc (length mid.rest) ≤ length s.rest

  pub index_read : (j : ℕ) → JudgedBelow (p.Expr Plain) j → (indexed sliced : RightSide Production) (s e : State) (x : Tree) (f : OpenNode) (fs : List OpenNode) → suc (length s.rest) ≤ suc j → ReadsGo bytes (index indexed sliced ∷ []) s e → s.open_nodes ≡ with_parts (x ∷ []) f ∷ fs → Ended sliced s e f fs ⊎ Indexed indexed s e x f fs
  unfolding JudgedBelow
  index_read j exprs indexed sliced s e x f fs less (in_turn (does {m = o} ro (in_turn (does {m = m} h c)))) are = go c
    where
      g : OpenNode
      g = record { start = start_of x; parts = x ∷ [] }

      at : m.open_nodes ≡ g ∷ f ∷ fs
      at = (passes bytes LeftBracket o m h).same ∙ extend_begun bytes s o x f fs ro are

      fewer : suc (length m.rest) ≤ length s.rest
      fewer =
          let y = pass_less bytes LeftBracket o m (passes bytes LeftBracket o m h) in
          let rows = ap length (reopens bytes s o ro).rest in
          omega (arith, y, rows)

      bounds : RightSide Production
      bounds = slice_bounds k.SliceAllExpr k.SliceToExpr k.FullSliceToExpr

      more_bounds : RightSide Production
      more_bounds = slice_bounds k.SliceFromExpr k.SliceExpr k.FullSliceExpr

      behind_first : (n : State) → ReadsGo bytes (Call (p.Expr Plain) ∷ []) m n → ReadsGo bytes (Or (opt (the (p.More Indexes)) • tok RightBracket • close k.IndexExpr • indexed) (more_bounds • sliced) ∷ []) n e → Ended sliced s e f fs ⊎ Indexed indexed s e x f fs
      behind_first n u (right (in_turn d)) =
          let r = split Production production bytes d (more_bounds ∷ []) (sliced ∷ []) refl in
          let y = adds_one bytes (Call (p.Expr Plain)) any_sort refl m n g (f ∷ fs) u at in
          let t = ends_one bytes more_bounds false no_type refl n r.0 (with_parts (y.0 ∷ []) g) f fs r.1 (λ q. cc) y.2 in
          let first = reads_less bytes u in
          let then = reads_less bytes r.1 in
          inl (record { mid = r.0; tree = t.0; none = t.1; nodes = t.2; reads = r.2; less = omega (arith, fewer, first, then) })
      behind_first n u (left (in_turn d)) =
          let r = split Production production bytes d (opt (the (p.More Indexes)) ∷ []) ((tok RightBracket • close k.IndexExpr • indexed) ∷ []) refl in
          closing r.0 r.1 r.2
        where
          closing : (o' : State) → ReadsGo bytes (opt (the (p.More Indexes)) ∷ []) n o' → ReadsGo bytes ((tok RightBracket • close k.IndexExpr • indexed) ∷ []) o' e → Ended sliced s e f fs ⊎ Indexed indexed s e x f fs
          closing o' v (in_turn (does {m = q} rb (in_turn (does {m = w} cl a)))) =
              let shut = passes bytes RightBracket o' q rb in
              let end = bracket_next o' q shut in
              let first = exprs m n g (f ∷ fs) (omega (arith, less, fewer)) u at (more_ends bytes Indexes (the (p.Expr Plain)) refl n o' v end) in
              let one = reads_less bytes u in
              let two = reads_less bytes v in
              let three = pass_less bytes RightBracket o' q shut in
              let four = ap length (closes bytes k.IndexExpr q w cl).rest in
              let rest = more_judged (suc j) j (omega arith) exprs n o' (with_parts (first.tree ∷ []) g) (f ∷ fs) (omega (arith, less, fewer, one)) v first.nodes end in
              let all : List Tree = rest.trees ++ (first.tree ∷ []) in
              inr (record {
                mid = w;
                tree = node_read bytes k.IndexExpr q.last (record { start = start_of x; parts = all ++ (x ∷ []) });
                names = refl;
                nodes = node_ended bytes k.IndexExpr q w (with_parts all g) f fs cl (shut.same ∙ (rest.nodes ∙ with_more bytes rest.trees first.tree g (f ∷ fs)));
                back = λ b.
                    let y = and_parts (is_type_name x) (all_types (trees_of all)) (sym (index_lem bytes q.last (start_of x) x all) ∙ b) in
                    let z = and_parts (is_type first.tree) (all_types (trees_of rest.trees)) (sym (types_behind rest.trees first.tree) ∙ y.1) in
                    (y.0, calls (extend_back bytes k.IndexExpr (tok LeftBracket • the p.AnyType • opt (the (p.More Types)) • tok RightBracket) s o q w ro (in_turn (does h (in_turn (join Production production bytes (first.back z.0) (in_turn (join Production production bytes (rest.back z.1) (does rb at_end))))))) cl));
                reads = a;
                less = omega (arith, fewer, one, two, three, four);
              })

      go : ReadsGo bytes (Or (bounds • sliced) (the (p.Expr Plain) • Or (opt (the (p.More Indexes)) • tok RightBracket • close k.IndexExpr • indexed) (more_bounds • sliced)) ∷ []) m e → Ended sliced s e f fs ⊎ Indexed indexed s e x f fs
      go (left (in_turn d)) =
          let r = split Production production bytes d (bounds ∷ []) (sliced ∷ []) refl in
          let t = ends_one bytes bounds false no_type refl m r.0 g f fs r.1 (λ q. cc) at in
          let then = reads_less bytes r.1 in
          inl (record { mid = r.0; tree = t.0; none = t.1; nodes = t.2; reads = r.2; less = omega (arith, fewer, then) })
      go (right (in_turn d)) =
          let r = split Production production bytes d (Call (p.Expr Plain) ∷ []) (Or (opt (the (p.More Indexes)) • tok RightBracket • close k.IndexExpr • indexed) (more_bounds • sliced) ∷ []) refl in
          behind_first r.0 r.1 r.2

  -- ---- selectors

  pub record Selected (rest : RightSide Production) (s e : State) (x : Tree) (f : OpenNode) (fs : List OpenNode) : Type 0 where
    pub mid : State
    pub selector : SelectorRead bytes s mid x f fs
    pub dotted : ReadsGo bytes (extend k.SelectorExpr (tok Dot • the p.Name) ∷ []) s mid
    pub reads : ReadsGo bytes (rest ∷ []) mid e

  pub dot_read : (selected asserted : RightSide Production) (s e : State) (x : Tree) (f : OpenNode) (fs : List OpenNode) → ReadsGo bytes (dot selected asserted ∷ []) s e → s.open_nodes ≡ with_parts (x ∷ []) f ∷ fs → Ended asserted s e f fs ⊎ Selected selected s e x f fs
  dot_read selected asserted s e x f fs (in_turn (does {m = o} ro (in_turn (does {m = m} h c)))) are = go c
    where
      in_parens : RightSide Production
      in_parens = tok KwType • tok RightParen • close k.TypeGuardExpr or the (p.Expr Plain) • tok RightParen • close k.TypeAssertExpr

      go : ReadsGo bytes (Or (tok LeftParen • in_parens • asserted) (the p.Name • close k.SelectorExpr • selected) ∷ []) m e → Ended asserted s e f fs ⊎ Selected selected s e x f fs
      go (left (in_turn (does {m = n} q (in_turn d)))) =
          let r = split Production production bytes d (in_parens ∷ []) (asserted ∷ []) refl in
          let paren = passes bytes LeftParen m n q in
          let t = ends_one bytes in_parens false no_type refl n r.0 (record { start = start_of x; parts = x ∷ [] }) f fs r.1 (λ q. cc) (paren.same ∙ ((passes bytes Dot o m h).same ∙ extend_begun bytes s o x f fs ro are)) in
          let fewer = pass_less bytes Dot o m (passes bytes Dot o m h) in
          let fewer' = pass_less bytes LeftParen m n paren in
          let rows = ap length (reopens bytes s o ro).rest in
          let then = reads_less bytes r.1 in
          inl (record { mid = r.0; tree = t.0; none = t.1; nodes = t.2; reads = r.2; less = omega (arith, fewer, fewer', rows, then) })
      go (right (in_turn d)) =
          let r = split Production production bytes d (Call p.Name ∷ []) ((close k.SelectorExpr • selected) ∷ []) refl in
          named r.0 r.1 r.2
        where
          named : (n : State) → ReadsGo bytes (Call p.Name ∷ []) m n → ReadsGo bytes ((close k.SelectorExpr • selected) ∷ []) n e → Ended asserted s e f fs ⊎ Selected selected s e x f fs
          named n u (in_turn (does {m = w} cl a)) =
              let ext = extend_back bytes k.SelectorExpr (tok Dot • the p.Name) s o n w ro (in_turn (does h u)) cl in
              inr (record { mid = w; selector = selector_lem bytes s w x f fs ext are; dotted = ext; reads = a })

  -- ---- suffixes

  -- a tree that is no type, and no name that further suffixes make one of
  record NoType (s e : State) (f : OpenNode) (fs : List OpenNode) : Type 0 where
    tree : Tree
    nodes : e.open_nodes ≡ with_parts (tree ∷ []) f ∷ fs
    none : is_type tree ≡ false
    names : is_type_name tree ≡ false
    less : length e.rest ≤ length s.rest

  record Suffixed (s e : State) (f : OpenNode) (fs : List OpenNode) : Type 0 where
    is : NoType s e f fs
    fewer : suc (length e.rest) ≤ length s.rest

  ended_so : (s e : State) (f : OpenNode) (fs : List OpenNode) (mid : State) (t : Tree) → Is no_type t → mid.open_nodes ≡ with_parts (t ∷ []) f ∷ fs → suc (length mid.rest) ≤ length s.rest → ReadsGo bytes (Nothing ∷ []) mid e → Suffixed s e f fs
  ended_so s e f fs mid t none nodes few (nothing at_end) = record { is = record { tree = t; nodes = nodes; none = no_type_lem t none; names = no_type_nameless t none; less = omega (arith, few) }; fewer = few }

  suffix_read : (j : ℕ) → JudgedBelow (p.Expr Plain) j → (s e : State) (x : Tree) (f : OpenNode) (fs : List OpenNode) → suc (length s.rest) ≤ suc j → ReadsGo bytes (Call p.Suffix ∷ []) s e → s.open_nodes ≡ with_parts (x ∷ []) f ∷ fs → is_type_name x ≡ false → Suffixed s e f fs
  suffix_read j exprs s e x f fs less (calls (left d)) are names = go (dot_read Nothing Nothing s e x f fs d are)
    where
      go : Ended Nothing s e f fs ⊎ Selected Nothing s e x f fs → Suffixed s e f fs
      go (inl y) = ended_so s e f fs y.mid y.tree y.none y.nodes y.less y.reads
      go (inr y) = selected y.mid y.selector y.reads
        where
          selected : (mid : State) → SelectorRead bytes s mid x f fs → ReadsGo bytes (Nothing ∷ []) mid e → Suffixed s e f fs
          selected mid z (nothing at_end) = let few = z.less in record { is = record { tree = z.tree; nodes = z.nodes; none = z.is ∙ unnamed x names; names = z.names ∙ unnamed x names; less = omega (arith, few) }; fewer = few }
  suffix_read j exprs s e x f fs less (calls (right (left d))) are names = go (index_read j exprs Nothing Nothing s e x f fs less d are)
    where
      go : Ended Nothing s e f fs ⊎ Indexed Nothing s e x f fs → Suffixed s e f fs
      go (inl y) = ended_so s e f fs y.mid y.tree y.none y.nodes y.less y.reads
      go (inr y) = indexed y.mid y.tree y.names y.nodes (λ h. (y.back h).0) y.less y.reads
        where
          indexed : (mid : State) (t : Tree) → is_type_name t ≡ false → mid.open_nodes ≡ with_parts (t ∷ []) f ∷ fs → (is_type t ≡ true → is_type_name x ≡ true) → suc (length mid.rest) ≤ length s.rest → ReadsGo bytes (Nothing ∷ []) mid e → Suffixed s e f fs
          indexed mid t plain nodes back few (nothing at_end) = record { is = record { tree = t; nodes = nodes; none = not_true (is_type t) (λ h. let y = sym names ∙ back h in cc); names = plain; less = omega (arith, few) }; fewer = few }
  suffix_read j exprs s e x f fs less (calls (right (right d))) are names = called d
    where
      called : ReadsGo bytes (call ∷ []) s e → Suffixed s e f fs
      called (in_turn (does {m = o} ro (in_turn (does {m = m} h c)))) =
          let t = turns_one bytes call any_sort no_type refl s e x f fs d (any_tree x) are in
          let one = pass_less bytes LeftParen o m (passes bytes LeftParen o m h) in
          let rows = ap length (reopens bytes s o ro).rest in
          let two = reads_less bytes c in
          record { is = record { tree = t.0; nodes = t.2; none = no_type_lem t.0 t.1; names = no_type_nameless t.0 t.1; less = omega (arith, one, two, rows) }; fewer = omega (arith, one, two, rows) }

  suffixes_read : (i j : ℕ) → JudgedBelow (p.Expr Plain) j → (s e : State) (x : Tree) (f : OpenNode) (fs : List OpenNode) → suc (length s.rest) ≤ i → i ≤ suc j → ReadsGo bytes (many (the p.Suffix) ∷ []) s e → s.open_nodes ≡ with_parts (x ∷ []) f ∷ fs → is_type x ≡ false → is_type_name x ≡ false → NoType s e f fs
  suffixes_read zero j exprs s e x f fs less low d are none names = absurd (omega (arith, less))
  suffixes_read (suc i) j exprs s e x f fs less low (done at_end) are none names = record { tree = x; nodes = are; none = none; names = names; less = omega arith }
  suffixes_read (suc i) j exprs s e x f fs less low (again d) are none names =
      let r = split Production production bytes d (Call p.Suffix ∷ []) (many (the p.Suffix) ∷ []) refl in
      let y = suffix_read j exprs s r.0 x f fs (omega (arith, less, low)) r.1 are names in
      let few = y.fewer in
      let z = suffixes_read i j exprs r.0 e y.is.tree f fs (omega (arith, less, few)) (omega (arith, low)) r.2 y.is.nodes y.is.none y.is.names in
      let then = z.less in
      record { tree = z.tree; nodes = z.nodes; none = z.none; names = z.names; less = omega (arith, few, then) }

  -- behind a tree of no type
  pub suffixes_judged : (j : ℕ) → JudgedBelow (p.Expr Plain) j → (More : Type 0) (s e : State) (x : Tree) (f : OpenNode) (fs : List OpenNode) → suc (length s.rest) ≤ suc j → ReadsGo bytes (many (the p.Suffix) ∷ []) s e → s.open_nodes ≡ with_parts (x ∷ []) f ∷ fs → is_type x ≡ false → is_type_name x ≡ false → Judged e f fs More
  suffixes_judged j exprs More s e x f fs less d are none names = let z = suffixes_read (suc j) j exprs s e x f fs less (omega arith) d are none names in no_type_judged More e f fs z.tree z.none z.nodes

  pub ended_judged : (j : ℕ) → JudgedBelow (p.Expr Plain) j → (More : Type 0) (s e : State) (f : OpenNode) (fs : List OpenNode) → suc (length s.rest) ≤ suc j → Ended (many (the p.Suffix)) s e f fs → Judged e f fs More
  ended_judged j exprs More s e f fs less y = let few = y.less in suffixes_judged j exprs More y.mid e y.tree f fs (omega (arith, less, few)) y.reads y.nodes (no_type_lem y.tree y.none) (no_type_nameless y.tree y.none)

  -- at least one suffix behind what is no name
  pub more_suffixes_judged : (j : ℕ) → JudgedBelow (p.Expr Plain) j → (More : Type 0) (s e : State) (x : Tree) (f : OpenNode) (fs : List OpenNode) → suc (length s.rest) ≤ suc j → ReadsGo bytes (the p.Suffix ∷ many (the p.Suffix) ∷ []) s e → s.open_nodes ≡ with_parts (x ∷ []) f ∷ fs → is_type_name x ≡ false → Judged e f fs More
  more_suffixes_judged j exprs More s e x f fs less d are names =
      let r = split Production production bytes d (Call p.Suffix ∷ []) (many (the p.Suffix) ∷ []) refl in
      let y = suffix_read j exprs s r.0 x f fs less r.1 are names in
      let few = y.fewer in
      suffixes_judged j exprs More r.0 e y.is.tree f fs (omega (arith, less, few)) r.2 y.is.nodes y.is.none y.is.names
