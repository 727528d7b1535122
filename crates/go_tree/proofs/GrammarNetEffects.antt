-- The effects of the productions on the open nodes: by computation.
use Rattle.std.proofs.Common.{◌≡◌, ℕ, Bool, true, false, List, [], ◌∷◌, refl, subst, ◌∙◌, Some}
use Rattle.go_tree.specs.declared.production.Production.{Production}
use Rattle.go_tree.specs.declared.production.Production.TheVariants as p
use Rattle.go_tree.specs.Tree.{Tree}
use Rattle.go_tree.specs.Grammar.RightSide.{RightSide}
use Rattle.go_tree.specs.Grammar.Trees.Reading.{OpenNode, State}
use Rattle.go_tree.specs.Grammar.Trees.Sentence.{production, ReadsGo}
use Rattle.go_tree.proofs.ShapeLemmas.{HasPart}
use Rattle.go_tree.proofs.NetEffects.{Named, ByParts, ChanLiteral, TypeLiteral, Sorts, sorts, any_sort, nameless, no_type, only, Is, Effect, Adds, Turns, Fills, stack, flow, entry, has_effect}
use Rattle.go_tree.proofs.NetEffectLemmas.{FitsShape, with_parts, standing}
use Rattle.go_tree.proofs.ReadingEffectLemmas.{at, effect_lem}
use Rattle.go_tree.proofs.ByProduction.{by_test}

abbrev pub effects : Production → Effect
effects p.FuncRest = Fills (false ∷ [])
effects p.Name = Adds [] (only Named)
effects p.StringLit = Adds [] no_type
effects p.TypeSpecBracket = Adds (false ∷ false ∷ []) any_sort
effects (p.More l) = Fills (true ∷ [])
effects p.TypeName = Adds [] (sorts true true false false false)
effects p.TypeArgs = Turns [] (only ByParts)
effects p.ParenType = Adds [] (only ByParts)
effects p.StarType = Adds [] (only ByParts)
effects p.BracketType = Adds [] (only TypeLiteral)
effects p.MapType = Adds [] (only TypeLiteral)
effects p.RecvChan = Adds [] (only ByParts)
effects p.ChanType = Adds [] (only ChanLiteral)
effects p.FuncType = Adds [] (only TypeLiteral)
effects p.ParamAfterName = Adds (true ∷ []) any_sort
effects p.StructType = Adds [] (only TypeLiteral)
effects p.FieldAfterName = Adds (true ∷ []) any_sort
effects p.InterfaceType = Adds [] (only TypeLiteral)
effects (p.OrTail w) = Turns [] no_type
effects (p.AndTail w) = Turns [] no_type
effects (p.CompareTail w) = Turns [] no_type
effects (p.AddTail w) = Turns [] no_type
effects (p.MulTail w) = Turns [] no_type
effects p.Operand = Adds [] nameless
effects p.BasicLit = Adds [] no_type
effects p.FuncOperand = Adds [] (sorts false false false true true)
effects p.AfterName = Turns [] any_sort
effects p.AfterSelector = Turns [] any_sort
effects p.AfterIndex = Turns [] any_sort
effects p.Suffix = Turns [] any_sort
effects p.CallRest = Adds (false ∷ []) no_type
effects p.AfterArg = Adds (false ∷ []) no_type
effects p.Tails = Turns [] any_sort
effects p.CallOrDot = Turns [] any_sort
effects (p.AfterExpr w) = Turns [] any_sort
effects (p.SimpleTail w) = Turns [] any_sort
effects (p.Clause c) = Fills (false ∷ [])
effects (p.ClauseBody c) = Fills (false ∷ false ∷ [])
effects (p.AfterClauseStmt c) = Fills (false ∷ false ∷ [])
effects p.ForAfterExpr = Adds (true ∷ []) any_sort
effects p.ForClauses = Adds (false ∷ []) any_sort
effects _ = Adds [] any_sort

effects_checked : (n : Production) → has_effect (effects n) (flow effects (production n) (entry (effects n))) ≡ true
effects_checked = by_test _ refl

module _ (bytes : List ℕ) where
  -- one node is put into the innermost open one, whatever else is open
  pub record Added (g : RightSide Production) (c : Sorts) (s e : State) (f : OpenNode) (fs : List OpenNode) : Type 0 where
    pub tree : Tree
    pub is : Is c tree
    pub nodes : e.open_nodes ≡ with_parts (tree ∷ []) f ∷ fs
    pub moves : (f' : OpenNode) (fs' : List OpenNode) → ReadsGo bytes (g ∷ []) (at s (f' ∷ fs')) (at e (with_parts (tree ∷ []) f' ∷ fs'))

  one_new : (c : Sorts) (tops : List OpenNode) (new : List Tree) → FitsShape (stack [] (c ∷ [])) tops new → (t : Tree) × Is c t × ((f : OpenNode) (fs : List OpenNode) → standing f fs tops new ≡ with_parts (t ∷ []) f ∷ fs)
  one_new c [] [] fit = absurd fit.1
  one_new c [] (t ∷ []) fit = (t, fit.1.0, λ f fs. refl)
  one_new c [] (t ∷ (u ∷ ts)) fit = absurd fit.1.1
  one_new c (g ∷ gs) new fit = absurd fit.0

  pub added_lem : (g : RightSide Production) (c : Sorts) → flow effects g (stack [] []) ≡ Some (stack [] (c ∷ [])) → (s e : State) (f : OpenNode) (fs : List OpenNode) → ReadsGo bytes (g ∷ []) s e → s.open_nodes ≡ f ∷ fs → Added g c s e f fs
  added_lem g c q s e f fs d are =
      let o = effect_lem Production production bytes effects effects_checked g (stack [] []) (stack [] (c ∷ [])) f fs s e [] [] q d are (tt, tt) in
      let z = one_new c o.tops' o.new' o.fit in
      record { tree = z.0; is = z.1; nodes = o.are ∙ z.2 f fs; moves = λ f' fs'. subst (λ x. ReadsGo bytes (g ∷ []) (at s (f' ∷ fs')) (at e x)) (z.2 f' fs') (o.moves f' fs') }

  -- what is read puts one node into the innermost open one
  pub adds_one : (g : RightSide Production) (c : Sorts) → flow effects g (stack [] []) ≡ Some (stack [] (c ∷ [])) → (s e : State) (f : OpenNode) (fs : List OpenNode) → ReadsGo bytes (g ∷ []) s e → s.open_nodes ≡ f ∷ fs → (t : Tree) × Is c t × (e.open_nodes ≡ with_parts (t ∷ []) f ∷ fs)
  adds_one g c q s e f fs d are = let z = added_lem g c q s e f fs d are in (z.tree, z.is, z.nodes)

  -- what is read puts one in place of the node that was read last
  pub turns_one : (g : RightSide Production) (b c : Sorts) → flow effects g (stack [] (b ∷ [])) ≡ Some (stack [] (c ∷ [])) → (s e : State) (x : Tree) (f : OpenNode) (fs : List OpenNode) → ReadsGo bytes (g ∷ []) s e → Is b x → s.open_nodes ≡ with_parts (x ∷ []) f ∷ fs → (t : Tree) × Is c t × (e.open_nodes ≡ with_parts (t ∷ []) f ∷ fs)
  turns_one g b c q s e x f fs d i are =
      let o = effect_lem Production production bytes effects effects_checked g (stack [] (b ∷ [])) (stack [] (c ∷ [])) f fs s e [] (x ∷ []) q d are (tt, (i, tt)) in
      let z = one_new c o.tops' o.new' o.fit in
      (z.0, z.1, o.are ∙ z.2 f fs)

  -- what is read ends the innermost open node
  pub ends_one : (g : RightSide Production) (b : Bool) (c : Sorts) → flow effects g (stack (b ∷ []) []) ≡ Some (stack [] (c ∷ [])) → (s e : State) (h f : OpenNode) (fs : List OpenNode) → ReadsGo bytes (g ∷ []) s e → (b ≡ true → HasPart h.parts) → s.open_nodes ≡ h ∷ f ∷ fs → (t : Tree) × Is c t × (e.open_nodes ≡ with_parts (t ∷ []) f ∷ fs)
  ends_one g b c q s e h f fs d part are =
      let o = effect_lem Production production bytes effects effects_checked g (stack (b ∷ []) []) (stack [] (c ∷ [])) f fs s e (h ∷ []) [] q d are ((part, tt), tt) in
      let z = one_new c o.tops' o.new' o.fit in
      (z.0, z.1, o.are ∙ z.2 f fs)
