-- The open nodes behind a reading are those that the effects of the productions tell; and what stands below those that
-- the reading has to do with plays no part in it.
use Rattle.std.proofs.Common.{◌≡◌, ℕ, zero, suc, Bool, true, false, List, [], ◌∷◌, ◌++◌, refl, sym, ap, subst, ◌∙◌, cond, Option, None, Some, append_assoc}
use Rattle.go_tree.specs.declared.token.Token.{Token}
use Rattle.go_tree.specs.declared.token.TokenKind.{TokenKind}
use Rattle.go_tree.specs.Tree.{Tree}
use Rattle.go_tree.specs.Grammar.RightSide.{RightSide, Do, Call, Nothing, Seq, Or, Many, When, Act, Pass, Open, Reopen, Adopt, CheckType, Close}
use Rattle.go_tree.specs.Grammar.Tables.TokenKinds.{same_kind}
use Rattle.go_tree.specs.Grammar.Trees.Reading.{State, OpenNode, Reads, at_end, does, calls, nothing, in_turn, left, right, done, again, chosen, passed_by, acted, passed, next_start, reopen, adopt, close_last, ends_in_type}
use Rattle.go_tree.proofs.ReadingLemmas.{join}
use Rattle.go_tree.proofs.ShapeLemmas.{Fits, HasPart, take_needed, parted}
use Rattle.go_tree.proofs.BalanceLemmas.{ReadsIn, at_end_in, does_in, calls_in, nothing_in, in_turn_in, left_in, right_in, done_in, again_in, chosen_in, passed_by_in, counted, Both_parts, parts_of_reading, takes_steps}
use Rattle.go_tree.proofs.NetEffects.{Sorts, any_sort, Is, Shape, stack, Effect, Adds, Turns, Fills, flow_act, added, turned, filled, behind_ended, flow_call, flow, entry, one_within, one_filled, ends_with, has_effect}
use Rattle.go_tree.proofs.NetEffectLemmas.{Are, with_parts, FitsShape, standing, is_within, any_tree, shape_left, shape_right, shape_settled, halves, repeated, repeats_itself, chained, Acts, open_acts, reopen_acts, adopt_acts, close_acts, check_same}

-- that state with other open nodes
abbrev pub at : State → List OpenNode → State
at s fs = record { last = s.last; rest = s.rest; open_nodes = fs }

pub passed_any : (k : TokenKind) (rest : List Token) (fs gs : List OpenNode) (m : State) → passed k rest fs ≡ Some m → (passed k rest gs ≡ Some (at m gs)) × (m.open_nodes ≡ fs)
passed_any k [] fs gs m h = cc
passed_any k (t ∷ ts) fs gs m h = go (same_kind k t.kind) h
  where
    go : (b : Bool) → cond b (Some (record { last = t.end; rest = ts; open_nodes = fs })) None ≡ Some m → (cond b (Some (record { last = t.end; rest = ts; open_nodes = gs })) None ≡ Some (at m gs)) × (m.open_nodes ≡ fs)
    go true h = let q : record { last = t.end; rest = ts; open_nodes = fs } ≡ m = cc in (ap (λ (x : State). Some (at x gs)) q, sym (ap (λ (x : State). x.open_nodes) q))
    go false h = cc

pub checked_same : (b : Bool) (s m : State) → cond b (Some s) None ≡ Some m → (b ≡ true) × (s ≡ m)
checked_same true s m h = (refl, cc)
checked_same false s m h = cc

module _ (N : Type 0) (P : N → RightSide N) (bytes : List ℕ) where
  -- a reading of g, from open nodes of which some have new parts to others, whatever stands below
  pub record Goes (g : RightSide N) (τ : Shape) (s e : State) (tops : List OpenNode) (new : List Tree) (f : OpenNode) (below : List OpenNode) : Type 0 where
    pub tops' : List OpenNode
    pub new' : List Tree
    pub fit : FitsShape τ tops' new'
    pub are : e.open_nodes ≡ standing f below tops' new'
    pub moves : (f' : OpenNode) (below' : List OpenNode) → Reads N P bytes (g ∷ []) (at s (standing f' below' tops new)) (at e (standing f' below' tops' new'))

  -- ---- acts

  module _ (s m : State) (τ : Shape) (tops : List OpenNode) (new : List Tree) (f : OpenNode) (below : List OpenNode) where
    turn_goes : (a : Act) (F : List OpenNode → List OpenNode) → ((fs : List OpenNode) → acted bytes a (at s fs) ≡ Some (at s (F fs))) → acted bytes a s ≡ Some m → s.open_nodes ≡ standing f below tops new → Acts F τ tops new → Goes (Do a) τ s m tops new f below
    turn_goes a F same h are acts =
        let q : at s (F s.open_nodes) ≡ m = let y = sym (same s.open_nodes) ∙ h in cc in
        record {
          tops' = acts.tops';
          new' = acts.new';
          fit = acts.fit;
          are = sym (ap (λ (x : State). x.open_nodes) q) ∙ (ap F are ∙ acts.makes f below);
          moves = λ f' below'.
              let to : List OpenNode = standing f' below' acts.tops' acts.new' in
              does (same (standing f' below' tops new) ∙ (ap (λ x. Some (at s x)) (acts.makes f' below') ∙ ap (λ (x : State). Some (at x to)) q)) at_end;
        }

    act_goes : (a : Act) (σ : Shape) → acted bytes a s ≡ Some m → flow_act a σ ≡ Some τ → s.open_nodes ≡ standing f below tops new → FitsShape σ tops new → Goes (Do a) τ s m tops new f below
    act_goes (Pass k) σ h q are fit =
        let same : σ ≡ τ = cc in
        let z = passed_any k s.rest s.open_nodes s.open_nodes m h in
        record { tops' = tops; new' = new; fit = subst (λ x. FitsShape x tops new) same fit; are = z.1 ∙ are; moves = λ f' below'. does (passed_any k s.rest s.open_nodes (standing f' below' tops new) m h).0 at_end }
    act_goes Open σ h q are fit = turn_goes Open (λ fs. record { start = next_start s.last s.rest; parts = [] } ∷ fs) (λ fs. refl) h are (open_acts (next_start s.last s.rest) σ τ tops new q fit)
    act_goes Reopen σ h q are fit = turn_goes Reopen reopen (λ fs. refl) h are (reopen_acts σ τ tops new q fit)
    act_goes Adopt σ h q are fit = turn_goes Adopt adopt (λ fs. refl) h are (adopt_acts σ τ tops new q fit)
    act_goes (Close k) σ h q are fit = turn_goes (Close k) (close_last bytes k s.last) (λ fs. refl) h are (close_acts bytes k s.last σ τ tops new q fit)
    act_goes CheckType σ h q are fit =
        let z = checked_same (ends_in_type s.open_nodes) s m h in
        record {
          tops' = tops;
          new' = new;
          fit = subst (λ x. FitsShape x tops new) (check_same σ τ tops new f f below below q fit).1 fit;
          are = sym (ap (λ (x : State). x.open_nodes) z.1) ∙ are;
          moves = λ f' below'.
              let to : List OpenNode = standing f' below' tops new in
              let so : ends_in_type to ≡ true = (check_same σ τ tops new f' f below' below q fit).0 ∙ (sym (ap ends_in_type are) ∙ z.0) in
              does (ap (λ b. cond b (Some (at s to)) None) so ∙ ap (λ (x : State). Some (at x to)) z.1) at_end;
        }

  -- ---- what a production is entered with and left with

  at_hand : (f : OpenNode) (below : List OpenNode) (tops : List OpenNode) (xs : List Tree) → (g : OpenNode) × (gs : List OpenNode) × (standing f below tops xs ≡ g ∷ gs)
  at_hand f below [] xs = (with_parts xs f, below, refl)
  at_hand f below (g ∷ tops) xs = (g, standing f below tops xs, refl)

  effect_shape : (x : Effect) (o : Option Shape) → has_effect x o ≡ true → (ρ : Shape) × (o ≡ Some ρ) × (ends_with x ρ ≡ true)
  effect_shape x None h = cc
  effect_shape x (Some ρ) h = (ρ, refl, h)

  one_new : (c : Sorts) (ρ : Shape) (tops : List OpenNode) (xs : List Tree) → one_within c ρ ≡ true → FitsShape ρ tops xs → (y : Tree) × (tops ≡ []) × (xs ≡ y ∷ []) × Is c y
  one_new c (stack [] []) tops xs h fit = cc
  one_new c (stack [] (d ∷ [])) [] [] h fit = absurd fit.1
  one_new c (stack [] (d ∷ [])) [] (x ∷ []) h fit = (x, refl, refl, is_within d c x h fit.1.0)
  one_new c (stack [] (d ∷ [])) [] (x ∷ (y ∷ xs)) h fit = absurd fit.1.1
  one_new c (stack [] (d ∷ [])) (g ∷ tops) xs h fit = absurd fit.0
  one_new c (stack [] (d ∷ (e ∷ ds))) tops xs h fit = cc
  one_new c (stack (u ∷ us) cs) tops xs h fit = cc

  one_more : (ρ : Shape) (tops : List OpenNode) (xs : List Tree) → one_filled ρ ≡ true → FitsShape ρ tops xs → (g : OpenNode) × (tops ≡ g ∷ []) × (xs ≡ []) × HasPart g.parts
  one_more (stack [] cs) tops xs h fit = cc
  one_more (stack (u ∷ []) []) [] xs h fit = absurd fit.0
  one_more (stack (u ∷ []) []) (g ∷ []) [] h fit = (g, refl, refl, fit.0.0 h)
  one_more (stack (u ∷ []) []) (g ∷ []) (x ∷ xs) h fit = absurd fit.1
  one_more (stack (u ∷ []) []) (g ∷ (i ∷ tops)) xs h fit = absurd fit.0.1
  one_more (stack (u ∷ []) (c ∷ cs)) tops xs h fit = cc
  one_more (stack (u ∷ (v ∷ us)) cs) tops xs h fit = cc

  some_ended : (F : Shape → Option Shape) (cs : List Sorts) (o : Option (List Bool)) (τ : Shape) → behind_ended F cs o ≡ Some τ → (u : Bool) × (us : List Bool) × (o ≡ Some (u ∷ us)) × (F (stack us cs) ≡ Some τ)
  some_ended F cs None τ h = cc
  some_ended F cs (Some []) τ h = cc
  some_ended F cs (Some (u ∷ us)) τ h = (u, us, refl, h)

  -- the open nodes that a production ends, and those behind them
  record Parted (ns us : List Bool) (tops : List OpenNode) : Type 0 where
    ended : List OpenNode
    more : List OpenNode
    all : tops ≡ ended ++ more
    fit_ended : Fits ns ended
    fit_more : Fits us more

  part : (ns us vs : List Bool) (u : Bool) (tops : List OpenNode) → take_needed ns us ≡ Some (u ∷ vs) → Fits us tops → Parted ns vs tops
  part ns us vs u tops q fit =
      let z = parted ns us (u ∷ vs) tops q fit in
      let same : z.2 ≡ vs = let y = z.6 in cc in
      record { ended = z.0; more = z.1; all = z.3; fit_ended = z.4; fit_more = subst (λ x. Fits x z.1) same z.5 }

  ended_in : (k : ℕ) (s e : State) → ReadsIn N P bytes k [] s e → s ≡ e
  ended_in k s e at_end_in = refl

  goes_on : (g : RightSide N) (τ : Shape) (s m e : State) (tops : List OpenNode) (new : List Tree) (f : OpenNode) (below : List OpenNode) → m ≡ e → Goes g τ s m tops new f below → Goes g τ s e tops new f below
  goes_on g τ s m e tops new f below q r = subst (λ x. Goes g τ s x tops new f below) q r

  shape_same : (g : RightSide N) (σ τ : Shape) (s e : State) (tops : List OpenNode) (new : List Tree) (f : OpenNode) (below : List OpenNode) → Some σ ≡ Some τ → Goes g σ s e tops new f below → Goes g τ s e tops new f below
  shape_same g σ τ s e tops new f below q r = let y : σ ≡ τ = cc in subst (λ x. Goes g x s e tops new f below) y r

  module _ (E : N → Effect) (table_right : (n : N) → has_effect (E n) (flow E (P n) (entry (E n))) ≡ true) where
    Kept : ℕ → Type 0
    Kept k = (g : RightSide N) (σ τ : Shape) (f : OpenNode) (below : List OpenNode) (s e : State) (tops : List OpenNode) (new : List Tree) → flow E g σ ≡ Some τ → ReadsIn N P bytes k (g ∷ []) s e → s.open_nodes ≡ standing f below tops new → FitsShape σ tops new → Goes g τ s e tops new f below

    -- g puts one node into the node f
    record OnePut (g : RightSide N) (c : Sorts) (s e : State) (ended : List OpenNode) (new : List Tree) (f : OpenNode) (below : List OpenNode) : Type 0 where
      tree : Tree
      is : Is c tree
      nodes : e.open_nodes ≡ with_parts (tree ∷ []) f ∷ below
      moves : (f' : OpenNode) (below' : List OpenNode) → Reads N P bytes (g ∷ []) (at s (standing f' below' ended new)) (at e (with_parts (tree ∷ []) f' ∷ below'))

    one_put : (g : RightSide N) (c : Sorts) (ρ : Shape) (s e : State) (ended : List OpenNode) (new : List Tree) (f : OpenNode) (below : List OpenNode) → one_within c ρ ≡ true → Goes g ρ s e ended new f below → OnePut g c s e ended new f below
    one_put g c ρ s e ended new f below ends o =
        let z = one_new c ρ o.tops' o.new' ends o.fit in
        let same : (f' : OpenNode) (below' : List OpenNode) → standing f' below' o.tops' o.new' ≡ with_parts (z.0 ∷ []) f' ∷ below' = λ f' below'. ap (λ x. standing f' below' x o.new') z.1 ∙ ap (λ x. standing f' below' [] x) z.2 in
        record { tree = z.0; is = z.3; nodes = o.are ∙ same f below; moves = λ f' below'. subst (λ x. Reads N P bytes (g ∷ []) (at s (standing f' below' ended new)) (at e x)) (same f' below') (o.moves f' below') }

    module _ (k : ℕ) (kept : Kept k) (n : N) (s e : State) (d : ReadsIn N P bytes k (P n ∷ []) s e) where
      puts_one : (ρ : Shape) (ns : List Bool) (cs : List Sorts) (c : Sorts) (ended : List OpenNode) (new : List Tree) (f : OpenNode) (below : List OpenNode) → flow E (P n) (stack ns cs) ≡ Some ρ → one_within c ρ ≡ true → s.open_nodes ≡ ended ++ (with_parts new f ∷ below) → Fits ns ended → Are cs new → OnePut (P n) c s e ended new f below
      unfolding Kept
      puts_one ρ ns cs c ended new f below flows ends are fit fit_new = one_put (P n) c ρ s e ended new f below ends (kept (P n) (stack ns cs) ρ f below s e ended new flows d are (fit, fit_new))

      module _ (f : OpenNode) (below tops ended : List OpenNode) (xs : List Tree) (are : s.open_nodes ≡ standing f below tops xs) where
        Cut : List OpenNode → Type 0
        Cut more = (f' : OpenNode) (below' : List OpenNode) → standing f' below' tops xs ≡ ended ++ standing f' below' more xs

        called : (f' : OpenNode) (below' from to : List OpenNode) → standing f' below' tops xs ≡ from → Reads N P bytes (P n ∷ []) (at s from) (at e to) → Reads N P bytes (Call n ∷ []) (at s (standing f' below' tops xs)) (at e to)
        called f' below' from to q r = calls (subst (λ x. Reads N P bytes (P n ∷ []) (at s x) (at e to)) (sym q) r)

        add_kept : (ρ τ : Shape) (ns us : List Bool) (cs : List Sorts) (c : Sorts) (more : List OpenNode) → flow E (P n) (stack ns []) ≡ Some ρ → one_within c ρ ≡ true → added c (stack us cs) ≡ Some τ → Cut more → Fits ns ended → Fits us more → Are cs xs → Goes (Call n) τ s e tops xs f below
        unfolding Cut
        add_kept ρ τ ns [] cs c [] flows ends q cut fit fit_more fit_new =
            let z = puts_one ρ ns [] c ended [] (with_parts xs f) below flows ends (are ∙ cut f below) fit tt in
            shape_same (Call n) (stack [] (c ∷ cs)) τ s e tops xs f below q (record {
              tops' = [];
              new' = z.tree ∷ xs;
              fit = (tt, (z.is, fit_new));
              are = z.nodes;
              moves = λ f' below'. called f' below' (ended ++ standing f' below' [] xs) (standing f' below' [] (z.tree ∷ xs)) (cut f' below') (z.moves (with_parts xs f') below');
            })
        add_kept ρ τ ns [] cs c (h ∷ more) flows ends q cut fit fit_more fit_new = absurd fit_more
        add_kept ρ τ ns (u ∷ us) cs c [] flows ends q cut fit fit_more fit_new = absurd fit_more
        add_kept ρ τ ns (u ∷ us) cs c (h ∷ more) flows ends q cut fit fit_more fit_new =
            let z = puts_one ρ ns [] c ended [] h (standing f below more xs) flows ends (are ∙ cut f below) fit tt in
            shape_same (Call n) (stack (true ∷ us) cs) τ s e tops xs f below q (record {
              tops' = with_parts (z.tree ∷ []) h ∷ more;
              new' = xs;
              fit = ((λ e. tt, fit_more.1), fit_new);
              are = z.nodes;
              moves = λ f' below'. called f' below' (ended ++ standing f' below' (h ∷ more) xs) (standing f' below' (with_parts (z.tree ∷ []) h ∷ more) xs) (cut f' below') (z.moves h (standing f' below' more xs));
            })

        turn_inner : (ρ : Shape) (ns us : List Bool) (cs : List Sorts) (c : Sorts) (more : List OpenNode) (start : ℕ) (parts : List Tree) → flow E (P n) (stack ns (any_sort ∷ [])) ≡ Some ρ → one_within c ρ ≡ true → Cut (record { start = start; parts = parts } ∷ more) → Fits ns ended → HasPart parts → Fits us more → Are cs xs → Goes (Call n) (stack (true ∷ us) cs) s e tops xs f below
        unfolding Cut
        turn_inner ρ ns us cs c more start [] flows ends cut fit part fit_more fit_new = absurd part
        turn_inner ρ ns us cs c more start (x ∷ ps) flows ends cut fit part fit_more fit_new =
            let z = puts_one ρ ns (any_sort ∷ []) c ended (x ∷ []) (record { start = start; parts = ps }) (standing f below more xs) flows ends (are ∙ cut f below) fit (any_tree x, tt) in
            record {
              tops' = record { start = start; parts = z.tree ∷ ps } ∷ more;
              new' = xs;
              fit = ((λ e. tt, fit_more), fit_new);
              are = z.nodes;
              moves = λ f' below'. called f' below' (ended ++ standing f' below' (record { start = start; parts = x ∷ ps } ∷ more) xs) (standing f' below' (record { start = start; parts = z.tree ∷ ps } ∷ more) xs) (cut f' below') (z.moves (record { start = start; parts = ps }) (standing f' below' more xs));
            }

        turn_last : (ρ τ : Shape) (ns : List Bool) (b : Sorts) (cs : List Sorts) (c : Sorts) (ys : List Tree) → ys ≡ xs → flow E (P n) (stack ns (any_sort ∷ [])) ≡ Some ρ → one_within c ρ ≡ true → Some (stack [] (c ∷ cs)) ≡ Some τ → Cut [] → Fits ns ended → Are (b ∷ cs) ys → Goes (Call n) τ s e tops xs f below
        unfolding Cut
        turn_last ρ τ ns b cs c [] same flows ends q cut fit fit_new = absurd fit_new
        turn_last ρ τ ns b cs c (y ∷ ys) same flows ends q cut fit fit_new =
            let at_new : (f' : OpenNode) (below' : List OpenNode) → ended ++ standing f' below' [] xs ≡ ended ++ standing f' below' [] (y ∷ ys) = λ f' below'. ap (λ x. ended ++ standing f' below' [] x) (sym same) in
            let z = puts_one ρ ns (any_sort ∷ []) c ended (y ∷ []) (with_parts ys f) below flows ends (are ∙ (cut f below ∙ at_new f below)) fit (any_tree y, tt) in
            shape_same (Call n) (stack [] (c ∷ cs)) τ s e tops xs f below q (record {
              tops' = [];
              new' = z.tree ∷ ys;
              fit = (tt, (z.is, fit_new.1));
              are = z.nodes;
              moves = λ f' below'. called f' below' (ended ++ standing f' below' [] (y ∷ ys)) (standing f' below' [] (z.tree ∷ ys)) (cut f' below' ∙ at_new f' below') (z.moves (with_parts ys f') below');
            })

        turn_kept : (ρ τ : Shape) (ns us : List Bool) (cs : List Sorts) (c : Sorts) (more : List OpenNode) → flow E (P n) (stack ns (any_sort ∷ [])) ≡ Some ρ → one_within c ρ ≡ true → turned c (stack us cs) ≡ Some τ → Cut more → Fits ns ended → Fits us more → Are cs xs → Goes (Call n) τ s e tops xs f below
        turn_kept ρ τ ns [] [] c more flows ends q cut fit fit_more fit_new = cc
        turn_kept ρ τ ns [] (b ∷ cs) c [] flows ends q cut fit fit_more fit_new = turn_last ρ τ ns b cs c xs refl flows ends q cut fit fit_new
        turn_kept ρ τ ns [] (b ∷ cs) c (h ∷ more) flows ends q cut fit fit_more fit_new = absurd fit_more
        turn_kept ρ τ ns (false ∷ us) cs c more flows ends q cut fit fit_more fit_new = cc
        turn_kept ρ τ ns (true ∷ us) cs c [] flows ends q cut fit fit_more fit_new = absurd fit_more
        turn_kept ρ τ ns (true ∷ us) cs c (h ∷ more) flows ends q cut fit fit_more fit_new = shape_same (Call n) (stack (true ∷ us) cs) τ s e tops xs f below q (turn_inner ρ ns us cs c more h.start h.parts flows ends cut fit (fit_more.0 refl) fit_more.1 fit_new)

        fill_kept : (ρ τ : Shape) (ns us : List Bool) (cs : List Sorts) (more : List OpenNode) → flow E (P n) (stack ns []) ≡ Some ρ → one_filled ρ ≡ true → filled (stack us cs) ≡ Some τ → Cut more → Fits ns ended → Fits us more → Are cs xs → Goes (Call n) τ s e tops xs f below
        unfolding Kept Cut
        fill_kept ρ τ ns us cs more flows ends q cut fit fit_more fit_new =
            let top = at_hand f below more xs in
            let o = kept (P n) (stack ns []) ρ top.0 top.1 s e ended [] flows d (are ∙ (cut f below ∙ ap (λ x. ended ++ x) top.2)) (fit, tt) in
            let z = one_more ρ o.tops' o.new' ends o.fit in
            let same : (g : OpenNode) (gs : List OpenNode) → standing g gs o.tops' o.new' ≡ z.0 ∷ (g ∷ gs) = λ g gs. ap (λ x. standing g gs x o.new') z.1 ∙ ap (λ x. standing g gs (z.0 ∷ []) x) z.2 in
            shape_same (Call n) (stack (true ∷ us) cs) τ s e tops xs f below q (record {
              tops' = z.0 ∷ more;
              new' = xs;
              fit = ((λ e. z.3, fit_more), fit_new);
              are = o.are ∙ (same top.0 top.1 ∙ ap (λ x. z.0 ∷ x) (sym top.2));
              moves = λ f' below'.
                  let there = at_hand f' below' more xs in
                  called f' below' (ended ++ (there.0 ∷ there.1)) (standing f' below' (z.0 ∷ more) xs) (cut f' below' ∙ ap (λ x. ended ++ x) there.2)
                  (subst (λ x. Reads N P bytes (P n ∷ []) (at s (ended ++ (there.0 ∷ there.1))) (at e x)) (same there.0 there.1 ∙ ap (λ x. z.0 ∷ x) (sym there.2)) (o.moves there.0 there.1));
            })

      effect_kept : (x : Effect) (us : List Bool) (cs : List Sorts) (τ : Shape) (f : OpenNode) (below tops : List OpenNode) (xs : List Tree) → has_effect x (flow E (P n) (entry x)) ≡ true → flow_call x (stack us cs) ≡ Some τ → s.open_nodes ≡ standing f below tops xs → Fits us tops → Are cs xs → Goes (Call n) τ s e tops xs f below
      unfolding Cut
      effect_kept (Adds ns c) us cs τ f below tops xs has q are fit fit_new =
          let r = effect_shape (Adds ns c) (flow E (P n) (entry (Adds ns c))) has in
          let w = some_ended (added c) cs (take_needed ns us) τ q in
          let z = part ns us w.1 w.0 tops w.2 fit in
          add_kept f below tops z.ended xs are r.0 τ ns w.1 cs c z.more r.1 r.2 w.3 (λ f' below'. ap (λ x. x ++ (with_parts xs f' ∷ below')) z.all ∙ append_assoc z.ended z.more (with_parts xs f' ∷ below')) z.fit_ended z.fit_more fit_new
      effect_kept (Turns ns c) us cs τ f below tops xs has q are fit fit_new =
          let r = effect_shape (Turns ns c) (flow E (P n) (entry (Turns ns c))) has in
          let w = some_ended (turned c) cs (take_needed ns us) τ q in
          let z = part ns us w.1 w.0 tops w.2 fit in
          turn_kept f below tops z.ended xs are r.0 τ ns w.1 cs c z.more r.1 r.2 w.3 (λ f' below'. ap (λ x. x ++ (with_parts xs f' ∷ below')) z.all ∙ append_assoc z.ended z.more (with_parts xs f' ∷ below')) z.fit_ended z.fit_more fit_new
      effect_kept (Fills ns) us cs τ f below tops xs has q are fit fit_new =
          let r = effect_shape (Fills ns) (flow E (P n) (entry (Fills ns))) has in
          let w = some_ended filled cs (take_needed ns us) τ q in
          let z = part ns us w.1 w.0 tops w.2 fit in
          fill_kept f below tops z.ended xs are r.0 τ ns w.1 cs z.more r.1 r.2 w.3 (λ f' below'. ap (λ x. x ++ (with_parts xs f' ∷ below')) z.all ∙ append_assoc z.ended z.more (with_parts xs f' ∷ below')) z.fit_ended z.fit_more fit_new

    call_kept : (k : ℕ) → Kept k → (n : N) (σ τ : Shape) (f : OpenNode) (below : List OpenNode) (s e : State) (tops : List OpenNode) (new : List Tree) → flow_call (E n) σ ≡ Some τ → ReadsIn N P bytes k (P n ∷ []) s e → s.open_nodes ≡ standing f below tops new → FitsShape σ tops new → Goes (Call n) τ s e tops new f below
    call_kept k kept n (stack us cs) τ f below s e tops new q d are fit = effect_kept k kept n s e d (E n) us cs τ f below tops new (table_right n) q are fit.0 fit.1

    weaker : (g h : RightSide N) (σ τ : Shape) (s e : State) (tops : List OpenNode) (new : List Tree) (f : OpenNode) (below : List OpenNode) → ((tops : List OpenNode) (xs : List Tree) → FitsShape σ tops xs → FitsShape τ tops xs) → ((a b : List OpenNode) → Reads N P bytes (g ∷ []) (at s a) (at e b) → Reads N P bytes (h ∷ []) (at s a) (at e b)) → Goes g σ s e tops new f below → Goes h τ s e tops new f below
    weaker g h σ τ s e tops new f below w r o = record { tops' = o.tops'; new' = o.new'; fit = w o.tops' o.new' o.fit; are = o.are; moves = λ f' below'. r (standing f' below' tops new) (standing f' below' o.tops' o.new') (o.moves f' below') }

    stays : (g : RightSide N) (τ : Shape) (s e : State) (tops : List OpenNode) (new : List Tree) (f : OpenNode) (below : List OpenNode) → s ≡ e → s.open_nodes ≡ standing f below tops new → FitsShape τ tops new → ((a : List OpenNode) → Reads N P bytes (g ∷ []) (at s a) (at s a)) → Goes g τ s e tops new f below
    stays g τ s e tops new f below q are fit r = subst (λ x. Goes g τ s x tops new f below) q (record { tops' = tops; new' = new; fit = fit; are = are; moves = λ f' below'. r (standing f' below' tops new) })

    -- one behind the other
    joined_goes : (g h i : RightSide N) (σ τ : Shape) (s m e : State) (tops : List OpenNode) (new : List Tree) (f : OpenNode) (below : List OpenNode) → ((a b : List OpenNode) → Reads N P bytes (g ∷ h ∷ []) (at s a) (at e b) → Reads N P bytes (i ∷ []) (at s a) (at e b)) → (o : Goes g σ s m tops new f below) → Goes h τ m e o.tops' o.new' f below → Goes i τ s e tops new f below
    joined_goes g h i σ τ s m e tops new f below r o u = record { tops' = u.tops'; new' = u.new'; fit = u.fit; are = u.are; moves = λ f' below'. r (standing f' below' tops new) (standing f' below' u.tops' u.new') (join N P bytes (o.moves f' below') (u.moves f' below')) }

    steps_kept : (k : ℕ) → Kept k → Kept (suc k)
    unfolding Kept Both_parts
    steps_kept k kept (Do a) σ τ f below s e tops new q (does_in {m = m} h d) are fit = goes_on (Do a) τ s m e tops new f below (ended_in k m e d) (act_goes s m τ tops new f below a σ h q are fit)
    steps_kept k kept (Call n) σ τ f below s e tops new q (calls_in d) are fit = call_kept k kept n σ τ f below s e tops new q d are fit
    steps_kept k kept Nothing σ τ f below s e tops new q (nothing_in d) are fit = shape_same Nothing σ τ s e tops new f below q (stays Nothing σ s e tops new f below (ended_in k s e d) are fit (λ a. nothing at_end))
    steps_kept k kept (Seq g h) σ τ f below s e tops new q (in_turn_in d) are fit =
        let c = chained (flow E h) (flow E g σ) τ q in
        let r = parts_of_reading N P bytes d (g ∷ []) (h ∷ []) refl in
        let o = kept g σ c.0 f below s r.0 tops new c.1 r.1 are fit in
        joined_goes g h (Seq g h) c.0 τ s r.0 e tops new f below (λ a b. in_turn) o (kept h c.0 τ f below r.0 e o.tops' o.new' c.2 r.2 o.are o.fit)
    steps_kept k kept (Or g h) σ τ f below s e tops new q (left_in d) are fit = let z = halves (flow E g σ) (flow E h σ) τ q in weaker g (Or g h) z.0 τ s e tops new f below (λ tops xs. shape_left z.0 z.1 τ tops xs z.4) (λ a b. left) (kept g σ z.0 f below s e tops new z.2 d are fit)
    steps_kept k kept (Or g h) σ τ f below s e tops new q (right_in d) are fit = let z = halves (flow E g σ) (flow E h σ) τ q in weaker h (Or g h) z.1 τ s e tops new f below (λ tops xs. shape_right z.0 z.1 τ tops xs z.4) (λ a b. right) (kept h σ z.1 f below s e tops new z.3 d are fit)
    steps_kept k kept (When a g h) σ τ f below s e tops new q (chosen_in w d) are fit = let z = halves (flow E g σ) (flow E h σ) τ q in weaker g (When a g h) z.0 τ s e tops new f below (λ tops xs. shape_left z.0 z.1 τ tops xs z.4) (λ a b. chosen w) (kept g σ z.0 f below s e tops new z.2 d are fit)
    steps_kept k kept (When a g h) σ τ f below s e tops new q (passed_by_in w d) are fit = let z = halves (flow E g σ) (flow E h σ) τ q in weaker h (When a g h) z.1 τ s e tops new f below (λ tops xs. shape_right z.0 z.1 τ tops xs z.4) (λ a b. passed_by w) (kept h σ z.1 f below s e tops new z.3 d are fit)
    steps_kept k kept (Many g) σ τ f below s e tops new q (done_in d) are fit = let z = repeated (flow E g) σ τ (flow E g σ) refl q in stays (Many g) τ s e tops new f below (ended_in k s e d) are (z.less tops new fit) (λ a. done at_end)
    steps_kept k kept (Many g) σ τ f below s e tops new q (again_in d) are fit =
        let z = repeated (flow E g) σ τ (flow E g σ) refl q in
        let r = parts_of_reading N P bytes d (g ∷ []) (Many g ∷ []) refl in
        let o = kept g τ z.round f below s r.0 tops new z.goes r.1 are (z.less tops new fit) in
        joined_goes g (Many g) (Many g) z.round τ s r.0 e tops new f below (λ a b. again) o (kept (Many g) τ τ f below r.0 e o.tops' o.new' (repeats_itself (flow E g) σ τ z) r.2 o.are (shape_settled τ z.round o.tops' o.new' z.settled o.fit))

    all_kept : (k : ℕ) → Kept k
    unfolding Kept
    all_kept zero = λ g σ τ f below s e tops new q d are fit. absurd (takes_steps N P bytes d g [] refl refl)
    all_kept (suc k) = steps_kept k (all_kept k)

    -- the open nodes behind what a right side reads
    pub effect_lem : (g : RightSide N) (σ τ : Shape) (f : OpenNode) (below : List OpenNode) (s e : State) (tops : List OpenNode) (new : List Tree) → flow E g σ ≡ Some τ → Reads N P bytes (g ∷ []) s e → s.open_nodes ≡ standing f below tops new → FitsShape σ tops new → Goes g τ s e tops new f below
    unfolding Kept
    effect_lem g σ τ f below s e tops new q d are fit = let z = counted N P bytes d in all_kept z.0 g σ τ f below s e tops new q z.1 are fit
