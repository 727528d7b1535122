-- What is read on top of some open nodes is read the same on top of others, with more tokens behind.
use Rattle.std.proofs.Common.{◌≡◌, ℕ, Bool, true, false, ◌==◌, List, [], ◌∷◌, ◌++◌, refl, sym, ap, ◌∙◌, cond, Option, None, Some, eqb-true}
use Rattle.std.specs.List.{list_any}
use Rattle.go_tree.specs.declared.token.Token.{Token}
use Rattle.go_tree.specs.declared.token.TokenKind.{TokenKind}
use Rattle.go_tree.specs.declared.node_kind.NodeKind.{NodeKind}
use Rattle.go_tree.specs.Tree.{Tree, start_of}
use Rattle.go_tree.specs.Grammar.RightSide.{RightSide, Act, Pass, Open, Reopen, Adopt, CheckType, Close, Ahead, OneOf, Both}
use Rattle.go_tree.specs.Grammar.Tables.TokenKinds.{same_kind, is_in, code}
use Rattle.go_tree.specs.Grammar.Trees.Reading.{State, OpenNode, Reads, at_end, does, calls, nothing, in_turn, left, right, done, again, chosen, passed_by, acted, passed, looks, next_start, reopened, reopen, adopted, adopt, close_last, node_read, ends_in_type}
use Rattle.go_tree.proofs.ShapeLemmas.{Shape, Fits, fits_covered}
use Rattle.go_tree.proofs.StayLemmas.{act_stays, settles, stays, is_node, AllStay, stay_covered, call_stays, left_stays, right_stays, when_stays, done_stays, again_stays, turn_stays}
use Rattle.go_tree.proofs.FollowLemmas.{act_earlier, earlier}

-- ---- tokens

-- the last of the tokens is none of these
abbrev pub EndsApart : List TokenKind → List Token → Type 0
EndsApart kinds [] = ⊥
EndsApart kinds (t ∷ []) = is_in kinds t.kind ≡ false
EndsApart kinds (t ∷ (u ∷ us)) = EndsApart kinds (u ∷ us)

ends_apart_more : (kinds : List TokenKind) (t : Token) (ts : List Token) → EndsApart kinds ts → EndsApart kinds (t ∷ ts)
ends_apart_more kinds t [] h = absurd h
ends_apart_more kinds t (u ∷ us) h = h

pub same_in : (kinds : List TokenKind) (i k : TokenKind) → same_kind i k ≡ true → is_in kinds i ≡ is_in kinds k
same_in kinds i k same = ap (λ x. list_any (λ j. code j == x) kinds) (eqb-true (code i) (code k) same)

other_kind : (kinds : List TokenKind) (i k : TokenKind) → is_in kinds i ≡ true → is_in kinds k ≡ false → same_kind i k ≡ false
other_kind kinds i k yes_i no_k = go (same_kind i k) refl
  where
    go : (b : Bool) → same_kind i k ≡ b → b ≡ false
    go true e = let y = same_in kinds i k e in cc
    go false e = refl

looks_more : (kinds : List TokenKind) (a : Ahead) (ts more : List Token) → settles kinds a ≡ true → EndsApart kinds ts → looks a (ts ++ more) ≡ looks a ts
looks_more kinds a [] more s h = absurd h
looks_more kinds (OneOf any) (t ∷ ts) more s h = refl
looks_more kinds (Both i j) (t ∷ []) [] s h = refl
looks_more kinds (Both i j) (t ∷ []) (u ∷ us) s h = rw (other_kind kinds i t.kind s h) refl
looks_more kinds (Both i j) (t ∷ (u ∷ us)) more s h = refl

start_more : (kinds : List TokenKind) (last : ℕ) (ts more : List Token) → EndsApart kinds ts → next_start last (ts ++ more) ≡ next_start last ts
start_more kinds last [] more h = absurd h
start_more kinds last (t ∷ ts) more h = refl

-- ---- acts

-- a change of open nodes that leaves those below alone
record Above (change : List OpenNode → List OpenNode) (tops : List OpenNode) (next : Shape → Bool) : Type 0 where
  shape : Shape
  new : List OpenNode
  fit : Fits shape new
  stays : next shape ≡ true
  are : (below : List OpenNode) → change (tops ++ below) ≡ new ++ below

top_part : (σ : Shape) (start : ℕ) (parts : List Tree) (fs : List OpenNode) → Fits (true ∷ σ) (record { start = start; parts = parts } ∷ fs) → (x : Tree) × (xs : List Tree) × (parts ≡ x ∷ xs)
top_part σ start [] fs h = absurd (h.0 refl)
top_part σ start (x ∷ xs) fs h = (x, xs, refl)

some_part : (σ : Shape) (start : ℕ) (xs : List Tree) (x : Tree) (fs : List OpenNode) → Fits σ fs → Fits (true ∷ σ) (record { start = start; parts = xs ++ (x ∷ []) } ∷ fs)
some_part σ start [] x fs h = (λ e. tt, h)
some_part σ start (y ∷ ys) x fs h = (λ e. tt, h)

reopen_above : (σ : Shape) (next : Shape → Bool) (f : OpenNode) (fs : List OpenNode) → next (true ∷ false ∷ σ) ≡ true → Fits (true ∷ σ) (f ∷ fs) → Above reopen (f ∷ fs) next
reopen_above σ next f fs h fit =
    let p = top_part σ f.start f.parts fs fit in
    record {
      shape = true ∷ false ∷ σ;
      new = record { start = start_of p.0; parts = p.0 ∷ [] } ∷ record { start = f.start; parts = p.1 } ∷ fs;
      fit = (λ e. tt, ((λ e. cc), fit.1));
      stays = h;
      are = λ below. ap (λ x. reopened x f.start (fs ++ below)) p.2;
    }

adopt_above : (p : Bool) (σ : Shape) (next : Shape → Bool) (f g : OpenNode) (fs : List OpenNode) → next (true ∷ false ∷ σ) ≡ true → Fits (p ∷ true ∷ σ) (f ∷ g ∷ fs) → Above adopt (f ∷ g ∷ fs) next
adopt_above b σ next f g fs h fit =
    let p = top_part σ g.start g.parts fs fit.1 in
    record {
      shape = true ∷ false ∷ σ;
      new = record { start = start_of p.0; parts = f.parts ++ (p.0 ∷ []) } ∷ record { start = g.start; parts = p.1 } ∷ fs;
      fit = some_part (false ∷ σ) (start_of p.0) f.parts p.0 (record { start = g.start; parts = p.1 } ∷ fs) ((λ e. cc), fit.1.1);
      stays = h;
      are = λ below. ap (λ x. adopted f x g.start (fs ++ below)) p.2;
    }

close_above : (bytes : List ℕ) (k : NodeKind) (last : ℕ) (p q : Bool) (σ : Shape) (next : Shape → Bool) (f g : OpenNode) (fs : List OpenNode) → next (true ∷ σ) ≡ true → Fits (p ∷ q ∷ σ) (f ∷ g ∷ fs) → Above (close_last bytes k last) (f ∷ g ∷ fs) next
close_above bytes k last p q σ next f g fs h fit = record {
  shape = true ∷ σ;
  new = record { start = g.start; parts = node_read bytes k last f ∷ g.parts } ∷ fs;
  fit = (λ e. tt, fit.1.1);
  stays = h;
  are = λ below. refl;
}

module _ (N : Type 0) (P : N → RightSide N) (bytes : List ℕ) (kinds : List TokenKind) (here there : List OpenNode) (more : List Token) where
  -- the state where other nodes are open below, and more tokens stand behind
  abbrev pub moved : State → List OpenNode → State
  moved s fs = record { last = s.last; rest = s.rest ++ more; open_nodes = fs ++ there }

  -- the act has left those below alone, and does the same on top of others
  record Same (a : Act) (next : Shape → Bool) (s m : State) (tops : List OpenNode) : Type 0 where
    shape : Shape
    new : List OpenNode
    fit : Fits shape new
    stays : next shape ≡ true
    are : m.open_nodes ≡ new ++ here
    acts : acted bytes a (moved s tops) ≡ Some (moved m new)

  passed_same : (k : TokenKind) (rest : List Token) (fs gs : List OpenNode) (m : State) → passed k rest fs ≡ Some m → (m.open_nodes ≡ fs) × (passed k (rest ++ more) gs ≡ Some (record { last = m.last; rest = m.rest ++ more; open_nodes = gs }))
  passed_same k [] fs gs m h = cc
  passed_same k (t ∷ ts) fs gs m h = go (same_kind k t.kind) h
    where
      go : (b : Bool) → cond b (Some (record { last = t.end; rest = ts; open_nodes = fs })) None ≡ Some m → (m.open_nodes ≡ fs) × (cond {A = Option State} b (Some (record { last = t.end; rest = ts ++ more; open_nodes = gs })) None ≡ Some (record { last = m.last; rest = m.rest ++ more; open_nodes = gs }))
      go true h =
          let q : record { last = t.end; rest = ts; open_nodes = fs } ≡ m = cc in
          (sym (ap (λ (x : State). x.open_nodes) q), ap (λ (x : State). Some (record { last = x.last; rest = x.rest ++ more; open_nodes = gs })) q)
      go false h = cc

  -- an act that passes no token
  changed : (a : Act) (change : List OpenNode → List OpenNode) (next : Shape → Bool) (s m : State) (tops : List OpenNode) → Above change tops next → record { last = s.last; rest = s.rest; open_nodes = change s.open_nodes } ≡ m → s.open_nodes ≡ tops ++ here → acted bytes a (moved s tops) ≡ Some (record { last = s.last; rest = s.rest ++ more; open_nodes = change (tops ++ there) }) → Same a next s m tops
  changed a change next s m tops above q are acts = record {
    shape = above.shape;
    new = above.new;
    fit = above.fit;
    stays = above.stays;
    are = sym (ap (λ (x : State). x.open_nodes) q) ∙ (ap change are ∙ above.are here);
    acts =
        acts
        ∙ ap (λ x. Some (record { last = s.last; rest = s.rest ++ more; open_nodes = x })) (above.are there)
        ∙ ap (λ (x : State). Some (record { last = x.last; rest = x.rest ++ more; open_nodes = above.new ++ there })) q;
  }

  checked_same : (b : Bool) (s m : State) → cond b (Some s) None ≡ Some m → (s ≡ m) × (b ≡ true)
  checked_same true s m h = (cc, refl)
  checked_same false s m h = cc

  act_same : (a : Act) (σ : Shape) (next : Shape → Bool) (s m : State) (tops : List OpenNode) → act_stays a σ next ≡ true → Fits σ tops → s.open_nodes ≡ tops ++ here → EndsApart kinds s.rest → acted bytes a s ≡ Some m → Same a next s m tops
  act_same (Pass k) σ next s m tops st fit are rest h =
      let p = passed_same k s.rest s.open_nodes (tops ++ there) m h in
      record { shape = σ; new = tops; fit = fit; stays = st; are = p.0 ∙ are; acts = p.1 }
  act_same Open σ next s m tops st fit are rest h =
      let new : OpenNode = record { start = next_start s.last s.rest; parts = [] } in
      let q : record { last = s.last; rest = s.rest; open_nodes = record { start = next_start s.last s.rest; parts = [] } ∷ s.open_nodes } ≡ m = cc in
      let above : Above (λ fs. new ∷ fs) tops next = record { shape = false ∷ σ; new = new ∷ tops; fit = ((λ e. cc), fit); stays = st; are = λ below. refl } in
      let start = ap (λ n. Some (record { last = s.last; rest = s.rest ++ more; open_nodes = record { start = n; parts = [] } ∷ (tops ++ there) })) (start_more kinds s.last s.rest more rest) in
      changed Open (λ fs. new ∷ fs) next s m tops above q are start
  act_same Reopen [] next s m tops st fit are rest h = cc
  act_same Reopen (false ∷ σ) next s m tops st fit are rest h = cc
  act_same Reopen (true ∷ σ) next s m [] st fit are rest h = absurd fit
  act_same Reopen (true ∷ σ) next s m (f ∷ fs) st fit are rest h =
      let q : record { last = s.last; rest = s.rest; open_nodes = reopen s.open_nodes } ≡ m = cc in
      changed Reopen reopen next s m (f ∷ fs) (reopen_above σ next f fs st fit) q are refl
  act_same Adopt [] next s m tops st fit are rest h = cc
  act_same Adopt (p ∷ []) next s m tops st fit are rest h = cc
  act_same Adopt (p ∷ false ∷ σ) next s m tops st fit are rest h = cc
  act_same Adopt (p ∷ true ∷ σ) next s m [] st fit are rest h = absurd fit
  act_same Adopt (p ∷ true ∷ σ) next s m (f ∷ []) st fit are rest h = absurd fit.1
  act_same Adopt (p ∷ true ∷ σ) next s m (f ∷ g ∷ fs) st fit are rest h =
      let q : record { last = s.last; rest = s.rest; open_nodes = adopt s.open_nodes } ≡ m = cc in
      changed Adopt adopt next s m (f ∷ g ∷ fs) (adopt_above p σ next f g fs st fit) q are refl
  act_same CheckType [] next s m tops st fit are rest h = cc
  act_same CheckType (b ∷ σ) next s m [] st fit are rest h = absurd fit
  act_same CheckType (b ∷ σ) next s m (f ∷ fs) st fit are rest h =
      let c = checked_same (ends_in_type s.open_nodes) s m h in
      let type : ends_in_type ((f ∷ fs) ++ here) ≡ true = ap ends_in_type (sym are) ∙ c.1 in
      let above : Above (λ x. x) (f ∷ fs) next = record { shape = b ∷ σ; new = f ∷ fs; fit = fit; stays = st; are = λ below. refl } in
      changed CheckType (λ x. x) next s m (f ∷ fs) above c.0 are (ap (λ x. cond x (Some (moved s (f ∷ fs))) None) type)
  act_same (Close k) [] next s m tops st fit are rest h = cc
  act_same (Close k) (p ∷ []) next s m tops st fit are rest h = cc
  act_same (Close k) (p ∷ b ∷ σ) next s m [] st fit are rest h = absurd fit
  act_same (Close k) (p ∷ b ∷ σ) next s m (f ∷ []) st fit are rest h = absurd fit.1
  act_same (Close k) (p ∷ b ∷ σ) next s m (f ∷ g ∷ fs) st fit are rest h =
      let q : record { last = s.last; rest = s.rest; open_nodes = close_last bytes k s.last s.open_nodes } ≡ m = cc in
      changed (Close k) (close_last bytes k s.last) next s m (f ∷ g ∷ fs) (close_above bytes k s.last p b σ next f g fs st fit) q are refl

  -- ---- readings

  module _ (E : N → Shape) (table_right : (n : N) → stays E kinds (P n) (E n) is_node ≡ true) where
    -- the same is read on top of others, with more tokens behind; one node is left on them
    unfoldable pub InPlace : List (RightSide N) → State → State → List OpenNode → Type 0
    InPlace gs s e tops = (new : List OpenNode) × (e.open_nodes ≡ new ++ here) × Fits (false ∷ []) new × Reads N P bytes gs (moved s tops) (moved e new)

    pub in_place : {gs : List (RightSide N)} {s e : State} → Reads N P bytes gs s e → (tops : List OpenNode) (σ : Shape) → AllStay E kinds gs σ → Fits σ tops → s.open_nodes ≡ tops ++ here → EndsApart kinds e.rest → InPlace gs s e tops
    unfolding InPlace
    in_place at_end tops σ stay fit are rest = (tops, are, fits_covered (false ∷ []) σ tops stay fit, at_end)
    in_place (does {a = a} {gs = gs} {s = s} {m = m} h d) tops σ stay fit are rest =
        let behind : EndsApart kinds m.rest = earlier N P bytes (EndsApart kinds) (ends_apart_more kinds) d rest in
        let ahead : EndsApart kinds s.rest = act_earlier bytes (EndsApart kinds) (ends_apart_more kinds) a s m h behind in
        let step = act_same a stay.0 stay.1 s m tops stay.3 (fits_covered stay.0 σ tops stay.2 fit) are ahead h in
        let r = in_place d step.new step.shape (stay.4 step.shape step.stays) step.fit step.are rest in
        (r.0, r.1, r.2, does step.acts r.3)
    in_place (calls {n = n} {gs = gs} d) tops σ stay fit are rest = let r = in_place d tops σ (call_stays N P E kinds table_right n gs σ stay) fit are rest in (r.0, r.1, r.2, calls r.3)
    in_place (nothing {gs = gs} d) tops σ stay fit are rest = let r = in_place d tops σ (stay_covered N P E kinds table_right gs stay.0 σ stay.2 (stay.4 stay.0 stay.3)) fit are rest in (r.0, r.1, r.2, nothing r.3)
    in_place (in_turn {g = g} {h = h} {gs = gs} d) tops σ stay fit are rest = let r = in_place d tops σ (turn_stays N P E kinds table_right g h gs σ stay) fit are rest in (r.0, r.1, r.2, in_turn r.3)
    in_place (left {g = g} {h = h} {gs = gs} d) tops σ stay fit are rest = let r = in_place d tops σ (left_stays N P E kinds table_right g h gs σ stay) fit are rest in (r.0, r.1, r.2, left r.3)
    in_place (right {g = g} {h = h} {gs = gs} d) tops σ stay fit are rest = let r = in_place d tops σ (right_stays N P E kinds table_right g h gs σ stay) fit are rest in (r.0, r.1, r.2, right r.3)
    in_place (done {g = g} {gs = gs} d) tops σ stay fit are rest = let r = in_place d tops σ (done_stays N P E kinds table_right g gs σ stay) fit are rest in (r.0, r.1, r.2, done r.3)
    in_place (again {g = g} {gs = gs} d) tops σ stay fit are rest = let r = in_place d tops σ (again_stays N P E kinds table_right g gs σ stay) fit are rest in (r.0, r.1, r.2, again r.3)
    in_place (chosen {a = a} {g = g} {h = h} {gs = gs} {s = s} w d) tops σ stay fit are rest =
        let k = when_stays N P E kinds table_right a g h gs σ stay in
        let ahead : EndsApart kinds s.rest = earlier N P bytes (EndsApart kinds) (ends_apart_more kinds) d rest in
        let r = in_place d tops σ (left_stays N P E kinds table_right g h gs σ k.1) fit are rest in
        (r.0, r.1, r.2, chosen (looks_more kinds a s.rest more k.0 ahead ∙ w) r.3)
    in_place (passed_by {a = a} {g = g} {h = h} {gs = gs} {s = s} w d) tops σ stay fit are rest =
        let k = when_stays N P E kinds table_right a g h gs σ stay in
        let ahead : EndsApart kinds s.rest = earlier N P bytes (EndsApart kinds) (ends_apart_more kinds) d rest in
        let r = in_place d tops σ (right_stays N P E kinds table_right g h gs σ k.1) fit are rest in
        (r.0, r.1, r.2, passed_by (looks_more kinds a s.rest more k.0 ahead ∙ w) r.3)
