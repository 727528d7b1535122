-- What is read to the end leaves a node: for each production, the open nodes that it needs and leaves.
use Rattle.std.proofs.Common.{◌≡◌, ℕ, zero, suc, Bool, true, false, List, [], ◌∷◌, ◌++◌, refl, sym, ap, subst, ◌∙◌, cond, Option, None, Some, append_assoc}
use Rattle.go_tree.specs.declared.token.Token.{Token}
use Rattle.go_tree.specs.declared.token.TokenKind.{TokenKind}
use Rattle.go_tree.specs.declared.node_kind.NodeKind.{NodeKind}
use Rattle.go_tree.specs.Tree.{Tree, start_of}
use Rattle.go_tree.specs.Grammar.RightSide.{RightSide, Do, Call, Nothing, Seq, Or, Many, When, Act, Pass, Open, Reopen, Adopt, CheckType, Close, Ahead}
use Rattle.go_tree.specs.Grammar.Tables.TokenKinds.{same_kind}
use Rattle.go_tree.specs.Grammar.Trees.Reading.{State, OpenNode, Reads, at_end, does, calls, nothing, in_turn, left, right, done, again, chosen, passed_by, looks, acted, passed, next_start, reopened, reopen, adopted, adopt, close_last, node_read, ends_in_type, newest_of, tree_read}
use Rattle.go_tree.proofs.ShapeLemmas.{Shape, flow_act, take_needed, meet, meet_both, covers, if_covered, then_flow, flow, leaves_node, HasPart, Fits, fits_covered, single, some_part, fits_left, fits_right, parted}

-- ---- readings in at most so many steps

pub data ReadsIn (N : Type 0) (P : N → RightSide N) (bytes : List ℕ) : ℕ → List (RightSide N) → State → State → Type 0 where
  at_end_in : {k : ℕ} {s : State} → ReadsIn N P bytes k [] s s
  does_in : {k : ℕ} {a : Act} {gs : List (RightSide N)} {s m e : State} → acted bytes a s ≡ Some m → ReadsIn N P bytes k gs m e → ReadsIn N P bytes (suc k) (Do a ∷ gs) s e
  calls_in : {k : ℕ} {n : N} {gs : List (RightSide N)} {s e : State} → ReadsIn N P bytes k (P n ∷ gs) s e → ReadsIn N P bytes (suc k) (Call n ∷ gs) s e
  nothing_in : {k : ℕ} {gs : List (RightSide N)} {s e : State} → ReadsIn N P bytes k gs s e → ReadsIn N P bytes (suc k) (Nothing ∷ gs) s e
  in_turn_in : {k : ℕ} {g h : RightSide N} {gs : List (RightSide N)} {s e : State} → ReadsIn N P bytes k (g ∷ h ∷ gs) s e → ReadsIn N P bytes (suc k) (Seq g h ∷ gs) s e
  left_in : {k : ℕ} {g h : RightSide N} {gs : List (RightSide N)} {s e : State} → ReadsIn N P bytes k (g ∷ gs) s e → ReadsIn N P bytes (suc k) (Or g h ∷ gs) s e
  right_in : {k : ℕ} {g h : RightSide N} {gs : List (RightSide N)} {s e : State} → ReadsIn N P bytes k (h ∷ gs) s e → ReadsIn N P bytes (suc k) (Or g h ∷ gs) s e
  done_in : {k : ℕ} {g : RightSide N} {gs : List (RightSide N)} {s e : State} → ReadsIn N P bytes k gs s e → ReadsIn N P bytes (suc k) (Many g ∷ gs) s e
  again_in : {k : ℕ} {g : RightSide N} {gs : List (RightSide N)} {s e : State} → ReadsIn N P bytes k (g ∷ Many g ∷ gs) s e → ReadsIn N P bytes (suc k) (Many g ∷ gs) s e
  chosen_in : {k : ℕ} {a : Ahead} {g h : RightSide N} {gs : List (RightSide N)} {s e : State} → looks a s.rest ≡ true → ReadsIn N P bytes k (g ∷ gs) s e → ReadsIn N P bytes (suc k) (When a g h ∷ gs) s e
  passed_by_in : {k : ℕ} {a : Ahead} {g h : RightSide N} {gs : List (RightSide N)} {s e : State} → looks a s.rest ≡ false → ReadsIn N P bytes k (h ∷ gs) s e → ReadsIn N P bytes (suc k) (When a g h ∷ gs) s e

module _ (N : Type 0) (P : N → RightSide N) (bytes : List ℕ) where
  pub counted : {gs : List (RightSide N)} {s e : State} → Reads N P bytes gs s e → (k : ℕ) × ReadsIn N P bytes k gs s e
  counted at_end = (0, at_end_in)
  counted (does h d) = let z = counted d in (suc z.0, does_in h z.1)
  counted (calls d) = let z = counted d in (suc z.0, calls_in z.1)
  counted (nothing d) = let z = counted d in (suc z.0, nothing_in z.1)
  counted (in_turn d) = let z = counted d in (suc z.0, in_turn_in z.1)
  counted (left d) = let z = counted d in (suc z.0, left_in z.1)
  counted (right d) = let z = counted d in (suc z.0, right_in z.1)
  counted (done d) = let z = counted d in (suc z.0, done_in z.1)
  counted (again d) = let z = counted d in (suc z.0, again_in z.1)
  counted (chosen w d) = let z = counted d in (suc z.0, chosen_in w z.1)
  counted (passed_by w d) = let z = counted d in (suc z.0, passed_by_in w z.1)

  more_steps : {k : ℕ} {gs : List (RightSide N)} {s e : State} → ReadsIn N P bytes k gs s e → ReadsIn N P bytes (suc k) gs s e
  more_steps at_end_in = at_end_in
  more_steps (does_in h d) = does_in h (more_steps d)
  more_steps (calls_in d) = calls_in (more_steps d)
  more_steps (nothing_in d) = nothing_in (more_steps d)
  more_steps (in_turn_in d) = in_turn_in (more_steps d)
  more_steps (left_in d) = left_in (more_steps d)
  more_steps (right_in d) = right_in (more_steps d)
  more_steps (done_in d) = done_in (more_steps d)
  more_steps (again_in d) = again_in (more_steps d)
  more_steps (chosen_in w d) = chosen_in w (more_steps d)
  more_steps (passed_by_in w d) = passed_by_in w (more_steps d)

  unfoldable pub Both_parts : ℕ → List (RightSide N) → List (RightSide N) → State → State → Type 0
  Both_parts k pre A s e = (m : State) × ReadsIn N P bytes k pre s m × ReadsIn N P bytes k A m e

  pub parts_of_reading : {k : ℕ} {all : List (RightSide N)} {s e : State} → ReadsIn N P bytes k all s e → (pre A : List (RightSide N)) → all ≡ pre ++ A → Both_parts k pre A s e
  unfolding Both_parts
  parts_of_reading {k = k} (at_end_in {s = s}) [] A q = (s, at_end_in, subst (λ x. ReadsIn N P bytes k x s s) q at_end_in)
  parts_of_reading at_end_in (p ∷ ps) A q = cc
  parts_of_reading (does_in {k = k} {a = a} {gs = gs} {s = s} {e = e} h d) [] A q = (s, at_end_in, subst (λ x. ReadsIn N P bytes (suc k) x s e) q (does_in h d))
  parts_of_reading (does_in {k = k} {a = a} {gs = gs} {s = s} {e = e} h d) (p ∷ ps) A q = let y : gs ≡ ps ++ A = cc in let x : Do a ≡ p = cc in let r = parts_of_reading d (ps) A y in (r.0, subst (λ z. ReadsIn N P bytes (suc k) (z ∷ ps) s r.0) x (does_in h r.1), more_steps r.2)
  parts_of_reading (calls_in {k = k} {n = n} {gs = gs} {s = s} {e = e} d) [] A q = (s, at_end_in, subst (λ x. ReadsIn N P bytes (suc k) x s e) q (calls_in d))
  parts_of_reading (calls_in {k = k} {n = n} {gs = gs} {s = s} {e = e} d) (p ∷ ps) A q = let y : gs ≡ ps ++ A = cc in let x : Call n ≡ p = cc in let r = parts_of_reading d (P n ∷ ps) A (ap (λ z. P n ∷ z) y) in (r.0, subst (λ z. ReadsIn N P bytes (suc k) (z ∷ ps) s r.0) x (calls_in r.1), more_steps r.2)
  parts_of_reading (nothing_in {k = k} {gs = gs} {s = s} {e = e} d) [] A q = (s, at_end_in, subst (λ x. ReadsIn N P bytes (suc k) x s e) q (nothing_in d))
  parts_of_reading (nothing_in {k = k} {gs = gs} {s = s} {e = e} d) (p ∷ ps) A q = let y : gs ≡ ps ++ A = cc in let x : Nothing ≡ p = cc in let r = parts_of_reading d (ps) A y in (r.0, subst (λ z. ReadsIn N P bytes (suc k) (z ∷ ps) s r.0) x (nothing_in r.1), more_steps r.2)
  parts_of_reading (in_turn_in {k = k} {g = g} {h = h} {gs = gs} {s = s} {e = e} d) [] A q = (s, at_end_in, subst (λ x. ReadsIn N P bytes (suc k) x s e) q (in_turn_in d))
  parts_of_reading (in_turn_in {k = k} {g = g} {h = h} {gs = gs} {s = s} {e = e} d) (p ∷ ps) A q = let y : gs ≡ ps ++ A = cc in let x : Seq g h ≡ p = cc in let r = parts_of_reading d (g ∷ h ∷ ps) A (ap (λ z. g ∷ h ∷ z) y) in (r.0, subst (λ z. ReadsIn N P bytes (suc k) (z ∷ ps) s r.0) x (in_turn_in r.1), more_steps r.2)
  parts_of_reading (left_in {k = k} {g = g} {h = h} {gs = gs} {s = s} {e = e} d) [] A q = (s, at_end_in, subst (λ x. ReadsIn N P bytes (suc k) x s e) q (left_in d))
  parts_of_reading (left_in {k = k} {g = g} {h = h} {gs = gs} {s = s} {e = e} d) (p ∷ ps) A q = let y : gs ≡ ps ++ A = cc in let x : Or g h ≡ p = cc in let r = parts_of_reading d (g ∷ ps) A (ap (λ z. g ∷ z) y) in (r.0, subst (λ z. ReadsIn N P bytes (suc k) (z ∷ ps) s r.0) x (left_in r.1), more_steps r.2)
  parts_of_reading (right_in {k = k} {g = g} {h = h} {gs = gs} {s = s} {e = e} d) [] A q = (s, at_end_in, subst (λ x. ReadsIn N P bytes (suc k) x s e) q (right_in d))
  parts_of_reading (right_in {k = k} {g = g} {h = h} {gs = gs} {s = s} {e = e} d) (p ∷ ps) A q = let y : gs ≡ ps ++ A = cc in let x : Or g h ≡ p = cc in let r = parts_of_reading d (h ∷ ps) A (ap (λ z. h ∷ z) y) in (r.0, subst (λ z. ReadsIn N P bytes (suc k) (z ∷ ps) s r.0) x (right_in r.1), more_steps r.2)
  parts_of_reading (chosen_in {k = k} {a = a} {g = g} {h = h} {gs = gs} {s = s} {e = e} w d) [] A q = (s, at_end_in, subst (λ x. ReadsIn N P bytes (suc k) x s e) q (chosen_in w d))
  parts_of_reading (chosen_in {k = k} {a = a} {g = g} {h = h} {gs = gs} {s = s} {e = e} w d) (p ∷ ps) A q = let y : gs ≡ ps ++ A = cc in let x : When a g h ≡ p = cc in let r = parts_of_reading d (g ∷ ps) A (ap (λ z. g ∷ z) y) in (r.0, subst (λ z. ReadsIn N P bytes (suc k) (z ∷ ps) s r.0) x (chosen_in w r.1), more_steps r.2)
  parts_of_reading (passed_by_in {k = k} {a = a} {g = g} {h = h} {gs = gs} {s = s} {e = e} w d) [] A q = (s, at_end_in, subst (λ x. ReadsIn N P bytes (suc k) x s e) q (passed_by_in w d))
  parts_of_reading (passed_by_in {k = k} {a = a} {g = g} {h = h} {gs = gs} {s = s} {e = e} w d) (p ∷ ps) A q = let y : gs ≡ ps ++ A = cc in let x : When a g h ≡ p = cc in let r = parts_of_reading d (h ∷ ps) A (ap (λ z. h ∷ z) y) in (r.0, subst (λ z. ReadsIn N P bytes (suc k) (z ∷ ps) s r.0) x (passed_by_in w r.1), more_steps r.2)
  parts_of_reading (done_in {k = k} {g = g} {gs = gs} {s = s} {e = e} d) [] A q = (s, at_end_in, subst (λ x. ReadsIn N P bytes (suc k) x s e) q (done_in d))
  parts_of_reading (done_in {k = k} {g = g} {gs = gs} {s = s} {e = e} d) (p ∷ ps) A q = let y : gs ≡ ps ++ A = cc in let x : Many g ≡ p = cc in let r = parts_of_reading d (ps) A y in (r.0, subst (λ z. ReadsIn N P bytes (suc k) (z ∷ ps) s r.0) x (done_in r.1), more_steps r.2)
  parts_of_reading (again_in {k = k} {g = g} {gs = gs} {s = s} {e = e} d) [] A q = (s, at_end_in, subst (λ x. ReadsIn N P bytes (suc k) x s e) q (again_in d))
  parts_of_reading (again_in {k = k} {g = g} {gs = gs} {s = s} {e = e} d) (p ∷ ps) A q = let y : gs ≡ ps ++ A = cc in let x : Many g ≡ p = cc in let r = parts_of_reading d (g ∷ Many g ∷ ps) A (ap (λ z. g ∷ Many g ∷ z) y) in (r.0, subst (λ z. ReadsIn N P bytes (suc k) (z ∷ ps) s r.0) x (again_in r.1), more_steps r.2)

  -- ---- acts

  -- the open nodes are these on top of those below, and fit the shape
  record On (σ : Shape) (below fs : List OpenNode) : Type 0 where
    tops : List OpenNode
    are : fs ≡ tops ++ below
    fit : Fits σ tops

  passed_same : (k : TokenKind) (rest : List Token) (fs : List OpenNode) (m : State) → passed k rest fs ≡ Some m → fs ≡ m.open_nodes
  passed_same k [] fs m h = cc
  passed_same k (t ∷ ts) fs m h = go (same_kind k t.kind) h
    where
      go : (b : Bool) → cond b (Some (record { last = t.end; rest = ts; open_nodes = fs })) None ≡ Some m → fs ≡ m.open_nodes
      go true h = let q : record { last = t.end; rest = ts; open_nodes = fs } ≡ m = cc in ap (λ (x : State). x.open_nodes) q
      go false h = cc

  checked_same : (b : Bool) (s m : State) → cond b (Some s) None ≡ Some m → s ≡ m
  checked_same true s m h = cc
  checked_same false s m h = cc

  reopened_on : (σ : Shape) (below : List OpenNode) (start : ℕ) (parts : List Tree) (fs : List OpenNode) → HasPart parts → Fits σ fs → On (true ∷ false ∷ σ) below (reopened parts start (fs ++ below))
  reopened_on σ below start [] fs part f = absurd part
  reopened_on σ below start (x ∷ xs) fs part f = record {
    tops = record { start = start_of x; parts = x ∷ [] } ∷ record { start = start; parts = xs } ∷ fs;
    are = refl;
    fit = (λ e. tt, (λ e. cc, f));
  }

  adopted_on : (σ : Shape) (below : List OpenNode) (f : OpenNode) (start : ℕ) (parts : List Tree) (fs : List OpenNode) → HasPart parts → Fits σ fs → On (true ∷ false ∷ σ) below (adopted f parts start (fs ++ below))
  adopted_on σ below g start [] fs part f = absurd part
  adopted_on σ below g start (x ∷ xs) fs part f = record {
    tops = record { start = start_of x; parts = g.parts ++ x ∷ [] } ∷ record { start = start; parts = xs } ∷ fs;
    are = refl;
    fit = (λ e. some_part g.parts x, (λ e. cc, f));
  }

  moved : (σ τ : Shape) (below fs gs : List OpenNode) → fs ≡ gs → σ ≡ τ → On σ below fs → On τ below gs
  moved σ τ below fs gs q p o = subst (λ x. On x below gs) p (subst (λ x. On σ below x) q o)

  act_on : (a : Act) (s m : State) (σ τ : Shape) (below : List OpenNode) → acted bytes a s ≡ Some m → flow_act a σ ≡ Some τ → On σ below s.open_nodes → On τ below m.open_nodes
  act_on (Pass k) s m σ τ below h q o = moved σ τ below s.open_nodes m.open_nodes (passed_same k s.rest s.open_nodes m h) (let y : σ ≡ τ = cc in y) o
  act_on Open s m σ τ below h q o =
      let y : record { last = s.last; rest = s.rest; open_nodes = record { start = next_start s.last s.rest; parts = [] } ∷ s.open_nodes } ≡ m = cc in
      let new : OpenNode = record { start = next_start s.last s.rest; parts = [] } in
      moved (false ∷ σ) τ below (new ∷ s.open_nodes) m.open_nodes (ap (λ (x : State). x.open_nodes) y) (let z : false ∷ σ ≡ τ = cc in z) (record { tops = new ∷ o.tops; are = ap (λ x. new ∷ x) o.are; fit = (λ e. cc, o.fit) })
  act_on Reopen s m σ τ below h q o =
      let y : record { last = s.last; rest = s.rest; open_nodes = reopen s.open_nodes } ≡ m = cc in
      go σ o.tops q o.fit (ap reopen (sym o.are) ∙ ap (λ (x : State). x.open_nodes) y)
    where
      go : (ρ : Shape) (fs : List OpenNode) → flow_act Reopen ρ ≡ Some τ → Fits ρ fs → reopen (fs ++ below) ≡ m.open_nodes → On τ below m.open_nodes
      go [] fs q f e = cc
      go (false ∷ ρ) fs q f e = cc
      go (true ∷ ρ) [] q f e = absurd f
      go (true ∷ ρ) (g ∷ fs) q f e = moved (true ∷ false ∷ ρ) τ below (reopen (g ∷ (fs ++ below))) m.open_nodes e (let z : true ∷ false ∷ ρ ≡ τ = cc in z) (reopened_on ρ below g.start g.parts fs (f.0 refl) f.1)
  act_on Adopt s m σ τ below h q o =
      let y : record { last = s.last; rest = s.rest; open_nodes = adopt s.open_nodes } ≡ m = cc in
      go σ o.tops q o.fit (ap adopt (sym o.are) ∙ ap (λ (x : State). x.open_nodes) y)
    where
      go : (ρ : Shape) (fs : List OpenNode) → flow_act Adopt ρ ≡ Some τ → Fits ρ fs → adopt (fs ++ below) ≡ m.open_nodes → On τ below m.open_nodes
      go [] fs q f e = cc
      go (p ∷ []) fs q f e = cc
      go (p ∷ false ∷ ρ) fs q f e = cc
      go (p ∷ true ∷ ρ) [] q f e = absurd f
      go (p ∷ true ∷ ρ) (g ∷ []) q f e = absurd f.1
      go (p ∷ true ∷ ρ) (g ∷ h ∷ fs) q f e = moved (true ∷ false ∷ ρ) τ below (adopt (g ∷ h ∷ (fs ++ below))) m.open_nodes e (let z : true ∷ false ∷ ρ ≡ τ = cc in z) (adopted_on ρ below g h.start h.parts fs (f.1.0 refl) f.1.1)
  act_on CheckType s m σ τ below h q o = moved σ τ below s.open_nodes m.open_nodes (ap (λ (x : State). x.open_nodes) (checked_same (ends_in_type s.open_nodes) s m h)) (let y : σ ≡ τ = cc in y) o
  act_on (Close k) s m σ τ below h q o =
      let y : record { last = s.last; rest = s.rest; open_nodes = close_last bytes k s.last s.open_nodes } ≡ m = cc in
      go σ o.tops q o.fit (ap (close_last bytes k s.last) (sym o.are) ∙ ap (λ (x : State). x.open_nodes) y)
    where
      go : (ρ : Shape) (fs : List OpenNode) → flow_act (Close k) ρ ≡ Some τ → Fits ρ fs → close_last bytes k s.last (fs ++ below) ≡ m.open_nodes → On τ below m.open_nodes
      go [] fs q f e = cc
      go (p ∷ []) fs q f e = cc
      go (p ∷ b ∷ ρ) [] q f e = absurd f
      go (p ∷ b ∷ ρ) (g ∷ []) q f e = absurd f.1
      go (p ∷ b ∷ ρ) (g ∷ h ∷ fs) q f e = moved (true ∷ ρ) τ below (close_last bytes k s.last (g ∷ h ∷ (fs ++ below))) m.open_nodes e (let z : true ∷ ρ ≡ τ = cc in z) (record { tops = record { start = h.start; parts = node_read bytes k s.last g ∷ h.parts } ∷ fs; are = refl; fit = (λ e. tt, f.1.1) })

  -- ---- right sides

  weaker : (σ τ : Shape) (below fs : List OpenNode) → ((gs : List OpenNode) → Fits σ gs → Fits τ gs) → On σ below fs → On τ below fs
  weaker σ τ below fs f o = record { tops = o.tops; are = o.are; fit = f o.tops o.fit }

  halves : (x y : Option Shape) (τ : Shape) → meet_both x y ≡ Some τ → (σ ρ : Shape) × (x ≡ Some σ) × (y ≡ Some ρ) × (meet σ ρ ≡ Some τ)
  halves None y τ h = cc
  halves (Some σ) None τ h = cc
  halves (Some σ) (Some ρ) τ h = (σ, ρ, refl, refl, h)

  repeated : (σ τ : Shape) (x : Option Shape) → if_covered σ x ≡ Some τ → (ρ : Shape) × (x ≡ Some ρ) × (covers σ ρ ≡ true) × (σ ≡ τ)
  repeated σ τ None h = cc
  repeated σ τ (Some ρ) h = go (covers σ ρ) refl h
    where
      go : (b : Bool) → covers σ ρ ≡ b → cond b (Some σ) None ≡ Some τ → (π : Shape) × (Some ρ ≡ Some π) × (covers σ π ≡ true) × (σ ≡ τ)
      go true e h = (ρ, refl, e, cc)
      go false e h = cc

  chained : (f : Shape → Option Shape) (x : Option Shape) (τ : Shape) → then_flow f x ≡ Some τ → (ρ : Shape) × (x ≡ Some ρ) × (f ρ ≡ Some τ)
  chained f None τ h = cc
  chained f (Some ρ) τ h = (ρ, refl, h)

  left_on : (σ : Shape) (o : Option Shape) → leaves_node o ≡ true → (ρ : Shape) × (o ≡ Some ρ) × (covers (true ∷ []) ρ ≡ true)
  left_on σ None h = cc
  left_on σ (Some ρ) h = (ρ, refl, h)

  one_top : (fs : List OpenNode) → Fits (true ∷ []) fs → (f : OpenNode) × (fs ≡ f ∷ []) × HasPart f.parts
  one_top [] f = absurd f
  one_top (g ∷ []) f = (g, refl, f.0 refl)
  one_top (g ∷ h ∷ fs) f = absurd f.1

  at_its_end : (k : ℕ) (σ : Shape) (below : List OpenNode) (s e : State) → ReadsIn N P bytes k [] s e → On σ below s.open_nodes → On σ below e.open_nodes
  at_its_end k σ below s e at_end_in o = o

  pub takes_steps : {k : ℕ} {all : List (RightSide N)} {s e : State} → ReadsIn N P bytes k all s e → (g : RightSide N) (gs : List (RightSide N)) → all ≡ g ∷ gs → k ≡ 0 → ⊥
  takes_steps at_end_in g gs q z = cc
  takes_steps (does_in {k = k} h d) g gs q z = cc
  takes_steps (calls_in {k = k} d) g gs q z = cc
  takes_steps (nothing_in {k = k} d) g gs q z = cc
  takes_steps (in_turn_in {k = k} d) g gs q z = cc
  takes_steps (left_in {k = k} d) g gs q z = cc
  takes_steps (right_in {k = k} d) g gs q z = cc
  takes_steps (done_in {k = k} d) g gs q z = cc
  takes_steps (again_in {k = k} d) g gs q z = cc
  takes_steps (chosen_in {k = k} w d) g gs q z = cc
  takes_steps (passed_by_in {k = k} w d) g gs q z = cc

  module _ (E : N → Shape) (table_right : (n : N) → leaves_node (flow E (P n) (E n)) ≡ true) where
    Kept : ℕ → Type 0
    Kept k = (g : RightSide N) (σ τ : Shape) (below : List OpenNode) (s e : State) → flow E g σ ≡ Some τ → ReadsIn N P bytes k (g ∷ []) s e → On σ below s.open_nodes → On τ below e.open_nodes

    call_kept : (k : ℕ) → Kept k → (n : N) (σ τ : Shape) (below : List OpenNode) (s e : State) → take_needed (E n) σ ≡ Some τ → ReadsIn N P bytes k (P n ∷ []) s e → On σ below s.open_nodes → On τ below e.open_nodes
    unfolding Kept
    call_kept k kept n σ τ below s e q d o =
        let z = parted (E n) σ τ o.tops q o.fit in
        let left = left_on (E n) (flow E (P n) (E n)) (table_right n) in
        let inside = kept (P n) (E n) left.0 (z.1 ++ below) s e left.1 d (record { tops = z.0; are = o.are ∙ (ap (λ x. x ++ below) z.3 ∙ append_assoc z.0 z.1 below); fit = z.4 }) in
        let top = one_top inside.tops (fits_covered (true ∷ []) left.0 inside.tops left.2 inside.fit) in
        moved (true ∷ z.2) τ below e.open_nodes e.open_nodes refl (sym z.6) (record { tops = top.0 ∷ z.1; are = inside.are ∙ ap (λ x. x ++ (z.1 ++ below)) top.1; fit = (λ e. top.2, z.5) })

    steps_kept : (k : ℕ) → Kept k → Kept (suc k)
    unfolding Kept Both_parts
    steps_kept k kept (Do a) σ τ below s e q (does_in {m = m} h d) o = at_its_end k τ below m e d (act_on a s m σ τ below h q o)
    steps_kept k kept (Call n) σ τ below s e q (calls_in d) o = call_kept k kept n σ τ below s e q d o
    steps_kept k kept Nothing σ τ below s e q (nothing_in d) o = moved σ τ below e.open_nodes e.open_nodes refl (let y : σ ≡ τ = cc in y) (at_its_end k σ below s e d o)
    steps_kept k kept (Seq g h) σ τ below s e q (in_turn_in d) o =
        let c = chained (flow E h) (flow E g σ) τ q in
        let r = parts_of_reading d (g ∷ []) (h ∷ []) refl in
        kept h c.0 τ below r.0 e c.2 r.2 (kept g σ c.0 below s r.0 c.1 r.1 o)
    steps_kept k kept (Or g h) σ τ below s e q (left_in d) o = let z = halves (flow E g σ) (flow E h σ) τ q in weaker z.0 τ below e.open_nodes (λ gs. fits_left z.0 z.1 τ gs z.4) (kept g σ z.0 below s e z.2 d o)
    steps_kept k kept (Or g h) σ τ below s e q (right_in d) o = let z = halves (flow E g σ) (flow E h σ) τ q in weaker z.1 τ below e.open_nodes (λ gs. fits_right z.0 z.1 τ gs z.4) (kept h σ z.1 below s e z.3 d o)
    steps_kept k kept (When a g h) σ τ below s e q (chosen_in w d) o = let z = halves (flow E g σ) (flow E h σ) τ q in weaker z.0 τ below e.open_nodes (λ gs. fits_left z.0 z.1 τ gs z.4) (kept g σ z.0 below s e z.2 d o)
    steps_kept k kept (When a g h) σ τ below s e q (passed_by_in w d) o = let z = halves (flow E g σ) (flow E h σ) τ q in weaker z.1 τ below e.open_nodes (λ gs. fits_right z.0 z.1 τ gs z.4) (kept h σ z.1 below s e z.3 d o)
    steps_kept k kept (Many g) σ τ below s e q (done_in d) o = let z = repeated σ τ (flow E g σ) q in moved σ τ below e.open_nodes e.open_nodes refl z.3 (at_its_end k σ below s e d o)
    steps_kept k kept (Many g) σ τ below s e q (again_in d) o =
        let z = repeated σ τ (flow E g σ) q in
        let r = parts_of_reading d (g ∷ []) (Many g ∷ []) refl in
        kept (Many g) σ τ below r.0 e q r.2 (weaker z.0 σ below r.0.open_nodes (λ gs. fits_covered σ z.0 gs z.2) (kept g σ z.0 below s r.0 z.1 r.1 o))

    all_kept : (k : ℕ) → Kept k
    unfolding Kept
    all_kept zero = λ g σ τ below s e q d o. absurd (takes_steps d g [] refl refl)
    all_kept (suc k) = steps_kept k (all_kept k)

    -- what is an n has a tree, where an n needs no open nodes but the list that it is put in
    pub has_node : (n : N) → E n ≡ false ∷ [] → (s e : State) (f : OpenNode) → Reads N P bytes (Call n ∷ []) s e → s.open_nodes ≡ f ∷ [] → (t : Tree) × (tree_read e.open_nodes ≡ Some t)
    unfolding Kept
    has_node n needs s e f d one =
        let z = counted d in
        let start : flow E (Call n) (false ∷ []) ≡ Some (true ∷ []) = rw needs refl in
        let end = all_kept z.0 (Call n) (false ∷ []) (true ∷ []) [] s e start z.1 (record { tops = f ∷ []; are = one; fit = ((λ e. cc), tt) }) in
        let top = one_top end.tops end.fit in
        newest top.0.parts (ap (λ x. tree_read x) (end.are ∙ ap (λ x. x ++ []) top.1)) top.2
      where
        newest : (parts : List Tree) → tree_read e.open_nodes ≡ newest_of parts → HasPart parts → (t : Tree) × (tree_read e.open_nodes ≡ Some t)
        newest [] q h = absurd h
        newest (x ∷ xs) q h = (x, q)

    called_in : {k : ℕ} (n : N) (s e : State) → ReadsIn N P bytes k (Call n ∷ []) s e → (j : ℕ) × ReadsIn N P bytes j (P n ∷ []) s e
    called_in n s e (calls_in {k = k} d) = (k, d)

    turned_in : {k : ℕ} (g h : RightSide N) (s e : State) → ReadsIn N P bytes k (Seq g h ∷ []) s e → (j : ℕ) × ReadsIn N P bytes j (g ∷ h ∷ []) s e
    turned_in g h s e (in_turn_in {k = k} d) = (k, d)

    acted_in : {k : ℕ} (a : Act) (gs : List (RightSide N)) (s e : State) → ReadsIn N P bytes k (Do a ∷ gs) s e → (j : ℕ) × (m : State) × (acted bytes a s ≡ Some m) × ReadsIn N P bytes j gs m e
    acted_in a gs s e (does_in {k = k} {m = m} h d) = (k, m, h, d)

    over : {k : ℕ} (s e : State) → ReadsIn N P bytes k [] s e → s ≡ e
    over s e at_end_in = refl

    -- what is one node from its first token to its last
    pub one_node : (n : N) (body : RightSide N) (kind : NodeKind) → P n ≡ Seq (Do Open) (Seq body (Do (Close kind))) → (b : Bool) → flow E body (false ∷ []) ≡ Some (b ∷ []) → (s e : State) (f : OpenNode) → Reads N P bytes (Call n ∷ []) s e → s.open_nodes ≡ f ∷ [] → (g : OpenNode) × (e.open_nodes ≡ record { start = f.start; parts = node_read bytes kind e.last g ∷ f.parts } ∷ [])
    unfolding Kept Both_parts
    one_node n body kind shape b flows s e f d one =
        let z = counted d in
        let c = called_in n s e z.1 in
        let t = turned_in (Do Open) (Seq body (Do (Close kind))) s e (subst (λ x. ReadsIn N P bytes c.0 (x ∷ []) s e) shape c.1) in
        let o = acted_in Open (Seq body (Do (Close kind)) ∷ []) s e t.1 in
        let new : OpenNode = record { start = next_start s.last s.rest; parts = [] } in
        let begun : record { last = s.last; rest = s.rest; open_nodes = new ∷ s.open_nodes } ≡ o.1 = some_same (record { last = s.last; rest = s.rest; open_nodes = new ∷ s.open_nodes }) o.1 o.2 in
        let u = turned_in body (Do (Close kind)) o.1 e o.3 in
        let r = parts_of_reading u.1 (body ∷ []) (Do (Close kind) ∷ []) refl in
        let kept = all_kept u.0 body (false ∷ []) (b ∷ []) s.open_nodes o.1 r.0 flows r.1 (record { tops = new ∷ []; are = sym (ap (λ (x : State). x.open_nodes) begun); fit = ((λ e. cc), tt) }) in
        let top = single b kept.tops kept.fit in
        let nodes : r.0.open_nodes ≡ top.0 ∷ (f ∷ []) = kept.are ∙ (ap (λ x. x ++ s.open_nodes) top.1 ∙ ap (λ x. top.0 ∷ x) one) in
        let last = acted_in (Close kind) [] r.0 e r.2 in
        let closed : State = record { last = r.0.last; rest = r.0.rest; open_nodes = close_last bytes kind r.0.last r.0.open_nodes } in
        let made : closed ≡ last.1 = some_same closed last.1 last.2 in
        let ended : closed ≡ e = subst (λ x. closed ≡ x) (over last.1 e last.3) made in
        let Ends : ℕ → Type 0 = λ to. closed.open_nodes ≡ record { start = f.start; parts = node_read bytes kind to top.0 ∷ f.parts } ∷ [] in
        let at_close : Ends closed.last = ap (close_last bytes kind r.0.last) nodes in
        let at_end : Ends e.last = subst Ends (ap (λ (x : State). x.last) ended) at_close in
        (top.0, subst (λ (x : State). x.open_nodes ≡ record { start = f.start; parts = node_read bytes kind e.last top.0 ∷ f.parts } ∷ []) ended at_end)
      where
        some_same : (x y : State) → Some x ≡ Some y → x ≡ y
        some_same x y h = cc
