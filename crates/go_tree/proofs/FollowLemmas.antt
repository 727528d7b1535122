-- One token decides: a reading that goes on to the end goes the way of a reading that passes a token next.
use Rattle.std.proofs.Common.{◌≡◌, ℕ, Bool, true, false, List, [], ◌∷◌, ◌++◌, refl, subst, cond, None, Some, ◌||◌, ◌&&◌, eq-eqb}
use Rattle.go_tree.specs.declared.token.Token.{Token}
use Rattle.go_tree.specs.declared.token.TokenKind.{TokenKind}
use Rattle.go_tree.specs.Grammar.RightSide.{RightSide, Do, Act, Pass, Open, Reopen, Adopt, CheckType, Close}
use Rattle.go_tree.specs.Grammar.Tables.TokenKinds.{same_kind, code}
use Rattle.go_tree.specs.Grammar.Trees.Reading.{State, OpenNode, Reads, at_end, does, calls, nothing, in_turn, left, right, done, again, chosen, passed_by, acted, passed, reopen, adopt, close_last, next_start, ends_in_type}
use Rattle.go_tree.specs.Grammar.Tables.Prediction.{Tables, is_empty, begins, starts, AllDecided, AreRight}
use Rattle.go_tree.proofs.PredictionLemmas.{first_token, call_decided, open_act}
use Rattle.go_tree.proofs.ReadingLemmas.{join}
use Rattle.go_tree.proofs.TruthLemmas.{begins_so, later_starts}

-- ---- what holds of the tokens that are left at the end

passed_earlier : (Q : List Token → Type 0) → ((t : Token) (ts : List Token) → Q ts → Q (t ∷ ts)) → (k : TokenKind) (rest : List Token) (fs : List OpenNode) (m : State) → passed k rest fs ≡ Some m → Q m.rest → Q rest
passed_earlier Q more k [] fs m h q = cc
passed_earlier Q more k (t ∷ ts) fs m h q = go (same_kind k t.kind) h
  where
    go : (b : Bool) → cond b (Some (record { last = t.end; rest = ts; open_nodes = fs })) None ≡ Some m → Q (t ∷ ts)
    go true h =
        let y : m ≡ record { last = t.end; rest = ts; open_nodes = fs } = cc in
        more t ts (subst (λ (x : State). Q x.rest) y q)
    go false h = cc

checked_earlier : (Q : List Token → Type 0) (b : Bool) (s m : State) → cond b (Some s) None ≡ Some m → Q m.rest → Q s.rest
checked_earlier Q true s m h q = let y : m ≡ s = cc in subst (λ (x : State). Q x.rest) y q
checked_earlier Q false s m h q = cc

pub act_earlier : (bytes : List ℕ) (Q : List Token → Type 0) → ((t : Token) (ts : List Token) → Q ts → Q (t ∷ ts)) → (a : Act) (s m : State) → acted bytes a s ≡ Some m → Q m.rest → Q s.rest
act_earlier bytes Q more (Pass k) s m h q = passed_earlier Q more k s.rest s.open_nodes m h q
act_earlier bytes Q more Open s m h q =
    let y : m ≡ record { last = s.last; rest = s.rest; open_nodes = record { start = next_start s.last s.rest; parts = [] } ∷ s.open_nodes } = cc in
    subst (λ (x : State). Q x.rest) y q
act_earlier bytes Q more Reopen s m h q = let y : m ≡ record { last = s.last; rest = s.rest; open_nodes = reopen s.open_nodes } = cc in subst (λ (x : State). Q x.rest) y q
act_earlier bytes Q more Adopt s m h q = let y : m ≡ record { last = s.last; rest = s.rest; open_nodes = adopt s.open_nodes } = cc in subst (λ (x : State). Q x.rest) y q
act_earlier bytes Q more CheckType s m h q = checked_earlier Q (ends_in_type s.open_nodes) s m h q
act_earlier bytes Q more (Close k) s m h q = let y : m ≡ record { last = s.last; rest = s.rest; open_nodes = close_last bytes k s.last s.open_nodes } = cc in subst (λ (x : State). Q x.rest) y q

module _ (N : Type 0) (P : N → RightSide N) (bytes : List ℕ) where
  -- holds before, where a further token in front doesn't matter
  pub earlier : (Q : List Token → Type 0) → ((t : Token) (ts : List Token) → Q ts → Q (t ∷ ts)) → {gs : List (RightSide N)} {s e : State} → Reads N P bytes gs s e → Q e.rest → Q s.rest
  earlier Q more at_end q = q
  earlier Q more (does {a = a} {s = s} {m = m} h d) q = act_earlier bytes Q more a s m h (earlier Q more d q)
  earlier Q more (calls d) q = earlier Q more d q
  earlier Q more (nothing d) q = earlier Q more d q
  earlier Q more (in_turn d) q = earlier Q more d q
  earlier Q more (left d) q = earlier Q more d q
  earlier Q more (right d) q = earlier Q more d q
  earlier Q more (done d) q = earlier Q more d q
  earlier Q more (again d) q = earlier Q more d q
  earlier Q more (chosen w d) q = earlier Q more d q
  earlier Q more (passed_by w d) q = earlier Q more d q

-- ---- the next token

abbrev HasNext : List Token → Type 0
HasNext ts = (t : Token) × (us : List Token) × (ts ≡ t ∷ us)

-- right sides that pass just these tokens
abbrev passes : {N : Type 0} → List Token → List (RightSide N)
passes [] = []
passes (t ∷ ts) = Do (Pass t.kind) ∷ passes ts

module _ (N : Type 0) (P : N → RightSide N) (bytes : List ℕ) (T : Tables N) (right_tables : AreRight N P T) where
  passes_all : (ts : List Token) (last : ℕ) (fs : List OpenNode) → (e : State) × Reads N P bytes (passes ts) (record { last = last; rest = ts; open_nodes = fs }) e × (e.rest ≡ [])
  passes_all [] last fs = (record { last = last; rest = []; open_nodes = fs }, at_end, refl)
  passes_all (t ∷ ts) last fs =
      let z = passes_all ts t.end fs in
      let same : same_kind t.kind t.kind ≡ true = eq-eqb (code t.kind) (code t.kind) refl in
      (z.0, does (rw same refl) z.1, z.2)

  pass_first : (a x y : Bool) → (a || (false && x)) ≡ true → (a || (false && y)) ≡ true
  pass_first true x y h = refl
  pass_first false x y h = cc

  -- what stands behind a token that is passed plays no part
  starts_so : (xs : List (RightSide N)) (k : TokenKind) (A B : List (RightSide N)) (j : TokenKind) → starts T (xs ++ (Do (Pass k) ∷ A)) j ≡ true → starts T (xs ++ (Do (Pass k) ∷ B)) j ≡ true
  starts_so [] k A B j h = pass_first (same_kind k j) (starts T A j) (starts T B j) h
  starts_so (x ∷ xs) k A B j h = later_starts (begins T x j) (is_empty T x) (starts T (xs ++ (Do (Pass k) ∷ A)) j) (starts T (xs ++ (Do (Pass k) ∷ B)) j) (starts_so xs k A B j) h

  -- what is read, and then passes a token, begins with a token that can start
  next_token : {xs : List (RightSide N)} {s m : State} → Reads N P bytes xs s m → (k : TokenKind) (r : Token) (more : List Token) (gs : List (RightSide N)) → m.rest ≡ r ∷ more → same_kind k r.kind ≡ true → (t : Token) × (ts : List Token) × (s.rest ≡ t ∷ ts) × (starts T (xs ++ (Do (Pass k) ∷ gs)) t.kind ≡ true)
  next_token {xs = xs} {s = s} {m = m} d k r more gs q same =
      let z = passes_all more r.end m.open_nodes in
      let step : acted bytes (Pass k) m ≡ Some (record { last = r.end; rest = more; open_nodes = m.open_nodes }) = rw (q, same) refl in
      let all : Reads N P bytes (xs ++ (Do (Pass k) ∷ passes more)) s z.0 = join N P bytes d (does step z.1) in
      let next : HasNext s.rest = earlier N P bytes HasNext (λ t ts h. (t, ts, refl)) d (r, more, q) in
      (next.0, next.1, next.2, starts_so xs k (passes more) gs next.0.kind (first_token N P bytes T right_tables all next.0 next.1 next.2 z.2))

  -- what is read to the end goes the same way
  pub follow : {xs : List (RightSide N)} {s m : State} → Reads N P bytes xs s m → (k : TokenKind) (r : Token) (more : List Token) (gs : List (RightSide N)) (e : State) → m.rest ≡ r ∷ more → same_kind k r.kind ≡ true → AllDecided T (xs ++ (Do (Pass k) ∷ gs)) → Reads N P bytes (xs ++ (Do (Pass k) ∷ gs)) s e → e.rest ≡ [] → Reads N P bytes (Do (Pass k) ∷ gs) m e
  follow at_end k r more gs e q same ok a z = a
  follow (does h d) k r more gs e q same ok a z = follow d k r more gs e q same ok.1 (open_act N P bytes T right_tables h a) z
  follow (calls {n = n} {gs = xs} d) k r more gs e q same ok (calls a) z = follow d k r more gs e q same (call_decided N P bytes T right_tables n (xs ++ (Do (Pass k) ∷ gs)) ok) a z
  follow (nothing d) k r more gs e q same ok (nothing a) z = follow d k r more gs e q same ok.1 a z
  follow (in_turn d) k r more gs e q same ok (in_turn a) z = follow d k r more gs e q same (ok.0.0, (ok.0.1, ok.1)) a z
  follow (left d) k r more gs e q same ok (left a) z = follow d k r more gs e q same (ok.0.0, ok.1) a z
  follow (left d) k r more gs e q same ok (right a) z = let n = next_token d k r more gs q same in absurd (ok.0.2 n.0.kind n.3 (first_token N P bytes T right_tables a n.0 n.1 n.2 z))
  follow (right d) k r more gs e q same ok (left a) z = let n = next_token d k r more gs q same in absurd (ok.0.2 n.0.kind (first_token N P bytes T right_tables a n.0 n.1 n.2 z) n.3)
  follow (right d) k r more gs e q same ok (right a) z = follow d k r more gs e q same (ok.0.1, ok.1) a z
  follow (chosen p d) k r more gs e q same ok (chosen w a) z = follow d k r more gs e q same (ok.0.0, ok.1) a z
  follow (chosen p d) k r more gs e q same ok (passed_by w a) z = cc
  follow (passed_by p d) k r more gs e q same ok (chosen w a) z = cc
  follow (passed_by p d) k r more gs e q same ok (passed_by w a) z = follow d k r more gs e q same (ok.0.1, ok.1) a z
  follow (done d) k r more gs e q same ok (done a) z = follow d k r more gs e q same ok.1 a z
  follow (done {g = g} {gs = xs} d) k r more gs e q same ok (again a) z =
      let n = next_token d k r more gs q same in
      absurd (ok.0.1 n.0.kind (begins_so (begins T g n.0.kind) (is_empty T g) _ ok.0.2 (first_token N P bytes T right_tables a n.0 n.1 n.2 z)) n.3)
  follow (again {g = g} {gs = xs} d) k r more gs e q same ok (done a) z =
      let n = next_token d k r more gs q same in
      absurd (ok.0.1 n.0.kind (begins_so (begins T g n.0.kind) (is_empty T g) _ ok.0.2 n.3) (first_token N P bytes T right_tables a n.0 n.1 n.2 z))
  follow (again d) k r more gs e q same ok (again a) z = follow d k r more gs e q same (ok.0.0, (ok.0, ok.1)) a z
