-- One token decides: what is read is read by the expansion that it picks, and by no other.
use Rattle.std.proofs.Common.{subst, ◌∙◌, ◌≡◌, ℕ, Bool, true, false, List, [], ◌∷◌, ◌++◌, refl, sym, ap, cond, None, Some, ◌||◌, ◌&&◌}
use Rattle.std.proofs.lemmas.Bool.{and_parts, or_left, or_right}
use Rattle.go_tree.specs.declared.token.Token.{Token}
use Rattle.go_tree.specs.declared.token.TokenKind.{TokenKind}
use Rattle.go_tree.specs.Grammar.RightSide.{RightSide, Do, Call, Nothing, Seq, Or, Many, When, Act, Pass, Open, Reopen, Adopt, CheckType, Close, Ahead, OneOf, Both}
use Rattle.go_tree.specs.Grammar.Trees.Reading.{State, OpenNode, Reads, at_end, does, calls, nothing, in_turn, left, right, done, again, chosen, passed_by, looks, acted, passed}
use Rattle.go_tree.specs.Grammar.Tables.TokenKinds.{same_kind}
use Rattle.go_tree.specs.Grammar.Tables.Prediction.{Tables, may_look, may_miss, is_empty, begins, next_of, starts, Decided, AllDecided, AreRight, expand}
use Rattle.go_tree.proofs.EmptyLemmas.{series_empty, rest_kept, empty_read}
use Rattle.go_tree.proofs.TruthLemmas.{again_starts, begins_so, call_starts, chosen_starts, left_starts, passed_by_starts, right_starts, seq_starts}

or_cases : (a b : Bool) (P : Type 0) → (a || b) ≡ true → (a ≡ true → P) → (b ≡ true → P) → P
or_cases true b P h f g = f refl
or_cases false b P h f g = g h

pass_begins : (k : TokenKind) (t : Token) (ts : List Token) (fs : List OpenNode) (m : State) → passed k (t ∷ ts) fs ≡ Some m → same_kind k t.kind ≡ true
pass_begins k t ts fs m h = go (same_kind k t.kind) refl h
  where
    go : (b : Bool) → same_kind k t.kind ≡ b → cond b (Some (record { last = t.end; rest = ts; open_nodes = fs })) None ≡ Some m → same_kind k t.kind ≡ true
    go true e h = e
    go false e h = cc

pub looks_so : (a : Ahead) (t : Token) (ts : List Token) → looks a (t ∷ ts) ≡ true → may_look a t.kind ≡ true
looks_so (OneOf ks) t ts h = h
looks_so (Both i j) t [] h = cc
looks_so (Both i j) t (u ∷ us) h = (and_parts (same_kind i t.kind) (same_kind j u.kind) h).0

misses_so : (a : Ahead) (t : Token) (ts : List Token) → looks a (t ∷ ts) ≡ false → may_miss a t.kind ≡ true
misses_so (OneOf ks) t ts h = rw h refl
misses_so (Both i j) t ts h = refl

module _ (N : Type 0) (P : N → RightSide N) (bytes : List ℕ) (T : Tables N) (right_tables : AreRight N P T) where
  act_starts : (a : Act) (gs : List (RightSide N)) (s m : State) (t : Token) (ts : List Token) → s.rest ≡ t ∷ ts → acted bytes a s ≡ Some m → ((m.rest ≡ t ∷ ts) → starts T gs t.kind ≡ true) → starts T (Do a ∷ gs) t.kind ≡ true
  act_starts (Pass k) gs s m t ts r h later = or_left (same_kind k t.kind) _ (pass_begins k t ts s.open_nodes m (let F : List Token → Type 0 = λ x. passed k x s.open_nodes ≡ Some m in rw r at h))
  act_starts Open gs s m t ts r h later = later (let e = rest_kept bytes Open s m refl h in cc)
  act_starts Reopen gs s m t ts r h later = later (let e = rest_kept bytes Reopen s m refl h in cc)
  act_starts Adopt gs s m t ts r h later = later (let e = rest_kept bytes Adopt s m refl h in cc)
  act_starts CheckType gs s m t ts r h later = later (let e = rest_kept bytes CheckType s m refl h in cc)
  act_starts (Close k) gs s m t ts r h later = later (let e = rest_kept bytes (Close k) s m refl h in cc)

  -- what is read to the end of the tokens begins with a token that can start
  pub first_token : {gs : List (RightSide N)} {s e : State} → Reads N P bytes gs s e → (t : Token) (ts : List Token) → s.rest ≡ t ∷ ts → e.rest ≡ [] → starts T gs t.kind ≡ true
  first_token at_end t ts r z = cc
  first_token (does {a = a} {gs = gs} {s = s} {m = m} h d) t ts r z = act_starts a gs s m t ts r h (λ q. first_token d t ts q z)
  first_token (calls {n = n} {gs = gs} d) t ts r z = call_starts (begins T (P n) t.kind) (is_empty T (P n)) (T.first n t.kind) (T.empty n) (starts T gs t.kind) (right_tables.first n t.kind) (right_tables.empty n) (first_token d t ts r z)
  first_token (nothing d) t ts r z = first_token d t ts r z
  first_token (in_turn {g = g} {h = h} {gs = gs} d) t ts r z = seq_starts (begins T g t.kind) (is_empty T g) (begins T h t.kind) (is_empty T h) (starts T gs t.kind) (first_token d t ts r z)
  first_token (left {g = g} {h = h} {gs = gs} d) t ts r z = left_starts (begins T g t.kind) (is_empty T g) (begins T h t.kind) (is_empty T h) (starts T gs t.kind) (first_token d t ts r z)
  first_token (right {g = g} {h = h} {gs = gs} d) t ts r z = right_starts (begins T g t.kind) (is_empty T g) (begins T h t.kind) (is_empty T h) (starts T gs t.kind) (first_token d t ts r z)
  first_token (chosen {a = a} {g = g} {h = h} {gs = gs} p d) t ts r z = chosen_starts (may_look a t.kind) (may_miss a t.kind) (begins T g t.kind) (is_empty T g) (begins T h t.kind) (is_empty T h) (starts T gs t.kind) (looks_so a t ts (sym (ap (looks a) r) ∙ p)) (first_token d t ts r z)
  first_token (passed_by {a = a} {g = g} {h = h} {gs = gs} p d) t ts r z = passed_by_starts (may_look a t.kind) (may_miss a t.kind) (begins T g t.kind) (is_empty T g) (begins T h t.kind) (is_empty T h) (starts T gs t.kind) (misses_so a t ts (sym (ap (looks a) r) ∙ p)) (first_token d t ts r z)
  first_token (done {g = g} d) t ts r z = or_right (begins T g t.kind) _ (first_token d t ts r z)
  first_token (again {g = g} {gs = gs} d) t ts r z = again_starts (begins T g t.kind) (is_empty T g) (starts T gs t.kind) (first_token d t ts r z)

  picks : (A : Type 0) (b : Bool) (x y : A) (Q : A → Type 0) → (b ≡ true → Q x) → (b ≡ false → Q y) → Q (cond b x y)
  picks A true x y Q p q = p refl
  picks A false x y Q p q = q refl

  -- the expansion that the next token picks reads what was read
  pub expand_reads : {g : RightSide N} {gs : List (RightSide N)} {s e : State} → Reads N P bytes (g ∷ gs) s e → (t : Token) (ts : List Token) → Decided T g (starts T gs) → s.rest ≡ t ∷ ts → e.rest ≡ [] → Reads N P bytes (expand P T t ts g gs) s e
  expand_reads (does h d) t ts ok r z = does h d
  expand_reads (calls d) t ts ok r z = d
  expand_reads (nothing d) t ts ok r z = d
  expand_reads (in_turn d) t ts ok r z = d
  expand_reads (left {g = g} {h = h} {gs = gs} {s = s} {e = e} d) t ts ok r z =
      picks _ (next_of T g (starts T gs) t.kind) (g ∷ gs) (h ∷ gs) (λ x. Reads N P bytes x s e) (λ b. d) (λ b. let y = first_token d t ts r z in cc)
  expand_reads (right {g = g} {h = h} {gs = gs} {s = s} {e = e} d) t ts ok r z =
      picks _ (next_of T g (starts T gs) t.kind) (g ∷ gs) (h ∷ gs) (λ x. Reads N P bytes x s e) (λ b. absurd (ok.2 t.kind b (first_token d t ts r z))) (λ b. d)
  expand_reads (chosen {a = a} {g = g} {h = h} {gs = gs} {s = s} {e = e} p d) t ts ok r z = let q = ap (looks a) r in picks _ (looks a (t ∷ ts)) (g ∷ gs) (h ∷ gs) (λ x. Reads N P bytes x s e) (λ b. d) (λ b. cc)
  expand_reads (passed_by {a = a} {g = g} {h = h} {gs = gs} {s = s} {e = e} p d) t ts ok r z = let q = ap (looks a) r in picks _ (looks a (t ∷ ts)) (g ∷ gs) (h ∷ gs) (λ x. Reads N P bytes x s e) (λ b. cc) (λ b. d)
  expand_reads (done {g = g} {gs = gs} {s = s} {e = e} d) t ts ok r z =
      picks _ (begins T g t.kind) (g ∷ Many g ∷ gs) gs (λ x. Reads N P bytes x s e) (λ b. absurd (ok.1 t.kind b (first_token d t ts r z))) (λ b. d)
  expand_reads (again {g = g} {gs = gs} {s = s} {e = e} d) t ts ok r z =
      picks _ (begins T g t.kind) (g ∷ Many g ∷ gs) gs (λ x. Reads N P bytes x s e) (λ b. d) (λ b. let y = first_token d t ts r z in let q = ok.2 in absurd (neither (begins T g t.kind) (is_empty T g) _ b q y))
    where
      neither : (a b c : Bool) → a ≡ false → b ≡ false → (a || (b && c)) ≡ true → ⊥
      neither true b c h k y = cc
      neither false true c h k y = cc
      neither false false c h k y = cc

  -- and what it reads, was read
  pub expand_back : (g : RightSide N) (gs : List (RightSide N)) (s e : State) (t : Token) (ts : List Token) → s.rest ≡ t ∷ ts → Reads N P bytes (expand P T t ts g gs) s e → Reads N P bytes (g ∷ gs) s e
  expand_back (Do a) gs s e t ts r d = d
  expand_back (Call n) gs s e t ts r d = calls d
  expand_back Nothing gs s e t ts r d = nothing d
  expand_back (Seq g h) gs s e t ts r d = in_turn d
  expand_back (Or g h) gs s e t ts r d = picks _ (next_of T g (starts T gs) t.kind) (g ∷ gs) (h ∷ gs) (λ x. Reads N P bytes x s e → Reads N P bytes (Or g h ∷ gs) s e) (λ b. left) (λ b. right) d
  expand_back (Many g) gs s e t ts r d = picks _ (begins T g t.kind) (g ∷ Many g ∷ gs) gs (λ x. Reads N P bytes x s e → Reads N P bytes (Many g ∷ gs) s e) (λ b. again) (λ b. done) d
  expand_back (When a g h) gs s e t ts r d = let q = ap (looks a) r in picks _ (looks a (t ∷ ts)) (g ∷ gs) (h ∷ gs) (λ x. Reads N P bytes x s e → Reads N P bytes (When a g h ∷ gs) s e) (λ b. chosen (let y : looks a s.rest ≡ true = cc in y)) (λ b. passed_by (let y : looks a s.rest ≡ false = cc in y)) d

  next_less : (g : RightSide N) (F G : TokenKind → Bool) → ((k : TokenKind) → F k ≡ true → G k ≡ true) → (k : TokenKind) → next_of T g F k ≡ true → next_of T g G k ≡ true
  next_less g F G less k h = call_starts' (begins T g k) (is_empty T g) (F k) (G k) (less k) h
    where
      call_starts' : (a b c d : Bool) → (c ≡ true → d ≡ true) → (a || (b && c)) ≡ true → (a || (b && d)) ≡ true
      call_starts' true b c d l h = refl
      call_starts' false true c d l h = l h
      call_starts' false false c d l h = h

  -- fewer tokens after it: still decided
  pub decided_less : (g : RightSide N) (F G : TokenKind → Bool) → ((k : TokenKind) → F k ≡ true → G k ≡ true) → Decided T g G → Decided T g F
  decided_less (Do a) F G less h = tt
  decided_less (Call n) F G less h = λ k f. h k (less k f)
  decided_less Nothing F G less h = tt
  decided_less (Seq g h) F G less d = (decided_less g (next_of T h F) (next_of T h G) (next_less h F G less) d.0, decided_less h F G less d.1)
  decided_less (Or g h) F G less d = (decided_less g F G less d.0, decided_less h F G less d.1, λ k a b. d.2 k (next_less g F G less k a) (next_less h F G less k b), d.3)
  decided_less (When a g h) F G less d = (decided_less g F G less d.0, decided_less h F G less d.1)
  decided_less (Many g) F G less d = (decided_less g (λ k. begins T g k || F k) (λ k. begins T g k || G k) (λ k. either (begins T g k) (F k) (G k) (less k)) d.0, λ k a b. d.1 k a (less k b), d.2)
    where
      either : (a b c : Bool) → (b ≡ true → c ≡ true) → (a || b) ≡ true → (a || c) ≡ true
      either true b c l h = refl
      either false b c l h = l h

  pub call_decided : (n : N) (gs : List (RightSide N)) → AllDecided T (Call n ∷ gs) → AllDecided T (P n ∷ gs)
  call_decided n gs d = (decided_less (P n) (starts T gs) (T.follow n) d.0 (right_tables.decided n), d.1)

  pub expand_decided : (g : RightSide N) (gs : List (RightSide N)) (t : Token) (ts : List Token) → AllDecided T (g ∷ gs) → AllDecided T (expand P T t ts g gs)
  expand_decided (Do a) gs t ts d = d
  expand_decided (Call n) gs t ts d = call_decided n gs d
  expand_decided Nothing gs t ts d = d.1
  expand_decided (Seq g h) gs t ts d = (d.0.0, (d.0.1, d.1))
  expand_decided (Or g h) gs t ts d = picks _ (next_of T g (starts T gs) t.kind) (g ∷ gs) (h ∷ gs) (AllDecided T) (λ b. (d.0.0, d.1)) (λ b. (d.0.1, d.1))
  expand_decided (When a g h) gs t ts d = picks _ (looks a (t ∷ ts)) (g ∷ gs) (h ∷ gs) (AllDecided T) (λ b. (d.0.0, d.1)) (λ b. (d.0.1, d.1))
  expand_decided (Many g) gs t ts d = picks _ (begins T g t.kind) (g ∷ Many g ∷ gs) gs (AllDecided T) (λ b. (d.0.0, (d.0, d.1))) (λ b. d.1)

  -- what stands behind can be exchanged
  pub swap : {all : List (RightSide N)} {s e : State} → Reads N P bytes all s e → (pre A B : List (RightSide N)) → all ≡ pre ++ A → ((s e : State) → Reads N P bytes A s e → Reads N P bytes B s e) → Reads N P bytes (pre ++ B) s e
  swap (at_end {s = s}) [] A B q f = f s s (subst (λ x. Reads N P bytes x s s) q at_end)
  swap at_end (p ∷ ps) A B q f = cc
  swap (does {a = a} {gs = gs} {s = s} {e = e} h d) [] A B q f = f s e (subst (λ x. Reads N P bytes x s e) q (does h d))
  swap (does {a = a} {gs = gs} {s = s} {e = e} h d) (p ∷ ps) A B q f = let y : gs ≡ ps ++ A = cc in let x : Do a ≡ p = cc in subst (λ z. Reads N P bytes (z ∷ (ps ++ B)) s e) x (does h (swap d ps A B y f))
  swap (calls {n = n} {gs = gs} {s = s} {e = e} d) [] A B q f = f s e (subst (λ x. Reads N P bytes x s e) q (calls d))
  swap (calls {n = n} {gs = gs} {s = s} {e = e} d) (p ∷ ps) A B q f = let y : gs ≡ ps ++ A = cc in let x : Call n ≡ p = cc in subst (λ z. Reads N P bytes (z ∷ (ps ++ B)) s e) x (calls (swap d (P n ∷ ps) A B (ap (λ z. P n ∷ z) y) f))
  swap (nothing {gs = gs} {s = s} {e = e} d) [] A B q f = f s e (subst (λ x. Reads N P bytes x s e) q (nothing d))
  swap (nothing {gs = gs} {s = s} {e = e} d) (p ∷ ps) A B q f = let y : gs ≡ ps ++ A = cc in let x : Nothing ≡ p = cc in subst (λ z. Reads N P bytes (z ∷ (ps ++ B)) s e) x (nothing (swap d ps A B y f))
  swap (in_turn {g = g} {h = h} {gs = gs} {s = s} {e = e} d) [] A B q f = f s e (subst (λ x. Reads N P bytes x s e) q (in_turn d))
  swap (in_turn {g = g} {h = h} {gs = gs} {s = s} {e = e} d) (p ∷ ps) A B q f = let y : gs ≡ ps ++ A = cc in let x : Seq g h ≡ p = cc in subst (λ z. Reads N P bytes (z ∷ (ps ++ B)) s e) x (in_turn (swap d (g ∷ h ∷ ps) A B (ap (λ z. g ∷ h ∷ z) y) f))
  swap (left {g = g} {h = h} {gs = gs} {s = s} {e = e} d) [] A B q f = f s e (subst (λ x. Reads N P bytes x s e) q (left d))
  swap (left {g = g} {h = h} {gs = gs} {s = s} {e = e} d) (p ∷ ps) A B q f = let y : gs ≡ ps ++ A = cc in let x : Or g h ≡ p = cc in subst (λ z. Reads N P bytes (z ∷ (ps ++ B)) s e) x (left (swap d (g ∷ ps) A B (ap (λ z. g ∷ z) y) f))
  swap (right {g = g} {h = h} {gs = gs} {s = s} {e = e} d) [] A B q f = f s e (subst (λ x. Reads N P bytes x s e) q (right d))
  swap (right {g = g} {h = h} {gs = gs} {s = s} {e = e} d) (p ∷ ps) A B q f = let y : gs ≡ ps ++ A = cc in let x : Or g h ≡ p = cc in subst (λ z. Reads N P bytes (z ∷ (ps ++ B)) s e) x (right (swap d (h ∷ ps) A B (ap (λ z. h ∷ z) y) f))
  swap (done {g = g} {gs = gs} {s = s} {e = e} d) [] A B q f = f s e (subst (λ x. Reads N P bytes x s e) q (done d))
  swap (done {g = g} {gs = gs} {s = s} {e = e} d) (p ∷ ps) A B q f = let y : gs ≡ ps ++ A = cc in let x : Many g ≡ p = cc in subst (λ z. Reads N P bytes (z ∷ (ps ++ B)) s e) x (done (swap d ps A B y f))
  swap (again {g = g} {gs = gs} {s = s} {e = e} d) [] A B q f = f s e (subst (λ x. Reads N P bytes x s e) q (again d))
  swap (again {g = g} {gs = gs} {s = s} {e = e} d) (p ∷ ps) A B q f = let y : gs ≡ ps ++ A = cc in let x : Many g ≡ p = cc in subst (λ z. Reads N P bytes (z ∷ (ps ++ B)) s e) x (again (swap d (g ∷ Many g ∷ ps) A B (ap (λ z. g ∷ Many g ∷ z) y) f))
  swap (chosen {a = a} {g = g} {h = h} {gs = gs} {s = s} {e = e} w d) [] A B q f = f s e (subst (λ x. Reads N P bytes x s e) q (chosen w d))
  swap (chosen {a = a} {g = g} {h = h} {gs = gs} {s = s} {e = e} w d) (p ∷ ps) A B q f = let y : gs ≡ ps ++ A = cc in let x : When a g h ≡ p = cc in subst (λ z. Reads N P bytes (z ∷ (ps ++ B)) s e) x (chosen w (swap d (g ∷ ps) A B (ap (λ z. g ∷ z) y) f))
  swap (passed_by {a = a} {g = g} {h = h} {gs = gs} {s = s} {e = e} w d) [] A B q f = f s e (subst (λ x. Reads N P bytes x s e) q (passed_by w d))
  swap (passed_by {a = a} {g = g} {h = h} {gs = gs} {s = s} {e = e} w d) (p ∷ ps) A B q f = let y : gs ≡ ps ++ A = cc in let x : When a g h ≡ p = cc in subst (λ z. Reads N P bytes (z ∷ (ps ++ B)) s e) x (passed_by w (swap d (h ∷ ps) A B (ap (λ z. h ∷ z) y) f))

  -- two ways can't both be read
  apart : (x y : RightSide N) (gs : List (RightSide N)) (s e f : State) → ((k : TokenKind) → next_of T x (starts T gs) k ≡ true → next_of T y (starts T gs) k ≡ true → ⊥) → (is_empty T x ≡ true → is_empty T y ≡ true → ⊥) → Reads N P bytes (x ∷ gs) s e → Reads N P bytes (y ∷ gs) s f → e.rest ≡ [] → f.rest ≡ [] → ⊥
  apart x y gs s e f never none d d' z z' = go s.rest refl
    where
      go : (r : List Token) → s.rest ≡ r → ⊥
      go [] q = none (and_parts (is_empty T x) (series_empty T gs) (empty_read N P bytes T right_tables d q)).0 (and_parts (is_empty T y) (series_empty T gs) (empty_read N P bytes T right_tables d' q)).0
      go (t ∷ ts) q = never t.kind (first_token d t ts q z) (first_token d' t ts q z')

  many_apart : (g : RightSide N) (gs : List (RightSide N)) (s e f : State) → Decided T (Many g) (starts T gs) → Reads N P bytes (g ∷ Many g ∷ gs) s e → Reads N P bytes gs s f → e.rest ≡ [] → f.rest ≡ [] → ⊥
  many_apart g gs s e f ok d d' z z' = go s.rest refl
    where
      go : (r : List Token) → s.rest ≡ r → ⊥
      go [] q = let y = (and_parts (is_empty T g) _ (empty_read N P bytes T right_tables d q)).0 in let n = ok.2 in cc
      go (t ∷ ts) q = ok.1 t.kind (begins_so (begins T g t.kind) (is_empty T g) _ ok.2 (first_token d t ts q z)) (first_token d' t ts q z')

  pub open_act : {a : Act} {gs : List (RightSide N)} {s m e : State} → acted bytes a s ≡ Some m → Reads N P bytes (Do a ∷ gs) s e → Reads N P bytes gs m e
  open_act {gs = gs} {e = e} h (does {m = m'} k d) = let q : m' ≡ _ = cc in subst (λ x. Reads N P bytes gs x e) q d

  -- the tokens decide all that is read
  pub unique : {gs : List (RightSide N)} {s e f : State} → Reads N P bytes gs s e → AllDecided T gs → Reads N P bytes gs s f → e.rest ≡ [] → f.rest ≡ [] → e ≡ f
  unique at_end ok at_end z w = refl
  unique (does h d) ok d' z w = unique d ok.1 (open_act h d') z w
  unique (calls {n = n} {gs = gs} d) ok (calls d') z w = unique d (call_decided n gs ok) d' z w
  unique (nothing d) ok (nothing d') z w = unique d ok.1 d' z w
  unique (in_turn {g = g} {h = h} {gs = gs} d) ok (in_turn d') z w = unique d (ok.0.0, (ok.0.1, ok.1)) d' z w
  unique (left d) ok (left d') z w = unique d (ok.0.0, ok.1) d' z w
  unique (left {g = g} {h = h} {gs = gs} {s = s} {e = e} d) ok (right {e = f} d') z w = absurd (apart g h gs s e f ok.0.2 ok.0.3 d d' z w)
  unique (right {g = g} {h = h} {gs = gs} {s = s} {e = e} d) ok (left {e = f} d') z w = absurd (apart g h gs s f e ok.0.2 ok.0.3 d' d w z)
  unique (right d) ok (right d') z w = unique d (ok.0.1, ok.1) d' z w
  unique (chosen p d) ok (chosen q d') z w = unique d (ok.0.0, ok.1) d' z w
  unique (chosen p d) ok (passed_by q d') z w = cc
  unique (passed_by p d) ok (chosen q d') z w = cc
  unique (passed_by p d) ok (passed_by q d') z w = unique d (ok.0.1, ok.1) d' z w
  unique (done d) ok (done d') z w = unique d ok.1 d' z w
  unique (done {g = g} {gs = gs} {s = s} {e = e} d) ok (again {e = f} d') z w = absurd (many_apart g gs s f e ok.0 d' d w z)
  unique (again {g = g} {gs = gs} {s = s} {e = e} d) ok (done {e = f} d') z w = absurd (many_apart g gs s e f ok.0 d d' z w)
  unique (again d) ok (again d') z w = unique d (ok.0.0, (ok.0, ok.1)) d' z w
