-- What an expansion can start with: the same tokens as what is expanded.
use Rattle.std.proofs.Common.{◌≡◌, Bool, true, false, not, List, [], ◌∷◌, refl, cond, ◌||◌, ◌&&◌, ◌⊎◌, ⊎_elim}
use Rattle.std.proofs.lemmas.Bool.{and_from, and_parts}
use Rattle.go_tree.specs.declared.token.Token.{Token}
use Rattle.go_tree.specs.declared.token.TokenKind.{TokenKind}
use Rattle.go_tree.specs.Grammar.RightSide.{RightSide, Do, Call, Nothing, Seq, Or, Many, When, Act, Pass, Open, Reopen, Adopt, CheckType, Close, Ahead, OneOf, Both}
use Rattle.go_tree.specs.Grammar.Tables.TokenKinds.{same_kind, is_in}
use Rattle.go_tree.specs.Grammar.Trees.Reading.{looks}
use Rattle.go_tree.specs.Grammar.Tables.Prediction.{Tables, act_is_empty, may_look, may_miss, is_empty, begins, next_of, starts, expand}
use Rattle.go_tree.proofs.DecidedTests.{each_kind, implied, is_false}
use Rattle.go_tree.proofs.DecidedLemmas.{every_kind}
use Rattle.go_tree.proofs.TruthLemmas.{falsely, implies}
use Rattle.go_tree.proofs.PredictionLemmas.{looks_so}

-- the tables say no more than the productions do
pub record AreExact (N : Type 0) (production : N → RightSide N) (T : Tables N) : Type 0 where
  pub first : (n : N) (k : TokenKind) → begins T (production n) k ≡ T.first n k
  pub empty : (n : N) → is_empty T (production n) ≡ T.empty n

-- the first right side of each `When` is not empty, and begins with each token that the `When` may be asked for by
abbrev pub whens_begin : {N : Type 0} → Tables N → RightSide N → Bool
whens_begin T (Do a) = true
whens_begin T (Call n) = true
whens_begin T Nothing = true
whens_begin T (Seq g h) = whens_begin T g && whens_begin T h
whens_begin T (Or g h) = whens_begin T g && whens_begin T h
whens_begin T (Many g) = whens_begin T g
whens_begin T (When a g h) = (is_false (is_empty T g) && each_kind (λ k. implied (may_look a k) (begins T g k))) && (whens_begin T g && whens_begin T h)

abbrev pub all_begin : {N : Type 0} → Tables N → List (RightSide N) → Bool
all_begin T [] = true
all_begin T (g ∷ gs) = whens_begin T g && all_begin T gs

-- the next tokens are those that g asks for, or the first of them is not
abbrev pub IsSure : {N : Type 0} → RightSide N → Token → List Token → Type 0
IsSure (When (Both i j) g h) t ts = (looks (Both i j) (t ∷ ts) ≡ true) ⊎ (same_kind i t.kind ≡ false)
IsSure _ t ts = Unit {0}

-- In what follows a and b say whether the first begins with the token and whether it is empty, c and d the same of
-- the second, f whether what is behind them starts with it, i whether what is asked of the tokens is so.
of_seq : (a b c d f : Bool) → (a || (b && (c || (d && f)))) ≡ ((a || (b && c)) || ((b && d) && f))
of_seq true b c d f = refl
of_seq false true c d f = refl
of_seq false false c d f = refl

of_or : (A : Type 0) (S : A → Bool) (x y : A) (a b c d f : Bool) → S x ≡ (a || (b && f)) → S y ≡ (c || (d && f)) → S (cond (a || (b && f)) x y) ≡ ((a || c) || ((b || d) && f))
of_or A S x y true b c d f p q = p
of_or A S x y false true true d true p q = p
of_or A S x y false true false d true p q = p
of_or A S x y false true c true false p q = q
of_or A S x y false true c false false p q = q
of_or A S x y false false c d f p q = q

of_many : (A : Type 0) (S : A → Bool) (x y : A) (a b f : Bool) → S x ≡ (a || b) → S y ≡ f → S (cond a x y) ≡ (a || f)
of_many A S x y true b f p q = p
of_many A S x y false b f p q = q

of_one_of : (A : Type 0) (S : A → Bool) (x y : A) (i a c d f : Bool) → (i ≡ true → a ≡ true) → S x ≡ (a || (false && f)) → S y ≡ (c || (d && f)) → S (cond i x y) ≡ (((i && a) || (not i && c)) || ((false || d) && f))
of_one_of A S x y true true c d f r p q = p
of_one_of A S x y true false c d f r p q = let z = r refl in cc
of_one_of A S x y false a c d f r p q = q

picked : (A : Type 0) (S : A → Bool) (x y : A) (i n a b c d f : Bool) → i ≡ true → a ≡ true → S x ≡ (a || (b && f)) → S (cond true x y) ≡ (((i && a) || (n && c)) || ((b || d) && f))
picked A S x y i n a b c d f u v p = rw (p, u, v) refl

missed : (A : Type 0) (S : A → Bool) (x y : A) (i a b c d f : Bool) → i ≡ false → b ≡ false → S y ≡ (c || (d && f)) → S (cond false x y) ≡ (((i && a) || (true && c)) || ((b || d) && f))
missed A S x y i a b c d f u v p = rw (p, u, v) refl

not_both : (i j : TokenKind) (t : Token) (ts : List Token) → same_kind i t.kind ≡ false → looks (Both i j) (t ∷ ts) ≡ false
not_both i j t [] h = refl
not_both i j t (u ∷ us) h = rw h refl

module _ (N : Type 0) (P : N → RightSide N) (T : Tables N) where
  -- an act that passes no token
  pub act_starts_same : (a : Act) (gs : List (RightSide N)) (k : TokenKind) → act_is_empty a ≡ true → starts T gs k ≡ starts T (Do a ∷ gs) k
  act_starts_same (Pass j) gs k e = cc
  act_starts_same Open gs k e = refl
  act_starts_same Reopen gs k e = refl
  act_starts_same Adopt gs k e = refl
  act_starts_same CheckType gs k e = refl
  act_starts_same (Close j) gs k e = refl

  pub call_starts_same : AreExact N P T → (n : N) (gs : List (RightSide N)) (t : Token) (ts : List Token) → starts T (expand P T t ts (Call n) gs) t.kind ≡ starts T (Call n ∷ gs) t.kind
  call_starts_same exact n gs t ts = rw (exact.first n t.kind, exact.empty n) refl

  pub nothing_starts_same : (gs : List (RightSide N)) (t : Token) (ts : List Token) → starts T (expand P T t ts Nothing gs) t.kind ≡ starts T (Nothing ∷ gs) t.kind
  nothing_starts_same gs t ts = refl

  pub seq_starts_same : (g h : RightSide N) (gs : List (RightSide N)) (t : Token) (ts : List Token) → starts T (expand P T t ts (Seq g h) gs) t.kind ≡ starts T (Seq g h ∷ gs) t.kind
  seq_starts_same g h gs t ts = of_seq (begins T g t.kind) (is_empty T g) (begins T h t.kind) (is_empty T h) (starts T gs t.kind)

  pub or_starts_same : (g h : RightSide N) (gs : List (RightSide N)) (t : Token) (ts : List Token) → starts T (expand P T t ts (Or g h) gs) t.kind ≡ starts T (Or g h ∷ gs) t.kind
  or_starts_same g h gs t ts = of_or (List (RightSide N)) (λ x. starts T x t.kind) (g ∷ gs) (h ∷ gs) (begins T g t.kind) (is_empty T g) (begins T h t.kind) (is_empty T h) (starts T gs t.kind) refl refl

  pub many_starts_same : (g : RightSide N) (gs : List (RightSide N)) (t : Token) (ts : List Token) → starts T (expand P T t ts (Many g) gs) t.kind ≡ starts T (Many g ∷ gs) t.kind
  many_starts_same g gs t ts = of_many (List (RightSide N)) (λ x. starts T x t.kind) (g ∷ Many g ∷ gs) gs (begins T g t.kind) (is_empty T g && starts T (Many g ∷ gs) t.kind) (starts T gs t.kind) refl refl

  -- one token decides: each that is asked for begins the first
  pub one_of_starts_same : (kinds : List TokenKind) (g h : RightSide N) (gs : List (RightSide N)) (t : Token) (ts : List Token) → is_empty T g ≡ false → (is_in kinds t.kind ≡ true → begins T g t.kind ≡ true) → starts T (expand P T t ts (When (OneOf kinds) g h) gs) t.kind ≡ starts T (When (OneOf kinds) g h ∷ gs) t.kind
  one_of_starts_same kinds g h gs t ts e r = go (is_empty T g) e refl
    where
      go : (b : Bool) → b ≡ false → starts T (g ∷ gs) t.kind ≡ (begins T g t.kind || (b && starts T gs t.kind)) → starts T (cond (is_in kinds t.kind) (g ∷ gs) (h ∷ gs)) t.kind ≡ (((is_in kinds t.kind && begins T g t.kind) || (not (is_in kinds t.kind) && begins T h t.kind)) || ((b || is_empty T h) && starts T gs t.kind))
      go true e p = cc
      go false e p = of_one_of (List (RightSide N)) (λ x. starts T x t.kind) (g ∷ gs) (h ∷ gs) (is_in kinds t.kind) (begins T g t.kind) (begins T h t.kind) (is_empty T h) (starts T gs t.kind) r p refl

  -- two tokens decide, and the next is not the first of them
  pub both_starts_same : (i j : TokenKind) (g h : RightSide N) (gs : List (RightSide N)) (t : Token) (ts : List Token) → is_empty T g ≡ false → same_kind i t.kind ≡ false → starts T (expand P T t ts (When (Both i j) g h) gs) t.kind ≡ starts T (When (Both i j) g h ∷ gs) t.kind
  both_starts_same i j g h gs t ts e w = rw (not_both i j t ts w) (missed (List (RightSide N)) (λ x. starts T x t.kind) (g ∷ gs) (h ∷ gs) (same_kind i t.kind) (begins T g t.kind) (is_empty T g) (begins T h t.kind) (is_empty T h) (starts T gs t.kind) w e refl)

  -- the tokens that come next are so, and begin the first
  pub looked_starts_same : (a : Ahead) (g h : RightSide N) (gs : List (RightSide N)) (t : Token) (ts : List Token) → looks a (t ∷ ts) ≡ true → begins T g t.kind ≡ true → starts T (expand P T t ts (When a g h) gs) t.kind ≡ starts T (When a g h ∷ gs) t.kind
  looked_starts_same a g h gs t ts w r = rw w (picked (List (RightSide N)) (λ x. starts T x t.kind) (g ∷ gs) (h ∷ gs) (may_look a t.kind) (may_miss a t.kind) (begins T g t.kind) (is_empty T g) (begins T h t.kind) (is_empty T h) (starts T gs t.kind) (looks_so a t ts w) r refl)

  when_begins : (a : Ahead) (g h : RightSide N) → whens_begin T (When a g h) ≡ true → (is_empty T g ≡ false) × ((k : TokenKind) → may_look a k ≡ true → begins T g k ≡ true) × (whens_begin T g ≡ true) × (whens_begin T h ≡ true)
  when_begins a g h w =
      let x = and_parts (is_false (is_empty T g) && each_kind (λ k. implied (may_look a k) (begins T g k))) (whens_begin T g && whens_begin T h) w in
      let y = and_parts (is_false (is_empty T g)) (each_kind (λ k. implied (may_look a k) (begins T g k))) x.0 in
      let z = and_parts (whens_begin T g) (whens_begin T h) x.1 in
      (falsely (is_empty T g) y.0, λ k. implies (may_look a k) (begins T g k) (every_kind (λ k. implied (may_look a k) (begins T g k)) y.1 k), z.0, z.1)

  -- an expansion can start with the next token where what is expanded can
  pub expand_starts_same : AreExact N P T → (g : RightSide N) (gs : List (RightSide N)) (t : Token) (ts : List Token) → whens_begin T g ≡ true → IsSure g t ts → starts T (expand P T t ts g gs) t.kind ≡ starts T (g ∷ gs) t.kind
  expand_starts_same exact (Do a) gs t ts w sure = refl
  expand_starts_same exact (Call n) gs t ts w sure = call_starts_same exact n gs t ts
  expand_starts_same exact Nothing gs t ts w sure = refl
  expand_starts_same exact (Seq g h) gs t ts w sure = seq_starts_same g h gs t ts
  expand_starts_same exact (Or g h) gs t ts w sure = or_starts_same g h gs t ts
  expand_starts_same exact (Many g) gs t ts w sure = many_starts_same g gs t ts
  expand_starts_same exact (When (OneOf kinds) g h) gs t ts w sure = let z = when_begins (OneOf kinds) g h w in one_of_starts_same kinds g h gs t ts z.0 (z.1 t.kind)
  expand_starts_same exact (When (Both i j) g h) gs t ts w sure =
      let z = when_begins (Both i j) g h w in
      ⊎_elim (λ q. looked_starts_same (Both i j) g h gs t ts q (z.1 t.kind (looks_so (Both i j) t ts q))) (λ q. both_starts_same i j g h gs t ts z.0 q) sure

  choose : (A : Type 0) (b : Bool) (x y : A) (Q : A → Type 0) → Q x → Q y → Q (cond b x y)
  choose A true x y Q p q = p
  choose A false x y Q p q = q

  -- an expansion keeps that
  pub expand_begin : ((n : N) → whens_begin T (P n) ≡ true) → (g : RightSide N) (gs : List (RightSide N)) (t : Token) (ts : List Token) → all_begin T (g ∷ gs) ≡ true → all_begin T (expand P T t ts g gs) ≡ true
  expand_begin ok (Do a) gs t ts w = w
  expand_begin ok (Call n) gs t ts w = rw (ok n) w
  expand_begin ok Nothing gs t ts w = w
  expand_begin ok (Seq g h) gs t ts w = let x = and_parts (whens_begin T (Seq g h)) (all_begin T gs) w in let y = and_parts (whens_begin T g) (whens_begin T h) x.0 in rw (y.0, y.1) x.1
  expand_begin ok (Or g h) gs t ts w =
      let x = and_parts (whens_begin T (Or g h)) (all_begin T gs) w in
      let y = and_parts (whens_begin T g) (whens_begin T h) x.0 in
      choose _ (next_of T g (starts T gs) t.kind) (g ∷ gs) (h ∷ gs) (λ z. all_begin T z ≡ true) (and_from (whens_begin T g) (all_begin T gs) y.0 x.1) (and_from (whens_begin T h) (all_begin T gs) y.1 x.1)
  expand_begin ok (Many g) gs t ts w =
      let x = and_parts (whens_begin T g) (all_begin T gs) w in
      choose _ (begins T g t.kind) (g ∷ Many g ∷ gs) gs (λ z. all_begin T z ≡ true) (and_from (whens_begin T g) (all_begin T (Many g ∷ gs)) x.0 w) x.1
  expand_begin ok (When a g h) gs t ts w =
      let x = and_parts (whens_begin T (When a g h)) (all_begin T gs) w in
      let y = when_begins a g h x.0 in
      choose _ (looks a (t ∷ ts)) (g ∷ gs) (h ∷ gs) (λ z. all_begin T z ≡ true) (and_from (whens_begin T g) (all_begin T gs) y.2 x.1) (and_from (whens_begin T h) (all_begin T gs) y.3 x.1)
