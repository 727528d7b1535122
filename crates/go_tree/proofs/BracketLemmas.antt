-- How many brackets are open: types are asked for inside brackets alone.
use Rattle.std.proofs.Common.{◌≡◌, ℕ, zero, suc, Bool, true, false, List, [], ◌∷◌, refl, ap, sym, ◌∙◌, subst, cond, Option, None, Some, ◌==◌, ◌||◌, eq-eqb}
use Rattle.std.proofs.lemmas.Bool.{eqb-true, and_parts}
use Rattle.go_tree.specs.declared.token.Token.{Token}
use Rattle.go_tree.specs.declared.token.TokenKind.{TokenKind}
use Rattle.go_tree.specs.declared.token.TokenKind.TheVariants.{LeftParen, LeftBracket, LeftBrace, RightParen, RightBracket, RightBrace}
use Rattle.go_tree.specs.Grammar.RightSide.{RightSide, Do, Call, Nothing, Seq, Or, Many, When, Act, Pass, Open, Reopen, Adopt, CheckType, Close}
use Rattle.go_tree.specs.Grammar.Trees.Reading.{looks}
use Rattle.go_tree.specs.Grammar.Tables.Prediction.{Tables, act_is_empty, is_empty, begins, next_of, starts, expand}
use Rattle.go_tree.specs.Grammar.Tables.Brackets.{Standing, Level, Within, Closing, closed, inside, behind_token, behind_act, behind_production, then_through, agreed, through, through_all}
use Rattle.go_tree.proofs.EmptyLemmas.{series_empty, empty_parts}

-- what g makes of the fewest brackets that a production of that place needs
abbrev pub Keeps : {N : Type 0} → (N → Standing) → Standing → RightSide N → Type 0
Keeps C Level g = through C g 0 ≡ Some 0
Keeps C Within g = through C g 1 ≡ Some 1
Keeps C Closing g = through C g 1 ≡ Some 0

pub through_parts : (f : ℕ → Option ℕ) (o : Option ℕ) (m : ℕ) → then_through f o ≡ Some m → (k : ℕ) × (o ≡ Some k) × (f k ≡ Some m)
through_parts f None m h = cc
through_parts f (Some k) m h = (k, refl, h)

pub agreed_parts : (x y : Option ℕ) (m : ℕ) → agreed x y ≡ Some m → (x ≡ Some m) × (y ≡ Some m)
agreed_parts None y m h = cc
agreed_parts (Some a) None m h = cc
agreed_parts (Some a) (Some b) m h = go (a == b) refl h
  where
    go : (c : Bool) → (a == b) ≡ c → cond c (Some a) None ≡ Some m → (Some a ≡ Some m) × (Some b ≡ Some m)
    go true q h = (h, ap (λ x. Some x) (sym (eqb-true a b q)) ∙ h)
    go false q h = cc

agreed_self : (a : ℕ) → agreed (Some a) (Some a) ≡ Some a
agreed_self a = rw (eq-eqb a a refl) refl

agreed_both : (x y : Option ℕ) (m : ℕ) → x ≡ Some m → y ≡ Some m → agreed x y ≡ Some m
agreed_both x y m p q = rw (p, q) (agreed_self m)

-- ---- one more bracket before, one more behind

closed_more : (l m : ℕ) → closed l ≡ Some m → closed (suc l) ≡ Some (suc m)
closed_more zero m h = cc
closed_more (suc l) m h = let q : l ≡ m = cc in ap (λ x. Some (suc x)) q

inside_more : (l m : ℕ) → inside l ≡ Some m → inside (suc l) ≡ Some (suc m)
inside_more zero m h = cc
inside_more (suc l) m h = let q : suc l ≡ m = cc in ap (λ x. Some (suc x)) q

same_more : (l m : ℕ) → Some l ≡ Some m → Some (suc l) ≡ Some (suc m)
same_more l m h = let q : l ≡ m = cc in ap (λ x. Some (suc x)) q

token_more : (k : TokenKind) (l m : ℕ) → behind_token k l ≡ Some m → behind_token k (suc l) ≡ Some (suc m)
token_more LeftParen l m h = same_more (suc l) m h
token_more LeftBracket l m h = same_more (suc l) m h
token_more LeftBrace l m h = same_more (suc l) m h
token_more RightParen l m h = closed_more l m h
token_more RightBracket l m h = closed_more l m h
token_more RightBrace l m h = closed_more l m h
token_more _ l m h = same_more l m h

act_more : (a : Act) (l m : ℕ) → behind_act a l ≡ Some m → behind_act a (suc l) ≡ Some (suc m)
act_more (Pass k) l m h = token_more k l m h
act_more Open l m h = same_more l m h
act_more Reopen l m h = same_more l m h
act_more Adopt l m h = same_more l m h
act_more CheckType l m h = inside_more l m h
act_more (Close k) l m h = same_more l m h

place_more : (c : Standing) (l m : ℕ) → behind_production c l ≡ Some m → behind_production c (suc l) ≡ Some (suc m)
place_more Level l m h = same_more l m h
place_more Within l m h = inside_more l m h
place_more Closing l m h = closed_more l m h

pub through_more : (N : Type 0) (C : N → Standing) (g : RightSide N) (l m : ℕ) → through C g l ≡ Some m → through C g (suc l) ≡ Some (suc m)
through_more N C (Do a) l m h = act_more a l m h
through_more N C (Call n) l m h = place_more (C n) l m h
through_more N C Nothing l m h = same_more l m h
through_more N C (Seq g f) l m h = let z = through_parts (through C f) (through C g l) m h in rw (through_more N C g l z.0 z.1) (through_more N C f z.0 m z.2)
through_more N C (Or g f) l m h = let z = agreed_parts (through C g l) (through C f l) m h in agreed_both (through C g (suc l)) (through C f (suc l)) (suc m) (through_more N C g l m z.0) (through_more N C f l m z.1)
through_more N C (Many g) l m h = let z = agreed_parts (Some l) (through C g l) m h in agreed_both (Some (suc l)) (through C g (suc l)) (suc m) (same_more l m z.0) (through_more N C g l m z.1)
through_more N C (When a g f) l m h = let z = agreed_parts (through C g l) (through C f l) m h in agreed_both (through C g (suc l)) (through C f (suc l)) (suc m) (through_more N C g l m z.0) (through_more N C f l m z.1)

-- ---- what is still to be read

pub same_through : (N : Type 0) (C : N → Standing) (g : RightSide N) (gs : List (RightSide N)) (l k m : ℕ) → through C g l ≡ Some k → through_all C gs k ≡ Some m → through_all C (g ∷ gs) l ≡ Some m
same_through N C g gs l k m h w = rw h w

-- behind an act that passes no token
pub through_act : (N : Type 0) (C : N → Standing) (a : Act) (gs : List (RightSide N)) (l m : ℕ) → act_is_empty a ≡ true → through_all C (Do a ∷ gs) l ≡ Some m → through_all C gs l ≡ Some m
through_act N C (Pass k) gs l m e h = cc
through_act N C Open gs l m e h = h
through_act N C Reopen gs l m e h = h
through_act N C Adopt gs l m e h = h
through_act N C CheckType gs zero m e h = cc
through_act N C CheckType gs (suc l) m e h = h
through_act N C (Close k) gs l m e h = h

-- and behind a token
pub through_pass : (N : Type 0) (C : N → Standing) (k : TokenKind) (gs : List (RightSide N)) (l m : ℕ) → through_all C (Do (Pass k) ∷ gs) l ≡ Some m → (b : ℕ) × (behind_token k l ≡ Some b) × (through_all C gs b ≡ Some m)
through_pass N C k gs l m h = through_parts (through_all C gs) (behind_token k l) m h

-- a type is not asked for where no bracket is open
pub check_inside : (N : Type 0) (C : N → Standing) (gs : List (RightSide N)) → through_all C (Do CheckType ∷ gs) zero ≡ None
check_inside N C gs = refl

pub level_start : (N : Type 0) (C : N → Standing) (n : N) → C n ≡ Level → through_all C (Call n ∷ []) 0 ≡ Some 0
level_start N C n q = rw q refl

abbrev pub is_closing : Standing → Bool
is_closing Level = false
is_closing Within = false
is_closing Closing = true

module _ (N : Type 0) (P : N → RightSide N) (T : Tables N) (C : N → Standing) (keeps : (n : N) → Keeps C (C n) (P n)) where
  at_level : (g : RightSide N) → through C g 0 ≡ Some 0 → (l : ℕ) → through C g l ≡ Some l
  at_level g h zero = h
  at_level g h (suc l) = through_more N C g l l (at_level g h l)

  at_within : (g : RightSide N) → through C g 1 ≡ Some 1 → (l : ℕ) → through C g (suc l) ≡ Some (suc l)
  at_within g h zero = h
  at_within g h (suc l) = through_more N C g (suc l) (suc l) (at_within g h l)

  at_closing : (g : RightSide N) → through C g 1 ≡ Some 0 → (l : ℕ) → through C g (suc l) ≡ Some l
  at_closing g h zero = h
  at_closing g h (suc l) = through_more N C g (suc l) l (at_closing g h l)

  placed : (c : Standing) (g : RightSide N) → Keeps C c g → (l m : ℕ) → behind_production c l ≡ Some m → through C g l ≡ Some m
  placed Level g k l m h = at_level g k l ∙ h
  placed Within g k zero m h = cc
  placed Within g k (suc l) m h = at_within g k l ∙ h
  placed Closing g k zero m h = cc
  placed Closing g k (suc l) m h = at_closing g k l ∙ h

  pub production_through : (n : N) (l m : ℕ) → through C (Call n) l ≡ Some m → through C (P n) l ≡ Some m
  production_through n l m h = placed (C n) (P n) (keeps n) l m h

  choose : (A : Type 0) (b : Bool) (x y : A) (Q : A → Type 0) → Q x → Q y → Q (cond b x y)
  choose A true x y Q p q = p
  choose A false x y Q p q = q

  -- an expansion leaves as many brackets open
  pub through_expand : (g : RightSide N) (gs : List (RightSide N)) (t : Token) (ts : List Token) (l m : ℕ) → through_all C (g ∷ gs) l ≡ Some m → through_all C (expand P T t ts g gs) l ≡ Some m
  through_expand (Do a) gs t ts l m h = h
  through_expand (Call n) gs t ts l m h = let z = through_parts (through_all C gs) (through C (Call n) l) m h in same_through N C (P n) gs l z.0 m (production_through n l z.0 z.1) z.2
  through_expand Nothing gs t ts l m h = h
  through_expand (Seq g f) gs t ts l m h =
      let z = through_parts (through_all C gs) (through C (Seq g f) l) m h in
      let w = through_parts (through C f) (through C g l) z.0 z.1 in
      same_through N C g (f ∷ gs) l w.0 m w.1 (same_through N C f gs w.0 z.0 m w.2 z.2)
  through_expand (Or g f) gs t ts l m h =
      let z = through_parts (through_all C gs) (through C (Or g f) l) m h in
      let w = agreed_parts (through C g l) (through C f l) z.0 z.1 in
      choose _ (next_of T g (starts T gs) t.kind) (g ∷ gs) (f ∷ gs) (λ x. through_all C x l ≡ Some m) (same_through N C g gs l z.0 m w.0 z.2) (same_through N C f gs l z.0 m w.1 z.2)
  through_expand (Many g) gs t ts l m h =
      let z = through_parts (through_all C gs) (through C (Many g) l) m h in
      let w = agreed_parts (Some l) (through C g l) z.0 z.1 in
      let q : z.0 ≡ l = cc in
      let behind : through_all C gs l ≡ Some m = subst (λ x. through_all C gs x ≡ Some m) q z.2 in
      choose _ (begins T g t.kind) (g ∷ Many g ∷ gs) gs (λ x. through_all C x l ≡ Some m) (same_through N C g (Many g ∷ gs) l z.0 m w.1 (subst (λ x. through_all C (Many g ∷ gs) x ≡ Some m) (sym q) h)) behind
  through_expand (When a g f) gs t ts l m h =
      let z = through_parts (through_all C gs) (through C (When a g f) l) m h in
      let w = agreed_parts (through C g l) (through C f l) z.0 z.1 in
      choose _ (looks a (t ∷ ts)) (g ∷ gs) (f ∷ gs) (λ x. through_all C x l ≡ Some m) (same_through N C g gs l z.0 m w.0 z.2) (same_through N C f gs l z.0 m w.1 z.2)

  one_of : (a b : Bool) (A : Type 0) → (a || b) ≡ true → (a ≡ true → A) → (b ≡ true → A) → A
  one_of true b A h f g = f refl
  one_of false b A h f g = g h

  inside_same : (l m : ℕ) → inside l ≡ Some m → m ≡ l
  inside_same zero m h = cc
  inside_same (suc l) m h = cc

  place_level : (c : Standing) (l m : ℕ) → is_closing c ≡ false → behind_production c l ≡ Some m → m ≡ l
  place_level Level l m e h = cc
  place_level Within l m e h = inside_same l m h
  place_level Closing l m e h = cc

  act_level : (a : Act) (l m : ℕ) → act_is_empty a ≡ true → behind_act a l ≡ Some m → m ≡ l
  act_level (Pass k) l m e h = cc
  act_level Open l m e h = cc
  act_level Reopen l m e h = cc
  act_level Adopt l m e h = cc
  act_level CheckType l m e h = inside_same l m h
  act_level (Close k) l m e h = cc

  -- what can be empty leaves as many open, where no production that can be empty passes a closing bracket
  pub empty_through : ((n : N) → T.empty n ≡ true → is_closing (C n) ≡ false) → (g : RightSide N) (l m : ℕ) → is_empty T g ≡ true → through C g l ≡ Some m → m ≡ l
  empty_through none (Do a) l m e h = act_level a l m e h
  empty_through none (Call n) l m e h = place_level (C n) l m (none n e) h
  empty_through none Nothing l m e h = cc
  empty_through none (Seq g f) l m e h =
      let z = through_parts (through C f) (through C g l) m h in
      let b = and_parts (is_empty T g) (is_empty T f) e in
      empty_through none f z.0 m b.1 z.2 ∙ empty_through none g l z.0 b.0 z.1
  empty_through none (Or g f) l m e h = let w = agreed_parts (through C g l) (through C f l) m h in one_of (is_empty T g) (is_empty T f) (m ≡ l) e (λ x. empty_through none g l m x w.0) (λ x. empty_through none f l m x w.1)
  empty_through none (Many g) l m e h = let w = agreed_parts (Some l) (through C g l) m h in cc
  empty_through none (When a g f) l m e h = let w = agreed_parts (through C g l) (through C f l) m h in one_of (is_empty T g) (is_empty T f) (m ≡ l) e (λ x. empty_through none g l m x w.0) (λ x. empty_through none f l m x w.1)

  pub empty_level : ((n : N) → T.empty n ≡ true → is_closing (C n) ≡ false) → (gs : List (RightSide N)) (l m : ℕ) → series_empty T gs ≡ true → through_all C gs l ≡ Some m → m ≡ l
  empty_level none [] l m e h = cc
  empty_level none (g ∷ gs) l m e h =
      let z = through_parts (through_all C gs) (through C g l) m h in
      let b = empty_parts N T g gs e in
      empty_level none gs z.0 m b.1 z.2 ∙ empty_through none g l z.0 b.0 z.1
