-- Right sides that stay within the innermost open nodes: a test that is computed, for each production with the open
-- nodes that it needs.
use Rattle.std.proofs.Common.{◌≡◌, Bool, true, false, List, [], ◌∷◌, ◌++◌, refl, ◌&&◌}
use Rattle.std.proofs.lemmas.Bool.{and_from, and_parts}
use Rattle.go_tree.specs.declared.token.TokenKind.{TokenKind}
use Rattle.go_tree.specs.Grammar.RightSide.{RightSide, Do, Call, Nothing, Seq, Or, Many, When, Act, Pass, Open, Reopen, Adopt, CheckType, Close, Ahead, OneOf, Both}
use Rattle.go_tree.specs.Grammar.Tables.TokenKinds.{is_in}
use Rattle.go_tree.proofs.ShapeLemmas.{Shape, covers}

-- ---- the test of a right side: `next` tests what it leaves

-- what is needed is taken, and a node is left
abbrev takes : Shape → Shape → (Shape → Bool) → Bool
takes [] σ next = next (true ∷ σ)
takes (n ∷ ns) [] next = false
takes (true ∷ ns) (false ∷ σ) next = false
takes (true ∷ ns) (true ∷ σ) next = takes ns σ next
takes (false ∷ ns) (b ∷ σ) next = takes ns σ next

abbrev pub act_stays : Act → Shape → (Shape → Bool) → Bool
act_stays (Pass k) σ next = next σ
act_stays Open σ next = next (false ∷ σ)
act_stays Reopen (true ∷ σ) next = next (true ∷ false ∷ σ)
act_stays Reopen _ next = false
act_stays Adopt (p ∷ true ∷ σ) next = next (true ∷ false ∷ σ)
act_stays Adopt _ next = false
act_stays CheckType (b ∷ σ) next = next (b ∷ σ)
act_stays CheckType [] next = false
act_stays (Close k) (p ∷ q ∷ σ) next = next (true ∷ σ)
act_stays (Close k) _ next = false

-- the next token settles what is asked, unless it is one of these
abbrev pub settles : List TokenKind → Ahead → Bool
settles kinds (OneOf any) = true
settles kinds (Both i j) = is_in kinds i

-- the acts of a right side stay within these open nodes, where the table has what each production needs
abbrev pub stays : {N : Type 0} → (N → Shape) → List TokenKind → RightSide N → Shape → (Shape → Bool) → Bool
stays E kinds (Do a) σ next = act_stays a σ next
stays E kinds (Call n) σ next = takes (E n) σ next
stays E kinds Nothing σ next = next σ
stays E kinds (Seq g h) σ next = stays E kinds g σ (λ ρ. stays E kinds h ρ next)
stays E kinds (Or g h) σ next = stays E kinds g σ next && stays E kinds h σ next
stays E kinds (Many g) σ next = stays E kinds g σ (covers σ) && next σ
stays E kinds (When a g h) σ next = settles kinds a && (stays E kinds g σ next && stays E kinds h σ next)

abbrev pub is_node : Shape → Bool
is_node σ = covers (true ∷ []) σ

-- ---- shapes

pub covers_self : (σ : Shape) → covers σ σ ≡ true
covers_self [] = refl
covers_self (true ∷ σ) = covers_self σ
covers_self (false ∷ σ) = covers_self σ

covers_trans : (ρ σ τ : Shape) → covers ρ σ ≡ true → covers σ τ ≡ true → covers ρ τ ≡ true
covers_trans [] [] τ h k = k
covers_trans [] (b ∷ σ) τ h k = cc
covers_trans (true ∷ ρ) [] τ h k = cc
covers_trans (false ∷ ρ) [] τ h k = cc
covers_trans (true ∷ ρ) (false ∷ σ) τ h k = cc
covers_trans (true ∷ ρ) (true ∷ σ) [] h k = cc
covers_trans (true ∷ ρ) (true ∷ σ) (false ∷ τ) h k = cc
covers_trans (true ∷ ρ) (true ∷ σ) (true ∷ τ) h k = covers_trans ρ σ τ h k
covers_trans (false ∷ ρ) (true ∷ σ) [] h k = cc
covers_trans (false ∷ ρ) (true ∷ σ) (false ∷ τ) h k = cc
covers_trans (false ∷ ρ) (true ∷ σ) (true ∷ τ) h k = covers_trans ρ σ τ h k
covers_trans (false ∷ ρ) (false ∷ σ) [] h k = cc
covers_trans (false ∷ ρ) (false ∷ σ) (b ∷ τ) h k = covers_trans ρ σ τ h k

covers_more : (σ τ π : Shape) → covers σ τ ≡ true → covers (σ ++ π) (τ ++ π) ≡ true
covers_more [] [] π h = covers_self π
covers_more [] (b ∷ τ) π h = cc
covers_more (true ∷ σ) [] π h = cc
covers_more (false ∷ σ) [] π h = cc
covers_more (true ∷ σ) (false ∷ τ) π h = cc
covers_more (true ∷ σ) (true ∷ τ) π h = covers_more σ τ π h
covers_more (false ∷ σ) (b ∷ τ) π h = covers_more σ τ π h

-- ---- with more open nodes below

-- what passes the first test passes the second with more below
abbrev Onward : Shape → (Shape → Bool) → (Shape → Bool) → Type 0
Onward π next after = (ρ : Shape) → next ρ ≡ true → after (ρ ++ π) ≡ true

takes_more : (ns σ π : Shape) (next after : Shape → Bool) → Onward π next after → takes ns σ next ≡ true → takes ns (σ ++ π) after ≡ true
takes_more [] σ π next after f h = f (true ∷ σ) h
takes_more (n ∷ ns) [] π next after f h = cc
takes_more (true ∷ ns) (false ∷ σ) π next after f h = cc
takes_more (true ∷ ns) (true ∷ σ) π next after f h = takes_more ns σ π next after f h
takes_more (false ∷ ns) (b ∷ σ) π next after f h = takes_more ns σ π next after f h

act_more : (a : Act) (σ π : Shape) (next after : Shape → Bool) → Onward π next after → act_stays a σ next ≡ true → act_stays a (σ ++ π) after ≡ true
act_more (Pass k) σ π next after f h = f σ h
act_more Open σ π next after f h = f (false ∷ σ) h
act_more Reopen [] π next after f h = cc
act_more Reopen (false ∷ σ) π next after f h = cc
act_more Reopen (true ∷ σ) π next after f h = f (true ∷ false ∷ σ) h
act_more Adopt [] π next after f h = cc
act_more Adopt (p ∷ []) π next after f h = cc
act_more Adopt (p ∷ false ∷ σ) π next after f h = cc
act_more Adopt (p ∷ true ∷ σ) π next after f h = f (true ∷ false ∷ σ) h
act_more CheckType [] π next after f h = cc
act_more CheckType (b ∷ σ) π next after f h = f (b ∷ σ) h
act_more (Close k) [] π next after f h = cc
act_more (Close k) (p ∷ []) π next after f h = cc
act_more (Close k) (p ∷ q ∷ σ) π next after f h = f (true ∷ σ) h

-- what is needed stands on top, and the rest below it
taken : (ns σ : Shape) (next : Shape → Bool) → takes ns σ next ≡ true → (π : Shape) × (covers (ns ++ π) σ ≡ true) × (next (true ∷ π) ≡ true)
taken [] σ next h = (σ, covers_self σ, h)
taken (n ∷ ns) [] next h = cc
taken (true ∷ ns) (false ∷ σ) next h = cc
taken (true ∷ ns) (true ∷ σ) next h = taken ns σ next h
taken (false ∷ ns) (b ∷ σ) next h = taken ns σ next h

onward_from_node : (next : Shape → Bool) (π : Shape) → next (true ∷ π) ≡ true → Onward π is_node next
onward_from_node next π k [] h = cc
onward_from_node next π k (false ∷ ρ) h = cc
onward_from_node next π k (true ∷ []) h = k
onward_from_node next π k (true ∷ (b ∷ ρ)) h = cc

-- ---- what is still to be read

-- all these stay within the open nodes, and leave one
abbrev pub AllStay : {N : Type 0} → (N → Shape) → List TokenKind → List (RightSide N) → Shape → Type 0
AllStay E kinds [] ρ = covers (false ∷ []) ρ ≡ true
AllStay E kinds (g ∷ gs) ρ = (σ : Shape) × (next : Shape → Bool) × (covers σ ρ ≡ true) × (stays E kinds g σ next ≡ true) × ((π : Shape) → next π ≡ true → AllStay E kinds gs π)

module _ (N : Type 0) (P : N → RightSide N) (E : N → Shape) (kinds : List TokenKind) (table_right : (n : N) → stays E kinds (P n) (E n) is_node ≡ true) where
  stays_more : (g : RightSide N) (σ π : Shape) (next after : Shape → Bool) → Onward π next after → stays E kinds g σ next ≡ true → stays E kinds g (σ ++ π) after ≡ true
  stays_more (Do a) σ π next after f h = act_more a σ π next after f h
  stays_more (Call n) σ π next after f h = takes_more (E n) σ π next after f h
  stays_more Nothing σ π next after f h = f σ h
  stays_more (Seq g h) σ π next after f k = stays_more g σ π (λ ρ. stays E kinds h ρ next) (λ ρ. stays E kinds h ρ after) (λ ρ l. stays_more h ρ π next after f l) k
  stays_more (Or g h) σ π next after f k =
      let b = and_parts (stays E kinds g σ next) (stays E kinds h σ next) k in
      and_from (stays E kinds g (σ ++ π) after) (stays E kinds h (σ ++ π) after) (stays_more g σ π next after f b.0) (stays_more h σ π next after f b.1)
  stays_more (Many g) σ π next after f k =
      let b = and_parts (stays E kinds g σ (covers σ)) (next σ) k in
      and_from (stays E kinds g (σ ++ π) (covers (σ ++ π))) (after (σ ++ π)) (stays_more g σ π (covers σ) (covers (σ ++ π)) (λ ρ l. covers_more σ ρ π l) b.0) (f σ b.1)
  stays_more (When a g h) σ π next after f k =
      let c = and_parts (settles kinds a) (stays E kinds g σ next && stays E kinds h σ next) k in
      let b = and_parts (stays E kinds g σ next) (stays E kinds h σ next) c.1 in
      let d = and_from (stays E kinds g (σ ++ π) after) (stays E kinds h (σ ++ π) after) (stays_more g σ π next after f b.0) (stays_more h σ π next after f b.1) in
      and_from (settles kinds a) (stays E kinds g (σ ++ π) after && stays E kinds h (σ ++ π) after) c.0 d

  pub stay_covered : (gs : List (RightSide N)) (σ ρ : Shape) → covers σ ρ ≡ true → AllStay E kinds gs σ → AllStay E kinds gs ρ
  stay_covered [] σ ρ c h = covers_trans (false ∷ []) σ ρ h c
  stay_covered (g ∷ gs) σ ρ c h = (h.0, h.1, covers_trans h.0 σ ρ h.2 c, h.3, h.4)

  pub call_stays : (n : N) (gs : List (RightSide N)) (ρ : Shape) → AllStay E kinds (Call n ∷ gs) ρ → AllStay E kinds (P n ∷ gs) ρ
  call_stays n gs ρ h =
      let t = taken (E n) h.0 h.1 h.3 in
      (E n ++ t.0, h.1, covers_trans (E n ++ t.0) h.0 ρ t.1 h.2, stays_more (P n) (E n) t.0 is_node h.1 (onward_from_node h.1 t.0 t.2) (table_right n), h.4)

  pub left_stays : (g h : RightSide N) (gs : List (RightSide N)) (ρ : Shape) → AllStay E kinds (Or g h ∷ gs) ρ → AllStay E kinds (g ∷ gs) ρ
  left_stays g h gs ρ k = (k.0, k.1, k.2, (and_parts (stays E kinds g k.0 k.1) (stays E kinds h k.0 k.1) k.3).0, k.4)

  pub right_stays : (g h : RightSide N) (gs : List (RightSide N)) (ρ : Shape) → AllStay E kinds (Or g h ∷ gs) ρ → AllStay E kinds (h ∷ gs) ρ
  right_stays g h gs ρ k = (k.0, k.1, k.2, (and_parts (stays E kinds g k.0 k.1) (stays E kinds h k.0 k.1) k.3).1, k.4)

  pub when_stays : (a : Ahead) (g h : RightSide N) (gs : List (RightSide N)) (ρ : Shape) → AllStay E kinds (When a g h ∷ gs) ρ → (settles kinds a ≡ true) × AllStay E kinds (Or g h ∷ gs) ρ
  when_stays a g h gs ρ k = let c = and_parts (settles kinds a) (stays E kinds g k.0 k.1 && stays E kinds h k.0 k.1) k.3 in (c.0, (k.0, k.1, k.2, c.1, k.4))

  pub done_stays : (g : RightSide N) (gs : List (RightSide N)) (ρ : Shape) → AllStay E kinds (Many g ∷ gs) ρ → AllStay E kinds gs ρ
  done_stays g gs ρ k = stay_covered gs k.0 ρ k.2 (k.4 k.0 (and_parts (stays E kinds g k.0 (covers k.0)) (k.1 k.0) k.3).1)

  pub again_stays : (g : RightSide N) (gs : List (RightSide N)) (ρ : Shape) → AllStay E kinds (Many g ∷ gs) ρ → AllStay E kinds (g ∷ Many g ∷ gs) ρ
  again_stays g gs ρ k = (k.0, covers k.0, k.2, (and_parts (stays E kinds g k.0 (covers k.0)) (k.1 k.0) k.3).0, λ π c. (k.0, k.1, c, k.3, k.4))

  pub turn_stays : (g h : RightSide N) (gs : List (RightSide N)) (ρ : Shape) → AllStay E kinds (Seq g h ∷ gs) ρ → AllStay E kinds (g ∷ h ∷ gs) ρ
  turn_stays g h gs ρ k = (k.0, λ π. stays E kinds h π k.1, k.2, k.3, λ π c. (π, k.1, covers_self π, c, k.4))
