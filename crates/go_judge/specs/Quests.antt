-- Questions that may need headers.
-- Says what a question is, and what it comes to over a map of headers: an answer, or the first
-- declaration whose header the map lacks. No map stands in a question, so what is decided over some
-- headers is decided alike over more. What is asked where is left to `Outcomes`.
use Rattle.std.specs.Prelude.{◌≡◌, ℕ, Option, Some, None}

-- what a question comes to over a map of headers: an answer, or the first declaration whose header it
-- lacks
pub data Asked (A : Type 0) : Type 0 where
  Decided : A → Asked A
  Lacks : ℕ → Asked A

-- a question that may need headers, one after another: its answer, or the declaration whose header it
-- needs and how it goes on with it
pub data Quest (H A : Type 0) : Type 0 where
  Done : A → Quest H A
  Need : ℕ → (H → Quest H A) → Quest H A

-- the one question, and then another by its answer
abbrev pub then_ask : {H A B : Type 0} → Quest H A → (A → Quest H B) → Quest H B
then_ask (Done a) next = next a
then_ask (Need d go_on) next = Need d (λ h. then_ask (go_on h) next)

-- what a question comes to over the headers that are known
abbrev pub run : {H A : Type 0} → (ℕ → Option H) → Quest H A → Asked A
run known (Done a) = Decided a
run known (Need d go_on) = elim (known d) [ None ↦ Lacks d | Some h ↦ run known (go_on h) ]

-- the one map is part of the other: each header that the one has the other has
abbrev pub IsPart : {H : Type 0} → (ℕ → Option H) → (ℕ → Option H) → Type 0
IsPart {H} known more = (d : ℕ) (h : H) → known d ≡ Some h → more d ≡ Some h

-- what was asked over some headers stays over more: decided alike; lacking the same header as long as it
-- is missing
abbrev pub Stays : {H A : Type 0} → (ℕ → Option H) → Asked A → Asked A → Type 0
Stays more (Decided a) later = later ≡ Decided a
Stays more (Lacks d) later = more d ≡ None → later ≡ Lacks d
