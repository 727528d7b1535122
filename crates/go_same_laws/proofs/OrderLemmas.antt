-- Questions and premises by how many names may be opened: of which the one is told where the other is. What is told behind
-- opened names, of underlying types, and of terms.
use Rattle.std.proofs.Common.{◌≡◌, ℕ, ◌+◌, ◌-◌, ◌≤◌, ◌&&◌, Bool, true, false, if◌then◌else◌, Option, Some, None, List, not, refl, ap, arith}
use Rattle.std.specs.Prelude.{nat_le}
use Rattle.std.proofs.lemmas.Bool.Decides.{nat_tests}
use Rattle.go_term.specs.Types.{TypeData}
use Rattle.go_judge.specs.Headers.{Headers}
use Rattle.go_judge.specs.Types.Forms.{found_in}
use Rattle.go_judge.specs.Types.Heads.{alike}
use Rattle.go_judge.specs.Types.TypeIdentity.{Test, and_ask, ask_any, behind, both_found, by_form, fit, has_underlying, is_declared, lies_in, lies_within, lies_within_by, same_found, same_term, same_underlying}
use Rattle.go_judge.specs.Types.TypeSets.{TermData, plain}
use Rattle.go_judge.specs.Types.UnderlyingType.{under}
use Rattle.go_judge.specs.Quests.{Decided, Done}
use Rattle.go_same_laws.proofs.EveryLemmas.{every_so}
use Rattle.go_same_laws.proofs.FitLemmas.{done_yes, le_is}
use Rattle.go_same_laws.proofs.NormLemmas.{both_true, true_both}
use Rattle.go_same_laws.proofs.SwapLemmas.{or_yes, yes_or}
use Rattle.go_same_laws.proofs.TotalLemmas.{IsTotal, some_map, some_yes, yes_some}
use Rattle.go_same_laws.proofs.YesLemmas.{IsYes, both_yes, each_yes, hence, not_no, thence, yes_both, yes_each}

-- ORDER

-- where a question, or a premise, is told at the one number, it is told at the other: a question at more, a premise at fewer, and
-- a premise wherever the question is told
abbrev pub Order : Bool → Bool → ℕ → ℕ → Type 0
Order false false m n = m ≤ n
Order false true m n = Unit {0}
Order true false m n = ⊥
Order true true m n = n ≤ m

pub order_turned : (s t : Bool) (m n : ℕ) → Order s t m n → Order (not t) (not s) n m
order_turned false false m n order = order
order_turned false true m n order = tt
order_turned true false m n order = order
order_turned true true m n order = order

-- behind so many names, and so many
abbrev pub Room : Bool → Bool → ℕ → ℕ → ℕ → ℕ → Type 0
Room s t m o n k = Order s t (m + k) (n + o)

pub room : (s t : Bool) (m n o : ℕ) → Order s t m n → Room s t m o n o
room false false m n o order = omega arith
room false true m n o order = tt
room true false m n o order = order
room true true m n o order = omega arith

room_more : (s t : Bool) (m o n k more : ℕ) → Room s t m o n k → Room s t m (o + more) n (k + more)
room_more false false m o n k more order = omega arith
room_more false true m o n k more order = tt
room_more true false m o n k more order = order
room_more true true m o n k more order = omega arith

room_left : (s t : Bool) (m o n k : ℕ) → Room s t m o n k → o ≤ m → k ≤ n → Order s t (m - o) (n - k)
room_left false false m o n k order first second = omega arith
room_left false true m o n k order first second = tt
room_left true false m o n k order first second = order
room_left true true m o n k order first second = omega arith

premise : (s t : Bool) (m n : ℕ) → Order s t m n → s ≡ true → t ≡ true
premise s true m n order e = refl
premise true false m n order e = absurd order
premise false false m n order e = e

too_few : (o m : ℕ) → nat_le o m ≡ false → m + 1 ≤ o
too_few o m e = grind (arith, nat_tests)

short_after : (s t : Bool) (m o n k : ℕ) → Room s t m o n k → o ≤ m → n + 1 ≤ k → t ≡ true
short_after s true m o n k order first second = refl
short_after true false m o n k order first second = absurd order
short_after false false m o n k order first second = absurd (omega arith)

short_before : (s t : Bool) (m o n k : ℕ) → Room s t m o n k → m + 1 ≤ o → k ≤ n → s ≡ true → ⊥
short_before false t m o n k order first second e = let wrong : false ≡ true = e in cc wrong
short_before true false m o n k order first second e = order
short_before true true m o n k order first second e = omega arith

abbrev pub Asking : Type 0
Asking = Bool → ℕ → TypeData → TypeData → Test

module _ (headers : Headers) where
  -- only of types that fit something is told
  abbrev pub TellsFit : Asking → Type 0
  TellsFit go = (s : Bool) (m : ℕ) (a b : TypeData) → IsYes headers (go s m a b) → fit a b ≡ true

  -- what the one tells the other tells
  abbrev pub Carries : Asking → Asking → Bool → Bool → Type 0
  Carries go on s t = (m n : ℕ) → Order s t m n → (a b : TypeData) → IsYes headers (go s m a b) → IsYes headers (on t n a b)

  pub form_fits : (s : Bool) (a b : TypeData) → IsYes headers (by_form s a b) → (s ≡ true) × (fit a b ≡ true)
  form_fits s a b told = both_true s (fit a b) (done_yes headers (s && fit a b) told)

  pub fits_form : (t : Bool) (a b : TypeData) → t ≡ true → fit a b ≡ true → IsYes headers (by_form t a b)
  fits_form t a b e f = ap Decided (true_both t (fit a b) e f)

  module _ (total : IsTotal headers) (s t : Bool) (go on : Asking) (tells : TellsFit go) (carries : Carries go on s t) where
    pub behind_carries : (m o n k : ℕ) → Room s t m o n k → (a b : TypeData) → IsYes headers (behind go m s o a b) → IsYes headers (behind on n t k a b)
    behind_carries m o n k order a b told = at (nat_le o m) (nat_le k n) refl refl told
      where
        at : (p q : Bool) → nat_le o m ≡ p → nat_le k n ≡ q → IsYes headers (if p then go s (m - o) a b else by_form s a b) → IsYes headers (if q then on t (n - k) a b else by_form t a b)
        at true true e f told = carries (m - o) (n - k) (room_left s t m o n k order (le_is o m e) (le_is k n f)) a b told
        at true false e f told = fits_form t a b (short_after s t m o n k order (le_is o m e) (too_few k n f)) (tells s (m - o) a b told)
        at false true e f told = absurd (short_before s t m o n k order (too_few o m e) (le_is k n f) (form_fits s a b told).0)
        at false false e f told = let parts = form_fits s a b told in fits_form t a b (premise s t (m + k) (n + o) order parts.0) parts.1

    short_carries : (m n : ℕ) → Order s t m n → IsYes headers (Done s) → IsYes headers (Done t)
    short_carries m n order told = ap Decided (premise s t m n order (done_yes headers s told))

    found_carries : (m o n k : ℕ) → Room s t m o n k → (b : TypeData) (x : Option TypeData) → IsYes headers (same_found go m s o b x) → IsYes headers (same_found on n t k b x)
    found_carries m o n k order b None told = short_carries (m + k) (n + o) order told
    found_carries m o n k order b (Some u) told = behind_carries m o n k order (plain u) b told

    pub underlying_carries : (m o n k : ℕ) → Room s t m o n k → (a b : TypeData) → IsYes headers (has_underlying go m s o a b) → IsYes headers (has_underlying on n t k a b)
    underlying_carries m o n k order a b told =
        let one = thence headers (under a) (λ reach. same_found go m s o b (found_in reach)) true told in
        hence headers (under a) (λ reach. same_found on n t k b (found_in reach)) one.answer true one.first (found_carries m o n k order b (found_in one.answer) one.second)

    both_carries : (m o n k : ℕ) → Room s t m o n k → (a : TypeData) (x : Option TypeData) → IsYes headers (both_found go m s o a x) → IsYes headers (both_found on n t k a x)
    both_carries m o n k order a None told = short_carries (m + k) (n + o) order told
    both_carries m o n k order a (Some v) told = underlying_carries m o n k order a (plain v) told

    declared_carries : (m o n k : ℕ) → Room s t m o n k → (a b : TypeData) (p : Bool) → IsYes headers (if p then same_underlying go m s o a b else Done true) → IsYes headers (if p then same_underlying on n t k a b else Done true)
    declared_carries m o n k order a b false told = refl
    declared_carries m o n k order a b true told =
        let one = thence headers (under b) (λ reach. both_found go m s o a (found_in reach)) true told in
        hence headers (under b) (λ reach. both_found on n t k a (found_in reach)) one.answer true one.first (both_carries m o n k order a (found_in one.answer) one.second)

    pub term_carries : (m o n k : ℕ) → Room s t m o n k → (a b : TypeData) → IsYes headers (same_term go m s o a b) → IsYes headers (same_term on n t k a b)
    term_carries m o n k order a b told =
        let deep : Bool → Test = λ p. if p then same_underlying go m s (o + 2) a b else Done true in
        let deeper : Bool → Test = λ p. if p then same_underlying on n t (k + 2) a b else Done true in
        yes_or headers (alike a b) (and_ask (behind on n t k a b) (deeper (is_declared a))) (λ other.
        let parts = yes_both headers (behind go m s o a b) (deep (is_declared a)) (or_yes headers (alike a b) (and_ask (behind go m s o a b) (deep (is_declared a))) other told) in
        both_yes headers (behind on n t k a b) (deeper (is_declared a)) (behind_carries m o n k order a b parts.0)
        (declared_carries m (o + 2) n (k + 2) (room_more s t m o n k 2 order) a b (is_declared a) parts.1))

    pub lies_carries : (m o n k : ℕ) → Room s t m o n k → (p q : Bool) (a b : TypeData) → IsYes headers (lies_within_by go m s p q o a b) → IsYes headers (lies_within_by on n t p q k a b)
    lies_carries m o n k order false true a b told = underlying_carries m (o + 1) n (k + 1) (room_more s t m o n k 1 order) a b told
    lies_carries m o n k order true false a b told = absurd (not_no headers told)
    lies_carries m o n k order true true a b told = behind_carries m o n k order a b told
    lies_carries m o n k order false false a b told = term_carries m o n k order a b told

    pub lies_in_carries : (m n : ℕ) → Order s t m n → (unions : List (List TermData)) (x : TermData) → IsYes headers (lies_in go m s unions x) → IsYes headers (lies_in on n t unions x)
    lies_in_carries m n order unions x told =
        let before : TermData → Test = lies_within go m s x in
        let after : TermData → Test = lies_within on n t x in
        yes_each headers (ask_any after) unions
        (every_so (λ u. IsYes headers (ask_any before u)) (λ u. IsYes headers (ask_any after u))
        (λ u here. some_yes headers total after u
        (some_map (λ y. IsYes headers (before y)) (λ y. IsYes headers (after y)) (λ y. lies_carries m (x.opened + y.opened) n (x.opened + y.opened) (room s t m n (x.opened + y.opened) order) x.tilde y.tilde x.type y.type)
        u (yes_some headers before u here)))
        unions (each_yes headers (ask_any before) unions told))
