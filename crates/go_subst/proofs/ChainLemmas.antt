-- What a turn of a chain of types leaves.
use Rattle.std.proofs.Common.{◌≡◌, ℕ, suc, ◌+◌, ◌-◌, ◌^◌, ◌<◌, ◌≤◌, Bool, true, false, not, if◌then◌else◌, Option, Some, None, List, ◌∷◌, refl, sym, ap, subst, ◌∙◌, arith, lit≤}
use Rattle.std.specs.Prelude.{option_and_then}
use Rattle.std.specs.List.{list_any}
use Rattle.go_base.specs.declared.ids.ObjId.{ObjId}
use Rattle.go_term.specs.Size.{size_fault}
use Rattle.go_term.specs.Types.{TypeData, made}
use Rattle.go_term.specs.View.{type_of}
use Rattle.go_term.specs.declared.fault.TermFault.{TermFault}
use Rattle.go_term.specs.declared.fault.TermFault.TheVariants.{Deep, Large, NoMemory}
use Rattle.go_term.specs.declared.term.Term.{Term}
use Rattle.go_judge.specs.declared.form.Reached.{Reached}
use Rattle.go_judge.specs.Records.{HeaderData}
use Rattle.go_judge.specs.Headers.{Headers}
use Rattle.go_judge.specs.Types.Forms.{IsReachCause, reached_as}
use Rattle.go_judge.specs.Types.UnderlyingType.{Exceeds, Origin, Reach, Reaches, Reaching, Returns, most_steps, on_with, same_origin, step_by, under, under_from}
use Rattle.go_judge.specs.Quests.{Asked, Decided, Done, Lacks, run}
use Rattle.go_judge.proofs.QuestLemmas.{run-None, run-Some}
use Rattle.go_subst.specs.Chains.{IsReferredCause, IsTurnCause, asked_from, literal, origin_of, referred, turn_as}
use Rattle.go_subst.specs.declared.underlying.Turn.{Turn}
use Rattle.go_subst.specs.declared.underlying.Turn.TheVariants.{End, On}

-- at a type that refers to none
pub chain-own : (headers : Headers) (n : ℕ) (path : List Origin) (t : TypeData) → origin_of t ≡ None → run headers (under_from (suc n) path t) ≡ Decided (Reaches (literal t))
chain-own headers n path (made head parts) none = ap (λ o. run headers (step_by (under_from n) path head parts o)) none

-- at a named type for the first time, and again
pub chain-asks : (n : ℕ) (path : List Origin) (t : TypeData) (o : Origin) → origin_of t ≡ Some o → list_any (same_origin o) path ≡ false → under_from (suc n) path t ≡ asked_from n (o ∷ path) t o.0
chain-asks n path (made head parts) o is new =
    ap (step_by (under_from n) path head parts) is ∙ ap (λ b. if b then Done Returns else asked_from n (o ∷ path) (made head parts) o.0) new

pub chain-returns : (headers : Headers) (n : ℕ) (path : List Origin) (t : TypeData) (o : Origin) → origin_of t ≡ Some o → list_any (same_origin o) path ≡ true → run headers (under_from (suc n) path t) ≡ Decided Returns
chain-returns headers n path (made head parts) o is met =
    ap (λ p. run headers (step_by (under_from n) path head parts p)) is
    ∙ ap (λ b. run headers (if b then Done Returns else asked_from n (o ∷ path) (made head parts) o.0)) met

-- by the header of the declaration
module _ (headers : Headers) (path : List Origin) (t : TypeData) where
  pub asked-lacks : (n : ℕ) (d : ObjId) → None ≡ headers d.0 → run headers (asked_from n path t d) ≡ Lacks d.0
  asked-lacks n d none = run-None headers d.0 (λ header. on_with (under_from n path) t (referred t header)) (sym none)

  pub asked-there : (n : ℕ) (d : ObjId) (h : HeaderData) → Some h ≡ headers d.0 → run headers (asked_from n path t d) ≡ run headers (on_with (under_from n path) t (referred t h))
  asked-there n d h there = run-Some headers d.0 (λ header. on_with (under_from n path) t (referred t header)) h (sym there)

  -- by the size of the type that it refers to
  abbrev by_size : ℕ → TypeData → Option TermFault → Asked Reach
  by_size n next fault = run headers (elim fault as (λ _. Reaching) [ Some fault ↦ Done (Exceeds fault) | None ↦ under_from n path next ])

  pub on-stays : (n : ℕ) (o : Option TypeData) → None ≡ o → run headers (on_with (under_from n path) t o) ≡ Decided (Reaches t)
  on-stays n o none = ap (λ o. run headers (on_with (under_from n path) t o)) (sym none)

  pub on-next : (n : ℕ) (o : Option TypeData) (next : TypeData) → Some next ≡ o → option_and_then size_fault o ≡ None → run headers (on_with (under_from n path) t o) ≡ run headers (under_from n path next)
  on-next n None next is fits = absurd (let never : Some next ≡ None = is in cc)
  on-next n (Some u) next is fits = ap (by_size n u) fits ∙ (let same : u ≡ next = cc in ap (λ v. run headers (under_from n path v)) same)

  on-exceeds : (n : ℕ) (o : Option TypeData) (fault : TermFault) → option_and_then size_fault o ≡ Some fault → run headers (on_with (under_from n path) t o) ≡ Decided (Exceeds fault)
  on-exceeds n None fault is = absurd (let never : None ≡ Some fault = is in cc)
  on-exceeds n (Some u) fault is = ap (by_size n u) is

  pub asked-cause : (fault : TermFault) (d : ObjId) (h : HeaderData) → Some h ≡ headers d.0 → IsReferredCause fault (referred t h) → IsTurnCause fault headers (λ n. asked_from n path t d)
  asked-cause NoMemory d h there cause = tt
  asked-cause Deep d h there cause = λ n. asked-there n d h there ∙ on-exceeds n (referred t h) Deep cause
  asked-cause Large d h there cause = λ n. asked-there n d h there ∙ on-exceeds n (referred t h) Large cause

-- a cause, where the chains come to the same
pub cause-along : (fault : TermFault) (headers : Headers) (chain other : ℕ → Reaching) → ((n : ℕ) → other n ≡ chain n) → IsTurnCause fault headers chain → IsTurnCause fault headers other
cause-along NoMemory headers chain other same cause = tt
cause-along Deep headers chain other same cause = λ n. ap (run headers) (same n) ∙ cause n
cause-along Large headers chain other same cause = λ n. ap (run headers) (same n) ∙ cause n

pub not_listed : (listed fresh : Bool) → fresh ≡ not listed → fresh ≡ true → listed ≡ false
not_listed true fresh e is = absurd (let never : true ≡ false = sym is ∙ e in cc)
not_listed false fresh e is = refl

-- the turns of a whole chain
below : (i a m : ℕ) → i < a → a ≤ m → i < m
below i a m lt le = omega arith

turn_left : (m i : ℕ) → i < m → suc (m - suc i) + i ≡ m
turn_left m i lt = omega arith

within : (i : ℕ) → i < 18446744073709551615 → i < most_steps
unfolding most_steps
within i lt = below i 18446744073709551615 (2 ^ 64 + 1) lt (lit≤ tt)

module _ (headers now : Headers) (same : now ≡ headers) (t : TypeData) (i : ℕ) (path path' : List Origin) (here : TypeData)
    (chain : (n : ℕ) → n + i ≡ most_steps → run headers (under t) ≡ run headers (under_from n path here)) where
  one_turn : (found : Turn) → ((n : ℕ) → run now (under_from (suc n) path here) ≡ turn_as now n path' found) → (n : ℕ) → suc n + i ≡ most_steps → run headers (under t) ≡ turn_as headers n path' found
  one_turn found turn n left = chain (suc n) left ∙ subst (λ (h : Headers). run h (under_from (suc n) path here) ≡ turn_as h n path' found) same (turn n)

  pub goes_on : (found : Turn) (next : Term) → found ≡ On next → ((n : ℕ) → run now (under_from (suc n) path here) ≡ turn_as now n path' found)
      → (n : ℕ) → n + (i + 1) ≡ most_steps → run headers (under t) ≡ run headers (under_from n path' (type_of next))
  goes_on found next is turn n left = one_turn found turn n (omega arith) ∙ ap (turn_as headers n path') is

  pub ends : i < 18446744073709551615 → (found : Turn) (reached : Reached) → found ≡ End reached → ((n : ℕ) → run now (under_from (suc n) path here) ≡ turn_as now n path' found)
      → reached_as type_of reached ≡ run headers (under t)
  ends lt found reached is turn =
      let n = most_steps - suc i in
      sym (one_turn found turn n (turn_left most_steps i (within i lt)) ∙ ap (turn_as headers n path') is)

  fault_known : i < 18446744073709551615 → (fault : TermFault) → ((n : ℕ) → run now (under_from (suc n) path here) ≡ Decided (Exceeds fault)) → run headers (under t) ≡ Decided (Exceeds fault)
  fault_known lt fault cause =
      let n = most_steps - suc i in
      chain (suc n) (turn_left most_steps i (within i lt)) ∙ subst (λ (h : Headers). run h (under_from (suc n) path here) ≡ Decided (Exceeds fault)) same (cause n)

  pub fails : i < 18446744073709551615 → (fault : TermFault) → IsTurnCause fault now (λ n. under_from (suc n) path here) → IsReachCause fault headers t
  fails lt NoMemory cause = tt
  fails lt Deep cause = fault_known lt Deep cause
  fails lt Large cause = fault_known lt Large cause
