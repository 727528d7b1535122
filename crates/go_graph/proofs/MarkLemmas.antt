-- Marks, and the stack of a search.
use Rattle.std.proofs.Common.{◌≡◌, ℕ, zero, suc, ◌+◌, ◌<◌, Bool, true, false, ◌⊎◌, List, [], ◌∷◌, ◌++◌, length, refl, sym, ap, ◌∙◌, subst, inl, inr, ⊎_elim, arith}
use Rattle.std.specs.Prelude.{◌↔◌, slice_set, replicate, Contains}
use Rattle.std.proofs.lemmas.Bool.{cases_eq}
use Rattle.std.proofs.lemmas.List.{length-append, length-replicate, length-set}
use Rattle.std.proofs.lemmas.List.Elements.{Contains-append_left, Contains-push, Contains-push_cases}
use Rattle.go_graph.specs.Graph.{Graph, HasEdge, ReachedFrom, start, further, is_marked}
use Rattle.go_graph.specs.Marks.{unmarked_count, Extends, IsSearch}
use Rattle.go_graph.specs.declared.reach.Search.{Search}
use Rattle.go_graph.proofs.PlaceLemmas.{at_set, at_set_other}

-- what is marked has a place
pub marked_within : (marks : List Bool) (v : ℕ) → is_marked marks v ≡ true → v < length marks
marked_within [] v e = cc
marked_within (m ∷ marks) zero e = omega arith
marked_within (m ∷ marks) (suc v) e = let r = marked_within marks v e in omega arith

-- one mark set

pub marked_here : (marks : List Bool) (w : ℕ) → w < length marks → is_marked (slice_set marks w true) w ≡ true
marked_here marks w lt = at_set false marks w true lt

pub only_set : (marks : List Bool) (w v : ℕ) → is_marked (slice_set marks w true) v ≡ true → (is_marked marks v ≡ true) ⊎ (w ≡ v)
only_set marks w v e =
    ⊎_elim (λ (here : w ≡ v). inr here) (λ (ne : w ≡ v → ⊥). inl (sym (at_set_other false marks w v true ne) ∙ e)) (cases_eq w v)

kept_set : (marks : List Bool) (w : ℕ) → w < length marks → (v : ℕ) → is_marked marks v ≡ true → is_marked (slice_set marks w true) v ≡ true
kept_set marks w lt v e =
    ⊎_elim
    (λ (here : w ≡ v). subst (λ n. is_marked (slice_set marks w true) n ≡ true) here (marked_here marks w lt))
    (λ (ne : w ≡ v → ⊥). at_set_other false marks w v true ne ∙ e)
    (cases_eq w v)

count_set : (marks : List Bool) (w : ℕ) → w < length marks → is_marked marks w ≡ false → unmarked_count (slice_set marks w true) + 1 ≡ unmarked_count marks
count_set [] w lt e = absurd (omega arith)
count_set (false ∷ marks) zero lt e = omega arith
count_set (true ∷ marks) zero lt e = cc
count_set (false ∷ marks) (suc w) lt e = let r = count_set marks w (omega arith) e in omega arith
count_set (true ∷ marks) (suc w) lt e = count_set marks w (omega arith) e

-- nothing marked, and one mark alone

none_marked : (n v : ℕ) → is_marked (replicate n false) v ≡ true → ⊥
none_marked zero v e = cc
none_marked (suc n) zero e = cc
none_marked (suc n) (suc v) e = none_marked n v e

pub alone : (n w v : ℕ) → w < n → (is_marked (slice_set (replicate n false) w true) v ≡ true) ↔ (w ≡ v)
alone n w v lt =
    let none = replicate n false in
    let within : w < length none = omega (arith, length-replicate n false) in (
      λ e. ⊎_elim (λ (was : is_marked none v ≡ true). absurd (none_marked n v was)) (λ (here : w ≡ v). here) (only_set none w v e),
      λ here. subst (λ k. is_marked (slice_set none w true) k ≡ true) here (marked_here none w within),
    )

-- a vertex that is marked newly is put on the stack
pub set_extends : (old new : Search) (w : ℕ) → w < length old.marks.items → is_marked old.marks.items w ≡ false → new.marks.items ≡ slice_set old.marks.items w true → new.stack.items ≡ old.stack.items ++ w ∷ [] → Extends old new
set_extends old new w lt unset marks stack =
    let lengths : length new.stack.items ≡ length old.stack.items + 1 = ap length stack ∙ length-append old.stack.items (w ∷ []) in
    let count : unmarked_count new.marks.items + 1 ≡ unmarked_count old.marks.items = ap (λ ms. unmarked_count ms + 1) marks ∙ count_set old.marks.items w lt unset in
    let has : Contains new.stack.items w = subst (λ (xs : List ℕ). Contains xs w) (sym stack) (Contains-push old.stack.items w) in
    let as_set : (v : ℕ) → is_marked new.marks.items v ≡ is_marked (slice_set old.marks.items w true) v = λ v. ap (λ (ms : List Bool). is_marked ms v) marks in
    record {
      same_length = ap length marks ∙ length-set old.marks.items w true;
      keeps = λ v e. as_set v ∙ kept_set old.marks.items w lt v e;
      put = λ v is. ⊎_elim
          (λ (was : is_marked old.marks.items v ≡ true). inl was)
          (λ (here : w ≡ v). inr (subst (Contains new.stack.items) here has))
          (only_set old.marks.items w v (sym (as_set v) ∙ is));
      stays = λ v on. subst (λ (xs : List ℕ). Contains xs v) (sym stack) (Contains-append_left old.stack.items (w ∷ []) v on);
      only = λ v on. ⊎_elim
          (λ (was : Contains old.stack.items v). inl was)
          (λ (here : w ≡ v). inr (subst (λ n. is_marked new.marks.items n ≡ true) here (as_set w ∙ marked_here old.marks.items w lt)))
          (Contains-push_cases old.stack.items w v (subst (λ (xs : List ℕ). Contains xs v) stack on));
      once = omega arith;
    }

pub extends_none : (search : Search) → Extends search search
extends_none search = record {
  same_length = refl;
  keeps = λ v e. e;
  put = λ v e. inl e;
  stays = λ v has. has;
  only = λ v has. inl has;
  once = refl;
}

pub extends_more : (a b c : Search) → Extends a b → Extends b c → Extends a c
extends_more a b c p q = record {
  same_length = q.same_length ∙ p.same_length;
  keeps = λ v e. q.keeps v (p.keeps v e);
  put = λ v e. ⊎_elim
      (λ (mid : is_marked b.marks.items v ≡ true). ⊎_elim (λ (old : is_marked a.marks.items v ≡ true). inl old) (λ (on : Contains b.stack.items v). inr (q.stays v on)) (p.put v mid))
      (λ (on : Contains c.stack.items v). inr on)
      (q.put v e);
  stays = λ v has. q.stays v (p.stays v has);
  only = λ v on. ⊎_elim
      (λ (mid : Contains b.stack.items v). ⊎_elim (λ (old : Contains a.stack.items v). inl old) (λ (is : is_marked b.marks.items v ≡ true). inr (q.keeps v is)) (p.only v mid))
      (λ (is : is_marked c.marks.items v ≡ true). inr is)
      (q.only v on);
  once = q.once ∙ p.once;
}

pub ruleset mark_lemmas = (set_extends, extends_none, only_set, marked_here)

-- the search: its begin, its step and its end

pub search_begins : (g : Graph) (starts : List Bool) (search : Search) → length starts ≡ length g → search.marks.items ≡ starts → ((v : ℕ) → Contains search.stack.items v ↔ (is_marked starts v ≡ true)) → IsSearch g (λ s. is_marked starts s ≡ true) search
search_begins g starts search lengths same on =
    let as_starts : (v : ℕ) → is_marked search.marks.items v ≡ is_marked starts v = λ v. ap (λ (ms : List Bool). is_marked ms v) same in
    record {
      length_is = ap length same ∙ lengths;
      sound = λ v e. start v (sym (as_starts v) ∙ e);
      on_stack = λ v has. as_starts v ∙ (on v).0 has;
      first = λ v e. as_starts v ∙ e;
      closed = λ a b e _. inr ((on a).1 (sym (as_starts a) ∙ e));
    }

module _ (g : Graph) (IsStart : ℕ → Type 0) where
  -- the vertex on top of the stack is taken, and what its edges lead to is marked
  pub search_goes_on : (vertex : ℕ) (old taken new : Search) → taken.marks.items ≡ old.marks.items → old.stack.items ≡ taken.stack.items ++ vertex ∷ [] → IsSearch g IsStart old → Extends taken new → ((v : ℕ) → is_marked new.marks.items v ≡ true → (is_marked taken.marks.items v ≡ true) ⊎ HasEdge g vertex v) → ((v : ℕ) → HasEdge g vertex v → is_marked new.marks.items v ≡ true) → IsSearch g IsStart new
  search_goes_on vertex old taken new marks split so_far did only all =
      let was_marked : (v : ℕ) → is_marked taken.marks.items v ≡ is_marked old.marks.items v = λ v. ap (λ (ms : List Bool). is_marked ms v) marks in
      let kept : (v : ℕ) → is_marked old.marks.items v ≡ true → is_marked new.marks.items v ≡ true = λ v e. did.keeps v (was_marked v ∙ e) in
      let on : (v : ℕ) → Contains (taken.stack.items ++ vertex ∷ []) v → is_marked old.marks.items v ≡ true = λ v has. so_far.on_stack v (subst (λ (xs : List ℕ). Contains xs v) (sym split) has) in
      let here = so_far.sound vertex (on vertex (Contains-push taken.stack.items vertex)) in
      record {
        length_is = did.same_length ∙ ap length marks ∙ so_far.length_is;
        sound = λ v e. ⊎_elim
            (λ (was : is_marked taken.marks.items v ≡ true). so_far.sound v (sym (was_marked v) ∙ was))
            (λ (leads : HasEdge g vertex v). further vertex v here leads)
            (only v e);
        on_stack = λ v has. ⊎_elim
            (λ (was : Contains taken.stack.items v). kept v (on v (Contains-append_left taken.stack.items (vertex ∷ []) v was)))
            (λ (is : is_marked new.marks.items v ≡ true). is)
            (did.only v has);
        first = λ v e. kept v (so_far.first v e);
        closed = λ a b e leads. ⊎_elim
            (λ (was : is_marked taken.marks.items a ≡ true). ⊎_elim
            (λ (is : is_marked old.marks.items b ≡ true). inl (kept b is))
            (λ (has : Contains old.stack.items a). ⊎_elim
            (λ (still : Contains taken.stack.items a). inr (did.stays a still))
            (λ (now : vertex ≡ a). inl (all b (subst (λ n. HasEdge g n b) (sym now) leads)))
            (Contains-push_cases taken.stack.items vertex a (subst (λ (xs : List ℕ). Contains xs a) split has)))
            (so_far.closed a b (sym (was_marked a) ∙ was) leads))
            (λ (has : Contains new.stack.items a). inr has)
            (did.put a e);
      }

  -- with nothing on the stack, all that is reached is marked
  along : (search : Search) → IsSearch g IsStart search → length search.stack.items ≡ 0 → (v : ℕ) → ReachedFrom g IsStart v → is_marked search.marks.items v ≡ true
  along search s none v (start _ e) = s.first v e
  along search s none v (further a _ r e) =
      ⊎_elim
      (λ (is : is_marked search.marks.items v ≡ true). is)
      (λ (has : Contains search.stack.items a). absurd (omega (arith, has.1, none)))
      (s.closed a v (along search s none a r) e)

  pub search_ends : (search : Search) → IsSearch g IsStart search → length search.stack.items ≡ 0 → (v : ℕ) → (is_marked search.marks.items v ≡ true) ↔ ReachedFrom g IsStart v
  search_ends search s none v = (s.sound v, along search s none v)
