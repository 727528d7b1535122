-- Lemmas on build constraints: what leads up to one, where its line begins, and the list of them.
use Rattle.std.proofs.Common.{◌≡◌, ◌≢◌, ℕ, ◌+◌, ◌-◌, ◌<◌, ◌≤◌, true, false, List, [], ◌∷◌, ◌++◌, length, get_or, slice_index, Some, ◌⊎◌, inl, inr, ⊎_elim, sym, ap, subst, ◌∙◌, arith, append_assoc}
use Rattle.std.specs.List.{AllPairs, Contains}
use Rattle.std.proofs.lemmas.Bool.{cases_lt, cases_order, false≢true, and_parts}
use Rattle.std.proofs.lemmas.List.{append-nil, length_push, get_or_push, get_or_append_left}
use Rattle.std.proofs.lemmas.List.Elements.{Contains-push, Contains-push_cases, Contains-append_left, Contains-get_or}
use Rattle.go_tree.specs.Lexical.Characters.{decoded_at, is_white_space, is_allowed, Run, none as run_none, more as run_more}
use Rattle.go_tree.specs.Lexical.Comments.{Closes, IsLineComment, IsGeneralComment, in_line_comment}
use Rattle.go_tree.specs.Lexical.Scan.{Space, white, line, general, mark, Gap, none, more}
use Rattle.go_tree.proofs.ByteLemmas.{byte_char}
use Rattle.go_tree.proofs.ContinuationLemmas.{behind_first}
use Rattle.go_tree.proofs.SpaceLemmas.{some_same, slash_no_blank, closes_within, space_lies, one_space, no_mark}
use Rattle.go_tree.proofs.CharacterRunLemmas.{char_lies, run_from}
use Rattle.go_form.specs.BuildConstraints.{BeginsLine, is_build_line, IsBuildConstraint, AreBuildConstraints, GetsBuildConstraints}

-- a gap, by what is passed over first
data Ahead (bytes : List ℕ) : ℕ → ℕ → Type 0 where
  stop : {at : ℕ} → Ahead bytes at at
  step : {at m to : ℕ} → Space bytes at m → Ahead bytes m to → Ahead bytes at to

behind : {bytes : List ℕ} {from at to : ℕ} → Ahead bytes from at → Space bytes at to → Ahead bytes from to
behind stop s = step s stop
behind (step q rest) s = step q (behind rest s)

ahead : {bytes : List ℕ} {from to : ℕ} → Gap false bytes from to → Ahead bytes from to
ahead none = stop
ahead (more g p) = behind (ahead g) p.0

ahead_from : {bytes : List ℕ} {from to : ℕ} → Ahead bytes from to → from ≤ to
ahead_from stop = omega arith
ahead_from (step s rest) = let l = (space_lies _ _ _ s).behind in let r = ahead_from rest in omega (arith, l, r)

-- of two gaps from one place on, one goes on where the other ends
fork : {bytes : List ℕ} {from a c : ℕ} → Ahead bytes from a → Ahead bytes from c → Ahead bytes a c ⊎ Ahead bytes c a
fork stop q = inl q
fork (step s g) stop = inr (step s g)
fork {bytes} {from} {a} {c} (step {m = m} s g) (step {m = n} t h) =
    let same : n ≡ m = one_space bytes from n m t s in
    fork g (subst (λ (x : ℕ). Ahead bytes x c) same h)

-- what stands where a gap goes on
pub record Goes (bytes : List ℕ) (at clause : ℕ) : Type 0 where
  pub to : ℕ
  pub space : Space bytes at to
  pub within : to ≤ clause

goes : (bytes : List ℕ) (at clause : ℕ) → at < clause → Ahead bytes at clause ⊎ Ahead bytes clause at → Goes bytes at clause
goes bytes at clause lt (inl stop) = absurd (omega (arith, lt))
goes bytes at clause lt (inl (step {m = m} s rest)) = record { to = m; space = s; within = ahead_from rest }
goes bytes at clause lt (inr back) = absurd (omega (arith, lt, ahead_from back))

pub goes_on : (bytes : List ℕ) (at clause : ℕ) → Gap false bytes 0 at → Gap false bytes 0 clause → at < clause → Goes bytes at clause
goes_on bytes at clause g h lt = goes bytes at clause lt (fork (ahead g) (ahead h))

-- no gap ends within space
apart : (bytes : List ℕ) (at to n : ℕ) → Space bytes at to → Ahead bytes at n ⊎ Ahead bytes n at → (n ≤ at) ⊎ (to ≤ n)
apart bytes at to n s (inl stop) = inl (omega arith)
apart bytes at to n s (inl (step {m = m} t rest)) = let same = one_space bytes at to m s t in let r = ahead_from rest in inr (omega (arith, same, r))
apart bytes at to n s (inr back) = inl (ahead_from back)

between : (bytes : List ℕ) (at to n : ℕ) → Gap false bytes 0 at → Space bytes at to → Gap false bytes 0 n → (n ≤ at) ⊎ (to ≤ n)
between bytes at to n g s h = apart bytes at to n s (fork (ahead g) (ahead h))

pub gap_more : (bytes : List ℕ) (at to : ℕ) → Gap false bytes 0 at → Space bytes at to → Gap false bytes 0 to
gap_more bytes at to g s = more g (s, λ e. absurd (false≢true e))

-- a mark, or the comment that the bytes open, is the space that stands there
pub mark_there : (bytes : List ℕ) (at to : ℕ) → Space bytes at to → is_white_space (slice_index bytes at) ≡ false → slice_index bytes at ≢ 47 → Space bytes at (at + (decoded_at bytes at).size) × (at + (decoded_at bytes at).size ≤ length bytes)
mark_there bytes at to (white b) other slash = absurd (false≢true (sym other ∙ b))
mark_there bytes at to (line c) other slash = absurd (slash c.opens.0)
mark_there bytes at to (general c) other slash = absurd (slash c.opens.0)
mark_there bytes at to (mark start char) other slash = let s = mark start char in (s, (space_lies bytes at _ s).within)

pub line_there : (bytes : List ℕ) (at to : ℕ) → Space bytes at to → slice_index bytes at ≡ 47 → slice_index bytes (at + 1) ≡ 47 → IsLineComment bytes at to
line_there bytes at to (white b) slash next = absurd (slash_no_blank _ slash b)
line_there bytes at to (line c) slash next = c
line_there bytes at to (general c) slash next = absurd (omega (arith, next, c.opens.1))
line_there bytes at to (mark start char) slash next = absurd (no_mark bytes at 46 slash (omega arith) char)

pub general_there : (bytes : List ℕ) (at to : ℕ) → Space bytes at to → slice_index bytes at ≡ 47 → slice_index bytes (at + 1) ≢ 47 → IsGeneralComment bytes at to
general_there bytes at to (white b) slash next = absurd (slash_no_blank _ slash b)
general_there bytes at to (line c) slash next = absurd (next c.opens.1)
general_there bytes at to (general c) slash next = c
general_there bytes at to (mark start char) slash next = absurd (no_mark bytes at 46 slash (omega arith) char)

-- where a general comment lies, and that its end is the first `*/`
pub general_from : (bytes : List ℕ) (from to : ℕ) → IsGeneralComment bytes from to → from + 2 + 2 ≤ to
general_from bytes from to c = let past = run_from c.inside in let end = c.ends in omega (arith, past, end)

pub general_within : (bytes : List ℕ) (from to : ℕ) → IsGeneralComment bytes from to → to ≤ length bytes
general_within bytes from to c = let w = closes_within bytes c.close c.closes in let end = c.ends in omega (arith, w, end)

pub general_on : (bytes : List ℕ) (from at to : ℕ) → IsGeneralComment bytes from to → at + 2 ≤ to → (Closes bytes at → ⊥) → at + 1 + 2 ≤ to
general_on bytes from at to c le unclosed =
    let end = c.ends in
    let other : at ≢ c.close = λ same. unclosed (subst (Closes bytes) (sym same) c.closes) in
    omega (arith, end, le, other)

pub general_here : (bytes : List ℕ) (from at to : ℕ) → IsGeneralComment bytes from to → from + 2 ≤ at → at + 2 ≤ to → Closes bytes at → IsGeneralComment bytes from (at + 2)
general_here bytes from at to c ge le closes =
    let end = c.ends in
    let last : c.close ≤ at = ⊎_elim (λ (lt : at < c.close). absurd (c.first at ge (omega (arith, lt)) closes)) (λ (there : c.close ≤ at). there) (cases_lt at c.close) in
    let same : to ≡ at + 2 = omega (arith, end, le, last) in
    subst (IsGeneralComment bytes from) same c

no_newline_at : (bytes : List ℕ) (at c before : ℕ) → (decoded_at bytes at).char ≡ Some c → in_line_comment before c ≡ true → slice_index bytes at ≡ 10 → ⊥
no_newline_at bytes at c before char passes ends_line =
    let ten = byte_char bytes at 9 ends_line (omega arith) in
    let c10 : c ≡ 10 = some_same c 10 (sym char ∙ ten) in
    false≢true (rw c10 at (and_parts (is_allowed c) _ passes).1)

-- no newline stands within a line comment
no_newline : {bytes : List ℕ} {from to : ℕ} → Run in_line_comment bytes from to → (k : ℕ) → from ≤ k → k < to → slice_index bytes k ≡ 10 → ⊥
no_newline run_none k ge lt ends_line = absurd (omega (arith, ge, lt))
no_newline {bytes} {from} {to} (run_more {at} {c} r char passes) k ge lt ends_line = ⊎_elim
    (λ (same : k ≡ at). no_newline_at bytes at c (slice_index bytes (at - 1)) char passes (subst (λ (x : ℕ). slice_index bytes x ≡ 10) same ends_line))
    (λ other. ⊎_elim
    (λ (below : k < at). no_newline r k ge below ends_line)
    (λ (above : at < k). behind_first bytes 10 at k (omega arith) above lt (char_lies bytes at c char).small ends_line)
    other)
    (cases_order k at)

-- where a line comment lies, and that it ends at the first newline
pub line_from : (bytes : List ℕ) (from to : ℕ) → IsLineComment bytes from to → from + 2 ≤ to
line_from bytes from to c = run_from c.inside

pub line_here : (bytes : List ℕ) (from at to : ℕ) → IsLineComment bytes from to → from + 2 ≤ at → at ≤ to → slice_index bytes at ≡ 10 → IsLineComment bytes from at
line_here bytes from at to c ge le ends_line =
    let last : to ≤ at = ⊎_elim (λ (lt : at < to). absurd (no_newline c.inside at ge lt ends_line)) (λ (there : to ≤ at). there) (cases_lt at to) in
    let same : to ≡ at = omega (arith, le, last) in
    subst (IsLineComment bytes from) same c

-- the list, as the offset goes on
pub gets_none : (bytes old : List ℕ) → GetsBuildConstraints bytes 0 old old
gets_none bytes old = record {
  list = [];
  behind = sym (append-nil old);
  are = record {
    ascending = λ i j d lt within. absurd (omega (arith, lt, within));
    same = λ at. ((λ h. let lt = h.1 in absurd (omega (arith, lt))), (λ h. let lt = h.before in absurd (omega (arith, lt))));
  };
}

abbrev IsHere : List ℕ → ℕ → Type 0
IsHere bytes at = BeginsLine bytes at × (is_build_line bytes at ≡ true)

less_reach : (bytes : List ℕ) (at to n : ℕ) → IsBuildConstraint bytes to n → n < at → IsBuildConstraint bytes at n
less_reach bytes at to n b lt = record { before = lt; reached = b.reached; line = b.line; text = b.text }

more_reach : (bytes : List ℕ) (at to n : ℕ) → IsBuildConstraint bytes at n → at < to → IsBuildConstraint bytes to n
more_reach bytes at to n b lt = let before = b.before in record { before = omega (arith, before, lt); reached = b.reached; line = b.line; text = b.text }

-- a constraint before the end of a space stands before it or where it begins
earlier : (bytes : List ℕ) (at to n : ℕ) → Gap false bytes 0 at → Space bytes at to → IsBuildConstraint bytes to n → IsBuildConstraint bytes at n ⊎ ((n ≡ at) × IsHere bytes at)
earlier bytes at to n g s b = ⊎_elim
    (λ (same : n ≡ at). inr (same, subst (IsHere bytes) same (b.line, b.text)))
    (λ other. ⊎_elim
    (λ (lt : n < at). inl (less_reach bytes at to n b lt))
    (λ (gt : at < n). let before = b.before in absurd (⊎_elim (λ (le : n ≤ at). omega (arith, gt, le)) (λ (ge : to ≤ n). omega (arith, before, ge)) (between bytes at to n g s b.reached)))
    other)
    (cases_order n at)

pub are_skipped : (bytes : List ℕ) (at to : ℕ) (list : List ℕ) → Gap false bytes 0 at → Space bytes at to → (IsHere bytes at → ⊥) → AreBuildConstraints bytes at list → AreBuildConstraints bytes to list
are_skipped bytes at to list g s not_here h = record {
  ascending = h.ascending;
  same = λ n. (
    (λ c. more_reach bytes at to n ((h.same n).0 c) (space_lies bytes at to s).behind),
    (λ b. ⊎_elim (λ e. (h.same n).1 e) (λ e. absurd (not_here e.1)) (earlier bytes at to n g s b)),
  );
}

pairs_push : (list : List ℕ) (at : ℕ) → AllPairs (λ a b. a < b) list → ((n : ℕ) → Contains list n → n < at) → AllPairs (λ a b. a < b) (list ++ at ∷ [])
pairs_push list at up below i j d lt within =
    let long = length_push list at in
    let first : get_or (list ++ at ∷ []) i d ≡ get_or list i d = get_or_append_left list (at ∷ []) d i (omega (arith, lt, within, long)) in
    ⊎_elim
    (λ (inner : j < length list). subst (λ (x : ℕ). x < get_or (list ++ at ∷ []) j d) (sym first) (subst (λ (x : ℕ). get_or list i d < x) (sym (get_or_append_left list (at ∷ []) d j inner)) (up i j d lt inner)))
    (λ (last : length list ≤ j).
    let end : j ≡ length list = omega (arith, last, within, long) in
    let there : get_or (list ++ at ∷ []) j d ≡ at = get_or_push list at d j (sym end) in
    let small : get_or list i d < at = below _ (Contains-get_or list i d (omega (arith, lt, end))) in
    omega (arith, first, there, small))
    (cases_lt j (length list))

pub are_added : (bytes : List ℕ) (at to : ℕ) (list : List ℕ) → Gap false bytes 0 at → Space bytes at to → IsHere bytes at → AreBuildConstraints bytes at list → AreBuildConstraints bytes to (list ++ at ∷ [])
are_added bytes at to list g s here h =
    let lt = (space_lies bytes at to s).behind in
    record {
      ascending = pairs_push list at h.ascending (λ n c. ((h.same n).0 c).before);
      same = λ n. (
        (λ c. ⊎_elim (λ (e : Contains list n). more_reach bytes at to n ((h.same n).0 e) lt) (λ (e : at ≡ n). subst (IsBuildConstraint bytes to) e (record { before = lt; reached = g; line = here.0; text = here.1 })) (Contains-push_cases list at n c)),
        (λ b. ⊎_elim (λ (e : IsBuildConstraint bytes at n). Contains-append_left list (at ∷ []) n ((h.same n).1 e)) (λ e. subst (Contains (list ++ at ∷ [])) (sym e.0) (Contains-push list at)) (earlier bytes at to n g s b)),
      );
    }

pub gets_more : (bytes : List ℕ) (at to : ℕ) (old mid new : List ℕ) → Gap false bytes 0 at → Space bytes at to → GetsBuildConstraints bytes at old mid
    → (BeginsLine bytes at × (is_build_line bytes at ≡ true) × (new ≡ mid ++ at ∷ [])) ⊎ ((BeginsLine bytes at → is_build_line bytes at ≡ true → ⊥) × (new ≡ mid)) → GetsBuildConstraints bytes to old new
gets_more bytes at to old mid new g s h (inl added) = record {
  list = h.list ++ at ∷ [];
  behind = added.2 ∙ ap (λ xs. xs ++ at ∷ []) h.behind ∙ append_assoc old h.list (at ∷ []);
  are = are_added bytes at to h.list g s (added.0, added.1) h.are;
}
gets_more bytes at to old mid new g s h (inr skipped) = record {
  list = h.list;
  behind = skipped.1 ∙ h.behind;
  are = are_skipped bytes at to h.list g s (λ here. skipped.0 here.0 here.1) h.are;
}

-- where space ends that stands before the package clause
pub goes_within : (bytes : List ℕ) (at to clause : ℕ) → Gap false bytes 0 at → Gap false bytes 0 clause → at < clause → Space bytes at to → (at < to) × (to ≤ clause)
goes_within bytes at to clause g h lt s =
    let on = goes_on bytes at clause g h lt in
    let same : on.to ≡ to = one_space bytes at on.to to on.space s in
    ((space_lies bytes at to s).behind, subst (λ (x : ℕ). x ≤ clause) same on.within)
