-- Each node that is read has a run of tokens, and its span.
use Rattle.std.proofs.Common.{◌≡◌, ℕ, Bool, true, false, not, List, [], ◌∷◌, ◌++◌, refl, sym, ap, subst, ◌∙◌, cond, None, Some, ◌||◌, ◌&&◌, append_assoc}
use Rattle.std.proofs.lemmas.List.{append-nil}
use Rattle.std.proofs.lemmas.Bool.{and_parts, or_right}
use Rattle.go_tree.specs.declared.token.Token.{Token}
use Rattle.go_tree.specs.declared.token.TokenKind.{TokenKind}
use Rattle.go_tree.specs.Tree.{Tree, branch, Trees, no_trees, more_trees, start_of, end_of}
use Rattle.go_tree.specs.Grammar.RightSide.{RightSide, Do, Call, Nothing, Seq, Or, Many, When, Act, Pass, Open, Reopen, Adopt, CheckType, Close}
use Rattle.go_tree.specs.Grammar.Tables.TokenKinds.{same_kind}
use Rattle.go_tree.specs.Grammar.Trees.Reading.{State, OpenNode, Reads, at_end, does, calls, nothing, in_turn, left, right, done, again, chosen, passed_by, acted, passed, next_start, reopen, adopt, close_last, ends_in_type, before, newest_of, tree_read}
use Rattle.go_tree.specs.Grammar.Tables.Prediction.{Tables, is_empty}
use Rattle.go_tree.specs.Grammar.Trees.Spans.{HasSpans, HasRun, HaveRuns}
use Rattle.go_tree.proofs.TruthLemmas.{again_starts, call_starts, left_starts, right_starts, seq_starts}
use Rattle.go_tree.proofs.SpanActLemmas.{ends_early, end_early, has_tokens, HasTokens, HaveTokens, ends, Runs, all_of, is_bare, Frames, wider, end_after, longer_by, has_one, pass_frames, pass_row, not_bare, innermost, Turns, no_turn, reopen_turns, adopt_turns, close_turns}

-- ---- acts

module _ (N : Type 0) (P : N → RightSide N) (bytes : List ℕ) (T : Tables N) (E : N → Bool) (early_right : (n : N) → ends_early T E (P n) ≡ true → E n ≡ true) (empty_right : (n : N) → is_empty T (P n) ≡ true → T.empty n ≡ true) (tokens_right : (n : N) → has_tokens T E (P n) ≡ true) where
  abbrev Quiet : List (RightSide N) → List (List Token) → Type 0
  Quiet gs ms = end_early T E gs ≡ true → is_bare ms ≡ true → ⊥

  -- where a reading stands behind some tokens
  record Stands (gs : List (RightSide N)) (s : State) (front : List Token) : Type 0 where
    since : List (List Token)
    last : s.last ≡ ends front
    row : front ≡ all_of since
    frames : Frames s.last s.rest since s.open_nodes
    have : HaveTokens T E gs
    quiet : Quiet gs since

  -- and where it stands after further ones
  Later : List (RightSide N) → List Token → List Token → State → Type 0
  Later gs front rest m = (more : List Token) × (rest ≡ more ++ m.rest) × Stands gs m (front ++ more)

  same_place : (gs : List (RightSide N)) (front : List Token) (m : State) → Stands gs m front → Later gs front m.rest m
  unfolding Later
  same_place gs front m h = ([], refl, subst (Stands gs m) (sym (append-nil front)) h)

  ends_snoc : (front : List Token) (t : Token) → t.end ≡ ends (front ++ (t ∷ []))
  ends_snoc front t = sym (end_after front t [])

  pass_step : (k : TokenKind) (gs : List (RightSide N)) (last : ℕ) (rest : List Token) (fs : List OpenNode) (m : State) (front : List Token) (ms : List (List Token)) → passed k rest fs ≡ Some m → front ≡ all_of ms → Frames last rest ms fs → HaveTokens T E gs → Later gs front rest m
  unfolding Later
  pass_step k gs last [] fs m front ms h row frames have = cc
  pass_step k gs last (t ∷ ts) fs m front ms h row frames have = go (same_kind k t.kind) h
    where
      go : (b : Bool) → cond b (Some (record { last = t.end; rest = ts; open_nodes = fs })) None ≡ Some m → Later gs front (t ∷ ts) m
      go false h = cc
      go true h =
          let q : record { last = t.end; rest = ts; open_nodes = fs } ≡ m = cc in
          subst (λ x. Later gs front (t ∷ ts) x) q (
            t ∷ [],
            refl,
            record {
              since = longer_by t ms;
              last = ends_snoc front t;
              row = pass_row t ms fs last (t ∷ ts) front frames row;
              frames = pass_frames last t ts ms fs frames;
              have = have;
              quiet = λ e z. let y = not_bare t ms in cc;
            },
          )

  opened : (last : ℕ) (rest : List Token) (ms : List (List Token)) (fs : List OpenNode) → Frames last rest ms fs → (ns : List (List Token)) × Frames last rest ns (record { start = next_start last rest; parts = [] } ∷ fs) × (all_of ms ≡ all_of ns)
  opened last rest [] [] h = absurd h
  opened last rest [] (f ∷ fs) h = absurd h
  opened last rest (m ∷ ms) [] h = absurd h
  opened last rest (m ∷ ms) (f ∷ fs) h = ([] ∷ (m ∷ ms), (refl, tt, h), sym (append-nil (all_of (m ∷ ms))))

  -- an act that passes no token
  turn : (gs : List (RightSide N)) (front : List Token) (last : ℕ) (rest : List Token) (ms : List (List Token)) (fs : List OpenNode) (m : State) → record { last = last; rest = rest; open_nodes = fs } ≡ m → last ≡ ends front → front ≡ all_of ms → HaveTokens T E gs → Turns last rest ms fs → (end_early T E gs ≡ true → is_bare ms ≡ true → ⊥) → Later gs front rest m
  unfolding Turns
  turn gs front last rest ms fs m q ended row have t quiet = subst (λ x. Later gs front rest x) q (same_place gs front (record { last = last; rest = rest; open_nodes = fs }) (record { since = t.0; last = ended; row = row ∙ t.2; frames = t.1; have = have; quiet = λ e z. quiet e (t.3 z) }))

  checked_same : (b : Bool) (s m : State) → cond b (Some s) None ≡ Some m → s ≡ m
  checked_same true s m h = cc
  checked_same false s m h = cc

  act_step : (a : Act) (gs : List (RightSide N)) (s m : State) (front : List Token) → acted bytes a s ≡ Some m → Stands (Do a ∷ gs) s front → Later gs front s.rest m
  act_step (Pass k) gs s m front h st = pass_step k gs s.last s.rest s.open_nodes m front st.since h st.row st.frames st.have.1
  act_step Open gs s m front h st =
      let q : record { last = s.last; rest = s.rest; open_nodes = record { start = next_start s.last s.rest; parts = [] } ∷ s.open_nodes } ≡ m = cc in
      let new = opened s.last s.rest st.since s.open_nodes st.frames in
      turn gs front s.last s.rest new.0 (record { start = next_start s.last s.rest; parts = [] } ∷ s.open_nodes) m q st.last (st.row ∙ new.2) st.have.1 (no_turn s.last s.rest new.0 (record { start = next_start s.last s.rest; parts = [] } ∷ s.open_nodes) new.1) (λ e z. let y = st.have.0 in cc)
  act_step Reopen gs s m front h st =
      let q : record { last = s.last; rest = s.rest; open_nodes = reopen s.open_nodes } ≡ m = cc in
      turn gs front s.last s.rest st.since (reopen s.open_nodes) m q st.last st.row st.have.1 (reopen_turns s.last s.rest st.since s.open_nodes st.frames) st.quiet
  act_step Adopt gs s m front h st =
      let q : record { last = s.last; rest = s.rest; open_nodes = adopt s.open_nodes } ≡ m = cc in
      turn gs front s.last s.rest st.since (adopt s.open_nodes) m q st.last st.row st.have.1 (adopt_turns s.last s.rest st.since s.open_nodes st.frames) st.quiet
  act_step CheckType gs s m front h st = turn gs front s.last s.rest st.since s.open_nodes m (checked_same (ends_in_type s.open_nodes) s m h) st.last st.row st.have.1 (no_turn s.last s.rest st.since s.open_nodes st.frames) st.quiet
  act_step (Close k) gs s m front h st =
      let q : record { last = s.last; rest = s.rest; open_nodes = close_last bytes k s.last s.open_nodes } ≡ m = cc in
      turn gs front s.last s.rest st.since (close_last bytes k s.last s.open_nodes) m q st.last st.row st.have.1 (close_turns bytes k s.last s.rest front st.since s.open_nodes st.last st.row (st.quiet refl) st.frames) (λ e. st.quiet refl)

  -- ---- readings

  not_so : (a : Bool) → not a ≡ true → a ≡ false
  not_so true h = cc
  not_so false h = refl

  neither : (a b c : Bool) → a ≡ false → b ≡ false → (a || (b && c)) ≡ false
  neither true b c h k = cc
  neither false true c h k = cc
  neither false false c h k = refl

  lone : (g : RightSide N) (gs : List (RightSide N)) → has_tokens T E g ≡ true → HasTokens T E g gs
  lone (Do (Pass k)) gs h = h
  lone (Do Open) gs h = cc
  lone (Do Reopen) gs h = h
  lone (Do Adopt) gs h = h
  lone (Do CheckType) gs h = h
  lone (Do (Close k)) gs h = h
  lone (Call n) gs h = h
  lone Nothing gs h = h
  lone (Seq g f) gs h = h
  lone (Or g f) gs h = h
  lone (Many g) gs h = h
  lone (When a g f) gs h = h

  split_two : (g h : RightSide N) (gs : List (RightSide N)) → (has_tokens T E g && has_tokens T E h) ≡ true → HaveTokens T E gs → HaveTokens T E (g ∷ h ∷ gs)
  split_two g h gs ok have = let b = and_parts (has_tokens T E g) (has_tokens T E h) ok in (lone g (h ∷ gs) b.0, (lone h gs b.1, have))

  split_seq : (g h : RightSide N) (gs : List (RightSide N)) → has_tokens T E (Seq g h) ≡ true → HaveTokens T E gs → HaveTokens T E (g ∷ h ∷ gs)
  split_seq (Do Open) h gs ok have =
      let b = and_parts (not (ends_early T E h)) (not (is_empty T h) && has_tokens T E h) ok in
      let c = and_parts (not (is_empty T h)) (has_tokens T E h) b.1 in
      (neither (ends_early T E h) (is_empty T h) (end_early T E gs) (not_so (ends_early T E h) b.0) (not_so (is_empty T h) c.0), (lone h gs c.1, have))
  split_seq (Do (Pass k)) h gs ok have = split_two (Do (Pass k)) h gs ok have
  split_seq (Do Reopen) h gs ok have = split_two (Do Reopen) h gs ok have
  split_seq (Do Adopt) h gs ok have = split_two (Do Adopt) h gs ok have
  split_seq (Do CheckType) h gs ok have = split_two (Do CheckType) h gs ok have
  split_seq (Do (Close k)) h gs ok have = split_two (Do (Close k)) h gs ok have
  split_seq (Call n) h gs ok have = split_two (Call n) h gs ok have
  split_seq Nothing h gs ok have = split_two Nothing h gs ok have
  split_seq (Seq g f) h gs ok have = split_two (Seq g f) h gs ok have
  split_seq (Or g f) h gs ok have = split_two (Or g f) h gs ok have
  split_seq (Many g) h gs ok have = split_two (Many g) h gs ok have
  split_seq (When a g f) h gs ok have = split_two (When a g f) h gs ok have

  -- the same place, with other right sides
  turned : (gs hs : List (RightSide N)) (s : State) (front : List Token) → Stands gs s front → HaveTokens T E hs → (end_early T E hs ≡ true → end_early T E gs ≡ true) → Stands hs s front
  turned gs hs s front st have early = record { since = st.since; last = st.last; row = st.row; frames = st.frames; have = have; quiet = λ e. st.quiet (early e) }

  joined : (front rest : List Token) (m e : State) (a : List Token) → rest ≡ a ++ m.rest → Later [] (front ++ a) m.rest e → Later [] front rest e
  unfolding Later
  joined front rest m e a q l = (a ++ l.0, q ∙ (ap (λ x. a ++ x) l.1 ∙ sym (append_assoc a l.0 e.rest)), subst (Stands [] e) (append_assoc front a l.0) l.2)

  stands : {gs : List (RightSide N)} {s e : State} → Reads N P bytes gs s e → (front : List Token) → Stands gs s front → Later [] front s.rest e
  unfolding Later
  stands (at_end {s = s}) front st = same_place [] front s st
  stands {e = e} (does {a = a} {gs = gs} {s = s} {m = m} h d) front st = let step = act_step a gs s m front h st in joined front s.rest m e step.0 step.1 (stands d (front ++ step.0) step.2)
  stands (calls {n = n} {gs = gs} {s = s} d) front st = stands d front (turned (Call n ∷ gs) (P n ∷ gs) s front st (lone (P n) gs (tokens_right n), st.have.1) (call_starts (ends_early T E (P n)) (is_empty T (P n)) (E n) (T.empty n) (end_early T E gs) (early_right n) (empty_right n)))
  stands (nothing {gs = gs} {s = s} d) front st = stands d front (turned (Nothing ∷ gs) gs s front st st.have.1 (λ e. e))
  stands (in_turn {g = g} {h = h} {gs = gs} {s = s} d) front st = stands d front (turned (Seq g h ∷ gs) (g ∷ h ∷ gs) s front st (split_seq g h gs st.have.0 st.have.1) (seq_starts (ends_early T E g) (is_empty T g) (ends_early T E h) (is_empty T h) (end_early T E gs)))
  stands (left {g = g} {h = h} {gs = gs} {s = s} d) front st = stands d front (turned (Or g h ∷ gs) (g ∷ gs) s front st (lone g gs (and_parts (has_tokens T E g) (has_tokens T E h) st.have.0).0, st.have.1) (left_starts (ends_early T E g) (is_empty T g) (ends_early T E h) (is_empty T h) (end_early T E gs)))
  stands (right {g = g} {h = h} {gs = gs} {s = s} d) front st = stands d front (turned (Or g h ∷ gs) (h ∷ gs) s front st (lone h gs (and_parts (has_tokens T E g) (has_tokens T E h) st.have.0).1, st.have.1) (right_starts (ends_early T E g) (is_empty T g) (ends_early T E h) (is_empty T h) (end_early T E gs)))
  stands (done {g = g} {gs = gs} {s = s} d) front st = stands d front (turned (Many g ∷ gs) gs s front st st.have.1 (or_right (ends_early T E g) (end_early T E gs)))
  stands (again {g = g} {gs = gs} {s = s} d) front st = stands d front (turned (Many g ∷ gs) (g ∷ Many g ∷ gs) s front st (lone g (Many g ∷ gs) st.have.0, st.have) (again_starts (ends_early T E g) (is_empty T g) (end_early T E gs)))
  stands (chosen {a = a} {g = g} {h = h} {gs = gs} {s = s} w d) front st = stands d front (turned (When a g h ∷ gs) (g ∷ gs) s front st (lone g gs (and_parts (has_tokens T E g) (has_tokens T E h) st.have.0).0, st.have.1) (left_starts (ends_early T E g) (is_empty T g) (ends_early T E h) (is_empty T h) (end_early T E gs)))
  stands (passed_by {a = a} {g = g} {h = h} {gs = gs} {s = s} w d) front st = stands d front (turned (When a g h ∷ gs) (h ∷ gs) s front st (lone h gs (and_parts (has_tokens T E g) (has_tokens T E h) st.have.0).1, st.have.1) (right_starts (ends_early T E g) (is_empty T g) (ends_early T E h) (is_empty T h) (end_early T E gs)))

  newest_spans : (front : List Token) (last : ℕ) (rest : List Token) (ms : List (List Token)) (fs : List OpenNode) (t : Tree) → front ≡ all_of ms → Frames last rest ms fs → tree_read fs ≡ Some t → HasSpans front t
  newest_spans front last rest ms [] t row h q = cc
  newest_spans front last rest [] (f ∷ fs) t row h q = absurd h
  newest_spans front last rest (m ∷ ms) (f ∷ fs) t row h q = go f.parts (innermost last rest m ms f fs h) q
    where
      go : (parts : List Tree) → Runs m parts → newest_of parts ≡ Some t → HasSpans front t
      go [] r q = cc
      go (x ∷ xs) r q =
          let y : x ≡ t = cc in
          subst (HasSpans front) y (all_of ms ++ r.0, r.1, r.2, row ∙ (ap (λ z. all_of ms ++ z) r.3 ∙ sym (append_assoc (all_of ms) r.0 (r.1 ++ r.2))), r.4, tt)

  -- each node of the tree that a text has
  pub tree_spans : (n : N) (tokens : List Token) (e : State) (t : Tree) → Reads N P bytes (Call n ∷ []) (before tokens) e → e.rest ≡ [] → tree_read e.open_nodes ≡ Some t → HasSpans tokens t
  unfolding Later
  tree_spans n tokens e t d z q =
      let end = stands d [] (record { since = [] ∷ []; last = refl; row = refl; frames = tt; have = (refl, tt); quiet = λ e z. cc }) in
      let all : tokens ≡ end.0 = end.1 ∙ (ap (λ x. end.0 ++ x) z ∙ append-nil end.0) in
      subst (λ x. HasSpans x t) (sym all) (newest_spans end.0 e.last e.rest end.2.since e.open_nodes t end.2.row end.2.frames q)

  -- the last token that was passed is the last of all
  pub last_read : (n : N) (tokens : List Token) (e : State) → Reads N P bytes (Call n ∷ []) (before tokens) e → e.rest ≡ [] → e.last ≡ ends tokens
  unfolding Later
  last_read n tokens e d z =
      let end = stands d [] (record { since = [] ∷ []; last = refl; row = refl; frames = tt; have = (refl, tt); quiet = λ e z. cc }) in
      let all : tokens ≡ end.0 = end.1 ∙ (ap (λ x. end.0 ++ x) z ∙ append-nil end.0) in
      end.2.last ∙ ap ends (sym all)

-- ---- all tokens

longer : (more tokens : List Token) (ts : Trees) → HaveRuns tokens ts → HaveRuns (tokens ++ more) ts
longer more tokens no_trees h = tt
longer more tokens (more_trees t ts) h = (h.0, h.1, h.2 ++ more, ap (λ x. x ++ more) h.3 ∙ (append_assoc h.0 (h.1 ++ h.2) more ∙ ap (λ x. h.0 ++ x) (append_assoc h.1 h.2 more)), h.4, longer more h.2 ts h.5)

-- a tree with the span of all tokens has them all
pub whole_run : (tokens : List Token) (t : Tree) → HasSpans tokens t → start_of t ≡ next_start 0 tokens → end_of t ≡ ends tokens → HasRun tokens t
whole_run tokens (branch id from to kind text parts) h start end =
    let run = h.4.0 in
    let one = has_one h.0 run.first (run.others ++ h.2) in
    let q : tokens ≡ one.0 ∷ one.1 = h.3 ∙ (ap (λ x. h.0 ++ (x ++ h.2)) run.are ∙ one.2) in
    (record { first = one.0; others = one.1; are = q; starts = start ∙ ap (next_start 0) q; ends = end ∙ ap ends q }, subst (λ x. HaveRuns x parts) (sym h.3) (wider h.0 (h.1 ++ h.2) parts (longer h.2 h.1 parts h.4.1)))
