-- Runs of tokens and spans: what the acts of a reading make of them.
use Rattle.std.proofs.Common.{◌≡◌, ℕ, Bool, true, false, not, List, [], ◌∷◌, ◌++◌, refl, sym, ap, subst, ◌∙◌, ◌||◌, ◌&&◌, reverse, append_assoc}
use Rattle.std.proofs.lemmas.List.{append-nil}
use Rattle.std.proofs.lemmas.Grind.{reverse_onto}
use Rattle.go_tree.specs.declared.token.Token.{Token}
use Rattle.go_tree.specs.declared.node_kind.NodeKind.{NodeKind}
use Rattle.go_tree.specs.Tree.{Tree, branch, Trees, no_trees, more_trees, trees_of, start_of}
use Rattle.go_tree.specs.Grammar.RightSide.{RightSide, Do, Call, Nothing, Seq, Or, Many, When, Open, Close}
use Rattle.go_tree.specs.Grammar.Trees.Reading.{OpenNode, next_start, reopened, reopen, adopted, adopt, close_last, node_read}
use Rattle.go_tree.specs.Grammar.Tables.Prediction.{Tables, is_empty}
use Rattle.go_tree.specs.Grammar.Trees.Spans.{HasRun, HaveRuns, end_of_last}

-- a node can end before a token is passed
abbrev pub ends_early : {N : Type 0} → Tables N → (N → Bool) → RightSide N → Bool
ends_early T E (Do (Close k)) = true
ends_early T E (Do _) = false
ends_early T E (Call n) = E n
ends_early T E Nothing = false
ends_early T E (Seq g h) = ends_early T E g || (is_empty T g && ends_early T E h)
ends_early T E (Or g h) = ends_early T E g || ends_early T E h
ends_early T E (Many g) = ends_early T E g
ends_early T E (When a g h) = ends_early T E g || ends_early T E h

abbrev pub end_early : {N : Type 0} → Tables N → (N → Bool) → List (RightSide N) → Bool
end_early T E [] = false
end_early T E (g ∷ gs) = ends_early T E g || (is_empty T g && end_early T E gs)

abbrev pub is_open : {N : Type 0} → RightSide N → Bool
is_open (Do Open) = true
is_open _ = false

-- each node that begins has a token
abbrev pub has_tokens : {N : Type 0} → Tables N → (N → Bool) → RightSide N → Bool
has_tokens T E (Do Open) = false
has_tokens T E (Do _) = true
has_tokens T E (Call n) = true
has_tokens T E Nothing = true
has_tokens T E (Seq (Do Open) h) = not (ends_early T E h) && (not (is_empty T h) && has_tokens T E h)
has_tokens T E (Seq g h) = has_tokens T E g && has_tokens T E h
has_tokens T E (Or g h) = has_tokens T E g && has_tokens T E h
has_tokens T E (Many g) = has_tokens T E g
has_tokens T E (When a g h) = has_tokens T E g && has_tokens T E h

abbrev pub HasTokens : {N : Type 0} → Tables N → (N → Bool) → RightSide N → List (RightSide N) → Type 0
HasTokens T E (Do Open) gs = end_early T E gs ≡ false
HasTokens T E g gs = has_tokens T E g ≡ true

abbrev pub HaveTokens : {N : Type 0} → Tables N → (N → Bool) → List (RightSide N) → Type 0
HaveTokens T E [] = Unit {0}
HaveTokens T E (g ∷ gs) = HasTokens T E g gs × HaveTokens T E gs

abbrev pub ends : List Token → ℕ
ends [] = 0
ends (t ∷ ts) = end_of_last t ts

-- the trees, the newest first, have runs of these tokens, the newest last
abbrev pub Runs : List Token → List Tree → Type 0
Runs m [] = Unit {0}
Runs m (t ∷ ts) = (older run behind : List Token) × (m ≡ older ++ (run ++ behind)) × HasRun run t × Runs older ts

-- Each open node has the tokens that were passed since it began and before the next one inside it began, the
-- innermost first; `ahead` are the tokens behind those of the innermost.
abbrev pub all_of : List (List Token) → List Token
all_of [] = []
all_of (m ∷ ms) = all_of ms ++ m

-- a node but the outermost list is open and has no token yet
abbrev pub is_bare : List (List Token) → Bool
is_bare [] = false
is_bare (m ∷ []) = false
is_bare ([] ∷ (n ∷ ms)) = true
is_bare ((t ∷ ts) ∷ (n ∷ ms)) = false

abbrev pub Frames : ℕ → List Token → List (List Token) → List OpenNode → Type 0
Frames last ahead [] [] = ⊥
Frames last ahead [] (f ∷ fs) = ⊥
Frames last ahead (m ∷ ms) [] = ⊥
Frames last ahead (m ∷ []) (f ∷ []) = Runs m f.parts
Frames last ahead (m ∷ (n ∷ ms)) (f ∷ []) = ⊥
Frames last ahead (m ∷ []) (f ∷ (g ∷ fs)) = ⊥
Frames last ahead (m ∷ (n ∷ ms)) (f ∷ (g ∷ fs)) = (f.start ≡ next_start last (m ++ ahead)) × Runs m f.parts × Frames last (m ++ ahead) (n ∷ ms) (g ∷ fs)

-- ---- runs

runs_more : (m more : List Token) (ts : List Tree) → Runs m ts → Runs (m ++ more) ts
runs_more m more [] h = tt
runs_more m more (t ∷ ts) h = (h.0, h.1, h.2 ++ more, ap (λ x. x ++ more) h.3 ∙ (append_assoc h.0 (h.1 ++ h.2) more ∙ ap (λ x. h.0 ++ x) (append_assoc h.1 h.2 more)), h.4, h.5)

pub wider : (more tokens : List Token) (ts : Trees) → HaveRuns tokens ts → HaveRuns (more ++ tokens) ts
wider more tokens no_trees h = tt
wider more tokens (more_trees t ts) h = (more ++ h.0, h.1, h.2, ap (λ x. more ++ x) h.3 ∙ sym (append_assoc more h.0 (h.1 ++ h.2)), h.4, h.5)

onto_runs : (ts : List Tree) (m rest : List Token) (us : List Tree) → Runs m ts → HaveRuns rest (trees_of us) → HaveRuns (m ++ rest) (trees_of (reverse ts ++ us))
onto_runs [] m rest us h k = wider m rest (trees_of us) k
onto_runs (t ∷ ts) m rest us h k =
    let more = onto_runs ts h.0 ((h.1 ++ h.2) ++ rest) (t ∷ us) h.5 ([], h.1, h.2 ++ rest, append_assoc h.1 h.2 rest, h.4, wider h.2 rest (trees_of us) k) in
    let q : h.0 ++ ((h.1 ++ h.2) ++ rest) ≡ m ++ rest = sym (append_assoc h.0 (h.1 ++ h.2) rest) ∙ ap (λ x. x ++ rest) (sym h.3) in
    subst (λ x. HaveRuns (m ++ rest) (trees_of x)) (sym (ap (λ x. x ++ us) (reverse_onto ts t []) ∙ append_assoc (reverse ts) (t ∷ []) us)) (subst (λ x. HaveRuns x (trees_of (reverse ts ++ (t ∷ us)))) q more)

in_order : (m : List Token) (ts : List Tree) → Runs m ts → HaveRuns m (trees_of (reverse ts))
in_order m ts h = subst (λ x. HaveRuns m (trees_of x)) (append-nil (reverse ts)) (subst (λ x. HaveRuns x (trees_of (reverse ts ++ []))) (append-nil m) (onto_runs ts m [] [] h tt))

-- one more tree in front
and_first : (run behind m : List Token) (t : Tree) (ts : List Tree) → HasRun run t → Runs m ts → Runs ((run ++ behind) ++ m) (ts ++ (t ∷ []))
and_first run behind m t [] r h = ([], run, behind ++ m, append_assoc run behind m, r, tt)
and_first run behind m t (u ∷ us) r h = ((run ++ behind) ++ h.0, h.1, h.2, ap (λ x. (run ++ behind) ++ x) h.3 ∙ sym (append_assoc (run ++ behind) h.0 (h.1 ++ h.2)), h.4, and_first run behind h.0 t us r h.5)

pub end_after : (a : List Token) (t : Token) (ts : List Token) → ends (a ++ (t ∷ ts)) ≡ end_of_last t ts
end_after [] t ts = refl
end_after (b ∷ a) t ts = behind b a t ts
  where
    behind : (b : Token) (a : List Token) (t : Token) (ts : List Token) → end_of_last b (a ++ (t ∷ ts)) ≡ end_of_last t ts
    behind b [] t ts = refl
    behind b (c ∷ a) t ts = behind c a t ts

-- ---- a token is passed

-- the innermost open node has one more token
abbrev pub longer_by : Token → List (List Token) → List (List Token)
longer_by t [] = []
longer_by t (m ∷ ms) = (m ++ (t ∷ [])) ∷ ms

next_behind : (last to : ℕ) (m : List Token) (t : Token) (ts : List Token) → next_start last (m ++ (t ∷ ts)) ≡ next_start to (m ++ (t ∷ ts))
next_behind last to [] t ts = refl
next_behind last to (u ∷ m) t ts = refl

pub has_one : (m : List Token) (t : Token) (ts : List Token) → (u : Token) × (us : List Token) × (m ++ (t ∷ ts) ≡ u ∷ us)
has_one [] t ts = (t, ts, refl)
has_one (u ∷ us) t ts = (u, us ++ (t ∷ ts), refl)

-- where a token is ahead, the end of the last one plays no part
same_frames : (last to : ℕ) (t : Token) (ts : List Token) (ms : List (List Token)) (fs : List OpenNode) → Frames last (t ∷ ts) ms fs → Frames to (t ∷ ts) ms fs
same_frames last to t ts [] [] h = absurd h
same_frames last to t ts [] (f ∷ fs) h = absurd h
same_frames last to t ts (m ∷ ms) [] h = absurd h
same_frames last to t ts (m ∷ []) (f ∷ []) h = h
same_frames last to t ts (m ∷ (n ∷ ms)) (f ∷ []) h = absurd h
same_frames last to t ts (m ∷ []) (f ∷ (g ∷ fs)) h = absurd h
same_frames last to t ts (m ∷ (n ∷ ms)) (f ∷ (g ∷ fs)) h =
    let one = has_one m t ts in
    (h.0 ∙ next_behind last to m t ts, h.1, subst (λ x. Frames to x (n ∷ ms) (g ∷ fs)) (sym one.2) (same_frames last to one.0 one.1 (n ∷ ms) (g ∷ fs) (subst (λ x. Frames last x (n ∷ ms) (g ∷ fs)) one.2 h.2)))

pub pass_frames : (last : ℕ) (t : Token) (ts : List Token) (ms : List (List Token)) (fs : List OpenNode) → Frames last (t ∷ ts) ms fs → Frames t.end ts (longer_by t ms) fs
pass_frames last t ts [] [] h = absurd h
pass_frames last t ts [] (f ∷ fs) h = absurd h
pass_frames last t ts (m ∷ ms) [] h = absurd h
pass_frames last t ts (m ∷ []) (f ∷ []) h = runs_more m (t ∷ []) f.parts h
pass_frames last t ts (m ∷ (n ∷ ms)) (f ∷ []) h = absurd h
pass_frames last t ts (m ∷ []) (f ∷ (g ∷ fs)) h = absurd h
pass_frames last t ts (m ∷ (n ∷ ms)) (f ∷ (g ∷ fs)) h =
    let same = same_frames last t.end t ts (m ∷ (n ∷ ms)) (f ∷ (g ∷ fs)) h in
    let q : m ++ (t ∷ ts) ≡ (m ++ (t ∷ [])) ++ ts = sym (append_assoc m (t ∷ []) ts) in
    (same.0 ∙ ap (next_start t.end) q, runs_more m (t ∷ []) f.parts same.1, subst (λ x. Frames t.end x (n ∷ ms) (g ∷ fs)) q same.2)

pub pass_row : (t : Token) (ms : List (List Token)) (fs : List OpenNode) (last : ℕ) (ahead front : List Token) → Frames last ahead ms fs → front ≡ all_of ms → front ++ (t ∷ []) ≡ all_of (longer_by t ms)
pass_row t [] [] last ahead front h q = absurd h
pass_row t [] (g ∷ fs) last ahead front h q = absurd h
pass_row t (m ∷ ms) fs last ahead front h q = ap (λ x. x ++ (t ∷ [])) q ∙ append_assoc (all_of ms) m (t ∷ [])

pub not_bare : (t : Token) (ms : List (List Token)) → is_bare (longer_by t ms) ≡ false
not_bare t [] = refl
not_bare t (m ∷ []) = refl
not_bare t ([] ∷ (n ∷ ms)) = refl
not_bare t ((u ∷ us) ∷ (n ∷ ms)) = refl

-- ---- nodes on the open list

not_bare_with : (y : List Token) (u : Token) (us : List Token) (ms : List (List Token)) → y ≡ u ∷ us → is_bare (y ∷ ms) ≡ false
not_bare_with y u us [] q = refl
not_bare_with y u us (n ∷ ms) q = subst (λ x. is_bare (x ∷ (n ∷ ms)) ≡ false) (sym q) refl

pub innermost : (last : ℕ) (ahead m : List Token) (ms : List (List Token)) (f : OpenNode) (fs : List OpenNode) → Frames last ahead (m ∷ ms) (f ∷ fs) → Runs m f.parts
innermost last ahead m [] f [] h = h
innermost last ahead m [] f (g ∷ fs) h = absurd h
innermost last ahead m (n ∷ ms) f [] h = absurd h
innermost last ahead m (n ∷ ms) f (g ∷ fs) h = h.1

-- the newest part of the innermost open node is taken out, with its tokens and those behind it
taken : (last : ℕ) (ahead m : List Token) (ms : List (List Token)) (start : ℕ) (x : Tree) (xs : List Tree) (fs : List OpenNode) → Frames last ahead (m ∷ ms) (record { start = start; parts = x ∷ xs } ∷ fs) → (older run behind : List Token) × (m ≡ older ++ (run ++ behind)) × HasRun run x × Frames last ((run ++ behind) ++ ahead) (older ∷ ms) (record { start = start; parts = xs } ∷ fs)
taken last ahead m [] start x xs [] h = (h.0, h.1, h.2, h.3, h.4, h.5)
taken last ahead m [] start x xs (g ∷ fs) h = absurd h
taken last ahead m (n ∷ ms) start x xs [] h = absurd h
taken last ahead m (n ∷ ms) start x xs (g ∷ fs) h =
    let r = h.1 in
    let q : m ++ ahead ≡ r.0 ++ ((r.1 ++ r.2) ++ ahead) = ap (λ y. y ++ ahead) r.3 ∙ append_assoc r.0 (r.1 ++ r.2) ahead in
    (r.0, r.1, r.2, r.3, r.4, (h.0 ∙ ap (next_start last) q, r.5, subst (λ y. Frames last y (n ∷ ms) (g ∷ fs)) q h.2))

-- a node that has ended is put into the one round it
put_in : (last : ℕ) (ahead n run : List Token) (ms : List (List Token)) (x : Tree) (g : OpenNode) (fs : List OpenNode) → HasRun run x → Frames last (run ++ ahead) (n ∷ ms) (g ∷ fs) → Frames last ahead ((n ++ run) ∷ ms) (record { start = g.start; parts = x ∷ g.parts } ∷ fs)
put_in last ahead n run [] x g [] r h = (n, run, [], ap (λ y. n ++ y) (sym (append-nil run)), r, h)
put_in last ahead n run [] x g (f ∷ fs) r h = absurd h
put_in last ahead n run (m ∷ ms) x g [] r h = absurd h
put_in last ahead n run (m ∷ ms) x g (f ∷ fs) r h =
    let q : n ++ (run ++ ahead) ≡ (n ++ run) ++ ahead = sym (append_assoc n run ahead) in
    (h.0 ∙ ap (next_start last) q, (n, run, [], ap (λ y. n ++ y) (sym (append-nil run)), r, h.1), subst (λ y. Frames last y (m ∷ ms) (f ∷ fs)) q h.2)

starts_at : (last : ℕ) (run rest : List Token) (x : Tree) → HasRun run x → start_of x ≡ next_start last (run ++ rest)
starts_at last run rest (branch id from to kind text parts) h = h.0.starts ∙ ap (λ y. next_start last (y ++ rest)) (sym h.0.are)

some_token : (run rest : List Token) (x : Tree) → HasRun run x → (u : Token) × (us : List Token) × (run ++ rest ≡ u ∷ us)
some_token run rest (branch id from to kind text parts) h = (h.0.first, h.0.others ++ rest, ap (λ y. y ++ rest) h.0.are)

-- the open nodes behind an act that passes no token: they have the same tokens, and no more of them has none
unfoldable pub Turns : ℕ → List Token → List (List Token) → List OpenNode → Type 0
Turns last ahead ms fs = (ns : List (List Token)) × Frames last ahead ns fs × (all_of ms ≡ all_of ns) × (is_bare ns ≡ true → is_bare ms ≡ true)

pub no_turn : (last : ℕ) (ahead : List Token) (ms : List (List Token)) (fs : List OpenNode) → Frames last ahead ms fs → Turns last ahead ms fs
unfolding Turns
no_turn last ahead ms fs h = (ms, h, refl, λ e. e)

reopened_turns : (last : ℕ) (ahead : List Token) (ms : List (List Token)) (start : ℕ) (parts : List Tree) (fs : List OpenNode) → Frames last ahead ms (record { start = start; parts = parts } ∷ fs) → Turns last ahead ms (reopened parts start fs)
unfolding Turns
reopened_turns last ahead ms start [] fs h = no_turn last ahead ms (record { start = start; parts = [] } ∷ fs) h
reopened_turns last ahead [] start (x ∷ xs) fs h = absurd h
reopened_turns last ahead (m ∷ ms) start (x ∷ xs) fs h =
    let z = taken last ahead m ms start x xs fs h in
    let some = some_token z.1 z.2 x z.4 in (
      (z.1 ++ z.2) ∷ (z.0 ∷ ms),
      (starts_at last z.1 (z.2 ++ ahead) x z.4 ∙ ap (next_start last) (sym (append_assoc z.1 z.2 ahead)), ([], z.1, z.2, refl, z.4, tt), z.5),
      ap (λ y. all_of ms ++ y) z.3 ∙ sym (append_assoc (all_of ms) z.0 (z.1 ++ z.2)),
      λ e. let no = not_bare_with (z.1 ++ z.2) some.0 some.1 (z.0 ∷ ms) some.2 in cc,
    )

pub reopen_turns : (last : ℕ) (ahead : List Token) (ms : List (List Token)) (fs : List OpenNode) → Frames last ahead ms fs → Turns last ahead ms (reopen fs)
reopen_turns last ahead ms [] h = no_turn last ahead ms [] h
reopen_turns last ahead ms (f ∷ fs) h = reopened_turns last ahead ms f.start f.parts fs h

adopted_turns : (last : ℕ) (ahead : List Token) (ms : List (List Token)) (f : OpenNode) (start : ℕ) (parts : List Tree) (fs : List OpenNode) → Frames last ahead ms (f ∷ (record { start = start; parts = parts } ∷ fs)) → Turns last ahead ms (adopted f parts start fs)
unfolding Turns
adopted_turns last ahead ms f start [] fs h = no_turn last ahead ms (f ∷ (record { start = start; parts = [] } ∷ fs)) h
adopted_turns last ahead [] f start (x ∷ xs) fs h = absurd h
adopted_turns last ahead (m ∷ []) f start (x ∷ xs) fs h = absurd h
adopted_turns last ahead (m ∷ (n ∷ ms)) f start (x ∷ xs) fs h =
    let z = taken last (m ++ ahead) n ms start x xs fs h.2 in
    let some = some_token z.1 (z.2 ++ m) x z.4 in
    let q : ((z.1 ++ z.2) ++ m) ++ ahead ≡ (z.1 ++ z.2) ++ (m ++ ahead) = append_assoc (z.1 ++ z.2) m ahead in (
      ((z.1 ++ z.2) ++ m) ∷ (z.0 ∷ ms),
      (
        starts_at last z.1 (z.2 ++ (m ++ ahead)) x z.4 ∙ ap (next_start last) (sym (q ∙ append_assoc z.1 z.2 (m ++ ahead))),
        and_first z.1 z.2 m x f.parts z.4 h.1,
        subst (λ y. Frames last y (z.0 ∷ ms) (record { start = start; parts = xs } ∷ fs)) (sym q) z.5,
      ),
      ap (λ y. (all_of ms ++ y) ++ m) z.3 ∙ (ap (λ y. y ++ m) (sym (append_assoc (all_of ms) z.0 (z.1 ++ z.2))) ∙ append_assoc (all_of ms ++ z.0) (z.1 ++ z.2) m),
      λ e. let no = not_bare_with ((z.1 ++ z.2) ++ m) some.0 some.1 (z.0 ∷ ms) (append_assoc z.1 z.2 m ∙ some.2) in cc,
    )

pub adopt_turns : (last : ℕ) (ahead : List Token) (ms : List (List Token)) (fs : List OpenNode) → Frames last ahead ms fs → Turns last ahead ms (adopt fs)
adopt_turns last ahead ms [] h = no_turn last ahead ms [] h
adopt_turns last ahead ms (f ∷ []) h = no_turn last ahead ms (f ∷ []) h
adopt_turns last ahead ms (f ∷ (g ∷ fs)) h = adopted_turns last ahead ms f g.start g.parts fs h

node_run : (bytes : List ℕ) (kind : NodeKind) (last : ℕ) (front a : List Token) (t : Token) (us : List Token) (f : OpenNode) → last ≡ ends front → front ≡ a ++ (t ∷ us) → f.start ≡ t.start → Runs (t ∷ us) f.parts → HasRun (t ∷ us) (node_read bytes kind last f)
node_run bytes kind last front a t us f ended row start parts = (record { first = t; others = us; are = refl; starts = start; ends = ended ∙ (ap ends row ∙ end_after a t us) }, in_order (t ∷ us) f.parts parts)

pub close_turns : (bytes : List ℕ) (kind : NodeKind) (last : ℕ) (ahead front : List Token) (ms : List (List Token)) (fs : List OpenNode) → last ≡ ends front → front ≡ all_of ms → (is_bare ms ≡ true → ⊥) → Frames last ahead ms fs → Turns last ahead ms (close_last bytes kind last fs)
unfolding Turns
close_turns bytes kind last ahead front ms [] ended row quiet h = no_turn last ahead ms [] h
close_turns bytes kind last ahead front ms (f ∷ []) ended row quiet h = no_turn last ahead ms (f ∷ []) h
close_turns bytes kind last ahead front [] (f ∷ (g ∷ fs)) ended row quiet h = absurd h
close_turns bytes kind last ahead front (m ∷ []) (f ∷ (g ∷ fs)) ended row quiet h = absurd h
close_turns bytes kind last ahead front ([] ∷ (n ∷ ms)) (f ∷ (g ∷ fs)) ended row quiet h = absurd (quiet refl)
close_turns bytes kind last ahead front ((t ∷ us) ∷ (n ∷ ms)) (f ∷ (g ∷ fs)) ended row quiet h =
    let node = node_run bytes kind last front (all_of (n ∷ ms)) t us f ended row h.0 h.1 in
    let one = has_one n t us in (
      (n ++ (t ∷ us)) ∷ ms,
      put_in last ahead n (t ∷ us) ms (node_read bytes kind last f) g fs node h.2,
      append_assoc (all_of ms) n (t ∷ us),
      λ e. let no = not_bare_with (n ++ (t ∷ us)) one.0 one.1 ms one.2 in cc,
    )
