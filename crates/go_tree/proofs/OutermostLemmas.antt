-- Where the oldest node of the outermost list starts.
use Rattle.std.proofs.Common.{◌≡◌, ℕ, Bool, true, false, List, [], ◌∷◌, refl, subst, ◌∙◌, cond, None, Some}
use Rattle.go_tree.specs.declared.token.Token.{Token}
use Rattle.go_tree.specs.declared.token.TokenKind.{TokenKind}
use Rattle.go_tree.specs.declared.node_kind.NodeKind.{NodeKind}
use Rattle.go_tree.specs.Tree.{Tree, start_of}
use Rattle.go_tree.specs.Grammar.RightSide.{RightSide, Do, Call, Seq, Act, Pass, Open, Reopen, Adopt, CheckType, Close}
use Rattle.go_tree.specs.Grammar.Tables.TokenKinds.{same_kind}
use Rattle.go_tree.specs.Grammar.Trees.Reading.{State, OpenNode, Reads, at_end, does, calls, nothing, in_turn, left, right, done, again, chosen, passed_by, acted, passed, next_start, reopened, reopen, adopted, adopt, close_last, node_read, ends_in_type, before}
use Rattle.go_tree.proofs.ReadingLemmas.{in_turn_of}

-- the oldest of these parts starts there
abbrev OldestStarts : ℕ → List Tree → Type 0
OldestStarts from [] = ⊥
OldestStarts from (x ∷ []) = start_of x ≡ from
OldestStarts from (x ∷ (y ∷ ys)) = OldestStarts from (y ∷ ys)

-- or, where there is no part, the open node that becomes the oldest
abbrev OldestOr : ℕ → ℕ → List Tree → Type 0
OldestOr from start [] = start ≡ from
OldestOr from start (x ∷ xs) = OldestStarts from (x ∷ xs)

abbrev pub Begun : ℕ → List OpenNode → Type 0
Begun from [] = ⊥
Begun from (f ∷ []) = OldestStarts from f.parts
Begun from (f ∷ (g ∷ [])) = OldestOr from f.start g.parts
Begun from (f ∷ (g ∷ (h ∷ fs))) = Begun from (g ∷ (h ∷ fs))

without_newest : (from : ℕ) (x : Tree) (xs : List Tree) → OldestStarts from (x ∷ xs) → OldestOr from (start_of x) xs
without_newest from x [] h = h
without_newest from x (y ∷ ys) h = h

with_newest : (from start : ℕ) (x : Tree) (xs : List Tree) → start_of x ≡ start → OldestOr from start xs → OldestStarts from (x ∷ xs)
with_newest from start x [] q h = q ∙ h
with_newest from start x (y ∷ ys) q h = h

with_open : (from start : ℕ) (xs : List Tree) → OldestStarts from xs → OldestOr from start xs
with_open from start [] h = absurd h
with_open from start (x ∷ xs) h = h

-- the parts of a node that is not the last but one play no part
other_parts : (from start : ℕ) (xs ys : List Tree) (g : OpenNode) (fs : List OpenNode) → Begun from (record { start = start; parts = xs } ∷ (g ∷ fs)) → Begun from (record { start = start; parts = ys } ∷ (g ∷ fs))
other_parts from start xs ys g [] h = h
other_parts from start xs ys g (f ∷ fs) h = h

reopened_begun : (from start : ℕ) (parts : List Tree) (fs : List OpenNode) → Begun from (record { start = start; parts = parts } ∷ fs) → Begun from (reopened parts start fs)
reopened_begun from start [] fs h = h
reopened_begun from start (x ∷ xs) [] h = without_newest from x xs h
reopened_begun from start (x ∷ xs) (g ∷ fs) h = other_parts from start (x ∷ xs) xs g fs h

reopen_begun : (from : ℕ) (fs : List OpenNode) → Begun from fs → Begun from (reopen fs)
reopen_begun from [] h = absurd h
reopen_begun from (f ∷ fs) h = reopened_begun from f.start f.parts fs h

adopted_begun : (from : ℕ) (f : OpenNode) (start : ℕ) (parts : List Tree) (fs : List OpenNode) → Begun from (f ∷ (record { start = start; parts = parts } ∷ fs)) → Begun from (adopted f parts start fs)
adopted_begun from f start [] fs h = h
adopted_begun from f start (x ∷ xs) [] h = without_newest from x xs h
adopted_begun from f start (x ∷ xs) (g ∷ fs) h = other_parts from start (x ∷ xs) xs g fs h

adopt_begun : (from : ℕ) (fs : List OpenNode) → Begun from fs → Begun from (adopt fs)
adopt_begun from [] h = absurd h
adopt_begun from (f ∷ []) h = h
adopt_begun from (f ∷ (g ∷ fs)) h = adopted_begun from f g.start g.parts fs h

close_begun : (bytes : List ℕ) (from : ℕ) (kind : NodeKind) (to : ℕ) (fs : List OpenNode) → Begun from fs → Begun from (close_last bytes kind to fs)
close_begun bytes from kind to [] h = absurd h
close_begun bytes from kind to (f ∷ []) h = h
close_begun bytes from kind to (f ∷ (g ∷ [])) h = with_newest from f.start (node_read bytes kind to f) g.parts refl h
close_begun bytes from kind to (f ∷ (g ∷ (k ∷ fs))) h = other_parts from g.start g.parts (node_read bytes kind to f ∷ g.parts) k fs h

open_begun : (from : ℕ) (f : OpenNode) (fs : List OpenNode) → Begun from fs → Begun from (f ∷ fs)
open_begun from f [] h = absurd h
open_begun from f (g ∷ []) h = with_open from f.start g.parts h
open_begun from f (g ∷ (k ∷ fs)) h = h

passed_begun : (from : ℕ) (k : TokenKind) (rest : List Token) (fs : List OpenNode) (m : State) → passed k rest fs ≡ Some m → Begun from fs → Begun from m.open_nodes
passed_begun from k [] fs m h b = cc
passed_begun from k (t ∷ ts) fs m h b = go (same_kind k t.kind) h
  where
    go : (c : Bool) → cond c (Some (record { last = t.end; rest = ts; open_nodes = fs })) None ≡ Some m → Begun from m.open_nodes
    go true h = let q : record { last = t.end; rest = ts; open_nodes = fs } ≡ m = cc in subst (λ (x : State). Begun from x.open_nodes) q b
    go false h = cc

checked_begun : (from : ℕ) (c : Bool) (s m : State) → cond c (Some s) None ≡ Some m → Begun from s.open_nodes → Begun from m.open_nodes
checked_begun from true s m h b = let q : s ≡ m = cc in subst (λ (x : State). Begun from x.open_nodes) q b
checked_begun from false s m h b = cc

act_begun : (bytes : List ℕ) (from : ℕ) (a : Act) (s m : State) → acted bytes a s ≡ Some m → Begun from s.open_nodes → Begun from m.open_nodes
act_begun bytes from (Pass k) s m h b = passed_begun from k s.rest s.open_nodes m h b
act_begun bytes from Open s m h b =
    let q : record { last = s.last; rest = s.rest; open_nodes = record { start = next_start s.last s.rest; parts = [] } ∷ s.open_nodes } ≡ m = cc in
    subst (λ (x : State). Begun from x.open_nodes) q (open_begun from (record { start = next_start s.last s.rest; parts = [] }) s.open_nodes b)
act_begun bytes from Reopen s m h b =
    let q : record { last = s.last; rest = s.rest; open_nodes = reopen s.open_nodes } ≡ m = cc in
    subst (λ (x : State). Begun from x.open_nodes) q (reopen_begun from s.open_nodes b)
act_begun bytes from Adopt s m h b =
    let q : record { last = s.last; rest = s.rest; open_nodes = adopt s.open_nodes } ≡ m = cc in
    subst (λ (x : State). Begun from x.open_nodes) q (adopt_begun from s.open_nodes b)
act_begun bytes from CheckType s m h b = checked_begun from (ends_in_type s.open_nodes) s m h b
act_begun bytes from (Close k) s m h b =
    let q : record { last = s.last; rest = s.rest; open_nodes = close_last bytes k s.last s.open_nodes } ≡ m = cc in
    subst (λ (x : State). Begun from x.open_nodes) q (close_begun bytes from k s.last s.open_nodes b)

module _ (N : Type 0) (P : N → RightSide N) (bytes : List ℕ) where
  stays : (from : ℕ) {gs : List (RightSide N)} {s e : State} → Reads N P bytes gs s e → Begun from s.open_nodes → Begun from e.open_nodes
  stays from at_end b = b
  stays from (does {a = a} {s = s} {m = m} h d) b = stays from d (act_begun bytes from a s m h b)
  stays from (calls d) b = stays from d b
  stays from (nothing d) b = stays from d b
  stays from (in_turn d) b = stays from d b
  stays from (left d) b = stays from d b
  stays from (right d) b = stays from d b
  stays from (done d) b = stays from d b
  stays from (again d) b = stays from d b
  stays from (chosen w d) b = stays from d b
  stays from (passed_by w d) b = stays from d b

  called : (n : N) (s e : State) → Reads N P bytes (Call n ∷ []) s e → Reads N P bytes (P n ∷ []) s e
  called n s e (calls d) = d

  opened : (tokens : List Token) (gs : List (RightSide N)) (e : State) → Reads N P bytes (Do Open ∷ gs) (before tokens) e → Begun (next_start 0 tokens) e.open_nodes
  opened tokens gs e (does {m = m} h d) =
      let q : record { last = 0; rest = tokens; open_nodes = record { start = next_start 0 tokens; parts = [] } ∷ (record { start = 0; parts = [] } ∷ []) } ≡ m = cc in
      stays (next_start 0 tokens) d (subst (λ (x : State). Begun (next_start 0 tokens) x.open_nodes) q refl)

  -- a production that begins with a node
  pub begun_by_node : (n : N) (h : RightSide N) → P n ≡ Seq (Do Open) h → (tokens : List Token) (e : State) → Reads N P bytes (Call n ∷ []) (before tokens) e → Begun (next_start 0 tokens) e.open_nodes
  begun_by_node n h q tokens e d = opened tokens (h ∷ []) e (in_turn_of (subst (λ x. Reads N P bytes (x ∷ []) (before tokens) e) q (called n (before tokens) e d)))
