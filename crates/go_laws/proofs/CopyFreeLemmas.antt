-- No node of a tree that tokens derive is the copy of a list: in the grammar no node ends as one, by computation.
use Rattle.std.proofs.Common.{◌≡◌, ℕ, ◌&&◌, Bool, true, false, not, cond, Some, None, List, [], ◌∷◌, ◌++◌, reverse, refl, sym, subst}
use Rattle.std.specs.List.{AllByRecursion}
use Rattle.std.proofs.lemmas.Bool.{and_parts}
use Rattle.std.proofs.lemmas.Grind.{reverse_onto}
use Rattle.go_tree.specs.declared.node_kind.NodeKind.{NodeKind}
use Rattle.go_tree.specs.declared.production.Production.{Production}
use Rattle.go_tree.specs.declared.token.Token.{Token}
use Rattle.go_tree.specs.declared.token.TokenKind.{TokenKind}
use Rattle.go_tree.specs.Grammar.RightSide.{Act, Adopt, Call, CheckType, Close, Do, Many, Nothing, Open, Or, Pass, Reopen, RightSide, Seq, When}
use Rattle.go_tree.specs.Grammar.Tables.TokenKinds.{same_kind}
use Rattle.go_tree.specs.Grammar.Trees.Reading.{OpenNode, Reads, State, acted, adopt, adopted, again, at_end, calls, chosen, close_last, does, done, ends_in_type, in_turn, left, next_start, nothing, passed, passed_by, reopen, reopened, right, tree_read}
use Rattle.go_tree.specs.Grammar.Trees.Sentence.{Derives, production}
use Rattle.go_tree.specs.Tree.{Tree, Trees, branch, more_trees, no_trees, trees_of}
use Rattle.go_tree.proofs.ByProduction.{by_test}
use Rattle.go_text.specs.CopyCount.{is_copy}

-- no node of a tree is of such a kind
abbrev mutual
  pub IsFree : (NodeKind → Bool) → Tree → Type 0
  IsFree such (branch id from to kind text parts) = (such kind ≡ false) × AreFree such parts

  pub AreFree : (NodeKind → Bool) → Trees → Type 0
  AreFree such no_trees = Unit {0}
  AreFree such (more_trees t ts) = IsFree such t × AreFree such ts

-- OPEN NODES

abbrev AllFree : List Tree → Type 0
AllFree ts = AllByRecursion (IsFree is_copy) ts

abbrev AllOpen : List OpenNode → Type 0
AllOpen fs = AllByRecursion (λ (f : OpenNode). AllFree f.parts) fs

push_free : (xs : List Tree) (x : Tree) → AllFree xs → IsFree is_copy x → AllFree (xs ++ x ∷ [])
push_free [] x all is = (is, tt)
push_free (y ∷ ys) x all is = (all.0, push_free ys x all.1 is)

reverse_free : (xs : List Tree) → AllFree xs → AllFree (reverse xs)
reverse_free [] all = tt
reverse_free (x ∷ xs) all = subst AllFree (sym (reverse_onto xs x [])) (push_free (reverse xs) x (reverse_free xs all.1) all.0)

trees_free : (xs : List Tree) → AllFree xs → AreFree is_copy (trees_of xs)
trees_free [] all = tt
trees_free (x ∷ xs) all = (all.0, trees_free xs all.1)

reopened_free : (parts : List Tree) (start : ℕ) (fs : List OpenNode) → AllFree parts → AllOpen fs → AllOpen (reopened parts start fs)
reopened_free [] start fs all others = (tt, others)
reopened_free (x ∷ xs) start fs all others = ((all.0, tt), (all.1, others))

reopen_free : (fs : List OpenNode) → AllOpen fs → AllOpen (reopen fs)
reopen_free [] all = tt
reopen_free (f ∷ fs) all = reopened_free f.parts f.start fs all.0 all.1

adopted_free : (f : OpenNode) (parts : List Tree) (start : ℕ) (fs : List OpenNode) → AllFree f.parts → AllFree parts → AllOpen fs
    → AllOpen (adopted f parts start fs)
adopted_free f [] start fs own all others = (own, (tt, others))
adopted_free f (x ∷ xs) start fs own all others = (push_free f.parts x own all.0, (all.1, others))

adopt_free : (fs : List OpenNode) → AllOpen fs → AllOpen (adopt fs)
adopt_free [] all = tt
adopt_free (f ∷ []) all = all
adopt_free (f ∷ (g ∷ fs)) all = adopted_free f g.parts g.start fs all.0 all.1.0 all.1.1

close_free : (bytes : List ℕ) (kind : NodeKind) (to : ℕ) (fs : List OpenNode) → is_copy kind ≡ false → AllOpen fs
    → AllOpen (close_last bytes kind to fs)
close_free bytes kind to [] is all = tt
close_free bytes kind to (f ∷ []) is all = all
close_free bytes kind to (f ∷ (g ∷ fs)) is all =
    (((is, trees_free (reverse f.parts) (reverse_free f.parts all.0)), all.1.0), all.1.1)

-- ACTS

passed_free : (k : TokenKind) (rest : List Token) (fs : List OpenNode) (m : State) → passed k rest fs ≡ Some m → AllOpen fs
    → AllOpen m.open_nodes
passed_free k [] fs m e all = cc
passed_free k (t ∷ ts) fs m e all = by_kind (same_kind k t.kind) e
  where
    by_kind : (b : Bool) → cond b (Some (record { last = t.end; rest = ts; open_nodes = fs })) None ≡ Some m → AllOpen m.open_nodes
    by_kind true e =
        let same : record { last = t.end; rest = ts; open_nodes = fs } ≡ m = cc in subst (λ (x : State). AllOpen x.open_nodes) same all
    by_kind false e = cc

checked_free : (b : Bool) (s m : State) → cond b (Some s) None ≡ Some m → AllOpen s.open_nodes → AllOpen m.open_nodes
checked_free true s m e all = let same : s ≡ m = cc in subst (λ (x : State). AllOpen x.open_nodes) same all
checked_free false s m e all = cc

-- it ends no node as a copy
abbrev ends_no_copy : Act → Bool
ends_no_copy (Close kind) = not (is_copy kind)
ends_no_copy act = true

not_copy : (b : Bool) → not b ≡ true → b ≡ false
not_copy true e = cc
not_copy false e = refl

act_free : (bytes : List ℕ) (a : Act) (s m : State) → ends_no_copy a ≡ true → acted bytes a s ≡ Some m → AllOpen s.open_nodes
    → AllOpen m.open_nodes
act_free bytes (Pass k) s m is e all = passed_free k s.rest s.open_nodes m e all
act_free bytes Open s m is e all =
    let same : record { last = s.last; rest = s.rest; open_nodes = record { start = next_start s.last s.rest; parts = [] } ∷ s.open_nodes } ≡ m = cc in
    subst (λ (x : State). AllOpen x.open_nodes) same (tt, all)
act_free bytes Reopen s m is e all =
    let same : record { last = s.last; rest = s.rest; open_nodes = reopen s.open_nodes } ≡ m = cc in
    subst (λ (x : State). AllOpen x.open_nodes) same (reopen_free s.open_nodes all)
act_free bytes Adopt s m is e all =
    let same : record { last = s.last; rest = s.rest; open_nodes = adopt s.open_nodes } ≡ m = cc in
    subst (λ (x : State). AllOpen x.open_nodes) same (adopt_free s.open_nodes all)
act_free bytes CheckType s m is e all = checked_free (ends_in_type s.open_nodes) s m e all
act_free bytes (Close kind) s m is e all =
    let same : record { last = s.last; rest = s.rest; open_nodes = close_last bytes kind s.last s.open_nodes } ≡ m = cc in
    subst (λ (x : State). AllOpen x.open_nodes) same (close_free bytes kind s.last s.open_nodes (not_copy (is_copy kind) is) all)

-- RIGHT SIDES

abbrev reads_no_copy : {N : Type 0} → RightSide N → Bool
reads_no_copy (Do a) = ends_no_copy a
reads_no_copy (Call n) = true
reads_no_copy Nothing = true
reads_no_copy (Seq g h) = reads_no_copy g && reads_no_copy h
reads_no_copy (Or g h) = reads_no_copy g && reads_no_copy h
reads_no_copy (Many g) = reads_no_copy g
reads_no_copy (When a g h) = reads_no_copy g && reads_no_copy h

grammar_checked : (n : Production) → reads_no_copy (production n) ≡ true
grammar_checked = by_test _ refl

abbrev AllRead : List (RightSide Production) → Type 0
AllRead gs = AllByRecursion (λ (g : RightSide Production). reads_no_copy g ≡ true) gs

reads_free : (bytes : List ℕ) {gs : List (RightSide Production)} {s e : State} → Reads Production production bytes gs s e → AllRead gs
    → AllOpen s.open_nodes → AllOpen e.open_nodes
reads_free bytes at_end are all = all
reads_free bytes (does {a = a} {s = s} {m = m} h d) are all = reads_free bytes d are.1 (act_free bytes a s m are.0 h all)
reads_free bytes (calls {n = n} d) are all = reads_free bytes d (grammar_checked n, are.1) all
reads_free bytes (nothing d) are all = reads_free bytes d are.1 all
reads_free bytes (in_turn {g = g} {h = h} d) are all =
    let both = and_parts (reads_no_copy g) (reads_no_copy h) are.0 in reads_free bytes d (both.0, (both.1, are.1)) all
reads_free bytes (left {g = g} {h = h} d) are all =
    let both = and_parts (reads_no_copy g) (reads_no_copy h) are.0 in reads_free bytes d (both.0, are.1) all
reads_free bytes (right {g = g} {h = h} d) are all =
    let both = and_parts (reads_no_copy g) (reads_no_copy h) are.0 in reads_free bytes d (both.1, are.1) all
reads_free bytes (done d) are all = reads_free bytes d are.1 all
reads_free bytes (again d) are all = reads_free bytes d (are.0, are) all
reads_free bytes (chosen {g = g} {h = h} so d) are all =
    let both = and_parts (reads_no_copy g) (reads_no_copy h) are.0 in reads_free bytes d (both.0, are.1) all
reads_free bytes (passed_by {g = g} {h = h} so d) are all =
    let both = and_parts (reads_no_copy g) (reads_no_copy h) are.0 in reads_free bytes d (both.1, are.1) all

newest_free : (fs : List OpenNode) (t : Tree) → tree_read fs ≡ Some t → AllOpen fs → IsFree is_copy t
newest_free [] t e all = cc
newest_free (f ∷ fs) t e all = by_parts f.parts e all.0
  where
    by_parts : (parts : List Tree) → tree_read (record { start = f.start; parts = parts } ∷ fs) ≡ Some t → AllFree parts → IsFree is_copy t
    by_parts [] e all = cc
    by_parts (x ∷ xs) e all = let same : x ≡ t = cc in subst (IsFree is_copy) same all.0

pub derived_copy_free : (bytes : List ℕ) (n : Production) (tokens : List Token) (t : Tree) → Derives bytes n tokens t → IsFree is_copy t
derived_copy_free bytes n tokens t is =
    newest_free is.whole.end.open_nodes t is.tree (reads_free bytes is.whole.reads (refl, tt) (tt, tt))
