-- What the steps of a reading do to the state, and the parts of a reading of a node.
use Rattle.std.proofs.Common.{◌≡◌, ℕ, suc, ◌≤◌, Bool, true, false, not, List, [], ◌∷◌, length, refl, sym, ap, subst, ◌∙◌, cond, Some, None, ◌&&◌, arith}
use Rattle.go_tree.specs.declared.token.Token.{Token}
use Rattle.go_tree.specs.declared.token.TokenKind.{TokenKind}
use Rattle.go_tree.specs.declared.token.TokenKind.TheVariants.{Ident, LeftBracket, LeftBrace, Comma, Dot, RightParen, RightBracket}
use Rattle.go_tree.specs.declared.node_kind.NodeKind.{NodeKind}
use Rattle.go_tree.specs.declared.production.Production.{Production}
use Rattle.go_tree.specs.Grammar.RightSide.{RightSide, Do, Act, Pass, Open, Reopen, Adopt, CheckType, Close, OneOf, Both}
use Rattle.go_tree.specs.Grammar.Tables.TokenKinds.{same_kind, is_in}
use Rattle.go_tree.specs.Grammar.Trees.Reading.{State, OpenNode, at_end, does, calls, nothing, in_turn, left, right, done, again, chosen, passed_by, looks, acted, passed, next_start, reopen, close_last, ends_in_type}
use Rattle.go_tree.specs.Grammar.Words.{node, extend}
use Rattle.go_tree.specs.Grammar.Trees.Sentence.{production, ReadsGo}
use Rattle.go_tree.proofs.ReadingLemmas.{split, join}
use Rattle.go_tree.proofs.DecidedTests.{implied, each_kind}
use Rattle.go_tree.proofs.DecidedLemmas.{every_kind}
use Rattle.go_tree.proofs.TruthLemmas.{implies}
use Rattle.go_tree.proofs.ReadingEffectLemmas.{checked_same}

-- ---- acts

-- a token of that kind is passed
pub record Passed (k : TokenKind) (s m : State) : Type 0 where
  pub token : Token
  pub row : s.rest ≡ token ∷ m.rest
  pub kind : same_kind k token.kind ≡ true
  pub same : m.open_nodes ≡ s.open_nodes

passed_so : (k : TokenKind) (last : ℕ) (rest : List Token) (fs : List OpenNode) (m : State) → passed k rest fs ≡ Some m → Passed k (record { last = last; rest = rest; open_nodes = fs }) m
passed_so k last [] fs m h = cc
passed_so k last (t ∷ ts) fs m h = go (same_kind k t.kind) refl h
  where
    go : (b : Bool) → same_kind k t.kind ≡ b → cond b (Some (record { last = t.end; rest = ts; open_nodes = fs })) None ≡ Some m → Passed k (record { last = last; rest = t ∷ ts; open_nodes = fs }) m
    go true e h =
        let q : record { last = t.end; rest = ts; open_nodes = fs } ≡ m = cc in
        record { token = t; row = ap (λ (x : State). t ∷ x.rest) q; kind = e; same = sym (ap (λ (x : State). x.open_nodes) q) }
    go false e h = cc

module _ (bytes : List ℕ) where
  pub passes : (k : TokenKind) (s m : State) → acted bytes (Pass k) s ≡ Some m → Passed k s m
  passes k s m h = passed_so k s.last s.rest s.open_nodes m h

  -- an act that passes no token
  pub record Turned (s m : State) (fs : List OpenNode) : Type 0 where
    pub rest : m.rest ≡ s.rest
    pub nodes : m.open_nodes ≡ fs

  turned_so : (s m : State) (fs : List OpenNode) → Some (record { last = s.last; rest = s.rest; open_nodes = fs }) ≡ Some m → Turned s m fs
  turned_so s m fs h =
      let q : record { last = s.last; rest = s.rest; open_nodes = fs } ≡ m = cc in
      record { rest = sym (ap (λ (x : State). x.rest) q); nodes = sym (ap (λ (x : State). x.open_nodes) q) }

  pub opens : (s m : State) → acted bytes Open s ≡ Some m → Turned s m (record { start = next_start s.last s.rest; parts = [] } ∷ s.open_nodes)
  opens s m h = turned_so s m (record { start = next_start s.last s.rest; parts = [] } ∷ s.open_nodes) h

  pub reopens : (s m : State) → acted bytes Reopen s ≡ Some m → Turned s m (reopen s.open_nodes)
  reopens s m h = turned_so s m (reopen s.open_nodes) h

  pub closes : (k : NodeKind) (s m : State) → acted bytes (Close k) s ≡ Some m → Turned s m (close_last bytes k s.last s.open_nodes)
  closes k s m h = turned_so s m (close_last bytes k s.last s.open_nodes) h

  pub checks : (s m : State) → acted bytes CheckType s ≡ Some m → (ends_in_type s.open_nodes ≡ true) × (s ≡ m)
  checks s m h = checked_same (ends_in_type s.open_nodes) s m h

  -- ---- how many tokens are left

  act_less : (a : Act) (s m : State) → acted bytes a s ≡ Some m → length m.rest ≤ length s.rest
  act_less (Pass k) s m h = let z = (passes k s m h).row in let n : length s.rest ≡ length ((passes k s m h).token ∷ m.rest) = ap length z in omega (arith, n)
  act_less Open s m h = let q = ap length (opens s m h).rest in omega (arith, q)
  act_less Reopen s m h = let q = ap length (reopens s m h).rest in omega (arith, q)
  act_less Adopt s m h = let q = ap length (turned_so s m _ h).rest in omega (arith, q)
  act_less CheckType s m h = let q = ap (λ (x : State). length x.rest) (checks s m h).1 in omega (arith, q)
  act_less (Close k) s m h = let q = ap length (closes k s m h).rest in omega (arith, q)

  pub reads_less : {gs : List (RightSide Production)} {s e : State} → ReadsGo bytes gs s e → length e.rest ≤ length s.rest
  reads_less at_end = omega arith
  reads_less (does {a = a} {s = s} {m = m} h d) = let x = act_less a s m h in let y = reads_less d in omega (arith, x, y)
  reads_less (calls d) = reads_less d
  reads_less (nothing d) = reads_less d
  reads_less (in_turn d) = reads_less d
  reads_less (left d) = reads_less d
  reads_less (right d) = reads_less d
  reads_less (done d) = reads_less d
  reads_less (again d) = reads_less d
  reads_less (chosen w d) = reads_less d
  reads_less (passed_by w d) = reads_less d

  pub pass_less : (k : TokenKind) (s m : State) → Passed k s m → suc (length m.rest) ≤ length s.rest
  pass_less k s m p = let n : length s.rest ≡ length (p.token ∷ m.rest) = ap length p.row in omega (arith, n)

  -- ---- nodes

  -- the parts of a reading of a node: where it has begun, and where it ends
  pub record NodeParts (kind : NodeKind) (body : RightSide Production) (s e : State) : Type 0 where
    pub begun : State
    pub ends : State
    pub opened : acted bytes Open s ≡ Some begun
    pub reads : ReadsGo bytes (body ∷ []) begun ends
    pub closed : acted bytes (Close kind) ends ≡ Some e

  pub last_act : (a : Act) (s e : State) → ReadsGo bytes (Do a ∷ []) s e → acted bytes a s ≡ Some e
  last_act a s e (does h at_end) = h

  pub node_parts : (kind : NodeKind) (body : RightSide Production) (s e : State) → ReadsGo bytes (node kind body ∷ []) s e → NodeParts kind body s e
  node_parts kind body s e (in_turn (does {m = m} h (in_turn d))) =
      let r = split Production production bytes d (body ∷ []) (Do (Close kind) ∷ []) refl in
      record { begun = m; ends = r.0; opened = h; reads = r.1; closed = last_act (Close kind) r.0 e r.2 }

  pub node_back : (kind : NodeKind) (body : RightSide Production) (s m o e : State) → acted bytes Open s ≡ Some m → ReadsGo bytes (body ∷ []) m o → acted bytes (Close kind) o ≡ Some e → ReadsGo bytes (node kind body ∷ []) s e
  node_back kind body s m o e h d q = in_turn (does h (in_turn (join Production production bytes d (does q at_end))))

  pub record ExtendParts (kind : NodeKind) (body : RightSide Production) (s e : State) : Type 0 where
    pub begun : State
    pub ends : State
    pub reopened : acted bytes Reopen s ≡ Some begun
    pub reads : ReadsGo bytes (body ∷ []) begun ends
    pub closed : acted bytes (Close kind) ends ≡ Some e

  pub extend_parts : (kind : NodeKind) (body : RightSide Production) (s e : State) → ReadsGo bytes (extend kind body ∷ []) s e → ExtendParts kind body s e
  extend_parts kind body s e (in_turn (does {m = m} h (in_turn d))) =
      let r = split Production production bytes d (body ∷ []) (Do (Close kind) ∷ []) refl in
      record { begun = m; ends = r.0; reopened = h; reads = r.1; closed = last_act (Close kind) r.0 e r.2 }

  pub extend_back : (kind : NodeKind) (body : RightSide Production) (s m o e : State) → acted bytes Reopen s ≡ Some m → ReadsGo bytes (body ∷ []) m o → acted bytes (Close kind) o ≡ Some e → ReadsGo bytes (extend kind body ∷ []) s e
  extend_back kind body s m o e h d q = in_turn (does h (in_turn (join Production production bytes d (does q at_end))))

-- ---- the next token

-- what follows a type between brackets
abbrev pub behind_argument : List TokenKind
behind_argument = RightBracket ∷ Comma ∷ RightParen ∷ []

falsely : (a : Bool) → not a ≡ true → a ≡ false
falsely true h = cc
falsely false h = refl

excluded : (j l : List TokenKind) → each_kind (λ k. implied (is_in j k) (not (is_in l k))) ≡ true → (ts : List Token) → looks (OneOf j) ts ≡ true → looks (OneOf l) ts ≡ false
excluded j l h [] q = cc
excluded j l h (t ∷ ts) q = falsely (is_in l t.kind) (implies (is_in j t.kind) (not (is_in l t.kind)) (every_kind (λ k. implied (is_in j k) (not (is_in l k))) h t.kind) q)

excluded_pair : (j : List TokenKind) (k l : TokenKind) → each_kind (λ i. implied (is_in j i) (not (same_kind k i))) ≡ true → (ts : List Token) → looks (OneOf j) ts ≡ true → looks (Both k l) ts ≡ false
excluded_pair j k l h [] q = cc
excluded_pair j k l h (t ∷ []) q = refl
excluded_pair j k l h (t ∷ (u ∷ us)) q = go (same_kind k t.kind) (falsely (same_kind k t.kind) (implies (is_in j t.kind) (not (same_kind k t.kind)) (every_kind (λ i. implied (is_in j i) (not (same_kind k i))) h t.kind) q))
  where
    go : (b : Bool) → b ≡ false → (b && same_kind l u.kind) ≡ false
    go true e = cc
    go false e = refl

pub no_brace : (ts : List Token) → looks (OneOf behind_argument) ts ≡ true → looks (OneOf (LeftBrace ∷ [])) ts ≡ false
no_brace = excluded behind_argument (LeftBrace ∷ []) refl

pub no_bracket : (ts : List Token) → looks (OneOf behind_argument) ts ≡ true → looks (OneOf (LeftBracket ∷ [])) ts ≡ false
no_bracket = excluded behind_argument (LeftBracket ∷ []) refl

pub no_dot : (ts : List Token) → looks (OneOf behind_argument) ts ≡ true → looks (Both Dot Ident) ts ≡ false
no_dot = excluded_pair behind_argument Dot Ident refl

pub bracket_no_dot : (ts : List Token) → looks (OneOf (LeftBracket ∷ [])) ts ≡ true → looks (Both Dot Ident) ts ≡ false
bracket_no_dot = excluded_pair (LeftBracket ∷ []) Dot Ident refl

included : (k : TokenKind) (j : List TokenKind) → each_kind (λ i. implied (same_kind k i) (is_in j i)) ≡ true → (s m : State) → Passed k s m → looks (OneOf j) s.rest ≡ true
included k j h s m p = subst (λ x. looks (OneOf j) x ≡ true) (sym p.row) (implies (same_kind k p.token.kind) (is_in j p.token.kind) (every_kind (λ i. implied (same_kind k i) (is_in j i)) h p.token.kind) p.kind)

pub bracket_next : (s m : State) → Passed RightBracket s m → looks (OneOf behind_argument) s.rest ≡ true
bracket_next = included RightBracket behind_argument refl

pub comma_next : (s m : State) → Passed Comma s m → looks (OneOf behind_argument) s.rest ≡ true
comma_next = included Comma behind_argument refl

pub paren_next : (s m : State) → Passed RightParen s m → looks (OneOf behind_argument) s.rest ≡ true
paren_next = included RightParen behind_argument refl

pub left_bracket_next : (s m : State) → Passed LeftBracket s m → looks (OneOf (LeftBracket ∷ [])) s.rest ≡ true
left_bracket_next = included LeftBracket (LeftBracket ∷ []) refl

-- a token and then another
pub both_next : (j k : TokenKind) (s m n o : State) → Passed j s m → n.rest ≡ m.rest → Passed k n o → looks (Both j k) s.rest ≡ true
both_next j k s m n o p q r = subst (λ x. looks (Both j k) x ≡ true) (sym (p.row ∙ ap (λ x. p.token ∷ x) (sym q ∙ r.row))) (go (same_kind j p.token.kind) p.kind)
  where
    go : (b : Bool) → b ≡ true → (b && same_kind k r.token.kind) ≡ true
    go true e = r.kind
    go false e = cc
