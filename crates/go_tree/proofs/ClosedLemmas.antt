-- A node with a first and a last token of its own, read by itself, is read the same where it stands.
use Rattle.std.proofs.Common.{◌≡◌, ℕ, Bool, true, false, List, [], ◌∷◌, ◌++◌, refl, sym, ap, subst, ◌∙◌, cond, Option, None, Some}
use Rattle.go_tree.specs.declared.token.Token.{Token}
use Rattle.go_tree.specs.declared.token.TokenKind.{TokenKind}
use Rattle.go_tree.specs.declared.node_kind.NodeKind.{NodeKind}
use Rattle.go_tree.specs.declared.production.Production.{Production}
use Rattle.go_tree.specs.Tree.{Tree}
use Rattle.go_tree.specs.Grammar.RightSide.{RightSide, Do, Call, Seq, Pass, Open, Close}
use Rattle.go_tree.specs.Grammar.Tables.TokenKinds.{same_kind, is_in}
use Rattle.go_tree.specs.Grammar.Trees.Reading.{State, OpenNode, at_end, does, calls, in_turn, close_last, next_start, node_read, tree_read}
use Rattle.go_tree.specs.Grammar.Tables.Prediction.{AllDecided, is_empty, begins, starts, next_of}
use Rattle.go_tree.specs.Grammar.Trees.Spans.{end_of_last}
use Rattle.go_tree.specs.Grammar.Trees.Sentence.{production, tables, ReadsGo, Derives}
use Rattle.go_tree.proofs.ShapeLemmas.{single}
use Rattle.go_tree.proofs.SpanActLemmas.{ends}
use Rattle.go_tree.proofs.ReadingLemmas.{split, join, in_turn_of}
use Rattle.go_tree.proofs.PredictionLemmas.{call_decided, decided_less, open_act, swap}
use Rattle.go_tree.proofs.GrammarLemmas.{tables_right}
use Rattle.go_tree.proofs.FollowLemmas.{earlier, follow}
use Rattle.go_tree.proofs.StayLemmas.{AllStay}
use Rattle.go_tree.proofs.InPlaceLemmas.{EndsApart, same_in, InPlace, in_place}
use Rattle.go_tree.proofs.GrammarBalance.{needs}
use Rattle.go_tree.proofs.GrammarStay.{undecided, stay_checked}
use Rattle.go_tree.proofs.TruthLemmas.{later_starts, seq_starts}

-- these, and then that, as one right side
abbrev pub chain : {N : Type 0} → List (RightSide N) → RightSide N → RightSide N
chain [] g = g
chain (x ∷ xs) g = Seq x (chain xs g)

-- a node with these tokens at its ends
abbrev pub closed_node : {N : Type 0} → NodeKind → TokenKind → List (RightSide N) → TokenKind → RightSide N
closed_node kind first xs last = Seq (Do Open) (Seq (Seq (Do (Pass first)) (chain xs (Do (Pass last)))) (Do (Close kind)))

chain_starts : (xs : List (RightSide Production)) (g : RightSide Production) (gs : List (RightSide Production)) (j : TokenKind) → starts tables (xs ++ (g ∷ gs)) j ≡ true → next_of tables (chain xs g) (starts tables gs) j ≡ true
chain_starts [] g gs j h = h
chain_starts (x ∷ xs) g gs j h =
    let later = later_starts (begins tables x j) (is_empty tables x) (starts tables (xs ++ (g ∷ gs)) j) (next_of tables (chain xs g) (starts tables gs) j) (chain_starts xs g gs j) h in
    seq_starts (begins tables x j) (is_empty tables x) (begins tables (chain xs g) j) (is_empty tables (chain xs g)) (starts tables gs j) later

chain_decided : (xs : List (RightSide Production)) (g : RightSide Production) (gs : List (RightSide Production)) → AllDecided tables (chain xs g ∷ gs) → AllDecided tables (xs ++ (g ∷ gs))
chain_decided [] g gs ok = ok
chain_decided (x ∷ xs) g gs ok = (decided_less Production production [] tables tables_right x (starts tables (xs ++ (g ∷ gs))) (next_of tables (chain xs g) (starts tables gs)) (chain_starts xs g gs) ok.0.0, chain_decided xs g gs (ok.0.1, ok.1))

module _ (bytes : List ℕ) where
  called : (n : Production) (gs : List (RightSide Production)) (s e : State) → ReadsGo bytes (Call n ∷ gs) s e → ReadsGo bytes (production n ∷ gs) s e
  called n gs s e (calls d) = d

  chain_apart : (xs : List (RightSide Production)) (g : RightSide Production) (gs : List (RightSide Production)) (s e : State) → ReadsGo bytes (chain xs g ∷ gs) s e → ReadsGo bytes (xs ++ (g ∷ gs)) s e
  chain_apart [] g gs s e d = d
  chain_apart (x ∷ xs) g gs s e d = swap Production production bytes tables tables_right (in_turn_of d) (x ∷ []) (chain xs g ∷ gs) (xs ++ (g ∷ gs)) refl (chain_apart xs g gs)

  chain_joined : (xs : List (RightSide Production)) (g : RightSide Production) (gs : List (RightSide Production)) (s e : State) → ReadsGo bytes (xs ++ (g ∷ gs)) s e → ReadsGo bytes (chain xs g ∷ gs) s e
  chain_joined [] g gs s e d = d
  chain_joined (x ∷ xs) g gs s e d = in_turn (swap Production production bytes tables tables_right d (x ∷ []) (xs ++ (g ∷ gs)) (chain xs g ∷ gs) refl (chain_joined xs g gs))

  -- ---- tokens

  -- the state behind a token
  abbrev behind : Token → List Token → List OpenNode → State
  behind t ts fs = record { last = t.end; rest = ts; open_nodes = fs }

  passed_token : (kind : TokenKind) (gs : List (RightSide Production)) (last : ℕ) (rest : List Token) (fs : List OpenNode) (e : State) → ReadsGo bytes (Do (Pass kind) ∷ gs) (record { last = last; rest = rest; open_nodes = fs }) e → (t : Token) × (ts : List Token) × (rest ≡ t ∷ ts) × (same_kind kind t.kind ≡ true) × ReadsGo bytes gs (behind t ts fs) e
  passed_token kind gs last [] fs e (does h d) = cc
  passed_token kind gs last (t ∷ ts) fs e (does {m = m} h d) = go (same_kind kind t.kind) refl h
    where
      go : (b : Bool) → same_kind kind t.kind ≡ b → cond b (Some (behind t ts fs)) None ≡ Some m → (u : Token) × (us : List Token) × (t ∷ ts ≡ u ∷ us) × (same_kind kind u.kind ≡ true) × ReadsGo bytes gs (behind u us fs) e
      go true q h = let y : m ≡ behind t ts fs = cc in (t, ts, refl, q, subst (λ x. ReadsGo bytes gs x e) y d)
      go false q h = cc

  token_passed : (kind : TokenKind) (gs : List (RightSide Production)) (last : ℕ) (t : Token) (ts : List Token) (fs : List OpenNode) (e : State) → same_kind kind t.kind ≡ true → ReadsGo bytes gs (behind t ts fs) e → ReadsGo bytes (Do (Pass kind) ∷ gs) (record { last = last; rest = t ∷ ts; open_nodes = fs }) e
  token_passed kind gs last t ts fs e q d = does (ap (λ b. cond {A = Option State} b (Some (behind t ts fs)) None) q) d

  all_read : (s e : State) → ReadsGo bytes [] s e → s ≡ e
  all_read s e at_end = refl

  some_same : (x y : Tree) → Some x ≡ Some y → x ≡ y
  some_same x y h = cc

  -- behind its first token a node is open
  abbrev opened : Token → List OpenNode → List OpenNode
  opened t fs = record { start = t.start; parts = [] } ∷ fs

  module _ (n : Production) (kind : NodeKind) (first last : TokenKind) (xs : List (RightSide Production)) (shape : production n ≡ closed_node kind first xs last) (apart : is_in undecided last ≡ false) (stay : AllStay needs undecided xs (false ∷ [])) where
    -- what is read behind xs
    abbrev end_of : List (RightSide Production) → List (RightSide Production)
    end_of gs = Do (Pass last) ∷ Do (Close kind) ∷ gs

    from_node : (gs : List (RightSide Production)) (p : ℕ) (rest : List Token) (fs : List OpenNode) (e : State) → ReadsGo bytes (Call n ∷ gs) (record { last = p; rest = rest; open_nodes = fs }) e → (b : Token) × (us : List Token) × (rest ≡ b ∷ us) × (same_kind first b.kind ≡ true) × ReadsGo bytes (xs ++ end_of gs) (behind b us (opened b fs)) e
    from_node gs p rest fs e d =
        let s : State = record { last = p; rest = rest; open_nodes = fs } in
        let new : State = record { last = p; rest = rest; open_nodes = record { start = next_start p rest; parts = [] } ∷ fs } in
        let inside : RightSide Production = chain xs (Do (Pass last)) in
        let all = in_turn_of (subst (λ x. ReadsGo bytes (x ∷ gs) s e) shape (called n gs s e d)) in
        let begun = in_turn_of (open_act Production production bytes tables tables_right {a = Open} {s = s} {m = new} refl all) in
        let z = passed_token first (inside ∷ Do (Close kind) ∷ gs) p rest new.open_nodes e (in_turn_of begun) in
        let start : next_start p rest ≡ z.0.start = ap (next_start p) z.2 in
        let inner = chain_apart xs (Do (Pass last)) (Do (Close kind) ∷ gs) (behind z.0 z.1 new.open_nodes) e z.4 in
        (z.0, z.1, z.2, z.3, subst (λ x. ReadsGo bytes (xs ++ end_of gs) (behind z.0 z.1 (record { start = x; parts = [] } ∷ fs)) e) start inner)

    to_node : (gs : List (RightSide Production)) (p : ℕ) (b : Token) (us : List Token) (fs : List OpenNode) (e : State) → same_kind first b.kind ≡ true → ReadsGo bytes (xs ++ end_of gs) (behind b us (opened b fs)) e → ReadsGo bytes (Call n ∷ gs) (record { last = p; rest = b ∷ us; open_nodes = fs }) e
    to_node gs p b us fs e same d =
        let s : State = record { last = p; rest = b ∷ us; open_nodes = fs } in
        let inner = chain_joined xs (Do (Pass last)) (Do (Close kind) ∷ gs) (behind b us (opened b fs)) e d in
        let begun = token_passed first (chain xs (Do (Pass last)) ∷ Do (Close kind) ∷ gs) p b us (opened b fs) e same inner in
        calls (subst (λ x. ReadsGo bytes (x ∷ gs) s e) (sym shape) (in_turn (does refl (in_turn (in_turn begun)))))

    -- behind its last token it is the newest part of the node round it
    abbrev closed : Token → List Token → List OpenNode → State
    closed r rs fs = record { last = r.end; rest = rs; open_nodes = close_last bytes kind r.end fs }

    from_end : (gs : List (RightSide Production)) (m e : State) → ReadsGo bytes (end_of gs) m e → (r : Token) × (rs : List Token) × (m.rest ≡ r ∷ rs) × (same_kind last r.kind ≡ true) × ReadsGo bytes gs (closed r rs m.open_nodes) e
    from_end gs m e d =
        let z = passed_token last (Do (Close kind) ∷ gs) m.last m.rest m.open_nodes e d in
        (z.0, z.1, z.2, z.3, open_act Production production bytes tables tables_right {a = Close kind} {s = behind z.0 z.1 m.open_nodes} {m = closed z.0 z.1 m.open_nodes} refl z.4)

    to_end : (gs : List (RightSide Production)) (p : ℕ) (r : Token) (rs : List Token) (fs : List OpenNode) (e : State) → same_kind last r.kind ≡ true → ReadsGo bytes gs (closed r rs fs) e → ReadsGo bytes (end_of gs) (record { last = p; rest = r ∷ rs; open_nodes = fs }) e
    to_end gs p r rs fs e same d = token_passed last (Do (Close kind) ∷ gs) p r rs fs e same (does refl d)

    -- what stands between its tokens is read the same on top of these nodes, and before these tokens
    record Stands (ts : List Token) (t : Tree) (more : List Token) (fs : List OpenNode) : Type 0 where
      opening : Token
      others : List Token
      are : ts ≡ opening ∷ others
      begun : same_kind first opening.kind ≡ true
      before_last : ℕ
      closing : Token
      ended : same_kind last closing.kind ≡ true
      ends_there : ends ts ≡ closing.end
      node : OpenNode
      tree : node_read bytes kind closing.end node ≡ t
      reads : ReadsGo bytes xs (behind opening (others ++ more) (opened opening fs)) (record { last = before_last; rest = closing ∷ more; open_nodes = node ∷ fs })

    stands : (ts : List Token) (t : Tree) → Derives bytes n ts t → (more : List Token) (fs : List OpenNode) → Stands ts t more fs
    unfolding InPlace
    stands ts t d more fs =
        let e = d.whole.end in
        let list : List OpenNode = record { start = 0; parts = [] } ∷ [] in
        let z = from_node [] 0 ts list e d.whole.reads in
        let parts = split Production production bytes z.4 xs (end_of []) refl in
        let m = parts.0 in
        let end = from_end [] m e parts.2 in
        let r = end.0 in
        let over : closed r end.1 m.open_nodes ≡ e = all_read (closed r end.1 m.open_nodes) e end.4 in
        let none : end.1 ≡ [] = ap (λ (x : State). x.rest) over ∙ d.whole.all in
        let rest : m.rest ≡ r ∷ [] = end.2 ∙ ap (λ x. r ∷ x) none in
        let Reaches : List Token → Type 0 = λ us. (b : Token) → end_of_last b us ≡ r.end in
        let ends_so : Reaches z.1 = earlier Production production bytes Reaches (λ u us h b. h u) parts.1 (subst Reaches (sym rest) (λ b. refl)) in
        let kind_so : is_in undecided r.kind ≡ false = sym (same_in undecided last r.kind end.3) ∙ apart in
        let place = in_place Production production bytes undecided list fs more needs stay_checked parts.1 (opened z.0 []) (false ∷ []) stay ((λ e. cc), tt) refl (subst (EndsApart undecided) (sym rest) kind_so) in
        let one = single false place.0 place.2 in
        let nodes : m.open_nodes ≡ one.0 ∷ list = place.1 ∙ ap (λ x. x ++ list) one.1 in
        let read : Some (node_read bytes kind r.end one.0) ≡ Some t = sym (ap (λ x. tree_read (close_last bytes kind r.end x)) nodes) ∙ (ap (λ (x : State). tree_read x.open_nodes) over ∙ d.tree) in
        record {
          opening = z.0;
          others = z.1;
          are = z.2;
          begun = z.3;
          before_last = m.last;
          closing = r;
          ended = end.3;
          ends_there = ap ends z.2 ∙ ends_so z.0;
          node = one.0;
          tree = some_same (node_read bytes kind r.end one.0) t read;
          reads = subst (λ x. ReadsGo bytes xs (behind z.0 (z.1 ++ more) (opened z.0 fs)) (record { last = m.last; rest = x ++ more; open_nodes = one.0 ∷ fs })) rest (subst (λ x. ReadsGo bytes xs (behind z.0 (z.1 ++ more) (opened z.0 fs)) (record { last = m.last; rest = m.rest ++ more; open_nodes = x ++ fs })) one.1 place.3);
        }

    -- where the node round it has it
    abbrev with_node : List Token → Tree → List Token → OpenNode → List OpenNode → State
    with_node ts t more f fs = record { last = ends ts; rest = more; open_nodes = record { start = f.start; parts = t ∷ f.parts } ∷ fs }

    closed_there : (ts : List Token) (t : Tree) (more : List Token) (f : OpenNode) (fs : List OpenNode) (so : Stands ts t more (f ∷ fs)) → closed so.closing more (so.node ∷ (f ∷ fs)) ≡ with_node ts t more f fs
    closed_there ts t more f fs so =
        ap (λ x. record { last = so.closing.end; rest = more; open_nodes = record { start = f.start; parts = x ∷ f.parts } ∷ fs }) so.tree
        ∙ ap (λ x. record { last = x; rest = more; open_nodes = record { start = f.start; parts = t ∷ f.parts } ∷ fs }) (sym so.ends_there)

    all_decided : (gs : List (RightSide Production)) → AllDecided tables (Call n ∷ gs) → AllDecided tables (xs ++ end_of gs)
    all_decided gs ok =
        let all = subst (λ x. AllDecided tables (x ∷ gs)) shape (call_decided Production production bytes tables tables_right n gs ok) in
        chain_decided xs (Do (Pass last)) (Do (Close kind) ∷ gs) (all.0.1.0.1, (tt, all.1))

    -- what reads on from there, read the node there
    pub closed_ahead : (ts : List Token) (t : Tree) → Derives bytes n ts t → (gs : List (RightSide Production)) → AllDecided tables (Call n ∷ gs) → (p : ℕ) (f : OpenNode) (fs : List OpenNode) (more : List Token) (e : State) → e.rest ≡ [] → ReadsGo bytes (Call n ∷ gs) (record { last = p; rest = ts ++ more; open_nodes = f ∷ fs }) e → ReadsGo bytes gs (record { last = ends ts; rest = more; open_nodes = record { start = f.start; parts = t ∷ f.parts } ∷ fs }) e
    closed_ahead ts t d gs ok p f fs more e z a =
        let so = stands ts t d more (f ∷ fs) in
        let whole = from_node gs p (ts ++ more) (f ∷ fs) e a in
        let row : whole.0 ∷ whole.1 ≡ so.opening ∷ (so.others ++ more) = sym whole.2 ∙ ap (λ x. x ++ more) so.are in
        let token : whole.0 ≡ so.opening = cc in
        let others : whole.1 ≡ so.others ++ more = cc in
        let inner = subst (λ x. ReadsGo bytes (xs ++ end_of gs) (behind so.opening x (opened so.opening (f ∷ fs))) e) others (subst (λ x. ReadsGo bytes (xs ++ end_of gs) (behind x whole.1 (opened x (f ∷ fs))) e) token whole.4) in
        let m : State = record { last = so.before_last; rest = so.closing ∷ more; open_nodes = so.node ∷ (f ∷ fs) } in
        let end = from_end gs m e (follow Production production bytes tables tables_right so.reads last so.closing more (Do (Close kind) ∷ gs) e refl so.ended (all_decided gs ok) inner z) in
        let end_token : end.0 ≡ so.closing = cc in
        let rest : end.1 ≡ more = cc in
        let there = subst (λ x. ReadsGo bytes gs (closed so.closing x m.open_nodes) e) rest (subst (λ x. ReadsGo bytes gs (closed x end.1 m.open_nodes) e) end_token end.4) in
        subst (λ x. ReadsGo bytes gs x e) (closed_there ts t more f fs so) there

    pub closed_back : (ts : List Token) (t : Tree) → Derives bytes n ts t → (gs : List (RightSide Production)) (p : ℕ) (f : OpenNode) (fs : List OpenNode) (more : List Token) (e : State) → ReadsGo bytes gs (record { last = ends ts; rest = more; open_nodes = record { start = f.start; parts = t ∷ f.parts } ∷ fs }) e → ReadsGo bytes (Call n ∷ gs) (record { last = p; rest = ts ++ more; open_nodes = f ∷ fs }) e
    closed_back ts t d gs p f fs more e a =
        let so = stands ts t d more (f ∷ fs) in
        let there = subst (λ x. ReadsGo bytes gs x e) (sym (closed_there ts t more f fs so)) a in
        let end = to_end gs so.before_last so.closing more (so.node ∷ (f ∷ fs)) e so.ended there in
        let whole = to_node gs p so.opening (so.others ++ more) (f ∷ fs) e so.begun (join Production production bytes so.reads end) in
        subst (λ x. ReadsGo bytes (Call n ∷ gs) (record { last = p; rest = x ++ more; open_nodes = f ∷ fs }) e) (sym so.are) whole
