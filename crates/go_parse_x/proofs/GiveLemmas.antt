-- A block that is handed in.
use Rattle.std.proofs.Common.{true, ◌≡◌, ℕ, ◌≤◌, ◌+◌, ◌-◌, List, [], ◌∷◌, ◌++◌, Option, None, Some, refl, subst, sym, ap, ◌∙◌, ◌⊎◌, inl, inr, ⊎_elim, arith, append_assoc, ◌↔◌}
use Rattle.std.proofs.lemmas.List.{append-nil}
use Rattle.go_tree.specs.declared.token.Token.{Token}
use Rattle.go_tree.specs.declared.token.TokenKind.{TokenKind}
use Rattle.go_tree.specs.declared.production.Production.{Production}
use Rattle.go_tree.specs.declared.production.Production.TheVariants as p
use Rattle.go_tree.specs.Height.{height_of, AllFit}
use Rattle.go_tree.specs.Tree.{Tree}
use Rattle.go_tree.specs.Grammar.RightSide.{RightSide, Call}
use Rattle.go_tree.specs.Grammar.Trees.Reading.{State, OpenNode, before}
use Rattle.go_tree.specs.Grammar.Tables.Brackets.{through_all, standing}
use Rattle.go_tree.specs.Grammar.Tables.Completion.{completion, tokens_of}
use Rattle.go_tree.specs.Grammar.Tables.Rank.{top_rank}
use Rattle.go_tree.specs.Grammar.Trees.Spans.{end_of_last}
use Rattle.go_tree.specs.Grammar.Trees.Sentence.{texts, ReadsGo, IsA, Derives}
use Rattle.go_tree.proofs.BlockLemmas.{block_in_place}
use Rattle.go_tree.proofs.GrammarBlocks.{block_braces, block_heights}
use Rattle.go_tree.proofs.SentenceLemmas.{completes_lem}
use Rattle.go_tree.proofs.SpanActLemmas.{ends}
use Rattle.go_scan.proofs.NextLemmas.{one_next}
use Rattle.go_parse_x.specs.declared.heights.Heights.{Heights}
use Rattle.go_parse_x.specs.Machine.Braces.{all_braced}
use Rattle.go_parse_x.specs.Machine.Heights.{Counts}
use Rattle.go_parse_x.specs.Tables.Opened.{added, Rises}
use Rattle.go_parse_x.specs.Pieces.{HasRead, View, IsOpen, IsAwaiting}
use Rattle.go_parse_x.specs.Texts.{IsBehind, none, one}
use Rattle.go_tree.specs.Lexical.Scan.{Stand}
use Rattle.go_parse_x.specs.Machine.Turns.{at, IsFull, IsSound, IsSolid}
use Rattle.go_parse_x.proofs.BraceLemmas.{braced_behind}
use Rattle.go_parse_x.proofs.PieceLemmas.{IsPiece, reads_begin}

-- ---- where tokens end

behind_more : (front ts : List Token) (t : Token) (to : ℕ) (kind : Option TokenKind) → IsBehind (t ∷ ts) to kind → IsBehind (front ++ t ∷ ts) to kind
behind_more front ts t to kind b = go (t ∷ ts) to kind b refl
  where
    go : (us : List Token) (to : ℕ) (kind : Option TokenKind) → IsBehind us to kind → us ≡ t ∷ ts → IsBehind (front ++ t ∷ ts) to kind
    go us to kind none q = cc
    go us to kind (one vs v) q =
        let w : (front ++ vs) ++ v ∷ [] ≡ front ++ t ∷ ts = append_assoc front vs (v ∷ []) ∙ ap (λ x. front ++ x) q in
        subst (λ x. IsBehind x v.end (Some v.kind)) w (one (front ++ vs) v)

behind_first : (ts : List Token) (t u : Token) (to : ℕ) (kind : Option TokenKind) → IsBehind (u ∷ ts) to kind → IsBehind (t ∷ (u ∷ ts)) to kind
behind_first ts t u to kind b = behind_more (t ∷ []) ts u to kind b

pub stand_behind : (bytes : List ℕ) (at to : ℕ) (last kind : Option TokenKind) (t : Token) (ts : List Token) → Stand bytes at last (t ∷ ts) to kind → IsBehind (t ∷ ts) to kind × (end_of_last t ts ≡ to)
stand_behind bytes at to last kind t [] h =
    let P : Option TokenKind → Type 0 = λ k. IsBehind (t ∷ []) to k in
    let Q : ℕ → Type 0 = λ n. IsBehind (t ∷ []) n (Some t.kind) in
    (subst P h.2.1 (subst Q h.2.0 (one [] t)), h.2.0)
stand_behind bytes at to last kind t (u ∷ us) h =
    let z = stand_behind bytes t.end to (Some t.kind) kind u us h.2 in
    (behind_first us t u to kind z.0, z.1)

-- ---- heights

-- a front of two lists is one of the first, or the first and some of the second
fronts_of_two : (front bs xs ys : List Token) → front ++ bs ≡ xs ++ ys → ((zs : List Token) × (front ≡ xs ++ zs)) ⊎ ((b : Token) × (zs : List Token) × (xs ≡ front ++ b ∷ zs) × (bs ≡ (b ∷ zs) ++ ys))
fronts_of_two front bs [] ys q = inl (front, refl)
fronts_of_two [] bs (x ∷ xs) ys q = inr (x, xs, refl, q)
fronts_of_two (f ∷ front) bs (x ∷ xs) ys q =
    let h : f ≡ x = cc in
    let r : front ++ bs ≡ xs ++ ys = cc in
    ⊎_elim
    (λ (z : (zs : List Token) × (front ≡ xs ++ zs)). inl (z.0, ap (λ w. f ∷ w) z.1 ∙ ap (λ w. w ∷ (xs ++ z.0)) h))
    (λ (z : (b : Token) × (zs : List Token) × (xs ≡ front ++ b ∷ zs) × (bs ≡ (b ∷ zs) ++ ys)). inr (z.0, z.1, ap (λ w. x ∷ w) z.2 ∙ ap (λ w. w ∷ (front ++ z.0 ∷ z.1)) (sym h), z.3))
    (fronts_of_two front bs xs ys r)

all_fits : (free : ℕ) (front : List Token) → AllFit free front → height_of front ≤ free
all_fits free front fit = fit front [] (sym (append-nil front))

within : (a b c d : ℕ) → a ≤ d → c ≤ d - a → b ≡ a + c → b ≤ d
within a b c d h w q = omega (arith, h, w, q)

block_fits : (bytes : List ℕ) (free : ℕ) (front bs : List Token) → IsA bytes p.Block bs → AllFit free front → AllFit (free - height_of front) bs → AllFit free (front ++ bs)
block_fits bytes free front bs is fit rest xs ys q =
    ⊎_elim
    (λ (z : (zs : List Token) × (front ≡ xs ++ zs)). fit xs z.0 z.1)
    (λ (z : (b : Token) × (zs : List Token) × (xs ≡ front ++ b ∷ zs) × (bs ≡ (b ∷ zs) ++ ys)).
    let h = block_heights bytes front bs (z.0 ∷ z.1) ys is z.3 (omega arith) in
    subst (λ w. height_of w ≤ free) (sym z.2) (within (height_of front) (height_of (front ++ z.0 ∷ z.1)) (height_of (z.0 ∷ z.1)) free (all_fits free front fit) (rest (z.0 ∷ z.1) ys z.3) h))
    (fronts_of_two front bs xs ys q)

-- ---- the piece behind the block

module _ (bytes : List ℕ) (v : View) (is : IsPiece v.n) (front : List Token) (low number at0 : ℕ) (kind : Option TokenKind) (a : IsAwaiting bytes v front low number at0 kind) (tree : Tree) where
  -- the tokens of the block begin with the brace that was answered
  brace_first : (bs : List Token) (to : ℕ) (then : Option TokenKind) → Stand bytes at0 kind bs to then → IsA bytes p.Block bs → (rest : List Token) × (bs ≡ a.brace ∷ rest)
  brace_first [] to then h w = absurd (let z = (block_braces bytes [] w).are in cc)
  brace_first (b ∷ bs) to then h w = (bs, ap (λ x. x ∷ bs) (one_next bytes at0 kind b a.brace h.0 a.next))

  solid_rest : IsSolid a.rest
  solid_rest =
      let s = subst IsSound a.block a.sound in
      record { decided = s.decided.1; firm = s.held.1; spelled = s.spelled; begun = s.begun }

  in_place : (bs ts : List Token) (e : State) (f : OpenNode) (fs : List OpenNode) → Derives bytes p.Block bs tree → v.nodes ≡ f ∷ fs → e.rest ≡ [] → ReadsGo bytes v.rest (at v.last (bs ++ ts) v.nodes) e ↔ ReadsGo bytes a.rest (at (ends bs) ts (added tree v.nodes)) e
  in_place bs ts e f fs d q z =
      let s = subst IsSound a.block a.sound in
      let w = block_in_place bytes bs tree d a.rest s.decided v.last f fs ts e z in
      let P : List (RightSide Production) → Type 0 = λ g. ReadsGo bytes g (at v.last (bs ++ ts) (f ∷ fs)) e ↔ ReadsGo bytes a.rest (at (ends bs) ts (added tree (f ∷ fs))) e in
      let Q : List OpenNode → Type 0 = λ n. ReadsGo bytes v.rest (at v.last (bs ++ ts) n) e ↔ ReadsGo bytes a.rest (at (ends bs) ts (added tree n)) e in
      subst Q (sym q) (subst P (sym a.block) w)

  some_node : (ns : List OpenNode) → IsFull ns → (f : OpenNode) × (fs : List OpenNode) × (ns ≡ f ∷ fs)
  some_node [] h = absurd h
  some_node (f ∷ fs) h = (f, fs, refl)

  joined : (bs ts rest : List Token) → bs ≡ a.brace ∷ rest → (front ++ bs) ++ ts ≡ front ++ a.brace ∷ (rest ++ ts)
  joined bs ts rest q = append_assoc front bs ts ∙ ap (λ x. front ++ (x ++ ts)) q

  given_read : (bs : List Token) (to : ℕ) (then : Option TokenKind) → Stand bytes at0 kind bs to then → Derives bytes p.Block bs tree → ends bs ≡ to → HasRead bytes v.n (front ++ bs) None a.rest to (added tree v.nodes)
  given_read bs to then h d q =
      let b = brace_first bs to then h d.whole in
      let n = some_node v.nodes a.full in
      record {
        there = λ ts e w z r.
            let x = a.there (b.0 ++ ts) e z (subst (λ k. ReadsGo bytes (Call v.n ∷ []) (before k) e) (joined bs ts b.0 b.1) r) in
            let y = subst (λ k. ReadsGo bytes v.rest (at v.last (k ++ ts) v.nodes) e) (sym b.1) x in
            subst (λ l. ReadsGo bytes a.rest (at l ts (added tree v.nodes)) e) q ((in_place bs ts e n.0 n.1 d n.2 z).0 y);
        back = λ ts e w z r.
            let y = (in_place bs ts e n.0 n.1 d n.2 z).1 (subst (λ l. ReadsGo bytes a.rest (at l ts (added tree v.nodes)) e) (sym q) r) in
            let x = subst (λ k. ReadsGo bytes v.rest (at v.last (k ++ ts) v.nodes) e) b.1 y in
            subst (λ k. ReadsGo bytes (Call v.n ∷ []) (before k) e) (sym (joined bs ts b.0 b.1)) (a.back (b.0 ++ ts) e z x);
      }

  added_full : (ns : List OpenNode) → IsFull ns → IsFull (added tree ns)
  added_full [] h = absurd h
  added_full (f ∷ fs) h = tt

  behind_brace : (bs rest : List Token) (to : ℕ) (then : Option TokenKind) → bs ≡ a.brace ∷ rest → Stand bytes at0 kind bs to then → IsBehind (front ++ bs) to then × (ends bs ≡ to)
  behind_brace bs rest to then q h =
      let P : List Token → Type 0 = λ x. IsBehind (front ++ x) to then × (ends x ≡ to) in
      let z = stand_behind bytes at0 to kind then a.brace rest (subst (λ x. Stand bytes at0 kind x to then) q h) in
      subst P (sym q) (behind_more front rest a.brace to then z.0, z.1)

  fit_before : AllFit v.free front
  fit_before xs ys q = a.fit xs (ys ++ a.brace ∷ []) (ap (λ x. x ++ a.brace ∷ []) q ∙ append_assoc xs ys (a.brace ∷ []))

  pub given_open : (bs : List Token) (to : ℕ) (then : Option TokenKind) → Stand bytes at0 kind bs to then → Derives bytes p.Block bs tree → AllFit (v.free - height_of front) bs → (rest : List (RightSide Production)) → rest ≡ a.rest → (nodes : List OpenNode) → nodes ≡ added tree v.nodes → (heights : Heights) (numbers : List ℕ) (after : ℕ) → Counts heights (front ++ bs) → Rises low numbers after → IsOpen bytes (record { n = v.n; free = v.free; rest = rest; last = to; nodes = nodes; heights = heights; numbers = numbers; hands_over = v.hands_over }) (front ++ bs) low after to then
  given_open bs to then h d fits rest qr nodes qn heights numbers after counts rises =
      let b = brace_first bs to then h d.whole in
      let e = behind_brace bs b.0 to then b.1 h in
      let read = given_read bs to then h d e.1 in
      let c = completes_lem bytes a.rest solid_rest.firm to (added tree v.nodes) in
      let P : List (RightSide Production) → Type 0 = λ r. IsOpen bytes (record { n = v.n; free = v.free; rest = r; last = to; nodes = nodes; heights = heights; numbers = numbers; hands_over = v.hands_over }) (front ++ bs) low after to then in
      let Q : List OpenNode → Type 0 = λ m. IsOpen bytes (record { n = v.n; free = v.free; rest = a.rest; last = to; nodes = m; heights = heights; numbers = numbers; hands_over = v.hands_over }) (front ++ bs) low after to then in
      subst P (sym qr) (subst Q (sym qn) (record {
        assumed = None;
        reads = read;
        solid = solid_rest;
        begins = reads_begin bytes v.n is (front ++ bs) (tokens_of (completion texts top_rank a.rest)) c.0 (read.back (tokens_of (completion texts top_rank a.rest)) c.0 tt c.2 c.1) c.2;
        asked = tt;
        next = λ t w. tt;
        braced = λ h. braced_behind (Call p.Block) a.rest (subst (λ g. all_braced g ≡ true) a.block (a.braced h));
        level = a.level;
        levels = subst (λ g. through_all standing g a.level ≡ Some 0) a.block a.levels;
        fit = block_fits bytes v.free front bs d.whole fit_before fits;
        counts = counts;
        full = added_full v.nodes a.full;
        rises = rises;
        behind = e.0;
      }))
