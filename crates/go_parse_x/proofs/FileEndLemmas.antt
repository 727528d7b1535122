-- The end of the file is the last token of a file.
use Rattle.std.proofs.Common.{◌≡◌, ℕ, Bool, true, false, cond, List, [], ◌∷◌, ◌++◌, Option, Some, refl, subst, sym, ap, ◌∙◌, append_assoc}
use Rattle.std.proofs.lemmas.List.{append-nil}
use Rattle.go_tree.specs.declared.node_kind.NodeKind.{NodeKind}
use Rattle.go_tree.specs.declared.token.Token.{Token}
use Rattle.go_tree.specs.declared.token.TokenKind.{TokenKind}
use Rattle.go_tree.specs.declared.token.TokenKind.TheVariants.{End}
use Rattle.go_tree.specs.declared.production.Production.{Production}
use Rattle.go_tree.specs.declared.production.Production.TheVariants as p
use Rattle.go_tree.specs.Grammar.RightSide.{RightSide, Do, Call, Seq, Act, Pass, Open, Close}
use Rattle.go_tree.specs.Grammar.Tables.TokenKinds.{same_kind}
use Rattle.go_tree.specs.Grammar.Trees.Reading.{State, acted, before, at_end, does, calls}
use Rattle.go_tree.specs.Grammar.Trees.Sentence.{production, ReadsGo, IsA, Begins}
use Rattle.go_tree.proofs.EmptyLemmas.{rest_kept}
use Rattle.go_tree.proofs.NestingLemmas.{passed_token, same_kinds}
use Rattle.go_tree.proofs.ReadingLemmas.{split, in_turn_of}
use Rattle.go_tree.specs.Lexical.Scan.{Stand}
use Rattle.go_parse_x.proofs.EndTokenLemmas.{all_endless, from_end, end_stays, end_there}

entered : (bytes : List ℕ) (n : Production) (gs : List (RightSide Production)) (s e : State) → ReadsGo bytes (Call n ∷ gs) s e → ReadsGo bytes (production n ∷ gs) s e
entered bytes n gs s e (calls d) = d

acts : (bytes : List ℕ) (a : Act) (gs : List (RightSide Production)) (s e : State) → ReadsGo bytes (Do a ∷ gs) s e → (m : State) × (acted bytes a s ≡ Some m) × ReadsGo bytes gs m e
acts bytes a gs s e (does {m = m} h d) = (m, h, d)

ends : (bytes : List ℕ) (s e : State) → ReadsGo bytes [] s e → s ≡ e
ends bytes s e at_end = refl

-- one right side of a series, which passes no end
peeled : (bytes : List ℕ) (g h : RightSide Production) (gs : List (RightSide Production)) (s e : State) → all_endless (g ∷ []) ≡ true → ReadsGo bytes (Seq g h ∷ gs) s e → (m : State) × (from_end s.rest ≡ from_end m.rest) × ReadsGo bytes (h ∷ gs) m e
peeled bytes g h gs s e w d =
    let z = split Production production bytes (in_turn_of d) (g ∷ []) (h ∷ gs) refl in
    (z.0, end_stays bytes z.1 w, z.2)

-- and an act in front of it
opened : (bytes : List ℕ) (h : RightSide Production) (gs : List (RightSide Production)) (s e : State) → ReadsGo bytes (Seq (Do Open) h ∷ gs) s e → (m : State) × (from_end s.rest ≡ from_end m.rest) × ReadsGo bytes (h ∷ gs) m e
opened bytes h gs s e d = peeled bytes (Do Open) h gs s e refl d

closing : (bytes : List ℕ) (kind : NodeKind) (s e : State) → ReadsGo bytes (Do (Close kind) ∷ []) s e → s.rest ≡ e.rest
closing bytes kind s e d =
    let z = acts bytes (Close kind) [] s e d in
    sym (rest_kept bytes (Close kind) s z.0 refl z.1) ∙ ap (λ (x : State). x.rest) (ends bytes z.0 e z.2)

last_one : (bytes : List ℕ) (kind : NodeKind) (s e : State) → e.rest ≡ [] → ReadsGo bytes (Do (Pass End) ∷ (Do (Close kind) ∷ [])) s e → (u : Token) × (from_end s.rest ≡ u ∷ [])
last_one bytes kind s e q d =
    let z = acts bytes (Pass End) (Do (Close kind) ∷ []) s e d in
    let t = passed_token End s.rest s.open_nodes z.0 z.1 in
    let rest = closing bytes kind z.0 e z.2 ∙ q in
    let row : s.rest ≡ t.0 ∷ [] = t.1 ∙ ap (λ r. t.0 ∷ r) rest in
    let same : same_kind End t.0.kind ≡ true = subst (λ k. same_kind End k ≡ true) t.2 refl in
    let P : List Token → Type 0 = λ r. from_end r ≡ t.0 ∷ [] in
    (t.0, subst P (sym row) (rw same refl))

-- from its first end on a file has one token
one_end : (bytes : List ℕ) (s e : State) → e.rest ≡ [] → ReadsGo bytes (Call p.File ∷ []) s e → (u : Token) × (from_end s.rest ≡ u ∷ [])
one_end bytes s e q d =
    let a = opened bytes _ _ s e (entered bytes p.File [] s e d) in
    let b = peeled bytes _ _ _ a.0 e refl (in_turn_of a.2) in
    let c = peeled bytes _ _ _ b.0 e refl b.2 in
    let f = peeled bytes _ _ _ c.0 e refl c.2 in
    let g = peeled bytes _ _ _ f.0 e refl f.2 in
    let h = peeled bytes _ _ _ g.0 e refl g.2 in
    let l = last_one bytes _ h.0 e q h.2 in
    (l.0, a.1 ∙ (b.1 ∙ (c.1 ∙ (f.1 ∙ (g.1 ∙ (h.1 ∙ l.1))))))

only_one : (zs more : List Token) (t u : Token) → zs ++ t ∷ more ≡ u ∷ [] → more ≡ []
only_one [] more t u q = cc
only_one (z ∷ []) more t u q = cc
only_one (z ∷ (y ∷ zs)) more t u q = cc

-- tokens that begin a file and end with its end are a file
pub file_ends : (bytes : List ℕ) (front : List Token) (t : Token) → t.kind ≡ End → Begins bytes p.File (front ++ t ∷ []) → IsA bytes p.File (front ++ t ∷ [])
file_ends bytes front t h b = cut b.0 b.2.whole
  where
    cut : (more : List Token) → IsA bytes p.File ((front ++ t ∷ []) ++ more) → IsA bytes p.File (front ++ t ∷ [])
    cut more a =
        let o = one_end bytes (before ((front ++ t ∷ []) ++ more)) a.end a.all a.reads in
        let P : List Token → Type 0 = λ x. IsA bytes p.File ((front ++ t ∷ []) ++ x) in
        let Q : List Token → Type 0 = λ x. IsA bytes p.File x in
        let row = append_assoc front (t ∷ []) more in
        let z = end_there front more t h in
        let none = only_one z.0 more t o.0 (sym z.1 ∙ (ap from_end (sym row) ∙ o.1)) in
        subst Q (append-nil (front ++ t ∷ [])) (subst P none a)

no_end : (bytes : List ℕ) (at to : ℕ) (last kind : Option TokenKind) (tokens : List Token) → Stand bytes at last tokens to kind → from_end tokens ≡ []
no_end bytes at to last kind [] h = refl
no_end bytes at to last kind (t ∷ ts) h = go (same_kind End t.kind) refl (no_end bytes t.end to (Some t.kind) kind ts h.2)
  where
    go : (b : Bool) → same_kind End t.kind ≡ b → from_end ts ≡ [] → cond b (t ∷ ts) (from_end ts) ≡ []
    go true q none = absurd (h.1 (sym (same_kinds End t.kind q)))
    go false q none = none

-- tokens before the end of the file are no file
pub no_file : (bytes : List ℕ) (at to : ℕ) (last kind : Option TokenKind) (tokens : List Token) → Stand bytes at last tokens to kind → IsA bytes p.File tokens → ⊥
no_file bytes at to last kind tokens h a =
    let o = one_end bytes (before tokens) a.end a.all a.reads in
    absurd (let q = sym (no_end bytes at to last kind tokens h) ∙ o.1 in cc)
