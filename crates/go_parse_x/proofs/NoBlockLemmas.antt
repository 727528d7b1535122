-- A token that is passed opens no block: behind the brace of a block a `;` can stand, and behind no other.
use Rattle.std.proofs.Common.{◌≡◌, ℕ, true, List, [], ◌∷◌, ◌++◌, Option, None, Some, refl, subst, sym, ap, ◌∙◌, ◌⊎◌, inl, inr, ⊎_elim, append_assoc}
use Rattle.std.proofs.lemmas.List.{append-nil}
use Rattle.go_tree.specs.declared.token.Token.{Token}
use Rattle.go_tree.specs.declared.token.TokenKind.{TokenKind}
use Rattle.go_tree.specs.declared.token.TokenKind.TheVariants.{LeftBrace, RightBrace, Semicolon}
use Rattle.go_tree.specs.declared.node_kind.NodeKind.TheVariants as k
use Rattle.go_tree.specs.declared.production.Production.{Production}
use Rattle.go_tree.specs.declared.production.Production.TheVariants as p
use Rattle.go_tree.specs.Grammar.RightSide.{RightSide, Call}
use Rattle.go_tree.specs.Grammar.Tables.TokenKinds.{same_kind}
use Rattle.go_tree.specs.Grammar.Trees.Reading.{State, OpenNode, close_last, does, calls, nothing, in_turn, left, right, done, again}
use Rattle.go_tree.specs.Grammar.Tables.Completion.{Firm, completion, tokens_of}
use Rattle.go_tree.specs.Grammar.Tables.Rank.{top_rank}
use Rattle.go_tree.specs.Grammar.Trees.Sentence.{production, tables, texts, ReadsGo}
use Rattle.go_tree.proofs.PredictionLemmas.{first_token}
use Rattle.go_tree.proofs.GrammarLemmas.{tables_right}
use Rattle.go_tree.proofs.SentenceLemmas.{completes_lem}
use Rattle.go_parse_x.specs.declared.seen.Seen.{Seen}
use Rattle.go_parse_x.specs.Machine.Braces.{all_braced}
use Rattle.go_parse_x.specs.Pieces.{HasRead, OpensBlock, PassesNoBlock}
use Rattle.go_parse_x.specs.Machine.Turns.{at, is_asked, IsAsSeen, IsPassed, IsAssumed}
use Rattle.go_parse_x.proofs.PieceLemmas.{seen_on}

abbrev token_of : TokenKind → Token
token_of kind = record { kind = kind; start = 0; end = 0 }

-- `{ ; }` and what completes the rest
abbrev empty_statement : List (RightSide Production) → List Token
empty_statement rest = token_of Semicolon ∷ (token_of RightBrace ∷ tokens_of (completion texts top_rank rest))

reads_empty : (bytes : List ℕ) (rest : List (RightSide Production)) → Firm texts top_rank rest → (t : Token) → t.kind ≡ LeftBrace → (last : ℕ) (fs : List OpenNode) → (e : State) × ReadsGo bytes (Call p.Block ∷ rest) (at last (t ∷ empty_statement rest) fs) e × (e.rest ≡ [])
reads_empty bytes rest firm t brace last fs =
    let same : same_kind LeftBrace t.kind ≡ true = subst (λ j. same_kind LeftBrace j ≡ true) (sym brace) refl in
    let more = tokens_of (completion texts top_rank rest) in
    let opened = record { start = t.start; parts = [] } ∷ fs in
    let closed = close_last bytes k.Block 0 opened in
    let z = completes_lem bytes rest firm 0 closed in
    let close = does {m = at 0 more closed} refl z.1 in
    let brace_passed = does {m = at 0 more opened} refl close in
    let statements = again (in_turn (left (does {m = at 0 (token_of RightBrace ∷ more) opened} refl (right (nothing (done brace_passed)))))) in
    let inside = in_turn (right (nothing (in_turn statements))) in
    let open_passed = does {m = at t.end (empty_statement rest) opened} (rw same refl) inside in
    (z.0, calls (in_turn (does {m = at last (t ∷ empty_statement rest) opened} refl (in_turn (in_turn open_passed)))), z.2)

nothing_assumed : (bytes : List ℕ) (seen : Seen) (then : Option TokenKind) (gs : List (RightSide Production)) (fs : List OpenNode) (ts : List Token) → seen.token.kind ≡ LeftBrace → IsAssumed bytes seen then gs fs → IsAsSeen then ts
nothing_assumed bytes seen None gs fs ts brace h = tt
nothing_assumed bytes seen (Some k) gs fs ts brace h = absurd (let q = ap is_asked brace in let w = h.1.asked in cc)

pub passed_no_block : (bytes : List ℕ) (n : Production) (front : List Token) (assumed : Option TokenKind) (seen : Seen) (gs hs : List (RightSide Production)) (fs es : List OpenNode) (then : Option TokenKind) → HasRead bytes n front assumed gs seen.last fs → IsAsSeen assumed (seen.token ∷ []) → seen.hands_over ≡ true → all_braced gs ≡ true → IsPassed bytes seen then gs hs fs es → IsAssumed bytes seen then gs fs → OpensBlock bytes n front seen.token → ⊥
passed_no_block bytes n front assumed seen gs hs fs es then h fit over braced x a b =
    let ts = empty_statement b.rest in
    let r = reads_empty bytes b.rest b.firm seen.token b.is_brace b.last b.nodes in
    let d = h.there (seen.token ∷ ts) r.0 (seen_on assumed seen.token ts fit) r.2 (b.back ts r.0 r.2 r.1) in
    let y = x.there ts r.0 (nothing_assumed bytes seen then gs fs ts b.is_brace a) r.2 d in
    let w = first_token Production production bytes tables tables_right y (token_of Semicolon) (token_of RightBrace ∷ tokens_of (completion texts top_rank b.rest)) refl r.2 in
    let v = x.no_block over braced b.is_brace in
    absurd (let u = sym v ∙ w in cc)

pub none_passed : (bytes : List ℕ) (n : Production) (front : List Token) → PassesNoBlock bytes n front []
none_passed bytes n front [] ys t q b = cc
none_passed bytes n front (x ∷ xs) ys t q b = cc

-- a token in two lists stands in the first or in the second
place_in : (us vs xs ys : List Token) (t : Token) → us ++ vs ≡ xs ++ t ∷ ys → ((zs : List Token) × (us ≡ xs ++ t ∷ zs)) ⊎ ((zs : List Token) × (xs ≡ us ++ zs) × (vs ≡ zs ++ t ∷ ys))
place_in [] vs xs ys t q = inr (xs, refl, q)
place_in (u ∷ us) vs [] ys t q = inl (us, let w : u ≡ t = cc in ap (λ k. k ∷ us) w)
place_in (u ∷ us) vs (x ∷ xs) ys t q =
    let h : u ≡ x = cc in
    let r : us ++ vs ≡ xs ++ t ∷ ys = cc in
    ⊎_elim
    (λ (z : (zs : List Token) × (us ≡ xs ++ t ∷ zs)). inl (z.0, ap (λ w. u ∷ w) z.1 ∙ ap (λ w. w ∷ (xs ++ t ∷ z.0)) h))
    (λ (z : (zs : List Token) × (xs ≡ us ++ zs) × (vs ≡ zs ++ t ∷ ys)). inr (z.0, ap (λ w. x ∷ w) z.1 ∙ ap (λ w. w ∷ (us ++ z.0)) (sym h), z.2))
    (place_in us vs xs ys t r)

pub both_passed : (bytes : List ℕ) (n : Production) (front us vs : List Token) → PassesNoBlock bytes n front us → PassesNoBlock bytes n (front ++ us) vs → PassesNoBlock bytes n front (us ++ vs)
both_passed bytes n front us vs h w xs ys t q b =
    ⊎_elim
    (λ (z : (zs : List Token) × (us ≡ xs ++ t ∷ zs)). h xs z.0 t z.1 b)
    (λ (z : (zs : List Token) × (xs ≡ us ++ zs) × (vs ≡ zs ++ t ∷ ys)).
    let P : List Token → Type 0 = λ k. OpensBlock bytes n k t in
    w z.0 ys t z.2 (subst P (ap (λ k. front ++ k) z.1 ∙ sym (append_assoc front us z.0)) b))
    (place_in us vs xs ys t q)

pub one_passed : (bytes : List ℕ) (n : Production) (front : List Token) (t : Token) → (OpensBlock bytes n front t → ⊥) → PassesNoBlock bytes n front (t ∷ [])
one_passed bytes n front t h [] [] u q b =
    let w : t ≡ u = cc in
    let P : Token → Type 0 = λ k. OpensBlock bytes n front k in
    let Q : List Token → Type 0 = λ k. OpensBlock bytes n k u in
    h (subst P (sym w) (subst Q (append-nil front) b))
one_passed bytes n front t h [] (y ∷ ys) u q b = cc
one_passed bytes n front t h (x ∷ []) ys u q b = cc
one_passed bytes n front t h (x ∷ (y ∷ xs)) ys u q b = cc
