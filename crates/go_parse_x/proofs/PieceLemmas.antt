-- What is known of a piece while its tokens are read.
use Rattle.std.proofs.Common.{◌≡◌, ℕ, ◌≤◌, true, false, List, [], ◌∷◌, ◌++◌, Option, None, Some, refl, subst, sym, ap, ◌∙◌, ◌⊎◌, inl, inr, ⊎_elim, arith, append_assoc}
use Rattle.std.proofs.lemmas.List.{append-nil}
use Rattle.go_tree.specs.declared.token.Token.{Token}
use Rattle.go_tree.specs.declared.token.TokenKind.{TokenKind}
use Rattle.go_tree.specs.declared.token.TokenKind.TheVariants.{Arrow, Dot, End}
use Rattle.go_tree.specs.declared.production.Production.{Production}
use Rattle.go_tree.specs.Height.{height_of, AllFit}
use Rattle.go_tree.specs.Tree.{Tree}
use Rattle.go_tree.specs.Grammar.RightSide.{RightSide, Call}
use Rattle.go_tree.specs.Grammar.Tables.TokenKinds.{same_kind}
use Rattle.go_tree.specs.Grammar.Trees.Reading.{State, OpenNode, before, tree_read}
use Rattle.go_tree.specs.Grammar.Tables.Brackets.{Level, through_all, standing}
use Rattle.go_tree.specs.Grammar.Trees.Sentence.{production, tables, ReadsGo, IsA, Derives, Begins, is_whole, can_be_empty}
use Rattle.go_tree.proofs.EmptyLemmas.{series_empty, empty_read, empty_parts}
use Rattle.go_tree.proofs.GrammarLemmas.{tables_right}
use Rattle.go_tree.proofs.GrammarBrackets.{brackets_empty}
use Rattle.go_tree.proofs.GrammarBalance.{tree_lem}
use Rattle.go_tree.proofs.GrammarEnds.{ends_in_none}
use Rattle.go_parse_x.specs.declared.reading.Reading.{Reading}
use Rattle.go_parse_x.specs.declared.reading.Reading.TheVariants.{Plain, Header, TypeOnly, Signature, Params, TypeParams}
use Rattle.go_parse_x.specs.declared.reading.Target.{Target}
use Rattle.go_parse_x.specs.declared.reading.Target.TheVariants as target
use Rattle.go_parse_x.specs.Targets.{reads, piece, hands}
use Rattle.go_parse_x.specs.declared.seen.Seen.{Seen}
use Rattle.go_parse_x.specs.Pieces.{HasRead}
use Rattle.go_parse_x.specs.Texts.{IsBehind, none, one}
use Rattle.go_parse_x.specs.Machine.Turns.{at, is_asked, IsAsSeen, GoesOn, IsPassed, IsStuck}
use Rattle.go_parse_x.proofs.EndTokenLemmas.{is_file, no_end_read}

-- what pieces and files have in common
pub record IsPiece (n : Production) : Type 0 where
  pub whole : is_whole n ≡ true
  pub level : standing n ≡ Level
  pub not_empty : can_be_empty n ≡ false

reading_is : (r : Reading) → IsPiece (reads r)
reading_is Plain = record { whole = refl; level = refl; not_empty = refl }
reading_is Header = record { whole = refl; level = refl; not_empty = refl }
reading_is TypeOnly = record { whole = refl; level = refl; not_empty = refl }
reading_is Signature = record { whole = refl; level = refl; not_empty = refl }
reading_is Params = record { whole = refl; level = refl; not_empty = refl }
reading_is TypeParams = record { whole = refl; level = refl; not_empty = refl }

pub piece_is : (r : Target) → IsPiece (piece r)
piece_is (target.Piece r) = reading_is r
piece_is target.File = record { whole = refl; level = refl; not_empty = refl }

reading_no_file : (r : Reading) → is_file (reads r) ≡ false
reading_no_file Plain = refl
reading_no_file Header = refl
reading_no_file TypeOnly = refl
reading_no_file Signature = refl
reading_no_file Params = refl
reading_no_file TypeParams = refl

pub no_file : (r : Target) → hands r ≡ true → is_file (piece r) ≡ false
no_file (target.Piece r) h = reading_no_file r
no_file target.File h = cc

-- ---- lists of tokens

pub behind_one : (front more : List Token) (t : Token) → (front ++ t ∷ []) ++ more ≡ front ++ t ∷ more
behind_one front more t = append_assoc front (t ∷ []) more

pub seen_on : (assumed : Option TokenKind) (t : Token) (ts : List Token) → IsAsSeen assumed (t ∷ []) → IsAsSeen assumed (t ∷ ts)
seen_on None t ts h = tt
seen_on (Some k) t ts h = h

-- a front of the tokens and one more is a front of the tokens, or all of them
pub fronts_of_one : (front xs ys : List Token) (t : Token) → front ++ t ∷ [] ≡ xs ++ ys → ((zs : List Token) × (front ≡ xs ++ zs)) ⊎ (xs ≡ front ++ t ∷ [])
fronts_of_one front [] ys t q = inl (front, refl)
fronts_of_one [] (x ∷ []) ys t q = inr (let z : t ≡ x = cc in ap (λ w. w ∷ []) (sym z))
fronts_of_one [] (x ∷ (y ∷ xs)) ys t q = cc
fronts_of_one (f ∷ front) (x ∷ xs) ys t q =
    let h : f ≡ x = cc in
    let r : front ++ t ∷ [] ≡ xs ++ ys = cc in
    ⊎_elim
    (λ (z : (zs : List Token) × (front ≡ xs ++ zs)). inl (z.0, ap (λ w. f ∷ w) z.1 ∙ ap (λ w. w ∷ (xs ++ z.0)) h))
    (λ z. inr (ap (λ w. x ∷ w) z ∙ ap (λ w. w ∷ (front ++ t ∷ [])) (sym h)))
    (fronts_of_one front xs ys t r)

pub fits_on : (free : ℕ) (front : List Token) (t : Token) → AllFit free front → height_of (front ++ t ∷ []) ≤ free → AllFit free (front ++ t ∷ [])
fits_on free front t fit top xs ys q =
    ⊎_elim
    (λ (z : (zs : List Token) × (front ≡ xs ++ zs)). fit xs z.0 z.1)
    (λ z. subst (λ w. height_of w ≤ free) (sym z) top)
    (fronts_of_one front xs ys t q)

pub none_fits : (free : ℕ) → AllFit free []
none_fits free [] ys q = omega arith
none_fits free (x ∷ xs) ys q = cc

-- ---- readings of the piece

-- tokens that are read to the end begin it
pub reads_begin : (bytes : List ℕ) (n : Production) → IsPiece n → (front more : List Token) (e : State) → ReadsGo bytes (Call n ∷ []) (before (front ++ more)) e → e.rest ≡ [] → Begins bytes n front
reads_begin bytes n is front more e r z =
    let t = tree_lem bytes n (front ++ more) is.whole (record { end = e; reads = r; all = z }) in
    (more, t.0, t.1)

pub begins_so : (bytes : List ℕ) (n : Production) → IsPiece n → (front : List Token) (t : Token) (more : List Token) (e : State) → ReadsGo bytes (Call n ∷ []) (before (front ++ t ∷ more)) e → e.rest ≡ [] → Begins bytes n (front ++ t ∷ [])
begins_so bytes n is front t more e r z = reads_begin bytes n is (front ++ t ∷ []) more e (subst (λ w. ReadsGo bytes (Call n ∷ []) (before w) e) (sym (behind_one front more t)) r) z

-- what begins so is read
pub begun_reads : (bytes : List ℕ) (n : Production) (front : List Token) (t : Token) → Begins bytes n (front ++ t ∷ []) → (more : List Token) × (e : State) × ReadsGo bytes (Call n ∷ []) (before (front ++ t ∷ more)) e × (e.rest ≡ [])
begun_reads bytes n front t b = (b.0, b.2.whole.end, subst (λ w. ReadsGo bytes (Call n ∷ []) (before w) b.2.whole.end) (behind_one front b.0 t) b.2.whole.reads, b.2.whole.all)

module _ (bytes : List ℕ) (n : Production) (is : IsPiece n) (front : List Token) (assumed : Option TokenKind) (seen : Seen) (gs : List (RightSide Production)) (fs : List OpenNode) (h : HasRead bytes n front assumed gs seen.last fs) (fit : IsAsSeen assumed (seen.token ∷ [])) where
  pub goes_begin : GoesOn bytes seen gs fs → Begins bytes n (front ++ seen.token ∷ [])
  goes_begin g = begins_so bytes n is front seen.token g.more g.end (h.back (seen.token ∷ g.more) g.end (seen_on assumed seen.token g.more fit) g.all g.reads) g.all

  pub stuck_never : IsStuck bytes seen None gs fs → Begins bytes n (front ++ seen.token ∷ []) → ⊥
  stuck_never x b =
      let r = begun_reads bytes n front seen.token b in
      x.never r.0 r.1 tt r.3 (h.there (seen.token ∷ r.0) r.1 (seen_on assumed seen.token r.0 fit) r.3 r.2)

  -- where the token behind it leads astray
  pub astray_never : (kind : TokenKind) (u : Token) → u.kind ≡ kind → IsStuck bytes seen (Some kind) gs fs → Begins bytes n ((front ++ seen.token ∷ []) ++ u ∷ []) → ⊥
  astray_never kind u q x b =
      let r = begun_reads bytes n (front ++ seen.token ∷ []) u b in
      let d = subst (λ w. ReadsGo bytes (Call n ∷ []) (before w) r.1) (behind_one front (u ∷ r.0) seen.token) r.2 in
      x.never (u ∷ r.0) r.1 q r.3 (h.there (seen.token ∷ (u ∷ r.0)) r.1 (seen_on assumed seen.token (u ∷ r.0) fit) r.3 d)

  pub passed_read : (then : Option TokenKind) (hs : List (RightSide Production)) (es : List OpenNode) → IsPassed bytes seen then gs hs fs es → HasRead bytes n (front ++ seen.token ∷ []) then hs seen.token.end es
  passed_read then hs es x = record {
    there = λ ts e a z r. x.there ts e a z (h.there (seen.token ∷ ts) e (seen_on assumed seen.token ts fit) z (subst (λ w. ReadsGo bytes (Call n ∷ []) (before w) e) (behind_one front ts seen.token) r));
    back = λ ts e a z r. subst (λ w. ReadsGo bytes (Call n ∷ []) (before w) e) (sym (behind_one front ts seen.token)) (h.back (seen.token ∷ ts) e (seen_on assumed seen.token ts fit) z (x.back ts e a z r));
  }

-- ---- the end of the piece

is_none : (bytes : List ℕ) (n : Production) → IsPiece n → IsA bytes n [] → ⊥
is_none bytes n is a = absurd (
    let z = empty_read Production production bytes tables tables_right a.reads refl in
    let w = (empty_parts Production tables (Call n) [] z).0 in
    let v = is.not_empty in cc
    )

asked_ends : (k : TokenKind) → is_asked k ≡ true → (k ≡ Dot) ⊎ (k ≡ Arrow)
asked_ends Dot h = inl refl
asked_ends Arrow h = inr refl
asked_ends _ h = cc

-- nothing ends with a token that is asked for together with the one behind it
pub asked_no_whole : (bytes : List ℕ) (n : Production) → IsPiece n → (front : List Token) (to : ℕ) (last : Option TokenKind) (kind : TokenKind) → IsBehind front to last → last ≡ Some kind → is_asked kind ≡ true → IsA bytes n front → ⊥
asked_no_whole bytes n is front to last kind none q h a = is_none bytes n is a
asked_no_whole bytes n is front to last kind (one ts t) q h a =
    let w : t.kind ≡ kind = cc in
    ⊎_elim
    (λ d. ends_in_none bytes n ts t (inl (subst (λ k. same_kind Dot k ≡ true) (sym (w ∙ d)) refl)) a)
    (λ d. ends_in_none bytes n ts t (inr (subst (λ k. same_kind Arrow k ≡ true) (sym (w ∙ d)) refl)) a)
    (asked_ends kind h)

-- what is whole leaves nothing that has to be read
pub whole_empty : (bytes : List ℕ) (n : Production) (front : List Token) (gs : List (RightSide Production)) (last : ℕ) (fs : List OpenNode) → HasRead bytes n front None gs last fs → IsA bytes n front → series_empty tables gs ≡ true
whole_empty bytes n front gs last fs h a =
    empty_read Production production bytes tables tables_right (h.there [] a.end tt a.all (subst (λ w. ReadsGo bytes (Call n ∷ []) (before w) a.end) (sym (append-nil front)) a.reads)) refl

-- where a bracket is open nothing is whole
pub inside_no_whole : (bytes : List ℕ) (n : Production) (front : List Token) (gs : List (RightSide Production)) (last level : ℕ) (fs : List OpenNode) → HasRead bytes n front None gs last fs → through_all standing gs level ≡ Some 0 → (through_all standing gs 0 ≡ Some 0 → ⊥) → IsA bytes n front → ⊥
inside_no_whole bytes n front gs last level fs h l never a =
    let q = brackets_empty gs level 0 (whole_empty bytes n front gs last fs h a) l in
    never (subst (λ w. through_all standing gs w ≡ Some 0) (sym q) l)

pub end_whole : (bytes : List ℕ) (n : Production) (front : List Token) (gs : List (RightSide Production)) (last : ℕ) (fs es : List OpenNode) → HasRead bytes n front None gs last fs → ReadsGo bytes gs (at last [] fs) (at last [] es) → (t : Tree) → tree_read es ≡ Some t → Derives bytes n front t
end_whole bytes n front gs last fs es h r t q = record {
  whole = record { end = at last [] es; reads = subst (λ w. ReadsGo bytes (Call n ∷ []) (before w) (at last [] es)) (append-nil front) (h.back [] (at last [] es) tt refl r); all = refl };
  tree = q;
}

pub end_no_whole : (bytes : List ℕ) (n : Production) (front : List Token) (gs : List (RightSide Production)) (last : ℕ) (fs : List OpenNode) → HasRead bytes n front None gs last fs → ((e : State) → ReadsGo bytes gs (at last [] fs) e → ⊥) → IsA bytes n front → ⊥
end_no_whole bytes n front gs last fs h never a = never a.end (h.there [] a.end tt a.all (subst (λ w. ReadsGo bytes (Call n ∷ []) (before w) a.end) (sym (append-nil front)) a.reads))

pub end_token_never : (bytes : List ℕ) (n : Production) → is_file n ≡ false → (front : List Token) (t : Token) → t.kind ≡ End → Begins bytes n (front ++ t ∷ []) → ⊥
end_token_never bytes n not_file front t q b =
    no_end_read bytes n not_file front b.0 t b.1 q (subst (λ w. Derives bytes n w b.1) (behind_one front b.0 t) b.2)
