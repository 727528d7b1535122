-- Lemmas on `Scan`: its tokens are taken one by one, and it is one list.
use Rattle.std.proofs.Common.{◌≡◌, ◌≢◌, ℕ, List, [], ◌∷◌, ◌++◌, Option, Some, None, ◌⊎◌, inl, inr, refl, sym, ◌∙◌, ap, append_assoc}
use Rattle.go_tree.specs.declared.token.Token.{Token}
use Rattle.go_tree.specs.declared.token.TokenKind.{TokenKind}
use Rattle.go_tree.specs.declared.token.TokenKind.TheVariants.{End}
use Rattle.go_tree.specs.Lexical.Faults.{IsLex}
use Rattle.go_tree.specs.Lexical.Scan.{IsNext, ScanFrom, Scan, Stand}
use Rattle.go_tree.proofs.StandLemmas.{stand_append}
use Rattle.go_tree.specs.declared.lex.Lex.{Lex}
use Rattle.go_scan.specs.Lists.{EndsEarly}
use Rattle.go_scan.proofs.NextLemmas.{one_next}

-- the first of a list, and what follows it
pub record Head (bytes : List ℕ) (at : ℕ) (last : Option TokenKind) (ts : List Token) : Type 0 where
  pub t : Token
  pub rest : List Token
  pub same : ts ≡ t ∷ rest
  pub next : IsNext bytes at last t
  pub follows : ((t.kind ≡ End) × (rest ≡ [])) ⊎ ((t.kind ≢ End) × ScanFrom bytes t.end (Some t.kind) rest)

pub head_of : (bytes : List ℕ) (at : ℕ) (last : Option TokenKind) (ts : List Token) → ScanFrom bytes at last ts → Head bytes at last ts
head_of bytes at last [] h = absurd h
head_of bytes at last (t ∷ []) h = record { t = t; rest = []; same = refl; next = h.0; follows = inl (h.1, refl) }
head_of bytes at last (t ∷ (u ∷ us)) h = record { t = t; rest = u ∷ us; same = refl; next = h.0; follows = inr (h.1, h.2) }

pub one_more : (bytes : List ℕ) (at : ℕ) (last : Option TokenKind) (t : Token) (rest : List Token) → IsNext bytes at last t → t.kind ≢ End → ScanFrom bytes t.end (Some t.kind) rest → ScanFrom bytes at last (t ∷ rest)
one_more bytes at last t [] h other r = absurd r
one_more bytes at last t (u ∷ us) h other r = (h, other, r)

-- a text has at most one list of tokens
one_list : (bytes : List ℕ) (at : ℕ) (last : Option TokenKind) (ts us : List Token) → ScanFrom bytes at last ts → ScanFrom bytes at last us → ts ≡ us
one_list bytes at last [] us a b = absurd a
one_list bytes at last (t ∷ ts) us a b = one_head (λ end kind vs c d. one_list bytes end kind ts vs c d) (head_of bytes at last (t ∷ ts) a) (head_of bytes at last us b)
  where
    one_head : ((end : ℕ) (kind : Option TokenKind) (vs : List Token) → ScanFrom bytes end kind ts → ScanFrom bytes end kind vs → ts ≡ vs) → Head bytes at last (t ∷ ts) → Head bytes at last us → t ∷ ts ≡ us
    one_head again h g = both (one_next bytes at last h.t g.t h.next g.next) h.follows g.follows
      where
        same_tail : t ∷ ts ≡ h.t ∷ h.rest → h.rest ≡ ts
        same_tail e = cc

        same_first : t ∷ ts ≡ h.t ∷ h.rest → t ≡ h.t
        same_first e = cc

        both_parts : t ≡ g.t → ts ≡ g.rest → t ∷ ts ≡ g.t ∷ g.rest
        both_parts e f = cc

        both : h.t ≡ g.t → ((h.t.kind ≡ End) × (h.rest ≡ [])) ⊎ ((h.t.kind ≢ End) × ScanFrom bytes h.t.end (Some h.t.kind) h.rest) → ((g.t.kind ≡ End) × (g.rest ≡ [])) ⊎ ((g.t.kind ≢ End) × ScanFrom bytes g.t.end (Some g.t.kind) g.rest) → t ∷ ts ≡ us
        both e (inl x) (inl y) = h.same ∙ ap (λ v. v ∷ h.rest) e ∙ ap (λ v. g.t ∷ v) (x.1 ∙ sym y.1) ∙ sym g.same
        both e (inl x) (inr y) = absurd (y.0 (ap (λ v. v.kind) (sym e) ∙ x.0))
        both e (inr x) (inl y) = absurd (x.0 (ap (λ v. v.kind) e ∙ y.0))
        both e (inr x) (inr y) =
            let mine : ScanFrom bytes h.t.end (Some h.t.kind) ts = rw (same_tail h.same) at x.1 in
            let other : ScanFrom bytes h.t.end (Some h.t.kind) g.rest = rw (sym e) at y.1 in
            both_parts (same_first h.same ∙ e) (again h.t.end (Some h.t.kind) g.rest mine other) ∙ sym g.same

-- what a loop over the tokens has taken: these and what can follow are the lists of the text
pub record Taken (bytes : List ℕ) (at : ℕ) (last : Option TokenKind) (tokens : List Token) : Type 0 where
  pub stand : Stand bytes 0 None tokens at last
  pub goes : (rest : List Token) → ScanFrom bytes at last rest → Scan bytes (tokens ++ rest)
  pub only : (ts : List Token) → Scan bytes ts → (rest : List Token) × (ts ≡ tokens ++ rest) × ScanFrom bytes at last rest

pub nothing_taken : (bytes : List ℕ) → Taken bytes 0 None []
nothing_taken bytes = record { stand = (refl, refl); goes = λ rest h. h; only = λ ts h. (ts, refl, h) }

pub one_taken : (bytes : List ℕ) (at : ℕ) (last : Option TokenKind) (tokens : List Token) (t : Token) → Taken bytes at last tokens → IsNext bytes at last t → t.kind ≢ End → Taken bytes t.end (Some t.kind) (tokens ++ t ∷ [])
one_taken bytes at last tokens t taken h other = record { stand = stand_append bytes 0 at t.end None last (Some t.kind) tokens (t ∷ []) taken.stand (h, other, (refl, refl)); goes = goes; only = only }
  where
    goes : (rest : List Token) → ScanFrom bytes t.end (Some t.kind) rest → Scan bytes ((tokens ++ t ∷ []) ++ rest)
    goes rest r = rw (append_assoc tokens (t ∷ []) rest) (taken.goes (t ∷ rest) (one_more bytes at last t rest h other r))

    only : (ts : List Token) → Scan bytes ts → (rest : List Token) × (ts ≡ (tokens ++ t ∷ []) ++ rest) × ScanFrom bytes t.end (Some t.kind) rest
    only ts s = let o = taken.only ts s in with_head ts o.0 o.1 (head_of bytes at last o.0 o.2)
      where
        with_head : (ts from : List Token) → ts ≡ tokens ++ from → Head bytes at last from → (rest : List Token) × (ts ≡ (tokens ++ t ∷ []) ++ rest) × ScanFrom bytes t.end (Some t.kind) rest
        with_head ts from e g = followed g.follows
          where
            first : g.t ≡ t
            first = one_next bytes at last g.t t g.next h

            followed : ((g.t.kind ≡ End) × (g.rest ≡ [])) ⊎ ((g.t.kind ≢ End) × ScanFrom bytes g.t.end (Some g.t.kind) g.rest) → (rest : List Token) × (ts ≡ (tokens ++ t ∷ []) ++ rest) × ScanFrom bytes t.end (Some t.kind) rest
            followed (inl x) = absurd (other (ap (λ v. v.kind) (sym first) ∙ x.0))
            followed (inr x) =
                let here : ScanFrom bytes t.end (Some t.kind) g.rest = rw first at x.1 in
                let list : ts ≡ (tokens ++ t ∷ []) ++ g.rest = e ∙ ap (λ l. tokens ++ l) (g.same ∙ ap (λ v. v ∷ g.rest) first) ∙ sym (append_assoc tokens (t ∷ []) g.rest) in
                (g.rest, list, here)

pub all_taken : (bytes : List ℕ) (at : ℕ) (last : Option TokenKind) (tokens : List Token) (t : Token) → Taken bytes at last tokens → IsNext bytes at last t → t.kind ≡ End → Scan bytes (tokens ++ t ∷ [])
all_taken bytes at last tokens t taken h end = taken.goes (t ∷ []) (h, end)

-- where no token is next, the text has no list of tokens
pub none_taken : (bytes : List ℕ) (at : ℕ) (last : Option TokenKind) (tokens : List Token) → Taken bytes at last tokens → ((t : Token) → IsNext bytes at last t → ⊥) → (ts : List Token) → Scan bytes ts → ⊥
none_taken bytes at last tokens taken nothing ts s = let o = taken.only ts s in let g = head_of bytes at last o.0 o.2 in nothing g.t g.next

pub ends_early : (bytes : List ℕ) (at : ℕ) (last : Option TokenKind) (tokens : List Token) (lex : Lex) → Taken bytes at last tokens → IsLex bytes at last lex → EndsEarly bytes lex
ends_early bytes at last tokens lex taken is = record { no_list = none_taken bytes at last tokens taken is.0; tokens = tokens; at = at; last = last; stand = taken.stand; none_starts = is }

pub one_scan : (bytes : List ℕ) (ts us : List Token) → Scan bytes ts → Scan bytes us → ts ≡ us
one_scan bytes = one_list bytes 0 None
