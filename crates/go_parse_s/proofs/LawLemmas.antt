-- A text is one file, or goes wrong at one place, and not both.
use Rattle.std.proofs.Common.{◌≡◌, ◌≢◌, ℕ, ◌<◌, ◌≤◌, List, [], ◌∷◌, ◌++◌, Option, None, Some, ◌⊎◌, inl, inr, refl, subst, sym, ap, ◌∙◌, append_assoc, arith}
use Rattle.std.proofs.lemmas.List.{append-nil}
use Rattle.go_tree.specs.declared.token.Token.{Token}
use Rattle.go_tree.specs.declared.token.TokenKind.{TokenKind}
use Rattle.go_tree.specs.declared.token.TokenKind.TheVariants.{End}
use Rattle.go_tree.specs.declared.production.Production.TheVariants.{File}
use Rattle.go_tree.specs.Height.{height_of, AllFit}
use Rattle.go_tree.specs.Lexical.Scan.{ScanFrom, IsNext, Stand}
use Rattle.go_tree.specs.Tree.{Tree}
use Rattle.go_tree.specs.Grammar.Trees.Sentence.{Derives, Begins}
use Rattle.go_tree.proofs.SentenceLemmas.{one_tree_lem}
use Rattle.go_scan.proofs.NextLemmas.{one_next}
use Rattle.go_scan.proofs.ScanLemmas.{Head, head_of, one_scan}
use Rattle.go_text.specs.declared.fault.ParseFault.{ParseFault}
use Rattle.go_text.specs.declared.fault.ParseFault.TheVariants.{Lexical, Syntax, High, NoMemory}
use Rattle.go_text.specs.Faults.{Spot, IsSyntaxAt, IsHighAt, IsWrong, IsFaultOf}
use Rattle.go_text.specs.Files.{most_height, IsFileOf}
use Rattle.go_text.specs.Copies.{with_copies}
use Rattle.go_text.specs.Numbers.{numbered}
use Rattle.go_parse_s.proofs.LexicalLemmas.{one_lex}

-- ---- the tokens of a text from a place on

-- the others begin with these, which end at a place, and with the next token there
record Goes (bytes : List ℕ) (tokens : List Token) (to : Spot) (others : List Token) : Type 0 where
  token : Token
  rest : List Token
  are : others ≡ tokens ++ token ∷ rest
  next : IsNext bytes to.at to.last token

-- two fronts are one, or one of them goes on where the other ends
data Compared (bytes : List ℕ) (ts : List Token) (to : Spot) (us : List Token) (up : Spot) : Type 0 where
  same : ts ≡ us → to ≡ up → Compared bytes ts to us up
  longer : Goes bytes ts to us → Compared bytes ts to us up
  shorter : Goes bytes us up ts → Compared bytes ts to us up

there : (bytes : List ℕ) (at : ℕ) (last : Option TokenKind) (to : Spot) (t : Token) → at ≡ to.at → last ≡ to.last → IsNext bytes at last t → IsNext bytes to.at to.last t
there bytes at last to t e f h = subst (λ (k : Option TokenKind). IsNext bytes to.at k t) f (subst (λ (n : ℕ). IsNext bytes n last t) e h)

abbrev spot : ℕ → Option TokenKind → Spot
spot at last = record { at = at; last = last }

same_spot : (m n : ℕ) (j k : Option TokenKind) → m ≡ n → j ≡ k → spot m j ≡ spot n k
same_spot m n j k e f = cc

same_list : (t u : Token) (ts us : List Token) → u ≡ t → ts ≡ us → t ∷ ts ≡ u ∷ us
same_list t u ts us e f = cc

goes_behind : (bytes : List ℕ) (t u : Token) (ts us : List Token) (to : Spot) → u ≡ t → Goes bytes ts to us → Goes bytes (t ∷ ts) to (u ∷ us)
goes_behind bytes t u ts us to e g = record { token = g.token; rest = g.rest; are = same_list u t us (ts ++ g.token ∷ g.rest) (sym e) g.are; next = g.next }

behind : (bytes : List ℕ) (t u : Token) (ts us : List Token) (to up : Spot) → u ≡ t → Compared bytes ts to us up → Compared bytes (t ∷ ts) to (u ∷ us) up
behind bytes t u ts us to up e (same f g) = same (same_list t u ts us e f) g
behind bytes t u ts us to up e (longer g) = longer (goes_behind bytes t u ts us to e g)
behind bytes t u ts us to up e (shorter g) = shorter (goes_behind bytes u t us ts up (sym e) g)

compared : (bytes : List ℕ) (at : ℕ) (last : Option TokenKind) (ts us : List Token) (to up : Spot) → Stand bytes at last ts to.at to.last → Stand bytes at last us up.at up.last → Compared bytes ts to us up
compared bytes at last [] [] to up a b = same refl (same_spot to.at up.at to.last up.last (sym a.0 ∙ b.0) (sym a.1 ∙ b.1))
compared bytes at last [] (u ∷ us) to up a b = longer (record { token = u; rest = us; are = refl; next = there bytes at last to u a.0 a.1 b.0 })
compared bytes at last (t ∷ ts) [] to up a b = shorter (record { token = t; rest = ts; are = refl; next = there bytes at last up t b.0 b.1 a.0 })
compared bytes at last (t ∷ ts) (u ∷ us) to up a b =
    let e : u ≡ t = one_next bytes at last u t b.0 a.0 in
    let P : Token → Type 0 = λ x. Stand bytes x.end (Some x.kind) us up.at up.last in
    behind bytes t u ts us to up e (compared bytes t.end (Some t.kind) ts us to up a.2 (subst P e b.2))

-- all tokens of a text go on behind each front of them, which has no end
one_more : (bytes : List ℕ) (at : ℕ) (last : Option TokenKind) (t : Token) (ts us : List Token) (to : Spot) → IsNext bytes at last t → t.kind ≢ End → ((vs : List Token) → ScanFrom bytes t.end (Some t.kind) vs → Goes bytes ts to vs) → Head bytes at last us → Goes bytes (t ∷ ts) to us
one_more bytes at last t ts us to next more again h = on h.follows
  where
    e : h.t ≡ t
    e = one_next bytes at last h.t t h.next next

    on : ((h.t.kind ≡ End) × (h.rest ≡ [])) ⊎ ((h.t.kind ≢ End) × ScanFrom bytes h.t.end (Some h.t.kind) h.rest) → Goes bytes (t ∷ ts) to us
    on (inl x) = absurd (more (ap (λ (v : Token). v.kind) (sym e) ∙ x.0))
    on (inr x) =
        let P : Token → Type 0 = λ v. ScanFrom bytes v.end (Some v.kind) h.rest in
        let Q : List Token → Type 0 = λ v. Goes bytes (t ∷ ts) to v in
        subst Q (sym h.same) (goes_behind bytes t h.t ts h.rest to e (again h.rest (subst P e x.1)))

front_goes : (bytes : List ℕ) (at : ℕ) (last : Option TokenKind) (ts us : List Token) (to : Spot) → Stand bytes at last ts to.at to.last → ScanFrom bytes at last us → Goes bytes ts to us
front_goes bytes at last [] us to a s =
    let h = head_of bytes at last us s in
    record { token = h.t; rest = h.rest; are = h.same; next = there bytes at last to h.t a.0 a.1 h.next }
front_goes bytes at last (t ∷ ts) us to a s = one_more bytes at last t ts us to a.0 a.1 (λ vs r. front_goes bytes t.end (Some t.kind) ts vs to a.2 r) (head_of bytes at last us s)

-- ---- what begins a file

-- a front of what begins a file begins one
front_begins : (bytes : List ℕ) (ts us : List Token) (to : Spot) (g : Goes bytes ts to us) → Begins bytes File us → Begins bytes File (ts ++ g.token ∷ [])
front_begins bytes ts us to g b =
    let row : us ++ b.0 ≡ (ts ++ g.token ∷ []) ++ (g.rest ++ b.0) =
    ap (λ (l : List Token). l ++ b.0) g.are ∙ (append_assoc ts (g.token ∷ g.rest) b.0 ∙ sym (append_assoc ts (g.token ∷ []) (g.rest ++ b.0))) in
    let P : List Token → Type 0 = λ l. Derives bytes File l b.1 in
    (g.rest ++ b.0, b.1, subst P row b.2)

-- so does a whole file
file_begins : (bytes : List ℕ) (tokens : List Token) (t : Tree) → Derives bytes File tokens t → Begins bytes File tokens
file_begins bytes tokens t d =
    let P : List Token → Type 0 = λ l. Derives bytes File l t in
    ([], t, subst P (sym (append-nil tokens)) d)

too_high : (m n : ℕ) → m < n → n ≤ m → ⊥
too_high m n lt le = omega (arith, lt, le)

module _ (bytes : List ℕ) (tokens : List Token) (to : Spot) where
  -- nothing is wrong where tokens that begin a file go on, none of them too high
  not_syntax : (k : ℕ) (t : Token) → IsNext bytes to.at to.last t → Begins bytes File (tokens ++ t ∷ []) → IsSyntaxAt bytes tokens to k → ⊥
  not_syntax k t next b w =
      let P : Token → Type 0 = λ x. Begins bytes File (tokens ++ x ∷ []) in
      w.never (subst P (one_next bytes to.at to.last t w.token next w.next) b)

  not_high : (k : ℕ) (t : Token) → IsNext bytes to.at to.last t → height_of (tokens ++ t ∷ []) ≤ most_height → IsHighAt bytes tokens to k → ⊥
  not_high k t next fit w =
      let P : Token → Type 0 = λ x. height_of (tokens ++ x ∷ []) ≤ most_height in
      too_high most_height (height_of (tokens ++ w.token ∷ [])) w.past (subst P (one_next bytes to.at to.last t w.token next w.next) fit)

  not_wrong : (us : List Token) (fault : ParseFault) → Goes bytes tokens to us → Begins bytes File us → AllFit most_height us → IsWrong bytes tokens to fault → fault ≢ NoMemory → ⊥
  not_wrong us (Lexical e) g b fit w memory = w.0 g.token g.next
  not_wrong us (Syntax k) g b fit w memory = not_syntax k g.token g.next (front_begins bytes tokens us to g b) w
  not_wrong us (High k) g b fit w memory = not_high k g.token g.next (fit (tokens ++ g.token ∷ []) g.rest (g.are ∙ sym (append_assoc tokens (g.token ∷ []) g.rest))) w
  not_wrong us NoMemory g b fit w memory = memory refl

  one_start : (m n : ℕ) (t u : Token) → IsNext bytes to.at to.last t → IsNext bytes to.at to.last u → t.start ≡ m → u.start ≡ n → m ≡ n
  one_start m n t u next other e f = sym e ∙ (ap (λ (x : Token). x.start) (one_next bytes to.at to.last t u next other) ∙ f)

  -- behind the same tokens one thing is wrong
  one_wrong : (a b : ParseFault) → IsWrong bytes tokens to a → IsWrong bytes tokens to b → a ≢ NoMemory → b ≢ NoMemory → a ≡ b
  one_wrong (Lexical d) (Lexical e) v w memory other = ap Lexical (one_lex bytes to.at to.last d e v w)
  one_wrong (Lexical d) (Syntax l) v w memory other = absurd (v.0 w.token w.next)
  one_wrong (Lexical d) (High l) v w memory other = absurd (v.0 w.token w.next)
  one_wrong (Lexical d) NoMemory v w memory other = absurd (other refl)
  one_wrong (Syntax k) (Lexical e) v w memory other = absurd (w.0 v.token v.next)
  one_wrong (Syntax k) (Syntax l) v w memory other = ap Syntax (one_start k l v.token w.token v.next w.next v.place w.place)
  one_wrong (Syntax k) (High l) v w memory other = absurd (not_syntax k w.token w.next w.begins v)
  one_wrong (Syntax k) NoMemory v w memory other = absurd (other refl)
  one_wrong (High k) (Lexical e) v w memory other = absurd (w.0 v.token v.next)
  one_wrong (High k) (Syntax l) v w memory other = absurd (not_syntax l v.token v.next v.begins w)
  one_wrong (High k) (High l) v w memory other = ap High (one_start k l v.token w.token v.next w.next v.place w.place)
  one_wrong (High k) NoMemory v w memory other = absurd (other refl)
  one_wrong NoMemory b v w memory other = absurd (memory refl)

-- ---- the laws

pub one_file_lem : (bytes : List ℕ) (first : ℕ) (a b : Tree) → IsFileOf bytes first a → IsFileOf bytes first b → a ≡ b
one_file_lem bytes first a b f g =
    let P : List Token → Type 0 = λ l. Derives bytes File l g.written in
    let d = subst P (one_scan bytes g.tokens f.tokens g.scan f.scan) g.derives in
    f.tree_is ∙ (ap (λ (t : Tree). numbered first (with_copies t)) (one_tree_lem bytes File f.tokens f.written g.written f.derives d) ∙ sym g.tree_is)

pub one_fault_lem : (bytes : List ℕ) (a b : ParseFault) → IsFaultOf bytes a → IsFaultOf bytes b → a ≢ NoMemory → b ≢ NoMemory → a ≡ b
one_fault_lem bytes a b f g memory other = by_place (compared bytes 0 None f.tokens g.tokens f.to g.to f.reaches.stand g.reaches.stand)
  where
    by_place : Compared bytes f.tokens f.to g.tokens g.to → a ≡ b
    by_place (same e p) =
        let P : List Token → Type 0 = λ l. IsWrong bytes l f.to a in
        let Q : Spot → Type 0 = λ s. IsWrong bytes g.tokens s a in
        one_wrong bytes g.tokens g.to a b (subst Q p (subst P e f.wrong)) g.wrong memory other
    by_place (longer h) = absurd (not_wrong bytes f.tokens f.to g.tokens a h g.reaches.begins g.reaches.fit f.wrong memory)
    by_place (shorter h) = absurd (not_wrong bytes g.tokens g.to f.tokens b h f.reaches.begins f.reaches.fit g.wrong other)

pub file_or_fault_lem : (bytes : List ℕ) (first : ℕ) (t : Tree) (fault : ParseFault) → IsFileOf bytes first t → IsFaultOf bytes fault → fault ≢ NoMemory → ⊥
file_or_fault_lem bytes first t fault f g memory =
    let goes = front_goes bytes 0 None g.tokens f.tokens g.to g.reaches.stand f.scan in
    not_wrong bytes g.tokens g.to f.tokens fault goes (file_begins bytes f.tokens f.written f.derives) f.fit g.wrong memory
