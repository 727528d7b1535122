-- Lemmas on the kinds of tokens: one text is spelled by one kind, and one token is the longest.
use Rattle.std.proofs.Common.{◌≡◌, ℕ, ◌+◌, ◌<◌, ◌≤◌, cond, List, [], ◌∷◌, length, slice_index, slice_range, Some, None, refl, arith, sym, ◌∙◌, ap, ⊎_elim, inl, inr}
use Rattle.std.specs.Prelude.{bytes_eq}
use Rattle.std.proofs.lemmas.Bool.{cases_order}
use Rattle.go_tree.specs.declared.token.TokenKind.{TokenKind}
use Rattle.go_tree.specs.declared.token.TokenKind.TheVariants.{Ident, Int, Float, Rune, Text, KwBreak, KwCase, KwChan, KwConst, KwContinue, KwDefault, KwDefer, KwElse, KwFallthrough, KwFor, KwFunc, KwGo, KwGoto, KwIf, KwImport, KwInterface, KwMap, KwPackage, KwRange, KwReturn, KwSelect, KwStruct, KwSwitch, KwType, KwVar, Add, Sub, Mul, Quo, Rem, And, Or, Xor, Shl, Shr, AndNot, AddAssign, SubAssign, MulAssign, QuoAssign, RemAssign, AndAssign, OrAssign, XorAssign, ShlAssign, ShrAssign, AndNotAssign, LogicalAnd, LogicalOr, Arrow, Inc, Dec, Equal, Less, Greater, Assign, Not, Tilde, NotEqual, LessEqual, GreaterEqual, Define, Ellipsis, LeftParen, LeftBracket, LeftBrace, Comma, Dot, RightParen, RightBracket, RightBrace, Semicolon, Colon, InsertedSemicolon, End}
use Rattle.go_tree.specs.Lexical.Numbers.{number_kind, IsNumberRun}
use Rattle.go_tree.specs.Lexical.Tokens.{spelling, IsSpelled, IsWord, IsToken, IsLongest}
use Rattle.go_scan.specs.Blame.{OpensLiteral}
use Rattle.go_scan.proofs.LexemeLemmas.{Form, form_of, slice_one}
use Rattle.go_scan.proofs.TokenLemmas.{number_no_word, number_spelled, not_number, no_word, no_spelled_quote}

lookup : List TokenKind → List ℕ → TokenKind
lookup [] text = End
lookup (k ∷ ks) text = cond (bytes_eq (spelling k) text) k (lookup ks text)

spelled_kinds : List TokenKind
spelled_kinds = KwBreak ∷ KwCase ∷ KwChan ∷ KwConst ∷ KwContinue ∷ KwDefault ∷ KwDefer ∷ KwElse ∷ KwFallthrough ∷ KwFor ∷ KwFunc ∷ KwGo ∷ KwGoto ∷ KwIf ∷ KwImport ∷ KwInterface ∷ KwMap ∷ KwPackage ∷ KwRange ∷ KwReturn ∷ KwSelect ∷ KwStruct ∷ KwSwitch ∷ KwType ∷ KwVar ∷ Add ∷ Sub ∷ Mul ∷ Quo ∷ Rem ∷ And ∷ Or ∷ Xor ∷ Shl ∷ Shr ∷ AndNot ∷ AddAssign ∷ SubAssign ∷ MulAssign ∷ QuoAssign ∷ RemAssign ∷ AndAssign ∷ OrAssign ∷ XorAssign ∷ ShlAssign ∷ ShrAssign ∷ AndNotAssign ∷ LogicalAnd ∷ LogicalOr ∷ Arrow ∷ Inc ∷ Dec ∷ Equal ∷ Less ∷ Greater ∷ Assign ∷ Not ∷ Tilde ∷ NotEqual ∷ LessEqual ∷ GreaterEqual ∷ Define ∷ Ellipsis ∷ LeftParen ∷ LeftBracket ∷ LeftBrace ∷ Comma ∷ Dot ∷ RightParen ∷ RightBracket ∷ RightBrace ∷ Semicolon ∷ Colon ∷ []

-- a text that is spelled has one kind
looked_up : (kind : TokenKind) → 0 < length (spelling kind) → lookup spelled_kinds (spelling kind) ≡ kind
unfolding lookup spelled_kinds
looked_up Ident h = absurd (omega (arith, h))
looked_up Int h = absurd (omega (arith, h))
looked_up Float h = absurd (omega (arith, h))
looked_up Rune h = absurd (omega (arith, h))
looked_up Text h = absurd (omega (arith, h))
looked_up InsertedSemicolon h = absurd (omega (arith, h))
looked_up End h = absurd (omega (arith, h))
looked_up _ h = refl

pub one_spelled : (text : List ℕ) (j k : TokenKind) → IsSpelled j text → IsSpelled k text → j ≡ k
one_spelled text j k a b = sym (looked_up j (rw a.0 a.1)) ∙ ap (lookup spelled_kinds) (a.0 ∙ sym b.0) ∙ looked_up k (rw b.0 b.1)

point_kind : number_kind (46 ∷ []) ≡ None
point_kind = refl

some_same : (j k : TokenKind) → Some j ≡ Some k → j ≡ k
some_same j k e = cc

apart_39_34 : (b : ℕ) → b ≡ 39 → b ≡ 34 → ⊥
apart_39_34 b x y = omega (arith, x, y)

apart_39_96 : (b : ℕ) → b ≡ 39 → b ≡ 96 → ⊥
apart_39_96 b x y = omega (arith, x, y)

number_quote : (bytes : List ℕ) (from to : ℕ) → IsNumberRun bytes from to → OpensLiteral (slice_index bytes from) → ⊥
number_quote bytes from to r (inl e) = not_number bytes from 39 e refl (λ x. omega (arith, x)) r.0
number_quote bytes from to r (inr (inl e)) = not_number bytes from 34 e refl (λ x. omega (arith, x)) r.0
number_quote bytes from to r (inr (inr e)) = not_number bytes from 96 e refl (λ x. omega (arith, x)) r.0

word_quote : (bytes : List ℕ) (from to : ℕ) → IsWord bytes from to → OpensLiteral (slice_index bytes from) → ⊥
word_quote bytes from to w (inl e) = no_word bytes from to 38 e (omega arith) refl w
word_quote bytes from to w (inr (inl e)) = no_word bytes from to 33 e (omega arith) refl w
word_quote bytes from to w (inr (inr e)) = no_word bytes from to 95 e (omega arith) refl w

number_spells : (bytes : List ℕ) (j k : TokenKind) (from to : ℕ) → to ≤ length bytes → IsNumberRun bytes from to → number_kind (slice_range bytes from to) ≡ Some j → IsSpelled k (slice_range bytes from to) → ⊥
number_spells bytes j k from to le r kind s =
    let p = number_spelled bytes k from to le r.0 s in
    let len : from + 1 ≤ length bytes = omega (arith, p.0, le) in
    let text : slice_range bytes from to ≡ 46 ∷ [] = ap (λ n. slice_range bytes from n) p.0 ∙ slice_one bytes from len ∙ ap (λ b. b ∷ []) p.1 in
    none_some j (sym point_kind ∙ rw text at kind)
  where
    none_some : (j : TokenKind) → None ≡ Some j → ⊥
    none_some j e = cc

quote_spells : (bytes : List ℕ) (k : TokenKind) (from to : ℕ) → to ≤ length bytes → OpensLiteral (slice_index bytes from) → IsSpelled k (slice_range bytes from to) → ⊥
quote_spells bytes k from to le q s = no_spelled_quote bytes k from to le q s

one_form : (bytes : List ℕ) (j k : TokenKind) (from to : ℕ) → to ≤ length bytes → Form bytes j from to → Form bytes k from to → j ≡ k
one_form bytes j k from to le (Form.word a w o) (Form.word b x p) = a ∙ sym b
one_form bytes j k from to le (Form.word a w o) (Form.number r b) = absurd (number_no_word bytes from to r.0 w)
one_form bytes j k from to le (Form.word a w o) (Form.rune b h) = absurd (word_quote bytes from to w (inl h.opens))
one_form bytes j k from to le (Form.word a w o) (Form.interpreted b h) = absurd (word_quote bytes from to w (inr (inl h.opens)))
one_form bytes j k from to le (Form.word a w o) (Form.raw b h) = absurd (word_quote bytes from to w (inr (inr h.opens)))
one_form bytes j k from to le (Form.word a w o) (Form.spelled s) = absurd (o k s)
one_form bytes j k from to le (Form.number r a) (Form.word b w o) = absurd (number_no_word bytes from to r.0 w)
one_form bytes j k from to le (Form.number r a) (Form.number q b) = some_same j k (sym a ∙ b)
one_form bytes j k from to le (Form.number r a) (Form.rune b h) = absurd (number_quote bytes from to r (inl h.opens))
one_form bytes j k from to le (Form.number r a) (Form.interpreted b h) = absurd (number_quote bytes from to r (inr (inl h.opens)))
one_form bytes j k from to le (Form.number r a) (Form.raw b h) = absurd (number_quote bytes from to r (inr (inr h.opens)))
one_form bytes j k from to le (Form.number r a) (Form.spelled s) = absurd (number_spells bytes j k from to le r a s)
one_form bytes j k from to le (Form.rune a g) (Form.word b w o) = absurd (word_quote bytes from to w (inl g.opens))
one_form bytes j k from to le (Form.rune a g) (Form.number r b) = absurd (number_quote bytes from to r (inl g.opens))
one_form bytes j k from to le (Form.rune a g) (Form.rune b h) = a ∙ sym b
one_form bytes j k from to le (Form.rune a g) (Form.interpreted b h) = absurd (apart_39_34 _ g.opens h.opens)
one_form bytes j k from to le (Form.rune a g) (Form.raw b h) = absurd (apart_39_96 _ g.opens h.opens)
one_form bytes j k from to le (Form.rune a g) (Form.spelled s) = absurd (quote_spells bytes k from to le (inl g.opens) s)
one_form bytes j k from to le (Form.interpreted a g) (Form.word b w o) = absurd (word_quote bytes from to w (inr (inl g.opens)))
one_form bytes j k from to le (Form.interpreted a g) (Form.number r b) = absurd (number_quote bytes from to r (inr (inl g.opens)))
one_form bytes j k from to le (Form.interpreted a g) (Form.rune b h) = absurd (apart_39_34 _ h.opens g.opens)
one_form bytes j k from to le (Form.interpreted a g) (Form.interpreted b h) = a ∙ sym b
one_form bytes j k from to le (Form.interpreted a g) (Form.raw b h) = a ∙ sym b
one_form bytes j k from to le (Form.interpreted a g) (Form.spelled s) = absurd (quote_spells bytes k from to le (inr (inl g.opens)) s)
one_form bytes j k from to le (Form.raw a g) (Form.word b w o) = absurd (word_quote bytes from to w (inr (inr g.opens)))
one_form bytes j k from to le (Form.raw a g) (Form.number r b) = absurd (number_quote bytes from to r (inr (inr g.opens)))
one_form bytes j k from to le (Form.raw a g) (Form.rune b h) = absurd (apart_39_96 _ h.opens g.opens)
one_form bytes j k from to le (Form.raw a g) (Form.interpreted b h) = a ∙ sym b
one_form bytes j k from to le (Form.raw a g) (Form.raw b h) = a ∙ sym b
one_form bytes j k from to le (Form.raw a g) (Form.spelled s) = absurd (quote_spells bytes k from to le (inr (inr g.opens)) s)
one_form bytes j k from to le (Form.spelled s) (Form.word b w o) = absurd (o j s)
one_form bytes j k from to le (Form.spelled s) (Form.number r b) = absurd (number_spells bytes k j from to le r b s)
one_form bytes j k from to le (Form.spelled s) (Form.rune b h) = absurd (quote_spells bytes j from to le (inl h.opens) s)
one_form bytes j k from to le (Form.spelled s) (Form.interpreted b h) = absurd (quote_spells bytes j from to le (inr (inl h.opens)) s)
one_form bytes j k from to le (Form.spelled s) (Form.raw b h) = absurd (quote_spells bytes j from to le (inr (inr h.opens)) s)
one_form bytes j k from to le (Form.spelled s) (Form.spelled t) = one_spelled (slice_range bytes from to) j k s t

-- the longest token is one
pub one_longest : (bytes : List ℕ) (j k : TokenKind) (from m n : ℕ) → IsLongest bytes j from m → IsLongest bytes k from n → (j ≡ k) × (m ≡ n)
one_longest bytes j k from m n a b =
    let ends = one_end in
    let other : IsToken bytes k from m = rw ends b.token in
    (one_form bytes j k from m a.within (form_of bytes j from m a.token) (form_of bytes k from m other), ends)
  where
    one_end : m ≡ n
    one_end = ⊎_elim
        (λ (e : m ≡ n). e)
        (λ apart. ⊎_elim
        (λ (lt : m < n). absurd (a.longest n lt b.within (inl (k, b.token))))
        (λ (gt : n < m). absurd (b.longest m gt a.within (inl (j, a.token))))
        apart)
        (cases_order m n)
