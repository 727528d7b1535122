-- What stands ahead, counted from a place before the tokens that are passed over.
use Rattle.std.proofs.Common.{◌≡◌, ◌≢◌, ℕ, zero, suc, ◌-◌, List, Option, Some, Result, Ok, Err, IfOk, IfErr, refl, subst, arith, inl, inr}
use Rattle.go_tree.specs.declared.token.Token.{Token}
use Rattle.go_tree.specs.declared.token.TokenKind.{TokenKind}
use Rattle.go_tree.specs.declared.token.TokenKind.TheVariants.{End}
use Rattle.go_tree.specs.Lexical.Scan.{IsNext}
use Rattle.go_tree.specs.declared.lex.Lex.{Lex}
use Rattle.go_parse_x.specs.Texts.{IsAhead, IsLexAhead}
use Rattle.go_tree.specs.Lexical.Faults.{IsLex}

module _ (bytes : List ℕ) (at : ℕ) (last : Option TokenKind) where
  -- where no token starts, none stands ahead
  pub none_ahead : (n : ℕ) (e : Lex) → IsLex bytes at last e → IsLexAhead bytes at last n e
  none_ahead zero e h = h
  none_ahead (suc n) e h = inl h

  -- what stands ahead of the place behind a token stands one place further ahead of it
  pub further : (n : ℕ) (u : Token) (r : Result Token Lex) → IsNext bytes at last u → u.kind ≢ End → n ≢ 0 →
      IfOk r (λ t. IsAhead bytes u.end (Some u.kind) (n - 1) t) → IfOk r (λ t. IsAhead bytes at last n t)
  further zero u r next more some h = absurd (some refl)
  further (suc n) u (Ok t) next more some h =
      let less : suc n - 1 ≡ n = omega arith in
      let P : ℕ → Type 0 = λ m. IsAhead bytes u.end (Some u.kind) m t in
      inr (u, next, more, subst P less h)
  further (suc n) u (Err e) next more some h = tt

  pub none_further : (n : ℕ) (u : Token) (r : Result Token Lex) → IsNext bytes at last u → u.kind ≢ End → n ≢ 0 →
      IfErr r (λ e. IsLexAhead bytes u.end (Some u.kind) (n - 1) e) → IfErr r (λ e. IsLexAhead bytes at last n e)
  none_further zero u r next more some h = absurd (some refl)
  none_further (suc n) u (Ok t) next more some h = tt
  none_further (suc n) u (Err e) next more some h =
      let less : suc n - 1 ≡ n = omega arith in
      let P : ℕ → Type 0 = λ m. IsLexAhead bytes u.end (Some u.kind) m e in
      inr (u, next, more, subst P less h)
