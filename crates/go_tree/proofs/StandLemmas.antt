-- Lemmas on `Stand`: tokens behind tokens.
use Rattle.std.proofs.Common.{ℕ, List, [], ◌∷◌, ◌++◌, Option, Some, sym, subst}
use Rattle.go_tree.specs.declared.token.Token.{Token}
use Rattle.go_tree.specs.declared.token.TokenKind.{TokenKind}
use Rattle.go_tree.specs.Lexical.Scan.{Stand}

pub stand_append : (bytes : List ℕ) (at mid to : ℕ) (last kind then : Option TokenKind) (us vs : List Token) → Stand bytes at last us mid kind → Stand bytes mid kind vs to then → Stand bytes at last (us ++ vs) to then
stand_append bytes at mid to last kind then [] vs h w = subst (λ k. Stand bytes at k vs to then) (sym h.1) (subst (λ m. Stand bytes m kind vs to then) (sym h.0) w)
stand_append bytes at mid to last kind then (u ∷ us) vs h w = (h.0, h.1, stand_append bytes u.end mid to (Some u.kind) kind then us vs h.2 w)
