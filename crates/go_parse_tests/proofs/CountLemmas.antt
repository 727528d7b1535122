-- Heights at one more token.
use Rattle.std.proofs.Common.{◌≡◌, ◌+◌, List, [], ◌∷◌, ◌++◌, refl, ap, ◌∙◌, Option, None, length, arith}
use Rattle.std.proofs.lemmas.List.Sums.{fold-append}
use Rattle.go_tree.specs.declared.token.Token.{Token}
use Rattle.go_tree.specs.declared.token.TokenKind.{TokenKind}
use Rattle.go_tree.specs.declared.token.TokenKind.TheVariants.{LeftBrace}
use Rattle.go_tree.specs.declared.token_height.Role.TheVariants.{Opens}
use Rattle.go_tree.specs.Height.{Mark, Counted, counted, counted_at, marks_behind, role_of, height_of}

abbrev start : Counted
start = record { marks = []; last = None; before = None }

opens_brace : (kind : TokenKind) (last before : Option TokenKind) → kind ≡ LeftBrace → role_of kind last before ≡ Opens
opens_brace kind last before q = rw q refl

grows : (ms : List Mark) → length (marks_behind ms Opens) ≡ length ms + 1
grows ms = omega arith

one_higher : (c : Counted) (t : Token) → t.kind ≡ LeftBrace → length (counted_at c t).marks ≡ length c.marks + 1
one_higher c t q =
    let h : length (counted_at c t).marks ≡ length (marks_behind c.marks Opens) = ap (λ r. length (marks_behind c.marks r)) (opens_brace t.kind c.last c.before q) in
    h ∙ grows c.marks

pub brace_height : (ts : List Token) (t : Token) → t.kind ≡ LeftBrace → height_of (ts ++ t ∷ []) ≡ height_of ts + 1
brace_height ts t q = ap (λ (c : Counted). length c.marks) (fold-append counted_at start ts (t ∷ [])) ∙ one_higher (counted ts) t q
