-- Tokens that complete what is still to be read.
use Rattle.std.specs.Prelude.{ℕ, ◌≡◌, Bool, true, false, List, [], ◌∷◌, ◌++◌, Option, None, Some, cond, nat_lt, ◌&&◌}
use Rattle.go_tree.specs.declared.token.Token.{Token}
use Rattle.go_tree.specs.declared.token.TokenKind.{TokenKind}
use Rattle.go_tree.specs.Grammar.RightSide.{RightSide, Do, Call, Nothing, Seq, Or, Many, When, Pass, CheckType, Ahead, OneOf, Both}
use Rattle.go_tree.specs.Grammar.Tables.TokenKinds.{same_kind, is_in}

-- a short text of each production, made with productions of a lower rank alone
pub record Texts (N : Type 0) : Type 0 where
  pub brief : N → List TokenKind
  pub rank : N → ℕ

abbrev pub join : Option (List TokenKind) → Option (List TokenKind) → Option (List TokenKind)
join None y = None
join (Some x) None = None
join (Some x) (Some y) = Some (x ++ y)

abbrev pub either : Option (List TokenKind) → Option (List TokenKind) → Option (List TokenKind)
either None y = y
either (Some x) y = Some x

-- whether a text begins so
abbrev pub begins_so : Ahead → List TokenKind → Bool
begins_so (OneOf kinds) [] = false
begins_so (OneOf kinds) (k ∷ ks) = is_in kinds k
begins_so (Both i j) [] = false
begins_so (Both i j) (k ∷ []) = false
begins_so (Both i j) (k ∷ (l ∷ ls)) = same_kind i k && same_kind j l

abbrev pub if_begun : Ahead → Option (List TokenKind) → Option (List TokenKind)
if_begun a None = None
if_begun a (Some x) = cond (begins_so a x) (Some x) None

-- a text of g, made with productions of a rank below r
abbrev pub spell : {N : Type 0} → Texts N → ℕ → RightSide N → Option (List TokenKind)
spell X r (Do (Pass k)) = Some (k ∷ [])
spell X r (Do CheckType) = None
spell X r (Do _) = Some []
spell X r (Call n) = cond (nat_lt (X.rank n) r) (Some (X.brief n)) None
spell X r Nothing = Some []
spell X r (Seq g h) = join (spell X r g) (spell X r h)
spell X r (Or g h) = either (spell X r g) (spell X r h)
spell X r (Many g) = Some []
spell X r (When a g h) = if_begun a (spell X r g)

abbrev pub is_there : Option (List TokenKind) → Bool
is_there None = false
is_there (Some x) = true

-- whatever way is taken in g, what is left behind the next token has a text
abbrev pub holds : {N : Type 0} → Texts N → ℕ → RightSide N → Bool
holds X r (Do a) = true
holds X r (Call n) = nat_lt (X.rank n) r
holds X r Nothing = true
holds X r (Seq g h) = holds X r g && (holds X r h && is_there (spell X r h))
holds X r (Or g h) = holds X r g && holds X r h
holds X r (Many g) = holds X r g
holds X r (When a g h) = holds X r g && holds X r h

-- all have texts, and so it stays
abbrev pub Firm : {N : Type 0} → Texts N → ℕ → List (RightSide N) → Type 0
Firm X r [] = Unit {0}
Firm X r (g ∷ gs) = (holds X r g ≡ true) × (is_there (spell X r g) ≡ true) × Firm X r gs

-- all but perhaps the first, of which a test is still to be made
abbrev pub Held : {N : Type 0} → Texts N → ℕ → List (RightSide N) → Type 0
Held X r [] = Unit {0}
Held X r (g ∷ gs) = (holds X r g ≡ true) × Firm X r gs

-- the texts are right, and what is left has a text wherever a reading stands
pub record HaveTexts (N : Type 0) (production : N → RightSide N) (X : Texts N) (r : ℕ) : Type 0 where
  pub brief : (n : N) → spell X (X.rank n) (production n) ≡ Some (X.brief n)
  pub parts : (n : N) → holds X r (production n) ≡ true

abbrev pub text_or_none : Option (List TokenKind) → List TokenKind
text_or_none None = []
text_or_none (Some x) = x

-- the tokens that complete all these, one after another
abbrev pub completion : {N : Type 0} → Texts N → ℕ → List (RightSide N) → List TokenKind
completion X r [] = []
completion X r (g ∷ gs) = text_or_none (spell X r g) ++ completion X r gs

-- tokens of these kinds, wherever they stand
abbrev pub tokens_of : List TokenKind → List Token
tokens_of [] = []
tokens_of (k ∷ ks) = record { kind = k; start = 0; end = 0 } ∷ tokens_of ks
