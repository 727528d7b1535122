-- What stands behind an opening brace.
-- Not needed to read the grammar: it says that a `;` follows the `{` of a block alone, and that this is so is proved.
use Rattle.std.specs.Prelude.{Bool, true, false, not, List, [], ◌∷◌, ◌&&◌, cond}
use Rattle.go_tree.specs.declared.token.TokenKind.TheVariants.{LeftBrace, Semicolon}
use Rattle.go_tree.specs.declared.production.Production.{Production}
use Rattle.go_tree.specs.declared.production.Production.TheVariants.{Block}
use Rattle.go_tree.specs.Grammar.RightSide.{RightSide, Do, Call, Nothing, Seq, Or, Many, When, Act, Pass}
use Rattle.go_tree.specs.Grammar.Tables.TokenKinds.{same_kind}
use Rattle.go_tree.specs.Grammar.Tables.Prediction.{begins, is_empty, starts}
use Rattle.go_tree.specs.Grammar.Trees.Sentence.{tables}

abbrev pub is_block : Production → Bool
is_block Block = true
is_block _ = false

abbrev pub act_is_brace : Act → Bool
act_is_brace (Pass kind) = same_kind LeftBrace kind
act_is_brace _ = false

abbrev pub is_brace : RightSide Production → Bool
is_brace (Do a) = act_is_brace a
is_brace _ = false

-- each brace is followed by something that has a token, and that does not begin with `;`
abbrev pub is_braced : RightSide Production → Bool
is_braced (Do a) = not (act_is_brace a)
is_braced (Call n) = true
is_braced Nothing = true
is_braced (Seq g h) = cond (is_brace g) (not (begins tables h Semicolon) && not (is_empty tables h)) (is_braced g) && is_braced h
is_braced (Or g h) = is_braced g && is_braced h
is_braced (Many g) = is_braced g
is_braced (When a g h) = is_braced g && is_braced h

abbrev pub all_braced : List (RightSide Production) → Bool
all_braced [] = true
all_braced (g ∷ gs) = cond (is_brace g) (not (starts tables gs Semicolon)) (is_braced g) && all_braced gs
