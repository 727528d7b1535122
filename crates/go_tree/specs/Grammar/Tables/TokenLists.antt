-- Lists of tokens that several productions begin with, or that follow several.
-- Not needed to read the grammar: that the tables made of them are right is proved.
use Rattle.std.specs.Prelude.{List, [], ◌∷◌}
use Rattle.go_tree.specs.declared.token.TokenKind.{TokenKind}
use Rattle.go_tree.specs.declared.token.TokenKind.TheVariants.{Ident, Int, Float, Rune, Text, KwBreak, KwChan, KwConst, KwContinue, KwDefer, KwFallthrough, KwFor, KwFunc, KwGo, KwGoto, KwIf, KwInterface, KwMap, KwReturn, KwSelect, KwStruct, KwSwitch, KwType, KwVar, Add, Sub, Mul, Quo, Rem, And, Or, Xor, Shl, Shr, AndNot, AddAssign, SubAssign, MulAssign, QuoAssign, RemAssign, AndAssign, OrAssign, XorAssign, ShlAssign, ShrAssign, AndNotAssign, LogicalAnd, LogicalOr, Arrow, Inc, Dec, Equal, Less, Greater, Assign, Not, NotEqual, LessEqual, GreaterEqual, Define, Ellipsis, LeftParen, LeftBracket, LeftBrace, Comma, Dot, RightParen, RightBracket, RightBrace, Semicolon, Colon, InsertedSemicolon}

abbrev pub expression_starts : List TokenKind
expression_starts =
    Ident ∷ Int ∷ Float ∷ Rune ∷ Text ∷ KwChan ∷ KwFunc ∷ KwInterface ∷ KwMap ∷ KwStruct ∷ Add ∷ Sub ∷ Mul ∷ And
    ∷ Xor ∷ Arrow ∷ Not ∷ LeftParen ∷ LeftBracket ∷ []

abbrev pub nameless_starts : List TokenKind
nameless_starts =
    Int ∷ Float ∷ Rune ∷ Text ∷ KwChan ∷ KwFunc ∷ KwInterface ∷ KwMap ∷ KwStruct ∷ Add ∷ Sub ∷ Mul ∷ And ∷ Xor
    ∷ Arrow ∷ Not ∷ LeftParen ∷ LeftBracket ∷ []

abbrev pub operand_starts : List TokenKind
operand_starts =
    Int ∷ Float ∷ Rune ∷ Text ∷ KwChan ∷ KwFunc ∷ KwInterface ∷ KwMap ∷ KwStruct ∷ LeftParen ∷ LeftBracket ∷ []

abbrev pub type_starts : List TokenKind
type_starts =
    Ident ∷ KwChan ∷ KwFunc ∷ KwInterface ∷ KwMap ∷ KwStruct ∷ Mul ∷ Arrow ∷ LeftParen ∷ LeftBracket ∷ []

abbrev pub statement_starts : List TokenKind
statement_starts =
    Ident ∷ Int ∷ Float ∷ Rune ∷ Text ∷ KwBreak ∷ KwChan ∷ KwConst ∷ KwContinue ∷ KwDefer ∷ KwFallthrough
    ∷ KwFor ∷ KwFunc ∷ KwGo ∷ KwGoto ∷ KwIf ∷ KwInterface ∷ KwMap ∷ KwReturn ∷ KwSelect ∷ KwStruct ∷ KwSwitch
    ∷ KwType ∷ KwVar ∷ Add ∷ Sub ∷ Mul ∷ And ∷ Xor ∷ Arrow ∷ Not ∷ LeftParen ∷ LeftBracket ∷ LeftBrace ∷ []

abbrev pub operators : List TokenKind
operators =
    Add ∷ Sub ∷ Mul ∷ Quo ∷ Rem ∷ And ∷ Or ∷ Xor ∷ Shl ∷ Shr ∷ AndNot ∷ LogicalAnd ∷ LogicalOr ∷ Equal ∷ Less
    ∷ Greater ∷ NotEqual ∷ LessEqual ∷ GreaterEqual ∷ []

abbrev pub suffix_starts : List TokenKind
suffix_starts = LeftParen ∷ LeftBracket ∷ LeftBrace ∷ Dot ∷ []

abbrev pub behind_type : List TokenKind
behind_type =
    Text ∷ Add ∷ Sub ∷ Mul ∷ Quo ∷ Rem ∷ And ∷ Or ∷ Xor ∷ Shl ∷ Shr ∷ AndNot ∷ AddAssign ∷ SubAssign ∷ MulAssign
    ∷ QuoAssign ∷ RemAssign ∷ AndAssign ∷ OrAssign ∷ XorAssign ∷ ShlAssign ∷ ShrAssign ∷ AndNotAssign
    ∷ LogicalAnd ∷ LogicalOr ∷ Arrow ∷ Inc ∷ Dec ∷ Equal ∷ Less ∷ Greater ∷ Assign ∷ NotEqual ∷ LessEqual
    ∷ GreaterEqual ∷ Define ∷ Ellipsis ∷ LeftParen ∷ LeftBracket ∷ LeftBrace ∷ Comma ∷ Dot ∷ RightParen
    ∷ RightBracket ∷ RightBrace ∷ Semicolon ∷ Colon ∷ InsertedSemicolon ∷ []

abbrev pub behind_operand_in_header : List TokenKind
behind_operand_in_header =
    Add ∷ Sub ∷ Mul ∷ Quo ∷ Rem ∷ And ∷ Or ∷ Xor ∷ Shl ∷ Shr ∷ AndNot ∷ AddAssign ∷ SubAssign ∷ MulAssign
    ∷ QuoAssign ∷ RemAssign ∷ AndAssign ∷ OrAssign ∷ XorAssign ∷ ShlAssign ∷ ShrAssign ∷ AndNotAssign
    ∷ LogicalAnd ∷ LogicalOr ∷ Arrow ∷ Inc ∷ Dec ∷ Equal ∷ Less ∷ Greater ∷ Assign ∷ NotEqual ∷ LessEqual
    ∷ GreaterEqual ∷ Define ∷ LeftBrace ∷ Comma ∷ Semicolon ∷ InsertedSemicolon ∷ []

abbrev pub behind_operand : List TokenKind
behind_operand =
    Add ∷ Sub ∷ Mul ∷ Quo ∷ Rem ∷ And ∷ Or ∷ Xor ∷ Shl ∷ Shr ∷ AndNot ∷ AddAssign ∷ SubAssign ∷ MulAssign
    ∷ QuoAssign ∷ RemAssign ∷ AndAssign ∷ OrAssign ∷ XorAssign ∷ ShlAssign ∷ ShrAssign ∷ AndNotAssign
    ∷ LogicalAnd ∷ LogicalOr ∷ Arrow ∷ Inc ∷ Dec ∷ Equal ∷ Less ∷ Greater ∷ Assign ∷ NotEqual ∷ LessEqual
    ∷ GreaterEqual ∷ Define ∷ Ellipsis ∷ Comma ∷ RightParen ∷ RightBracket ∷ RightBrace ∷ Semicolon ∷ Colon
    ∷ InsertedSemicolon ∷ []

abbrev pub behind_expression_in_header : List TokenKind
behind_expression_in_header =
    AddAssign ∷ SubAssign ∷ MulAssign ∷ QuoAssign ∷ RemAssign ∷ AndAssign ∷ OrAssign ∷ XorAssign ∷ ShlAssign
    ∷ ShrAssign ∷ AndNotAssign ∷ Arrow ∷ Inc ∷ Dec ∷ Assign ∷ Define ∷ LeftBrace ∷ Comma ∷ Semicolon
    ∷ InsertedSemicolon ∷ []

abbrev pub behind_expression : List TokenKind
behind_expression =
    AddAssign ∷ SubAssign ∷ MulAssign ∷ QuoAssign ∷ RemAssign ∷ AndAssign ∷ OrAssign ∷ XorAssign ∷ ShlAssign
    ∷ ShrAssign ∷ AndNotAssign ∷ Arrow ∷ Inc ∷ Dec ∷ Assign ∷ Define ∷ Ellipsis ∷ Comma ∷ RightParen
    ∷ RightBracket ∷ RightBrace ∷ Semicolon ∷ Colon ∷ InsertedSemicolon ∷ []

abbrev pub behind_conjunction : List TokenKind
behind_conjunction =
    AddAssign ∷ SubAssign ∷ MulAssign ∷ QuoAssign ∷ RemAssign ∷ AndAssign ∷ OrAssign ∷ XorAssign ∷ ShlAssign
    ∷ ShrAssign ∷ AndNotAssign ∷ LogicalOr ∷ Arrow ∷ Inc ∷ Dec ∷ Assign ∷ Define ∷ Ellipsis ∷ Comma ∷ RightParen
    ∷ RightBracket ∷ RightBrace ∷ Semicolon ∷ Colon ∷ InsertedSemicolon ∷ []

abbrev pub behind_conjunction_in_header : List TokenKind
behind_conjunction_in_header =
    AddAssign ∷ SubAssign ∷ MulAssign ∷ QuoAssign ∷ RemAssign ∷ AndAssign ∷ OrAssign ∷ XorAssign ∷ ShlAssign
    ∷ ShrAssign ∷ AndNotAssign ∷ LogicalOr ∷ Arrow ∷ Inc ∷ Dec ∷ Assign ∷ Define ∷ LeftBrace ∷ Comma ∷ Semicolon
    ∷ InsertedSemicolon ∷ []

abbrev pub behind_comparison : List TokenKind
behind_comparison =
    AddAssign ∷ SubAssign ∷ MulAssign ∷ QuoAssign ∷ RemAssign ∷ AndAssign ∷ OrAssign ∷ XorAssign ∷ ShlAssign
    ∷ ShrAssign ∷ AndNotAssign ∷ LogicalAnd ∷ LogicalOr ∷ Arrow ∷ Inc ∷ Dec ∷ Assign ∷ Define ∷ Ellipsis ∷ Comma
    ∷ RightParen ∷ RightBracket ∷ RightBrace ∷ Semicolon ∷ Colon ∷ InsertedSemicolon ∷ []

abbrev pub behind_comparison_in_header : List TokenKind
behind_comparison_in_header =
    AddAssign ∷ SubAssign ∷ MulAssign ∷ QuoAssign ∷ RemAssign ∷ AndAssign ∷ OrAssign ∷ XorAssign ∷ ShlAssign
    ∷ ShrAssign ∷ AndNotAssign ∷ LogicalAnd ∷ LogicalOr ∷ Arrow ∷ Inc ∷ Dec ∷ Assign ∷ Define ∷ LeftBrace
    ∷ Comma ∷ Semicolon ∷ InsertedSemicolon ∷ []

abbrev pub behind_suffix : List TokenKind
behind_suffix =
    Add ∷ Sub ∷ Mul ∷ Quo ∷ Rem ∷ And ∷ Or ∷ Xor ∷ Shl ∷ Shr ∷ AndNot ∷ AddAssign ∷ SubAssign ∷ MulAssign
    ∷ QuoAssign ∷ RemAssign ∷ AndAssign ∷ OrAssign ∷ XorAssign ∷ ShlAssign ∷ ShrAssign ∷ AndNotAssign
    ∷ LogicalAnd ∷ LogicalOr ∷ Arrow ∷ Inc ∷ Dec ∷ Equal ∷ Less ∷ Greater ∷ Assign ∷ NotEqual ∷ LessEqual
    ∷ GreaterEqual ∷ Define ∷ Ellipsis ∷ LeftParen ∷ LeftBracket ∷ LeftBrace ∷ Comma ∷ Dot ∷ RightParen
    ∷ RightBracket ∷ RightBrace ∷ Semicolon ∷ Colon ∷ InsertedSemicolon ∷ []

abbrev pub behind_statement : List TokenKind
behind_statement = RightBrace ∷ Semicolon ∷ InsertedSemicolon ∷ []
