-- Kinds of tokens as numbers, so that they can be compared and counted.
use Rattle.std.specs.Prelude.{ℕ, Bool, ◌==◌, List, [], ◌∷◌}
use Rattle.std.specs.List.{list_any}
use Rattle.go_tree.specs.declared.token.TokenKind.{TokenKind}
use Rattle.go_tree.specs.declared.token.TokenKind.TheVariants.{Ident, Int, Float, Rune, Text, KwBreak, KwCase, KwChan, KwConst, KwContinue, KwDefault, KwDefer, KwElse, KwFallthrough, KwFor, KwFunc, KwGo, KwGoto, KwIf, KwImport, KwInterface, KwMap, KwPackage, KwRange, KwReturn, KwSelect, KwStruct, KwSwitch, KwType, KwVar, Add, Sub, Mul, Quo, Rem, And, Or, Xor, Shl, Shr, AndNot, AddAssign, SubAssign, MulAssign, QuoAssign, RemAssign, AndAssign, OrAssign, XorAssign, ShlAssign, ShrAssign, AndNotAssign, LogicalAnd, LogicalOr, Arrow, Inc, Dec, Equal, Less, Greater, Assign, Not, Tilde, NotEqual, LessEqual, GreaterEqual, Define, Ellipsis, LeftParen, LeftBracket, LeftBrace, Comma, Dot, RightParen, RightBracket, RightBrace, Semicolon, Colon, InsertedSemicolon, End}

-- the place of a kind in the list of kinds
abbrev pub code : TokenKind → ℕ
code Ident = 0
code Int = 1
code Float = 2
code Rune = 3
code Text = 4
code KwBreak = 5
code KwCase = 6
code KwChan = 7
code KwConst = 8
code KwContinue = 9
code KwDefault = 10
code KwDefer = 11
code KwElse = 12
code KwFallthrough = 13
code KwFor = 14
code KwFunc = 15
code KwGo = 16
code KwGoto = 17
code KwIf = 18
code KwImport = 19
code KwInterface = 20
code KwMap = 21
code KwPackage = 22
code KwRange = 23
code KwReturn = 24
code KwSelect = 25
code KwStruct = 26
code KwSwitch = 27
code KwType = 28
code KwVar = 29
code Add = 30
code Sub = 31
code Mul = 32
code Quo = 33
code Rem = 34
code And = 35
code Or = 36
code Xor = 37
code Shl = 38
code Shr = 39
code AndNot = 40
code AddAssign = 41
code SubAssign = 42
code MulAssign = 43
code QuoAssign = 44
code RemAssign = 45
code AndAssign = 46
code OrAssign = 47
code XorAssign = 48
code ShlAssign = 49
code ShrAssign = 50
code AndNotAssign = 51
code LogicalAnd = 52
code LogicalOr = 53
code Arrow = 54
code Inc = 55
code Dec = 56
code Equal = 57
code Less = 58
code Greater = 59
code Assign = 60
code Not = 61
code Tilde = 62
code NotEqual = 63
code LessEqual = 64
code GreaterEqual = 65
code Define = 66
code Ellipsis = 67
code LeftParen = 68
code LeftBracket = 69
code LeftBrace = 70
code Comma = 71
code Dot = 72
code RightParen = 73
code RightBracket = 74
code RightBrace = 75
code Semicolon = 76
code Colon = 77
code InsertedSemicolon = 78
code End = 79

abbrev pub same_kind : TokenKind → TokenKind → Bool
same_kind a b = code a == code b

abbrev pub is_in : List TokenKind → TokenKind → Bool
is_in kinds k = list_any (λ j. same_kind j k) kinds

abbrev pub all_kinds : List TokenKind
all_kinds =
    Ident ∷ Int ∷ Float ∷ Rune ∷ Text ∷ KwBreak ∷ KwCase ∷ KwChan ∷ KwConst ∷ KwContinue ∷ KwDefault ∷ KwDefer
    ∷ KwElse ∷ KwFallthrough ∷ KwFor ∷ KwFunc ∷ KwGo ∷ KwGoto ∷ KwIf ∷ KwImport ∷ KwInterface ∷ KwMap
    ∷ KwPackage ∷ KwRange ∷ KwReturn ∷ KwSelect ∷ KwStruct ∷ KwSwitch ∷ KwType ∷ KwVar ∷ Add ∷ Sub ∷ Mul ∷ Quo
    ∷ Rem ∷ And ∷ Or ∷ Xor ∷ Shl ∷ Shr ∷ AndNot ∷ AddAssign ∷ SubAssign ∷ MulAssign ∷ QuoAssign ∷ RemAssign
    ∷ AndAssign ∷ OrAssign ∷ XorAssign ∷ ShlAssign ∷ ShrAssign ∷ AndNotAssign ∷ LogicalAnd ∷ LogicalOr ∷ Arrow
    ∷ Inc ∷ Dec ∷ Equal ∷ Less ∷ Greater ∷ Assign ∷ Not ∷ Tilde ∷ NotEqual ∷ LessEqual ∷ GreaterEqual ∷ Define
    ∷ Ellipsis ∷ LeftParen ∷ LeftBracket ∷ LeftBrace ∷ Comma ∷ Dot ∷ RightParen ∷ RightBracket ∷ RightBrace
    ∷ Semicolon ∷ Colon ∷ InsertedSemicolon ∷ End ∷ []
