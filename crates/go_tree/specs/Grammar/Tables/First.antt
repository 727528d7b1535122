-- The tokens that each production begins with.
-- Not needed to read the grammar: that the table is right is proved.
use Rattle.std.specs.Prelude.{List, [], ◌∷◌}
use Rattle.go_tree.specs.declared.token.TokenKind.{TokenKind}
use Rattle.go_tree.specs.declared.token.TokenKind.TheVariants.{Ident, Int, Float, Rune, Text, KwBreak, KwCase, KwChan, KwConst, KwContinue, KwDefault, KwDefer, KwFallthrough, KwFor, KwFunc, KwGo, KwGoto, KwIf, KwImport, KwInterface, KwMap, KwPackage, KwReturn, KwSelect, KwStruct, KwSwitch, KwType, KwVar, Add, Sub, Mul, Quo, Rem, And, Or, Xor, Shl, Shr, AndNot, AddAssign, SubAssign, MulAssign, QuoAssign, RemAssign, AndAssign, OrAssign, XorAssign, ShlAssign, ShrAssign, AndNotAssign, LogicalAnd, LogicalOr, Arrow, Inc, Dec, Equal, Less, Greater, Assign, Not, Tilde, NotEqual, LessEqual, GreaterEqual, Define, Ellipsis, LeftParen, LeftBracket, LeftBrace, Comma, Dot, RightParen, RightBracket, Semicolon, InsertedSemicolon}
use Rattle.go_tree.specs.declared.production.Items.TheVariants.{ImportSpecs, ConstSpecs, VarSpecs, TypeSpecs, TypeParamGroups, Types, Parameters, Fields, Elems, Indexes, Elements}
use Rattle.go_tree.specs.declared.production.Production.{Production}
use Rattle.go_tree.specs.declared.production.Production.TheVariants.{AddTail, AfterArg, AfterClauseStmt, AfterExpr, AfterIndex, AfterName, AfterSelector, AndTail, AnyType, BasicLit, Block, BracketType, CallOrDot, CallRest, ChanElem, ChanType, Clause, ClauseBody, CompareTail, Comparison, Conjunction, ConstSpec, ConstraintAfterName, Decl, Elem, Element, ElementPart, Expr, ExprNoName, Exprs, Field, FieldAfterName, File, For, ForAfterExpr, ForClauses, FuncOperand, FuncRest, FuncType, Idents, If, Import, ImportSpec, InterfaceType, MapType, More, MulTail, Name, Operand, OrTail, Param, ParamAfterName, Params, ParenType, Product, RecvChan, ResultType, Select, Signature, Simple, SimpleTail, StarType, Stmt, StringLit, StructType, Suffix, Sum, Switch, Tails, Term, Top, TypeArgs, TypeName, TypeNoBracket, TypeNoName, TypeParam, TypeParams, TypeSpec, TypeSpecBracket, Unary, Union, Value, VarSpec}
use Rattle.go_tree.specs.Grammar.Tables.TokenLists.{behind_expression_in_header, expression_starts, nameless_starts, operand_starts, operators, statement_starts, suffix_starts, type_starts}

-- the tokens that can begin it
abbrev pub firsts : Production → List TokenKind
firsts File = KwPackage ∷ []
firsts Import = KwImport ∷ []
firsts ImportSpec = Ident ∷ Text ∷ Dot ∷ []
firsts Top = KwConst ∷ KwFunc ∷ KwType ∷ KwVar ∷ []
firsts FuncRest = LeftParen ∷ LeftBracket ∷ []
firsts Name = Ident ∷ []
firsts StringLit = Text ∷ []
firsts Decl = KwConst ∷ KwType ∷ KwVar ∷ []
firsts ConstSpec = Ident ∷ []
firsts VarSpec = Ident ∷ []
firsts Idents = Ident ∷ []
firsts (Exprs w) = expression_starts
firsts TypeSpec = Ident ∷ []
firsts TypeSpecBracket =
    Ident ∷ Int ∷ Float ∷ Rune ∷ Text ∷ KwChan ∷ KwFunc ∷ KwInterface ∷ KwMap ∷ KwStruct ∷ Add ∷ Sub ∷ Mul ∷ And
    ∷ Xor ∷ Arrow ∷ Not ∷ Ellipsis ∷ LeftParen ∷ LeftBracket ∷ RightBracket ∷ []
firsts TypeParams = LeftBracket ∷ []
firsts TypeParam = Ident ∷ []
firsts ConstraintAfterName =
    Ident ∷ KwChan ∷ KwFunc ∷ KwInterface ∷ KwMap ∷ KwStruct ∷ Arrow ∷ Tilde ∷ LeftBracket ∷ []
firsts (More ImportSpecs) = Semicolon ∷ InsertedSemicolon ∷ []
firsts (More ConstSpecs) = Semicolon ∷ InsertedSemicolon ∷ []
firsts (More VarSpecs) = Semicolon ∷ InsertedSemicolon ∷ []
firsts (More TypeSpecs) = Semicolon ∷ InsertedSemicolon ∷ []
firsts (More TypeParamGroups) = Comma ∷ []
firsts (More Types) = Comma ∷ []
firsts (More Parameters) = Comma ∷ []
firsts (More Fields) = Semicolon ∷ InsertedSemicolon ∷ []
firsts (More Elems) = Semicolon ∷ InsertedSemicolon ∷ []
firsts (More Indexes) = Comma ∷ []
firsts (More Elements) = Comma ∷ []
firsts AnyType = type_starts
firsts TypeNoBracket = Ident ∷ KwChan ∷ KwFunc ∷ KwInterface ∷ KwMap ∷ KwStruct ∷ Mul ∷ Arrow ∷ LeftParen ∷ []
firsts TypeNoName =
    KwChan ∷ KwFunc ∷ KwInterface ∷ KwMap ∷ KwStruct ∷ Mul ∷ Arrow ∷ LeftParen ∷ LeftBracket ∷ []
firsts ResultType = Ident ∷ KwChan ∷ KwFunc ∷ KwInterface ∷ KwMap ∷ KwStruct ∷ Mul ∷ LeftBracket ∷ []
firsts ChanElem = Ident ∷ KwChan ∷ KwFunc ∷ KwInterface ∷ KwMap ∷ KwStruct ∷ Mul ∷ LeftParen ∷ LeftBracket ∷ []
firsts TypeName = Ident ∷ []
firsts TypeArgs = LeftBracket ∷ []
firsts ParenType = LeftParen ∷ []
firsts StarType = Mul ∷ []
firsts BracketType = LeftBracket ∷ []
firsts MapType = KwMap ∷ []
firsts RecvChan = Arrow ∷ []
firsts ChanType = KwChan ∷ []
firsts FuncType = KwFunc ∷ []
firsts Signature = LeftParen ∷ []
firsts Params = LeftParen ∷ []
firsts Param =
    Ident ∷ KwChan ∷ KwFunc ∷ KwInterface ∷ KwMap ∷ KwStruct ∷ Mul ∷ Arrow ∷ Ellipsis ∷ LeftParen ∷ LeftBracket
    ∷ []
firsts ParamAfterName =
    Ident ∷ KwChan ∷ KwFunc ∷ KwInterface ∷ KwMap ∷ KwStruct ∷ Mul ∷ Arrow ∷ Ellipsis ∷ LeftParen ∷ LeftBracket
    ∷ Dot ∷ []
firsts StructType = KwStruct ∷ []
firsts Field = Ident ∷ Mul ∷ []
firsts FieldAfterName =
    Ident ∷ Text ∷ KwChan ∷ KwFunc ∷ KwInterface ∷ KwMap ∷ KwStruct ∷ Mul ∷ Arrow ∷ LeftParen ∷ LeftBracket
    ∷ Comma ∷ Dot ∷ []
firsts InterfaceType = KwInterface ∷ []
firsts Elem =
    Ident ∷ KwChan ∷ KwFunc ∷ KwInterface ∷ KwMap ∷ KwStruct ∷ Mul ∷ Arrow ∷ Tilde ∷ LeftParen ∷ LeftBracket
    ∷ []
firsts Union =
    Ident ∷ KwChan ∷ KwFunc ∷ KwInterface ∷ KwMap ∷ KwStruct ∷ Mul ∷ Arrow ∷ Tilde ∷ LeftParen ∷ LeftBracket
    ∷ []
firsts Term =
    Ident ∷ KwChan ∷ KwFunc ∷ KwInterface ∷ KwMap ∷ KwStruct ∷ Mul ∷ Arrow ∷ Tilde ∷ LeftParen ∷ LeftBracket
    ∷ []
firsts (Expr w) = expression_starts
firsts (OrTail w) = LogicalOr ∷ []
firsts (Conjunction w) = expression_starts
firsts (AndTail w) = LogicalAnd ∷ []
firsts (Comparison w) = expression_starts
firsts (CompareTail w) = Equal ∷ Less ∷ Greater ∷ NotEqual ∷ LessEqual ∷ GreaterEqual ∷ []
firsts (Sum w) = expression_starts
firsts (AddTail w) = Add ∷ Sub ∷ Or ∷ Xor ∷ []
firsts (Product w) = expression_starts
firsts (MulTail w) = Mul ∷ Quo ∷ Rem ∷ And ∷ Shl ∷ Shr ∷ AndNot ∷ []
firsts (Unary w) = expression_starts
firsts Operand = operand_starts
firsts BasicLit = Int ∷ Float ∷ Rune ∷ Text ∷ []
firsts FuncOperand = KwFunc ∷ []
firsts AfterName = suffix_starts
firsts AfterSelector = suffix_starts
firsts AfterIndex = suffix_starts
firsts Suffix = LeftParen ∷ LeftBracket ∷ Dot ∷ []
firsts CallRest =
    Ident ∷ Int ∷ Float ∷ Rune ∷ Text ∷ KwChan ∷ KwFunc ∷ KwInterface ∷ KwMap ∷ KwStruct ∷ Add ∷ Sub ∷ Mul ∷ And
    ∷ Xor ∷ Arrow ∷ Not ∷ LeftParen ∷ LeftBracket ∷ RightParen ∷ []
firsts AfterArg = Ellipsis ∷ Comma ∷ RightParen ∷ []
firsts Value = LeftBrace ∷ []
firsts Element =
    Ident ∷ Int ∷ Float ∷ Rune ∷ Text ∷ KwChan ∷ KwFunc ∷ KwInterface ∷ KwMap ∷ KwStruct ∷ Add ∷ Sub ∷ Mul ∷ And
    ∷ Xor ∷ Arrow ∷ Not ∷ LeftParen ∷ LeftBracket ∷ LeftBrace ∷ []
firsts ElementPart =
    Ident ∷ Int ∷ Float ∷ Rune ∷ Text ∷ KwChan ∷ KwFunc ∷ KwInterface ∷ KwMap ∷ KwStruct ∷ Add ∷ Sub ∷ Mul ∷ And
    ∷ Xor ∷ Arrow ∷ Not ∷ LeftParen ∷ LeftBracket ∷ LeftBrace ∷ []
firsts ExprNoName = nameless_starts
firsts Tails = operators
firsts CallOrDot = LeftParen ∷ Dot ∷ []
firsts Block = LeftBrace ∷ []
firsts Stmt = statement_starts
firsts (Simple w) = expression_starts
firsts (AfterExpr w) =
    AddAssign ∷ SubAssign ∷ MulAssign ∷ QuoAssign ∷ RemAssign ∷ AndAssign ∷ OrAssign ∷ XorAssign ∷ ShlAssign
    ∷ ShrAssign ∷ AndNotAssign ∷ Arrow ∷ Inc ∷ Dec ∷ Assign ∷ Define ∷ Comma ∷ []
firsts (SimpleTail w) =
    AddAssign ∷ SubAssign ∷ MulAssign ∷ QuoAssign ∷ RemAssign ∷ AndAssign ∷ OrAssign ∷ XorAssign ∷ ShlAssign
    ∷ ShrAssign ∷ AndNotAssign ∷ Arrow ∷ Inc ∷ Dec ∷ Assign ∷ Define ∷ Comma ∷ []
firsts If = KwIf ∷ []
firsts Switch = KwSwitch ∷ []
firsts Select = KwSelect ∷ []
firsts (Clause c) = KwCase ∷ KwDefault ∷ []
firsts (ClauseBody c) =
    Ident ∷ Int ∷ Float ∷ Rune ∷ Text ∷ KwBreak ∷ KwCase ∷ KwChan ∷ KwConst ∷ KwContinue ∷ KwDefault ∷ KwDefer
    ∷ KwFallthrough ∷ KwFor ∷ KwFunc ∷ KwGo ∷ KwGoto ∷ KwIf ∷ KwInterface ∷ KwMap ∷ KwReturn ∷ KwSelect
    ∷ KwStruct ∷ KwSwitch ∷ KwType ∷ KwVar ∷ Add ∷ Sub ∷ Mul ∷ And ∷ Xor ∷ Arrow ∷ Not ∷ LeftParen ∷ LeftBracket
    ∷ LeftBrace ∷ Semicolon ∷ InsertedSemicolon ∷ []
firsts (AfterClauseStmt c) = Semicolon ∷ InsertedSemicolon ∷ []
firsts For = KwFor ∷ []
firsts ForAfterExpr = behind_expression_in_header
firsts ForClauses =
    Ident ∷ Int ∷ Float ∷ Rune ∷ Text ∷ KwChan ∷ KwFunc ∷ KwInterface ∷ KwMap ∷ KwStruct ∷ Add ∷ Sub ∷ Mul ∷ And
    ∷ Xor ∷ Arrow ∷ Not ∷ LeftParen ∷ LeftBracket ∷ Semicolon ∷ InsertedSemicolon ∷ []
