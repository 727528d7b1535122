-- The tokens that can follow each production.
-- Not needed to read the grammar: that the table is right is proved.
use Rattle.std.specs.Prelude.{List, [], ◌∷◌}
use Rattle.go_tree.specs.declared.token.TokenKind.{TokenKind}
use Rattle.go_tree.specs.declared.token.TokenKind.TheVariants.{Ident, Text, KwChan, KwElse, KwFunc, KwInterface, KwMap, KwStruct, Add, Sub, Mul, Quo, Rem, And, Or, Xor, Shl, Shr, AndNot, AddAssign, SubAssign, MulAssign, QuoAssign, RemAssign, AndAssign, OrAssign, XorAssign, ShlAssign, ShrAssign, AndNotAssign, LogicalAnd, LogicalOr, Arrow, Inc, Dec, Equal, Less, Greater, Assign, Tilde, NotEqual, LessEqual, GreaterEqual, Define, Ellipsis, LeftParen, LeftBracket, LeftBrace, Comma, Dot, RightParen, RightBracket, RightBrace, Semicolon, Colon, InsertedSemicolon}
use Rattle.go_tree.specs.declared.production.Form.TheVariants.{Plain, Header}
use Rattle.go_tree.specs.declared.production.Items.TheVariants.{ImportSpecs, ConstSpecs, VarSpecs, TypeSpecs, TypeParamGroups, Types, Parameters, Fields, Elems, Indexes, Elements}
use Rattle.go_tree.specs.declared.production.Production.{Production}
use Rattle.go_tree.specs.declared.production.Production.TheVariants.{AddTail, AfterArg, AfterClauseStmt, AfterExpr, AfterIndex, AfterName, AfterSelector, AndTail, AnyType, BasicLit, Block, BracketType, CallOrDot, CallRest, ChanElem, ChanType, Clause, ClauseBody, CompareTail, Comparison, Conjunction, ConstSpec, ConstraintAfterName, Decl, Elem, Element, ElementPart, Expr, ExprNoName, Exprs, Field, FieldAfterName, File, For, ForAfterExpr, ForClauses, FuncOperand, FuncRest, FuncType, Idents, If, Import, ImportSpec, InterfaceType, MapType, More, MulTail, Name, Operand, OrTail, Param, ParamAfterName, Params, ParenType, Product, RecvChan, ResultType, Select, Signature, Simple, SimpleTail, StarType, Stmt, StringLit, StructType, Suffix, Sum, Switch, Tails, Term, Top, TypeArgs, TypeName, TypeNoBracket, TypeNoName, TypeParam, TypeParams, TypeSpec, TypeSpecBracket, Unary, Union, Value, VarSpec}
use Rattle.go_tree.specs.Grammar.Tables.TokenLists.{behind_comparison, behind_comparison_in_header, behind_conjunction, behind_conjunction_in_header, behind_expression, behind_expression_in_header, behind_operand, behind_operand_in_header, behind_statement, behind_suffix, behind_type}

-- the tokens that can stand behind it
abbrev pub follows : Production → List TokenKind
follows File = []
follows Import = Semicolon ∷ InsertedSemicolon ∷ []
follows ImportSpec = RightParen ∷ Semicolon ∷ InsertedSemicolon ∷ []
follows Top = Semicolon ∷ InsertedSemicolon ∷ []
follows FuncRest = Semicolon ∷ InsertedSemicolon ∷ []
follows Name =
    Ident ∷ Text ∷ KwChan ∷ KwFunc ∷ KwInterface ∷ KwMap ∷ KwStruct ∷ Add ∷ Sub ∷ Mul ∷ Quo ∷ Rem ∷ And ∷ Or
    ∷ Xor ∷ Shl ∷ Shr ∷ AndNot ∷ AddAssign ∷ SubAssign ∷ MulAssign ∷ QuoAssign ∷ RemAssign ∷ AndAssign
    ∷ OrAssign ∷ XorAssign ∷ ShlAssign ∷ ShrAssign ∷ AndNotAssign ∷ LogicalAnd ∷ LogicalOr ∷ Arrow ∷ Inc ∷ Dec
    ∷ Equal ∷ Less ∷ Greater ∷ Assign ∷ Tilde ∷ NotEqual ∷ LessEqual ∷ GreaterEqual ∷ Define ∷ Ellipsis
    ∷ LeftParen ∷ LeftBracket ∷ LeftBrace ∷ Comma ∷ Dot ∷ RightParen ∷ RightBracket ∷ RightBrace ∷ Semicolon
    ∷ Colon ∷ InsertedSemicolon ∷ []
follows StringLit = behind_suffix
follows Decl = behind_statement
follows ConstSpec = RightParen ∷ RightBrace ∷ Semicolon ∷ InsertedSemicolon ∷ []
follows VarSpec = RightParen ∷ RightBrace ∷ Semicolon ∷ InsertedSemicolon ∷ []
follows Idents =
    Ident ∷ KwChan ∷ KwFunc ∷ KwInterface ∷ KwMap ∷ KwStruct ∷ Mul ∷ Arrow ∷ Assign ∷ LeftParen ∷ LeftBracket
    ∷ RightParen ∷ RightBrace ∷ Semicolon ∷ InsertedSemicolon ∷ []
follows (Exprs Plain) = RightParen ∷ RightBrace ∷ Semicolon ∷ Colon ∷ InsertedSemicolon ∷ []
follows (Exprs Header) = LeftBrace ∷ Semicolon ∷ InsertedSemicolon ∷ []
follows TypeSpec = RightParen ∷ RightBrace ∷ Semicolon ∷ InsertedSemicolon ∷ []
follows TypeSpecBracket = RightParen ∷ RightBrace ∷ Semicolon ∷ InsertedSemicolon ∷ []
follows TypeParams = LeftParen ∷ []
follows TypeParam = Comma ∷ RightBracket ∷ []
follows ConstraintAfterName = Comma ∷ RightBracket ∷ []
follows (More ImportSpecs) = RightParen ∷ []
follows (More ConstSpecs) = RightParen ∷ []
follows (More VarSpecs) = RightParen ∷ []
follows (More TypeSpecs) = RightParen ∷ []
follows (More TypeParamGroups) = RightBracket ∷ []
follows (More Types) = RightBracket ∷ []
follows (More Parameters) = RightParen ∷ []
follows (More Fields) = RightBrace ∷ []
follows (More Elems) = RightBrace ∷ []
follows (More Indexes) = RightBracket ∷ []
follows (More Elements) = RightBrace ∷ []
follows AnyType = behind_type
follows TypeNoBracket = Text ∷ Comma ∷ RightParen ∷ RightBrace ∷ Semicolon ∷ InsertedSemicolon ∷ []
follows TypeNoName = Or ∷ Comma ∷ RightParen ∷ RightBrace ∷ Semicolon ∷ InsertedSemicolon ∷ []
follows ResultType = behind_type
follows ChanElem = behind_type
follows TypeName = behind_type
follows TypeArgs = behind_type
follows ParenType = behind_type
follows StarType = behind_type
follows BracketType = behind_type
follows MapType = behind_type
follows RecvChan = behind_type
follows ChanType = behind_type
follows FuncType = behind_type
follows Signature = behind_type
follows Params =
    Ident ∷ Text ∷ KwChan ∷ KwFunc ∷ KwInterface ∷ KwMap ∷ KwStruct ∷ Add ∷ Sub ∷ Mul ∷ Quo ∷ Rem ∷ And ∷ Or
    ∷ Xor ∷ Shl ∷ Shr ∷ AndNot ∷ AddAssign ∷ SubAssign ∷ MulAssign ∷ QuoAssign ∷ RemAssign ∷ AndAssign
    ∷ OrAssign ∷ XorAssign ∷ ShlAssign ∷ ShrAssign ∷ AndNotAssign ∷ LogicalAnd ∷ LogicalOr ∷ Arrow ∷ Inc ∷ Dec
    ∷ Equal ∷ Less ∷ Greater ∷ Assign ∷ NotEqual ∷ LessEqual ∷ GreaterEqual ∷ Define ∷ Ellipsis ∷ LeftParen
    ∷ LeftBracket ∷ LeftBrace ∷ Comma ∷ Dot ∷ RightParen ∷ RightBracket ∷ RightBrace ∷ Semicolon ∷ Colon
    ∷ InsertedSemicolon ∷ []
follows Param = Comma ∷ RightParen ∷ []
follows ParamAfterName = Comma ∷ RightParen ∷ []
follows StructType = behind_type
follows Field = behind_statement
follows FieldAfterName = behind_statement
follows InterfaceType = behind_type
follows Elem = behind_statement
follows Union = Comma ∷ RightBracket ∷ []
follows Term = Or ∷ Comma ∷ RightBracket ∷ RightBrace ∷ Semicolon ∷ InsertedSemicolon ∷ []
follows (Expr Plain) = behind_expression
follows (Expr Header) = behind_expression_in_header
follows (OrTail Plain) = behind_conjunction
follows (OrTail Header) = behind_conjunction_in_header
follows (Conjunction Plain) = behind_conjunction
follows (Conjunction Header) = behind_conjunction_in_header
follows (AndTail Plain) = behind_comparison
follows (AndTail Header) = behind_comparison_in_header
follows (Comparison Plain) = behind_comparison
follows (Comparison Header) = behind_comparison_in_header
follows (CompareTail Plain) =
    AddAssign ∷ SubAssign ∷ MulAssign ∷ QuoAssign ∷ RemAssign ∷ AndAssign ∷ OrAssign ∷ XorAssign ∷ ShlAssign
    ∷ ShrAssign ∷ AndNotAssign ∷ LogicalAnd ∷ LogicalOr ∷ Arrow ∷ Inc ∷ Dec ∷ Equal ∷ Less ∷ Greater ∷ Assign
    ∷ NotEqual ∷ LessEqual ∷ GreaterEqual ∷ Define ∷ Ellipsis ∷ Comma ∷ RightParen ∷ RightBracket ∷ RightBrace
    ∷ Semicolon ∷ Colon ∷ InsertedSemicolon ∷ []
follows (CompareTail Header) =
    AddAssign ∷ SubAssign ∷ MulAssign ∷ QuoAssign ∷ RemAssign ∷ AndAssign ∷ OrAssign ∷ XorAssign ∷ ShlAssign
    ∷ ShrAssign ∷ AndNotAssign ∷ LogicalAnd ∷ LogicalOr ∷ Arrow ∷ Inc ∷ Dec ∷ Equal ∷ Less ∷ Greater ∷ Assign
    ∷ NotEqual ∷ LessEqual ∷ GreaterEqual ∷ Define ∷ LeftBrace ∷ Comma ∷ Semicolon ∷ InsertedSemicolon ∷ []
follows (Sum Plain) =
    AddAssign ∷ SubAssign ∷ MulAssign ∷ QuoAssign ∷ RemAssign ∷ AndAssign ∷ OrAssign ∷ XorAssign ∷ ShlAssign
    ∷ ShrAssign ∷ AndNotAssign ∷ LogicalAnd ∷ LogicalOr ∷ Arrow ∷ Inc ∷ Dec ∷ Equal ∷ Less ∷ Greater ∷ Assign
    ∷ NotEqual ∷ LessEqual ∷ GreaterEqual ∷ Define ∷ Ellipsis ∷ Comma ∷ RightParen ∷ RightBracket ∷ RightBrace
    ∷ Semicolon ∷ Colon ∷ InsertedSemicolon ∷ []
follows (Sum Header) =
    AddAssign ∷ SubAssign ∷ MulAssign ∷ QuoAssign ∷ RemAssign ∷ AndAssign ∷ OrAssign ∷ XorAssign ∷ ShlAssign
    ∷ ShrAssign ∷ AndNotAssign ∷ LogicalAnd ∷ LogicalOr ∷ Arrow ∷ Inc ∷ Dec ∷ Equal ∷ Less ∷ Greater ∷ Assign
    ∷ NotEqual ∷ LessEqual ∷ GreaterEqual ∷ Define ∷ LeftBrace ∷ Comma ∷ Semicolon ∷ InsertedSemicolon ∷ []
follows (AddTail Plain) =
    Add ∷ Sub ∷ Or ∷ Xor ∷ AddAssign ∷ SubAssign ∷ MulAssign ∷ QuoAssign ∷ RemAssign ∷ AndAssign ∷ OrAssign
    ∷ XorAssign ∷ ShlAssign ∷ ShrAssign ∷ AndNotAssign ∷ LogicalAnd ∷ LogicalOr ∷ Arrow ∷ Inc ∷ Dec ∷ Equal
    ∷ Less ∷ Greater ∷ Assign ∷ NotEqual ∷ LessEqual ∷ GreaterEqual ∷ Define ∷ Ellipsis ∷ Comma ∷ RightParen
    ∷ RightBracket ∷ RightBrace ∷ Semicolon ∷ Colon ∷ InsertedSemicolon ∷ []
follows (AddTail Header) =
    Add ∷ Sub ∷ Or ∷ Xor ∷ AddAssign ∷ SubAssign ∷ MulAssign ∷ QuoAssign ∷ RemAssign ∷ AndAssign ∷ OrAssign
    ∷ XorAssign ∷ ShlAssign ∷ ShrAssign ∷ AndNotAssign ∷ LogicalAnd ∷ LogicalOr ∷ Arrow ∷ Inc ∷ Dec ∷ Equal
    ∷ Less ∷ Greater ∷ Assign ∷ NotEqual ∷ LessEqual ∷ GreaterEqual ∷ Define ∷ LeftBrace ∷ Comma ∷ Semicolon
    ∷ InsertedSemicolon ∷ []
follows (Product Plain) =
    Add ∷ Sub ∷ Or ∷ Xor ∷ AddAssign ∷ SubAssign ∷ MulAssign ∷ QuoAssign ∷ RemAssign ∷ AndAssign ∷ OrAssign
    ∷ XorAssign ∷ ShlAssign ∷ ShrAssign ∷ AndNotAssign ∷ LogicalAnd ∷ LogicalOr ∷ Arrow ∷ Inc ∷ Dec ∷ Equal
    ∷ Less ∷ Greater ∷ Assign ∷ NotEqual ∷ LessEqual ∷ GreaterEqual ∷ Define ∷ Ellipsis ∷ Comma ∷ RightParen
    ∷ RightBracket ∷ RightBrace ∷ Semicolon ∷ Colon ∷ InsertedSemicolon ∷ []
follows (Product Header) =
    Add ∷ Sub ∷ Or ∷ Xor ∷ AddAssign ∷ SubAssign ∷ MulAssign ∷ QuoAssign ∷ RemAssign ∷ AndAssign ∷ OrAssign
    ∷ XorAssign ∷ ShlAssign ∷ ShrAssign ∷ AndNotAssign ∷ LogicalAnd ∷ LogicalOr ∷ Arrow ∷ Inc ∷ Dec ∷ Equal
    ∷ Less ∷ Greater ∷ Assign ∷ NotEqual ∷ LessEqual ∷ GreaterEqual ∷ Define ∷ LeftBrace ∷ Comma ∷ Semicolon
    ∷ InsertedSemicolon ∷ []
follows (MulTail Plain) = behind_operand
follows (MulTail Header) = behind_operand_in_header
follows (Unary Plain) = behind_operand
follows (Unary Header) = behind_operand_in_header
follows Operand = behind_suffix
follows BasicLit = behind_suffix
follows FuncOperand = behind_suffix
follows AfterName = behind_operand
follows AfterSelector = behind_operand
follows AfterIndex = behind_operand
follows Suffix = behind_suffix
follows CallRest = behind_suffix
follows AfterArg = behind_suffix
follows Value = behind_suffix
follows Element = Comma ∷ RightBrace ∷ []
follows ElementPart = Comma ∷ RightBrace ∷ Colon ∷ []
follows ExprNoName =
    AddAssign ∷ SubAssign ∷ MulAssign ∷ QuoAssign ∷ RemAssign ∷ AndAssign ∷ OrAssign ∷ XorAssign ∷ ShlAssign
    ∷ ShrAssign ∷ AndNotAssign ∷ Arrow ∷ Inc ∷ Dec ∷ Assign ∷ Define ∷ Comma ∷ RightBracket ∷ RightBrace
    ∷ Semicolon ∷ InsertedSemicolon ∷ []
follows Tails =
    AddAssign ∷ SubAssign ∷ MulAssign ∷ QuoAssign ∷ RemAssign ∷ AndAssign ∷ OrAssign ∷ XorAssign ∷ ShlAssign
    ∷ ShrAssign ∷ AndNotAssign ∷ Arrow ∷ Inc ∷ Dec ∷ Assign ∷ Define ∷ Comma ∷ RightBracket ∷ RightBrace
    ∷ Semicolon ∷ InsertedSemicolon ∷ []
follows CallOrDot =
    Add ∷ Sub ∷ Mul ∷ Quo ∷ Rem ∷ And ∷ Or ∷ Xor ∷ Shl ∷ Shr ∷ AndNot ∷ LogicalAnd ∷ LogicalOr ∷ Equal ∷ Less
    ∷ Greater ∷ NotEqual ∷ LessEqual ∷ GreaterEqual ∷ RightBracket ∷ []
follows Block =
    KwElse ∷ Add ∷ Sub ∷ Mul ∷ Quo ∷ Rem ∷ And ∷ Or ∷ Xor ∷ Shl ∷ Shr ∷ AndNot ∷ AddAssign ∷ SubAssign
    ∷ MulAssign ∷ QuoAssign ∷ RemAssign ∷ AndAssign ∷ OrAssign ∷ XorAssign ∷ ShlAssign ∷ ShrAssign
    ∷ AndNotAssign ∷ LogicalAnd ∷ LogicalOr ∷ Arrow ∷ Inc ∷ Dec ∷ Equal ∷ Less ∷ Greater ∷ Assign ∷ NotEqual
    ∷ LessEqual ∷ GreaterEqual ∷ Define ∷ Ellipsis ∷ LeftParen ∷ LeftBracket ∷ LeftBrace ∷ Comma ∷ Dot
    ∷ RightParen ∷ RightBracket ∷ RightBrace ∷ Semicolon ∷ Colon ∷ InsertedSemicolon ∷ []
follows Stmt = behind_statement
follows (Simple Plain) = Colon ∷ []
follows (Simple Header) = LeftBrace ∷ Semicolon ∷ InsertedSemicolon ∷ []
follows (AfterExpr Plain) = RightBrace ∷ Semicolon ∷ Colon ∷ InsertedSemicolon ∷ []
follows (AfterExpr Header) = LeftBrace ∷ Semicolon ∷ InsertedSemicolon ∷ []
follows (SimpleTail Plain) = RightBrace ∷ Semicolon ∷ Colon ∷ InsertedSemicolon ∷ []
follows (SimpleTail Header) = LeftBrace ∷ Semicolon ∷ InsertedSemicolon ∷ []
follows If = behind_statement
follows Switch = behind_statement
follows Select = behind_statement
follows (Clause c) = RightBrace ∷ []
follows (ClauseBody c) = RightBrace ∷ []
follows (AfterClauseStmt c) = RightBrace ∷ []
follows For = behind_statement
follows ForAfterExpr = behind_statement
follows ForClauses = behind_statement
