-- Types (Go specification, "Types").
use Rattle.std.specs.Prelude.{List, [], ◌∷◌}
use Rattle.go_tree.specs.declared.token.TokenKind.{TokenKind}
use Rattle.go_tree.specs.declared.token.TokenKind.TheVariants.{Ident, KwChan, KwFunc, KwInterface, KwMap, KwStruct, Mul, Or, Arrow, Tilde, Ellipsis, LeftParen, LeftBracket, LeftBrace, Comma, Dot, RightParen, RightBracket, RightBrace}
use Rattle.go_tree.specs.declared.node_kind.NodeKind.TheVariants as k
use Rattle.go_tree.specs.declared.production.Form.TheVariants.{Plain}
use Rattle.go_tree.specs.declared.production.Items.TheVariants.{Types, Parameters, Fields, Elems}
use Rattle.go_tree.specs.declared.production.Production.{Production}
use Rattle.go_tree.specs.declared.production.Production.TheVariants.{AnyType, BracketType, ChanElem, ChanType, Elem, Expr, Field, FieldAfterName, FuncType, InterfaceType, MapType, More, Name, Param, ParamAfterName, Params, ParenType, RecvChan, ResultType, Signature, StarType, StringLit, StructType, Term, TypeArgs, TypeName, TypeNoBracket, TypeNoName, Union}
use Rattle.go_tree.specs.Grammar.RightSide.{RightSide, Nothing, When, Both, OneOf}
use Rattle.go_tree.specs.Grammar.Words.{◌•◌, ◌or◌, tok, the, opt, many, open_node, adopt_last, check_type, close, node, extend, items}
use Rattle.go_tree.specs.Grammar.Expressions.{expression_line}

-- types that begin with a word
abbrev pub word_type : RightSide Production
word_type = the MapType or the ChanType or the FuncType or the StructType or the InterfaceType

-- UnderlyingType = "~" Type .
abbrev pub tilde_type : RightSide Production
tilde_type = node k.TildeType (tok Tilde • the AnyType)

-- what begins a result; and so does `<-` where `chan` follows
abbrev pub result_starts : List TokenKind
result_starts = Ident ∷ LeftParen ∷ LeftBracket ∷ Mul ∷ KwMap ∷ KwChan ∷ KwFunc ∷ KwStruct ∷ KwInterface ∷ []

abbrev pub result : RightSide Production
result =
    When (OneOf result_starts) (the Params or the ResultType) (When (Both Arrow KwChan) (the RecvChan) Nothing)

-- Tag = string_lit .
abbrev pub tag : RightSide Production
tag = opt (the StringLit)

-- own: what follows the name that a type name begins with is taken where it can be. A `.` belongs to it only where
-- an identifier follows, so `[]T.(x)` is an assertion; a `[` opens its TypeArgs, so `[]T[1]` is no expression.
abbrev pub type_name_rest : RightSide Production
type_name_rest =
    When (Both Dot Ident) (extend k.SelectorExpr (tok Dot • the Name)) Nothing
    • When (OneOf (LeftBracket ∷ [])) (the TypeArgs) Nothing

-- `.T` and TypeArgs, behind the name of a package
abbrev pub selector_type : RightSide Production
selector_type = extend k.SelectorExpr (tok Dot • the Name) • opt (the TypeArgs)

-- Behind a name and at `[`: the array or slice type of what has that name, or TypeArgs of that name. The first
-- argument is read as an expression, and has to be written as a type is. So of the parameters `(a[n]T)` and
-- `(a[n])` the first has the name `a` and the type `[n]T`, and the second is of the type `a[n]`: both are read alike
-- up to the `]`, and the token behind it decides.
abbrev pub bracket_after_name : RightSide Production → RightSide Production → RightSide Production
bracket_after_name named unnamed =
    open_node • tok LeftBracket • (
    tok RightBracket • the AnyType • close k.SliceType • named
    or tok Ellipsis • tok RightBracket • the AnyType • close k.EllipsisArrayType • named
    or the (Expr Plain) • (
    tok RightBracket • (
    the AnyType • close k.ArrayType • named or check_type • adopt_last • close k.IndexExpr • unnamed
    )
    or check_type • tok Comma • opt (the AnyType • opt (the (More Types))) • tok RightBracket • adopt_last
    • close k.IndexExpr • unnamed
    )
    )

abbrev pub type_line : Production → RightSide Production
-- Type = TypeName [ TypeArgs ] | TypeLit | "(" Type ")" .
-- TypeLit = ArrayType | StructType | PointerType | FunctionType | InterfaceType | SliceType | MapType | ChannelType .
type_line AnyType =
    the TypeName or the ParenType or the StarType or the BracketType or the RecvChan or word_type
-- A Type that does not begin with `[`.
type_line TypeNoBracket = the TypeName or the ParenType or the StarType or the RecvChan or word_type
-- A Type that does not begin with a name.
type_line TypeNoName = the ParenType or the StarType or the BracketType or the RecvChan or word_type
-- A Type that begins with neither `(` nor `<-`.
type_line ResultType = the TypeName or the StarType or the BracketType or word_type
-- A Type that does not begin with `<-`.
type_line ChanElem = the TypeName or the ParenType or the StarType or the BracketType or word_type
-- TypeName = identifier | QualifiedIdent . QualifiedIdent = PackageName "." identifier .
type_line TypeName = the Name • type_name_rest
-- TypeArgs = "[" TypeList [ "," ] "]" . TypeList = Type { "," Type } .
type_line TypeArgs =
    extend k.IndexExpr (tok LeftBracket • the AnyType • opt (the (More Types)) • tok RightBracket)
-- "(" Type ")"
type_line ParenType = node k.ParenExpr (tok LeftParen • the AnyType • tok RightParen)
-- PointerType = "*" BaseType .
type_line StarType = node k.StarExpr (tok Mul • the AnyType)
-- ArrayType = "[" ArrayLength "]" ElementType . SliceType = "[" "]" ElementType . ArrayLength = Expression .
-- own: `"[" "..." "]" ElementType` is read as every type is, and refused by a rule but in a composite literal.
type_line BracketType =
    open_node • tok LeftBracket • (
    tok RightBracket • the AnyType • close k.SliceType
    or tok Ellipsis • tok RightBracket • the AnyType • close k.EllipsisArrayType
    or the (Expr Plain) • tok RightBracket • the AnyType • close k.ArrayType
    )
-- MapType = "map" "[" KeyType "]" ElementType .
type_line MapType = node k.MapType (tok KwMap • tok LeftBracket • the AnyType • tok RightBracket • the AnyType)
-- ChannelType = ( "chan" | "chan" "<-" | "<-" "chan" ) ElementType . This is the last of them.
type_line RecvChan = node k.ArrowExpr (tok Arrow • node k.ChanType (tok KwChan • the AnyType))
-- These are the first two. A `<-` directly behind `chan` belongs to it.
type_line ChanType = node k.ChanType (tok KwChan • (node k.ArrowExpr (tok Arrow • the AnyType) or the ChanElem))
-- FunctionType = "func" Signature .
type_line FuncType = node k.FuncType (tok KwFunc • the Signature)
-- Signature = Parameters [ Result ] . Result = Parameters | Type .
-- own: a token that can begin a result begins it, and `<-` does where `chan` follows: `func() <- x` is a send.
type_line Signature = node k.Signature (the Params • result)
-- Parameters = "(" [ ParameterList [ "," ] ] ")" . ParameterList = ParameterDecl { "," ParameterDecl } .
type_line Params = node k.Params (tok LeftParen • items Parameters • tok RightParen)
-- ParameterDecl = [ IdentifierList ] [ "..." ] Type . Each name is a parameter of its own: where one of a list has a
-- name and a type, each that is one identifier is a name with the type of the next.
type_line Param =
    open_node • (
    tok Ellipsis • the AnyType • close k.UnnamedVariadic
    or the TypeNoName • close k.UnnamedParam
    or the Name • the ParamAfterName
    )
-- Behind the identifier that a parameter begins with: it is the name of the parameter, or begins its type.
type_line ParamAfterName =
    tok Ellipsis • the AnyType • close k.VariadicParam
    or the TypeNoBracket • close k.Param
    or selector_type • close k.UnnamedParam
    or bracket_after_name (close k.Param) (close k.UnnamedParam) or close k.UnnamedParam
-- StructType = "struct" "{" { FieldDecl ";" } "}" .
type_line StructType = node k.StructType (tok KwStruct • tok LeftBrace • items Fields • tok RightBrace)
-- FieldDecl = ( IdentifierList Type | EmbeddedField ) [ Tag ] . EmbeddedField = [ "*" ] TypeName [ TypeArgs ] .
type_line Field =
    open_node • (tok Mul • the TypeName • tag • close k.EmbeddedPointer or the Name • the FieldAfterName)
-- Behind the identifier that a field begins with: it is the name of the field, or begins the embedded type.
type_line FieldAfterName =
    tok Comma • the Name • many (tok Comma • the Name) • the AnyType • tag • close k.Field
    or the TypeNoBracket • tag • close k.Field
    or selector_type • tag • close k.EmbeddedField
    or bracket_after_name (tag • close k.Field) (tag • close k.EmbeddedField)
    or tag • close k.EmbeddedField
-- InterfaceType = "interface" "{" { InterfaceElem ";" } "}" .
type_line InterfaceType = node k.InterfaceType (tok KwInterface • tok LeftBrace • items Elems • tok RightBrace)
-- InterfaceElem = MethodElem | TypeElem . MethodElem = MethodName Signature .
type_line Elem =
    open_node • (
    the Name • (
    the Signature • close k.MethodElem or type_name_rest • many (tok Or • the Term) • close k.Union
    )
    or (the TypeNoName or tilde_type) • many (tok Or • the Term) • close k.Union
    )
-- TypeElem = TypeTerm { "|" TypeTerm } .
type_line Union = node k.Union (the Term • many (tok Or • the Term))
-- TypeTerm = Type | UnderlyingType . UnderlyingType = "~" Type .
type_line Term = the AnyType or tilde_type
-- the next section
type_line n = expression_line n
