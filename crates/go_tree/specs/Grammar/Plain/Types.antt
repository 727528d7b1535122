-- Plain lines of types: as the Go specification has them, before they are factored so that one token decides.
use Rattle.go_tree.specs.declared.token.TokenKind.TheVariants.{Mul, Ellipsis, LeftBracket, Comma, Dot, RightBracket}
use Rattle.go_tree.specs.declared.node_kind.NodeKind.TheVariants as k
use Rattle.go_tree.specs.declared.production.Form.TheVariants.{Plain}
use Rattle.go_tree.specs.declared.production.Production.{Production}
use Rattle.go_tree.specs.declared.production.Production.TheVariants.{AnyType, Expr, Name, Signature, TypeArgs, TypeName, TypeNoName, Union}
use Rattle.go_tree.specs.Grammar.RightSide.{RightSide}
use Rattle.go_tree.specs.Grammar.Words.{◌•◌, ◌or◌, tok, the, opt, many, node, extend}
use Rattle.go_tree.specs.Grammar.Types.{tag}

-- ArrayType = "[" ArrayLength "]" ElementType . SliceType = "[" "]" ElementType .
abbrev pub plain_bracket_type : RightSide Production
plain_bracket_type =
    node k.ArrayType (tok LeftBracket • the (Expr Plain) • tok RightBracket • the AnyType)
    or node k.SliceType (tok LeftBracket • tok RightBracket • the AnyType)
    or node k.EllipsisArrayType (tok LeftBracket • tok Ellipsis • tok RightBracket • the AnyType)

-- InterfaceElem = MethodElem | TypeElem . MethodElem = MethodName Signature .
abbrev pub plain_elem : RightSide Production
plain_elem = node k.MethodElem (the Name • the Signature) or the Union

-- TypeName [ TypeArgs ] . TypeName = identifier | PackageName "." identifier .
-- The production `TypeName` takes a `.` and a `[` wherever it can; here both may be left to what stands behind.
abbrev pub named_type : RightSide Production
named_type = the Name • opt (extend k.SelectorExpr (tok Dot • the Name)) • opt (the TypeArgs)

-- ParameterDecl = [ IdentifierList ] [ "..." ] Type . Each name, and each type without one, is a parameter of its own.
abbrev pub plain_param : RightSide Production
plain_param =
    node k.Param (the Name • the AnyType)
    or node k.VariadicParam (the Name • tok Ellipsis • the AnyType)
    or node k.UnnamedParam (named_type or the TypeNoName)
    or node k.UnnamedVariadic (tok Ellipsis • the AnyType)

-- FieldDecl = ( IdentifierList Type | EmbeddedField ) [ Tag ] . EmbeddedField = [ "*" ] TypeName [ TypeArgs ] .
abbrev pub plain_field : RightSide Production
plain_field =
    node k.Field (the Name • many (tok Comma • the Name) • the AnyType • tag)
    or node k.EmbeddedField (named_type • tag)
    or node k.EmbeddedPointer (tok Mul • the TypeName • tag)
