-- Declarations (Go specification, "Declarations and scope", "Constant declarations", "Variable declarations",
-- "Type declarations", "Type parameter declarations").
use Rattle.go_tree.specs.declared.token.TokenKind.{TokenKind}
use Rattle.go_tree.specs.declared.token.TokenKind.TheVariants.{KwConst, KwType, KwVar, Or, Assign, Ellipsis, LeftBracket, Comma, RightBracket}
use Rattle.go_tree.specs.declared.node_kind.NodeKind.{NodeKind}
use Rattle.go_tree.specs.declared.node_kind.NodeKind.TheVariants as k
use Rattle.go_tree.specs.declared.production.Form.TheVariants.{Plain}
use Rattle.go_tree.specs.declared.production.Items.{Items}
use Rattle.go_tree.specs.declared.production.Items.TheVariants.{ConstSpecs, VarSpecs, TypeSpecs, TypeParamGroups}
use Rattle.go_tree.specs.declared.production.Production.{Production}
use Rattle.go_tree.specs.declared.production.Production.TheVariants.{AnyType, BracketType, CallOrDot, ConstSpec, ConstraintAfterName, Decl, Expr, ExprNoName, Exprs, Idents, More, Name, RecvChan, Tails, Term, TypeName, TypeNoBracket, TypeParam, TypeParams, TypeSpec, TypeSpecBracket, Union, VarSpec}
use Rattle.go_tree.specs.Grammar.RightSide.{RightSide}
use Rattle.go_tree.specs.Grammar.Words.{◌•◌, ◌or◌, tok, the, opt, many, open_node, reopen_last, close, node, separator, item, group}
use Rattle.go_tree.specs.Grammar.Types.{word_type, tilde_type, type_line}

-- one spec behind the word, or a group of them
abbrev pub declaration : TokenKind → Production → Items → NodeKind → NodeKind → RightSide Production
declaration word spec specs one all = open_node • tok word • (the spec • close one or group specs • close all)

-- `]T` of an array type, which ends the spec
abbrev pub array_spec : RightSide Production
array_spec = tok RightBracket • the AnyType • close k.ArrayType • close k.TypeSpec

-- Behind `[P`: type parameters and the type. This repeats TypeParams and TypeParam from their first name on: the
-- token behind `P` decides between them and the length of an array, and by then the name is read.
abbrev pub generic_spec : RightSide Production
generic_spec =
    reopen_last • (tok Comma • the Name • many (tok Comma • the Name) • the Union or the ConstraintAfterName)
    • close k.TypeParam • opt (the (More TypeParamGroups)) • tok RightBracket • close k.TypeParams • (
    tok Assign • the AnyType • close k.GenericAliasSpec or the AnyType • close k.GenericTypeSpec
    )

abbrev pub declaration_line : Production → RightSide Production
-- Declaration = ConstDecl | TypeDecl | VarDecl .
-- ConstDecl = "const" ( ConstSpec | "(" { ConstSpec ";" } ")" ) . VarDecl and TypeDecl likewise.
declaration_line Decl =
    declaration KwConst ConstSpec ConstSpecs k.ConstDecl k.ConstGroup
    or declaration KwVar VarSpec VarSpecs k.VarDecl k.VarGroup
    or declaration KwType TypeSpec TypeSpecs k.TypeDecl k.TypeGroup
-- ConstSpec = IdentifierList [ [ Type ] "=" ExpressionList ] .
declaration_line ConstSpec =
    node k.ConstSpec (the Idents • opt (opt (the AnyType) • tok Assign • the (Exprs Plain)))
-- VarSpec = IdentifierList ( Type [ "=" ExpressionList ] | "=" ExpressionList ) .
declaration_line VarSpec =
    node k.VarSpec (
    the Idents • (the AnyType • opt (tok Assign • the (Exprs Plain)) or tok Assign • the (Exprs Plain))
    )
-- IdentifierList = identifier { "," identifier } .
declaration_line Idents = node k.IdentList (the Name • many (tok Comma • the Name))
-- ExpressionList = Expression { "," Expression } .
declaration_line (Exprs w) = node k.ExprList (the (Expr w) • many (tok Comma • the (Expr w)))
-- TypeSpec = AliasDecl | TypeDef . AliasDecl = identifier "=" Type . TypeDef = identifier [ TypeParameters ] Type .
-- own: `identifier [ TypeParameters ] "=" Type` is read too, and refused by a rule.
declaration_line TypeSpec =
    open_node • the Name • (
    tok Assign • the AnyType • close k.AliasSpec
    or the TypeNoBracket • close k.TypeSpec
    or open_node • tok LeftBracket • the TypeSpecBracket
    )
-- Behind the name and its `[`: a slice or array type, or type parameters. own: they are type parameters exactly where an
-- identifier follows and the token after it is neither `]`, `*`, `(`, `.` nor a binary operator.
declaration_line TypeSpecBracket =
    tok RightBracket • the AnyType • close k.SliceType • close k.TypeSpec
    or tok Ellipsis • tok RightBracket • the AnyType • close k.EllipsisArrayType • close k.TypeSpec
    or the ExprNoName • array_spec
    or the Name • (opt (the CallOrDot) • the Tails • array_spec or generic_spec)
-- TypeParameters = "[" TypeParamList [ "," ] "]" . TypeParamList = TypeParamDecl { "," TypeParamDecl } .
declaration_line TypeParams =
    node k.TypeParams (tok LeftBracket • the TypeParam • opt (the (More TypeParamGroups)) • tok RightBracket)
-- TypeParamDecl = IdentifierList TypeConstraint . TypeConstraint = TypeElem .
declaration_line TypeParam = node k.TypeParam (the Name • many (tok Comma • the Name) • the Union)
-- A TypeElem directly behind the first name of `type T[P`: its first term begins with neither `(` nor `*`.
declaration_line ConstraintAfterName =
    node k.Union (
    (the TypeName or the BracketType or the RecvChan or word_type or tilde_type) • many (tok Or • the Term)
    )
-- What follows an item of a list: a separator, and then the rest of the list, if any.
declaration_line (More l) = separator l • opt (item l • opt (the (More l)))
-- the next section
declaration_line n = type_line n
