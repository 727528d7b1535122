-- Plain lines of declarations: as the Go specification has them, before they are factored so that one token decides.
use Rattle.go_tree.specs.declared.token.TokenKind.TheVariants.{KwConst, KwFunc, KwImport, KwType, KwVar, Assign, Ellipsis, LeftBracket, Comma, RightBracket}
use Rattle.go_tree.specs.declared.node_kind.NodeKind.TheVariants as k
use Rattle.go_tree.specs.declared.production.Items.TheVariants.{ImportSpecs, ConstSpecs, VarSpecs, TypeSpecs, TypeParamGroups}
use Rattle.go_tree.specs.declared.production.Production.{Production}
use Rattle.go_tree.specs.declared.production.Production.TheVariants.{AnyType, CallOrDot, ConstSpec, ConstraintAfterName, Decl, ExprNoName, FuncRest, ImportSpec, More, Name, Params, Tails, TypeNoBracket, TypeSpec, Union, VarSpec}
use Rattle.go_tree.specs.Grammar.RightSide.{RightSide}
use Rattle.go_tree.specs.Grammar.Words.{◌•◌, ◌or◌, tok, the, opt, many, node, group}

-- ImportDecl = "import" ( ImportSpec | "(" { ImportSpec ";" } ")" ) .
abbrev pub plain_import : RightSide Production
plain_import =
    node k.ImportDecl (tok KwImport • the ImportSpec) or node k.ImportGroup (tok KwImport • group ImportSpecs)

-- TopLevelDecl = Declaration | FunctionDecl | MethodDecl .
abbrev pub plain_top : RightSide Production
plain_top =
    the Decl
    or node k.FuncDecl (tok KwFunc • the Name • the FuncRest)
    or node k.MethodDecl (tok KwFunc • the Params • the Name • the FuncRest)

-- Declaration = ConstDecl | TypeDecl | VarDecl .
abbrev pub plain_decl : RightSide Production
plain_decl =
    node k.ConstDecl (tok KwConst • the ConstSpec)
    or node k.ConstGroup (tok KwConst • group ConstSpecs)
    or node k.VarDecl (tok KwVar • the VarSpec)
    or node k.VarGroup (tok KwVar • group VarSpecs)
    or node k.TypeDecl (tok KwType • the TypeSpec)
    or node k.TypeGroup (tok KwType • group TypeSpecs)

-- ArrayLength = Expression . own: where it begins with an identifier, that is followed by `.`, `(` or a binary operator, if
-- by anything.
abbrev pub spec_length : RightSide Production
spec_length = the ExprNoName or the Name • opt (the CallOrDot) • the Tails

-- Type, with ArrayType = "[" ArrayLength "]" ElementType . SliceType = "[" "]" ElementType .
abbrev pub spec_type : RightSide Production
spec_type =
    the TypeNoBracket
    or node k.ArrayType (tok LeftBracket • spec_length • tok RightBracket • the AnyType)
    or node k.SliceType (tok LeftBracket • tok RightBracket • the AnyType)
    or node k.EllipsisArrayType (tok LeftBracket • tok Ellipsis • tok RightBracket • the AnyType)

-- TypeParamDecl = IdentifierList TypeConstraint . own: directly behind the first identifier the constraint begins with neither
-- `(` nor `*`, which go on with the length of an array.
abbrev pub first_type_param : RightSide Production
first_type_param =
    node k.TypeParam (
    the Name • (tok Comma • the Name • many (tok Comma • the Name) • the Union or the ConstraintAfterName)
    )

-- TypeParameters = "[" TypeParamList [ "," ] "]" . TypeParamList = TypeParamDecl { "," TypeParamDecl } .
abbrev pub spec_params : RightSide Production
spec_params =
    node k.TypeParams (tok LeftBracket • first_type_param • opt (the (More TypeParamGroups)) • tok RightBracket)

-- TypeSpec = AliasDecl | TypeDef . AliasDecl = identifier [ TypeParameters ] "=" Type . TypeDef = identifier [ TypeParameters ] Type .
-- own: what stands behind a `[` are type parameters exactly where an identifier follows and the token after it is neither `]`,
-- `*`, `(`, `.` nor a binary operator.
abbrev pub plain_type_spec : RightSide Production
plain_type_spec =
    node k.AliasSpec (the Name • tok Assign • the AnyType)
    or node k.TypeSpec (the Name • spec_type)
    or node k.GenericAliasSpec (the Name • spec_params • tok Assign • the AnyType)
    or node k.GenericTypeSpec (the Name • spec_params • the AnyType)
