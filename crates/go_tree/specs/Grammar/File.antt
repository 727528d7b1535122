-- Files (Go specification, "Source file organization", "Package clause", "Import declarations",
-- "Function declarations", "Method declarations", "Identifiers", "String literals").
use Rattle.go_tree.specs.declared.token.TokenKind.TheVariants.{Ident, Text, KwFunc, KwImport, KwPackage, Dot, End}
use Rattle.go_tree.specs.declared.node_kind.NodeKind.TheVariants as k
use Rattle.go_tree.specs.declared.production.Items.TheVariants.{ImportSpecs}
use Rattle.go_tree.specs.declared.production.Production.{Production}
use Rattle.go_tree.specs.declared.production.Production.TheVariants.{Block, Decl, File, FuncRest, Import, ImportSpec, Name, Params, Signature, StringLit, Top, TypeParams}
use Rattle.go_tree.specs.Grammar.RightSide.{RightSide}
use Rattle.go_tree.specs.Grammar.Words.{◌•◌, ◌or◌, tok, the, opt, many, open_node, close, node, semi, group}
use Rattle.go_tree.specs.Grammar.Declarations.{declaration_line}

abbrev pub file_line : Production → RightSide Production
-- SourceFile = PackageClause ";" { ImportDecl ";" } { TopLevelDecl ";" } .
-- PackageClause = "package" PackageName . The end of the file is a token.
file_line File =
    node k.File (tok KwPackage • the Name • semi • many (the Import • semi) • many (the Top • semi) • tok End)
-- ImportDecl = "import" ( ImportSpec | "(" { ImportSpec ";" } ")" ) .
file_line Import =
    open_node • tok KwImport • (the ImportSpec • close k.ImportDecl or group ImportSpecs • close k.ImportGroup)
-- ImportSpec = [ "." | PackageName ] ImportPath .
file_line ImportSpec = node k.ImportSpec (opt (node k.DotImport (tok Dot) or the Name) • the StringLit)
-- TopLevelDecl = Declaration | FunctionDecl | MethodDecl .
-- FunctionDecl = "func" FunctionName [ TypeParameters ] Signature [ FunctionBody ] .
-- MethodDecl = "func" Receiver MethodName Signature [ FunctionBody ] . Receiver = Parameters .
file_line Top =
    the Decl
    or open_node • tok KwFunc • (
    the Name • the FuncRest • close k.FuncDecl or the Params • the Name • the FuncRest • close k.MethodDecl
    )
-- own: type parameters are read in methods too, and refused by a rule.
file_line FuncRest = opt (the TypeParams) • the Signature • opt (the Block)
-- identifier = letter { letter | unicode_digit } .
file_line Name = node k.Name (tok Ident)
-- string_lit = raw_string_lit | interpreted_string_lit .
file_line StringLit = node k.StringLit (tok Text)
-- the next section
file_line n = declaration_line n
