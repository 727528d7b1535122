-- Package clause; Import declarations; String literals (Go specification).
-- Decides the heads of Go files: what is known of each file before its declarations are.
use Rattle.std.specs.Prelude.{◌≡◌, ℕ, ◌<◌, ◌≤◌, Bool, List, [], ◌∷◌, None, length}
use Rattle.std.specs.List.{flat_map}
use Rattle.go_num.specs.Text.{most_text}
use Rattle.go_tree.specs.declared.node_kind.NodeKind.TheVariants.{ImportDecl, ImportGroup}
use Rattle.go_tree.specs.declared.token.Token.{Token}
use Rattle.go_tree.specs.declared.token.TokenKind.TheVariants.{Text}
use Rattle.go_tree.specs.Lexical.LiteralValues.{string_lit_value}
use Rattle.go_tree.specs.Lexical.Scan.{IsNext}
use Rattle.go_tree.specs.Tree.{Tree, branch, list_of, parts_of, start_of, text_of}
use Rattle.go_module.specs.NodeParts.{first_part, last_part}

-- an import: the path that its string names, and the offset of the string
pub record ImportSpec : Type 0 where
  pub path : List ℕ
  pub at : ℕ

-- a file: whether it lies below the root of stubs, its path below its root, the name in its package
-- clause with its offset, and its imports
pub record FileHead : Type 0 where
  pub stub : Bool
  pub path : List ℕ
  pub name : List ℕ
  pub name_at : ℕ
  pub imports : List ImportSpec

-- SourceFile = PackageClause ";" { ImportDecl ";" } { TopLevelDecl ";" } .
-- PackageClause = "package" PackageName .
abbrev pub package_name : Tree → Tree
package_name file = first_part file

-- ImportDecl = "import" ( ImportSpec | "(" { ImportSpec ";" } ")" ) .
abbrev pub specs_in : Tree → List Tree
specs_in (branch id from to ImportDecl text parts) = list_of parts
specs_in (branch id from to ImportGroup text parts) = list_of parts
specs_in declaration = []

abbrev pub import_specs : Tree → List Tree
import_specs file = flat_map specs_in (list_of (parts_of file))

-- ImportSpec = [ "." | PackageName ] ImportPath . ImportPath = string_lit .
abbrev pub import_string : Tree → Tree
import_string spec = last_part spec

-- the text is one string literal
pub record IsOneString (text : List ℕ) (token : Token) : Type 0 where
  pub next : IsNext text 0 None token
  pub kind : token.kind ≡ Text
  pub start : token.start ≡ 0
  pub end : token.end ≡ length text

-- the path that a string literal names; own: it is empty where it would be longer than a string constant
-- may be, and of a text that is no string literal, which no import has
pub data IsImportPath (text : List ℕ) : List ℕ → Type 0 where
  literal : (token : Token) → IsOneString text token → length (string_lit_value text) ≤ most_text → IsImportPath text (string_lit_value text)
  long : (token : Token) → IsOneString text token → most_text < length (string_lit_value text) → IsImportPath text []
  other : ((token : Token) → IsOneString text token → ⊥) → IsImportPath text []

pub record IsImportOf (spec : Tree) (import : ImportSpec) : Type 0 where
  pub path : IsImportPath (text_of (import_string spec)) import.path
  pub at : import.at ≡ start_of (import_string spec)

-- an import for each spec, in their order
abbrev pub AreImports : List Tree → List ImportSpec → Type 0
AreImports [] [] = Unit {0}
AreImports [] (import ∷ imports) = ⊥
AreImports (spec ∷ specs) [] = ⊥
AreImports (spec ∷ specs) (import ∷ imports) = IsImportOf spec import × AreImports specs imports

-- the head of the file at a path with that tree
pub record IsHeadOf (stub : Bool) (path : List ℕ) (tree : Tree) (head : FileHead) : Type 0 where
  pub stub_is : head.stub ≡ stub
  pub path_is : head.path ≡ path
  pub name_is : head.name ≡ text_of (package_name tree)
  pub name_at_is : head.name_at ≡ start_of (package_name tree)
  pub imports_are : AreImports (import_specs tree) head.imports
