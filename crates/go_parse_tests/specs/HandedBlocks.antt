-- The blocks `{}` and `{ return }`, which the tests hand in.
use Rattle.std.specs.Prelude.{◌+◌, ◌≡◌, [], ◌∷◌}
use Rattle.go_tree.specs.declared.node.Node.{Node}
use Rattle.go_tree.specs.declared.node_kind.NodeKind.TheVariants.{Block, ReturnStmt}
use Rattle.go_tree.specs.declared.token.Token.{Token}
use Rattle.go_tree.specs.declared.token.TokenKind.TheVariants.{KwReturn, LeftBrace, RightBrace}
use Rattle.go_tree.specs.Tree.{branch, no_trees, more_trees, tree_of}
use Rattle.go_parse_x.specs.declared.cursor.Cursor.{Cursor}
use Rattle.go_tree.specs.Lexical.Scan.{Stand}

-- the node is the block `{}` that stands from the one place to the other
pub record IsEmptyBlock (from to : Cursor) (node : Node) : Type 0 where
  pub opening : Token
  pub closing : Token
  pub stand : Stand from.bytes.now from.at from.last (opening ∷ closing ∷ []) to.at to.last
  pub opens : opening.kind ≡ LeftBrace
  pub closes : closing.kind ≡ RightBrace
  pub tree : tree_of node ≡ branch from.number opening.start closing.end Block [] no_trees
  pub number : to.number ≡ from.number + 1

-- the node is the block `{ return }` that stands from the one place to the other
pub record IsReturnBlock (from to : Cursor) (node : Node) : Type 0 where
  pub opening : Token
  pub word : Token
  pub closing : Token
  pub stand : Stand from.bytes.now from.at from.last (opening ∷ word ∷ closing ∷ []) to.at to.last
  pub opens : opening.kind ≡ LeftBrace
  pub returns : word.kind ≡ KwReturn
  pub closes : closing.kind ≡ RightBrace
  pub tree : tree_of node ≡ branch (from.number + 1) opening.start closing.end Block [] (more_trees (branch from.number word.start word.end ReturnStmt [] no_trees) no_trees)
  pub number : to.number ≡ from.number + 2
