-- Right sides of productions, as data. N has the names of the productions.
-- What they read: `Reading`.
use Rattle.std.specs.Prelude.{List}
use Rattle.go_tree.specs.declared.token.TokenKind.{TokenKind}
use Rattle.go_tree.specs.declared.node_kind.NodeKind.{NodeKind}

-- one step of a reading
pub data Act : Type 0 where
  -- the next token, of that kind, is passed
  Pass : TokenKind → Act
  -- a node begins at the next token
  Open : Act
  -- a node begins whose first part is the node that was read last
  Reopen : Act
  -- the node that was read before the innermost open one becomes its first part
  Adopt : Act
  -- the node that was read last is written as a type is
  CheckType : Act
  -- the innermost open node ends with the last token, and has that kind
  Close : NodeKind → Act

-- what may be asked of the tokens that come next
pub data Ahead : Type 0 where
  -- the next one is one of these
  OneOf : List TokenKind → Ahead
  -- the next two are these
  Both : TokenKind → TokenKind → Ahead

pub data RightSide (N : Type 0) : Type 0 where
  Do : Act → RightSide N
  Call : N → RightSide N
  Nothing : RightSide N
  Seq : RightSide N → RightSide N → RightSide N
  Or : RightSide N → RightSide N → RightSide N
  Many : RightSide N → RightSide N
  -- the first where the tokens that come next are so, and else the second
  When : Ahead → RightSide N → RightSide N → RightSide N
