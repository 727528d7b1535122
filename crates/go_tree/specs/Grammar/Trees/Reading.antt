-- What right sides read: from tokens to trees.
-- A right side reads from one state to another. Nothing here knows the productions.
use Rattle.std.specs.Prelude.{ℕ, ◌-◌, ◌≡◌, ◌&&◌, Bool, true, false, List, [], ◌∷◌, ◌++◌, Option, None, Some, reverse, cond, take, drop, if◌then◌else◌}
use Rattle.go_tree.specs.declared.token.Token.{Token}
use Rattle.go_tree.specs.declared.token.TokenKind.{TokenKind}
use Rattle.go_tree.specs.declared.node_kind.NodeKind.{NodeKind}
use Rattle.go_tree.specs.declared.node_kind.NodeKind.TheVariants.{Name, IntLit, FloatLit, RuneLit, StringLit}
use Rattle.go_tree.specs.Tree.{Tree, branch, trees_of, start_of}
use Rattle.go_tree.specs.Grammar.RightSide.{RightSide, Do, Call, Nothing, Seq, Or, Many, When, Act, Pass, Open, Reopen, Adopt, CheckType, Close, Ahead, OneOf, Both}
use Rattle.go_tree.specs.Grammar.Tables.TokenKinds.{same_kind, is_in}
use Rattle.go_tree.specs.Grammar.Trees.TypeTrees.{is_type}

-- an open node: where it starts, and its parts so far, the newest first
pub record OpenNode : Type 0 where
  pub start : ℕ
  pub parts : List Tree

-- where a reading stands: the end of the last token, the tokens that are left, and the open nodes,
-- the innermost first
pub record State : Type 0 where
  pub last : ℕ
  pub rest : List Token
  pub open_nodes : List OpenNode

-- an identifier and a literal have the bytes of their span as text, other nodes none
abbrev pub has_text : NodeKind → Bool
has_text Name = true
has_text IntLit = true
has_text FloatLit = true
has_text RuneLit = true
has_text StringLit = true
has_text _ = false

abbrev pub text_between : List ℕ → NodeKind → ℕ → ℕ → List ℕ
text_between bytes kind from to = if has_text kind then take (to - from) (drop from bytes) else []

-- trees are read without numbers: each node has the number 0
abbrev pub node_read : List ℕ → NodeKind → ℕ → OpenNode → Tree
node_read bytes kind to f = branch 0 f.start to kind (text_between bytes kind f.start to) (trees_of (reverse f.parts))

abbrev pub passed : TokenKind → List Token → List OpenNode → Option State
passed kind [] fs = None
passed kind (t ∷ ts) fs = cond (same_kind kind t.kind) (Some (record { last = t.end; rest = ts; open_nodes = fs })) None

-- where the next token starts, or where the last one ended if none is left
abbrev pub next_start : ℕ → List Token → ℕ
next_start last [] = last
next_start last (t ∷ ts) = t.start

-- Where there is no node to take, nothing is taken: each of the next three is always possible.
abbrev pub reopened : List Tree → ℕ → List OpenNode → List OpenNode
reopened [] start fs = record { start = start; parts = [] } ∷ fs
reopened (x ∷ xs) start fs = record { start = start_of x; parts = x ∷ [] } ∷ record { start = start; parts = xs } ∷ fs

abbrev pub reopen : List OpenNode → List OpenNode
reopen [] = []
reopen (f ∷ fs) = reopened f.parts f.start fs

abbrev pub adopted : OpenNode → List Tree → ℕ → List OpenNode → List OpenNode
adopted f [] start fs = f ∷ record { start = start; parts = [] } ∷ fs
adopted f (x ∷ xs) start fs = record { start = start_of x; parts = f.parts ++ x ∷ [] } ∷ record { start = start; parts = xs } ∷ fs

abbrev pub adopt_from : OpenNode → List OpenNode → List OpenNode
adopt_from f [] = f ∷ []
adopt_from f (g ∷ fs) = adopted f g.parts g.start fs

abbrev pub adopt : List OpenNode → List OpenNode
adopt [] = []
adopt (f ∷ fs) = adopt_from f fs

abbrev pub close_into : List ℕ → NodeKind → ℕ → OpenNode → List OpenNode → List OpenNode
close_into bytes kind to f [] = f ∷ []
close_into bytes kind to f (g ∷ fs) = record { start = g.start; parts = node_read bytes kind to f ∷ g.parts } ∷ fs

abbrev pub close_last : List ℕ → NodeKind → ℕ → List OpenNode → List OpenNode
close_last bytes kind to [] = []
close_last bytes kind to (f ∷ fs) = close_into bytes kind to f fs

abbrev pub newest_is_type : List Tree → Bool
newest_is_type [] = false
newest_is_type (x ∷ xs) = is_type x

abbrev pub ends_in_type : List OpenNode → Bool
ends_in_type [] = false
ends_in_type (f ∷ fs) = newest_is_type f.parts

-- the state behind an act, if it is possible
abbrev pub acted : List ℕ → Act → State → Option State
acted bytes (Pass k) s = passed k s.rest s.open_nodes
acted bytes Open s = Some (record { last = s.last; rest = s.rest; open_nodes = record { start = next_start s.last s.rest; parts = [] } ∷ s.open_nodes })
acted bytes Reopen s = Some (record { last = s.last; rest = s.rest; open_nodes = reopen s.open_nodes })
acted bytes Adopt s = Some (record { last = s.last; rest = s.rest; open_nodes = adopt s.open_nodes })
acted bytes CheckType s = cond (ends_in_type s.open_nodes) (Some s) None
acted bytes (Close k) s = Some (record { last = s.last; rest = s.rest; open_nodes = close_last bytes k s.last s.open_nodes })

-- whether the tokens that come next are so
abbrev pub looks : Ahead → List Token → Bool
looks (OneOf kinds) [] = false
looks (OneOf kinds) (t ∷ ts) = is_in kinds t.kind
looks (Both j k) [] = false
looks (Both j k) (t ∷ []) = false
looks (Both j k) (t ∷ (u ∷ us)) = same_kind j t.kind && same_kind k u.kind

-- these right sides, one after another, read from the first state to the second
pub data Reads (N : Type 0) (production : N → RightSide N) (bytes : List ℕ) : List (RightSide N) → State → State → Type 0 where
  at_end : {s : State} → Reads N production bytes [] s s
  does : {a : Act} {gs : List (RightSide N)} {s m e : State} → acted bytes a s ≡ Some m → Reads N production bytes gs m e → Reads N production bytes (Do a ∷ gs) s e
  calls : {n : N} {gs : List (RightSide N)} {s e : State} → Reads N production bytes (production n ∷ gs) s e → Reads N production bytes (Call n ∷ gs) s e
  nothing : {gs : List (RightSide N)} {s e : State} → Reads N production bytes gs s e → Reads N production bytes (Nothing ∷ gs) s e
  in_turn : {g h : RightSide N} {gs : List (RightSide N)} {s e : State} → Reads N production bytes (g ∷ h ∷ gs) s e → Reads N production bytes (Seq g h ∷ gs) s e
  left : {g h : RightSide N} {gs : List (RightSide N)} {s e : State} → Reads N production bytes (g ∷ gs) s e → Reads N production bytes (Or g h ∷ gs) s e
  right : {g h : RightSide N} {gs : List (RightSide N)} {s e : State} → Reads N production bytes (h ∷ gs) s e → Reads N production bytes (Or g h ∷ gs) s e
  done : {g : RightSide N} {gs : List (RightSide N)} {s e : State} → Reads N production bytes gs s e → Reads N production bytes (Many g ∷ gs) s e
  again : {g : RightSide N} {gs : List (RightSide N)} {s e : State} → Reads N production bytes (g ∷ Many g ∷ gs) s e → Reads N production bytes (Many g ∷ gs) s e
  chosen : {a : Ahead} {g h : RightSide N} {gs : List (RightSide N)} {s e : State} → looks a s.rest ≡ true → Reads N production bytes (g ∷ gs) s e → Reads N production bytes (When a g h ∷ gs) s e
  passed_by : {a : Ahead} {g h : RightSide N} {gs : List (RightSide N)} {s e : State} → looks a s.rest ≡ false → Reads N production bytes (h ∷ gs) s e → Reads N production bytes (When a g h ∷ gs) s e

-- before a text: nothing is passed, and one list of trees is open
abbrev pub before : List Token → State
before ts = record { last = 0; rest = ts; open_nodes = record { start = 0; parts = [] } ∷ [] }

-- the node that was read last
abbrev pub newest_of : List Tree → Option Tree
newest_of [] = None
newest_of (x ∷ xs) = Some x

abbrev pub tree_read : List OpenNode → Option Tree
tree_read [] = None
tree_read (f ∷ fs) = newest_of f.parts
