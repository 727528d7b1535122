-- Source file organization (Go specification).
-- Decides which tree a text has as a file. What is wrong with a text that has none: `Faults`.
use Rattle.std.specs.Prelude.{ℕ, ◌≡◌, List}
use Rattle.go_tree.specs.declared.token.Token.{Token}
use Rattle.go_tree.specs.declared.production.Production.TheVariants.{File}
use Rattle.go_tree.specs.Height.{AllFit}
use Rattle.go_tree.specs.Lexical.Scan.{Scan}
use Rattle.go_tree.specs.Tree.{Tree}
use Rattle.go_tree.specs.Grammar.Trees.Sentence.{Derives}
use Rattle.go_text.specs.Copies.{with_copies}
use Rattle.go_text.specs.Numbers.{numbered}

-- the greatest height of a token
abbrev pub most_height : ℕ
most_height = 1000

-- the tokens of the text are a file, and none has a height past the greatest; its tree is the one that they derive, with the
-- copies of omitted lists and with the numbers from `first` on
pub record IsFileOf (bytes : List ℕ) (first : ℕ) (tree : Tree) : Type 0 where
  pub tokens : List Token
  pub scan : Scan bytes tokens
  pub written : Tree
  pub derives : Derives bytes File tokens written
  pub fit : AllFit most_height tokens
  pub tree_is : tree ≡ numbered first (with_copies written)
