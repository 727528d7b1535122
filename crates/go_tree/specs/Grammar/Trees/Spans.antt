-- Spans of nodes: each node has a run of the tokens that it is read from.
use Rattle.std.specs.Prelude.{ℕ, ◌≡◌, List, [], ◌∷◌, ◌++◌}
use Rattle.go_tree.specs.declared.token.Token.{Token}
use Rattle.go_tree.specs.Tree.{Tree, branch, Trees, no_trees, more_trees}

-- where the last of these tokens ends
abbrev pub end_of_last : Token → List Token → ℕ
end_of_last t [] = t.end
end_of_last t (u ∷ us) = end_of_last u us

-- a span starts where the first of these tokens starts, and ends where the last of them ends
pub record IsSpan (run : List Token) (from to : ℕ) : Type 0 where
  pub first : Token
  pub others : List Token
  pub are : run ≡ first ∷ others
  pub starts : from ≡ first.start
  pub ends : to ≡ end_of_last first others

abbrev mutual
  -- the tree has these tokens: its span is theirs, and its parts have runs of them
  pub HasRun : List Token → Tree → Type 0
  HasRun run (branch id from to kind text parts) = IsSpan run from to × HaveRuns run parts

  -- the trees have runs of these tokens, one behind the other; what stands between two of them belongs to no tree
  pub HaveRuns : List Token → Trees → Type 0
  HaveRuns tokens no_trees = Unit {0}
  HaveRuns tokens (more_trees t ts) = (between run behind : List Token) × (tokens ≡ between ++ (run ++ behind)) × HasRun run t × HaveRuns behind ts

-- the tree has a run of these tokens
abbrev pub HasSpans : List Token → Tree → Type 0
HasSpans tokens t = HaveRuns tokens (more_trees t no_trees)
