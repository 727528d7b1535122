-- Open edges: how many edges of each vertex lead to vertices that are not yet taken.
-- Says how often a number stands in a list, what the lists of predecessors are, and what closing some edges does
-- to the open counts and to the set of vertices that have none left.
use Rattle.std.specs.Prelude.{◌≡◌, ℕ, ◌+◌, ◌<◌, ◌≤◌, ◌↔◌, ◌⊎◌, ◌==◌, cond, List, length, not, sum, count_by, slice_index, IsTrue}
use Rattle.std.specs.List.{list_any}
use Rattle.std.specs.Ordering.{nat_cmp}
use Rattle.std.specs.BTreeSet.{BTreeSet, contains}
use Rattle.go_graph.specs.Graph.{Graph, row_at}
use Rattle.go_graph.specs.Order.{IsReady, IsRun}

-- how often x stands in xs
abbrev pub times : ℕ → List ℕ → ℕ
times x xs = count_by (λ y. y == x) xs

-- how many of the list, each as often as it stands there, do not stand in front
abbrev pub left_of : List ℕ → List ℕ → ℕ
left_of front list = count_by (λ b. not (list_any (λ r. b == r) front)) list

-- the set has the number
abbrev pub IsIn : BTreeSet ℕ → ℕ → Type 0
IsIn set v = IsTrue (contains nat_cmp set v)

-- v stands in the row of b as often as an edge leads from v to b
abbrev pub ArePredecessors : Graph → List (List ℕ) → Type 0
ArePredecessors g rows = (v b : ℕ) → times v (row_at rows b) ≡ times b (row_at g v)

-- v stands in the row of b once more for each time that b stands in the list
abbrev pub Adds : ℕ → List ℕ → List (List ℕ) → List (List ℕ) → Type 0
Adds v list old new = (w b : ℕ) → times w (row_at new b) ≡ times w (row_at old b) + cond (v == w) (times b list) 0

-- each vertex of the list has one open edge less for each time that it stands there; those with none left
-- are put into the set
pub record Closes (list old new : List ℕ) (before after : BTreeSet ℕ) : Type 0 where
  pub same_length : length new ≡ length old
  pub counts : (v : ℕ) → slice_index new v + times v list ≡ slice_index old v
  pub set : (v : ℕ) → IsIn after v ↔ (IsIn before v ⊎ ((0 < slice_index old v) × (slice_index new v ≡ 0)))
  pub less : sum new + length after.keys ≤ sum old + length before.keys

-- behind the vertices of the order: the open counts, and the set of those that are ready
pub record IsUnderWay (g : Graph) (open_counts : List ℕ) (ready : BTreeSet ℕ) (order : List ℕ) : Type 0 where
  pub same_length : length open_counts ≡ length g
  pub counts : (v : ℕ) → slice_index open_counts v ≡ left_of order (row_at g v)
  pub set : (v : ℕ) → IsIn ready v ↔ IsReady g order v
  pub run : IsRun g order
