-- The order of broken rules.
-- Decides which list a report gives of the rules that are broken: by their places, at one place by
-- their families and in a family by their numbers, each once.
use Rattle.std.specs.Prelude.{◌≡◌, ℕ, zero, ◌<◌, ◌⊎◌, ◌↔◌, List, AllPairs, Contains}
use Rattle.go_base.specs.declared.places.Pos.{Pos}
use Rattle.go_base.specs.declared.rule.Broken.{Broken}
use Rattle.go_base.specs.declared.rule.Family.{Family}
use Rattle.go_base.specs.declared.rule.Family.TheVariants.{S, M, P, C, R, I, N, U, L}
use Rattle.go_base.specs.declared.rule.Rule.{Rule}

-- The place of a family in the table of rules: M, S, P, C, I, R, N, U, L. Where a row of the table stands out
-- of this order, its neighbours are of other phases, or it is told alone: no list of one phase can show the
-- difference.
abbrev pub family_rank : Family → ℕ
family_rank M = 1
family_rank S = 2
family_rank P = 3
family_rank C = 4
family_rank I = 5
family_rank R = 6
family_rank N = 7
family_rank U = 8
family_rank L = 9

-- that of a rule: the form that is not built yet stands before all families
abbrev pub rank_of : Family → ℕ → ℕ
rank_of U zero = 0
rank_of family number = family_rank family

abbrev pub rank : Rule → ℕ
rank r = rank_of r.family r.number

-- first by families, in a family by numbers
abbrev pub IsAbove : Rule → Rule → Type 0
IsAbove r s = (rank r < rank s) ⊎ ((rank r ≡ rank s) × (r.number < s.number))

-- first by files, in a file by offsets
abbrev pub IsEarlier : Pos → Pos → Type 0
IsEarlier p q = (p.file < q.file) ⊎ ((p.file ≡ q.file) × (p.offset < q.offset))

-- first by places, at one place by rules
abbrev pub IsBefore : Broken → Broken → Type 0
IsBefore a b = IsEarlier a.pos b.pos ⊎ ((a.pos ≡ b.pos) × IsAbove a.rule b.rule)

-- each stands before all that follow it, so each once, and what is broken stands in the list
pub record IsListOf (found list : List Broken) : Type 0 where
  pub ascending : AllPairs IsBefore list
  pub same : (b : Broken) → Contains list b ↔ Contains found b
