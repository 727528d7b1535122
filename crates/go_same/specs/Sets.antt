-- What the type sets of the program stand for, where types stand for these trees; how many methods and terms they have,
-- and whether their types are a judge's own.
use Rattle.std.specs.Prelude.{ℕ, ◌+◌, Bool, true, false, Option, None, Some, List, Vec, length, map}
use Rattle.std.specs.Global.{Global}
use Rattle.std.specs.List.{AllByRecursion, sum_by}
use Rattle.go_term.specs.Shapes.{func_parts}
use Rattle.go_term.specs.Types.{TypeData, function, made}
use Rattle.go_term.specs.declared.term.Term.{Term}
use Rattle.go_term.specs.declared.shape.FuncShape.{FuncShape}
use Rattle.go_judge.specs.Types.Own.{AreOwnFunc}
use Rattle.go_judge.specs.Types.TypeSets.{MethodData, SetData, TermData, plain}
use Rattle.go_judge.specs.Quests.{Asked, Decided, Lacks}
use Rattle.go_same.specs.declared.set.FoundSet.{FoundSet}
use Rattle.go_same.specs.declared.set.FoundSet.TheVariants as F
use Rattle.go_same.specs.declared.set.Method.{Method}
use Rattle.go_same.specs.declared.set.TypeSet.{TypeSet}
use Rattle.go_same.specs.declared.set.UnionPart.{UnionPart}

module _ (tree : Term → TypeData) where
  -- the type of a function with these parameters and results
  abbrev pub func_type : FuncShape → TypeData
  func_type f = made (function f.variadic) (func_parts tree f)

  abbrev pub method_view : Method → MethodData
  method_view m = record { name = m.name; home = m.home; type = plain (func_type m.signature); opened = m.opened }

  abbrev pub part_view : UnionPart → TermData
  part_view u = record { tilde = u.tilde; type = plain (tree u.ty); opened = u.opened }

  abbrev pub set_view : TypeSet → SetData
  set_view s = record { methods = map method_view s.methods.items; unions = map (λ u. map part_view u.items) s.unions.items; comparable = s.comparable }

  abbrev pub found_as : FoundSet → Asked (Option SetData)
  found_as (F.Is s) = Decided (Some (set_view s))
  found_as F.Absent = Decided None
  found_as (F.Unknown d) = Lacks d.0

abbrev pub is_set : FoundSet → Bool
is_set (F.Is s) = true
is_set found = false

-- how many terms unions have, and methods and terms what is found
abbrev pub unions_size : List (Vec UnionPart Global) → ℕ
unions_size us = sum_by (λ u. length u.items) us

abbrev pub found_size : FoundSet → ℕ
found_size (F.Is s) = length s.methods.items + unions_size s.unions.items
found_size found = 0

module _ (own : Term → Type 0) where
  -- the types of a set are these
  abbrev pub IsOwnSet : TypeSet → Type 0
  IsOwnSet s = AllByRecursion (λ m. AreOwnFunc own m.signature) s.methods.items × AllByRecursion (λ u. AllByRecursion (λ p. own p.ty) u.items) s.unions.items

  abbrev pub IsOwnFound : FoundSet → Type 0
  IsOwnFound (F.Is s) = IsOwnSet s
  IsOwnFound found = Unit {0}
