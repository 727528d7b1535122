-- What the intersection of two type sets is made of, and a set that lies one name deeper.
use Rattle.std.specs.Prelude.{◌≡◌, ◌+◌, ◌^◌, ◌<◌, ◌||◌, ◌++◌, map}
use Rattle.std.specs.List.{AllByRecursion}
use Rattle.go_same.specs.declared.set.FoundSet.{FoundSet}
use Rattle.go_same.specs.declared.set.FoundSet.TheVariants as F
use Rattle.go_same.specs.declared.set.Method.{Method}
use Rattle.go_same.specs.declared.set.TypeSet.{TypeSet}
use Rattle.go_same.specs.declared.set.UnionPart.{UnionPart}

-- what the one has and what the other has
pub record IsBothSets (a b s : TypeSet) : Type 0 where
  pub methods : s.methods.items ≡ a.methods.items ++ b.methods.items
  pub unions : s.unions.items ≡ a.unions.items ++ b.unions.items
  pub comparable : s.comparable ≡ (a.comparable || b.comparable)

-- the first where it is no set, else the second where that is none
abbrev pub IsBoth : FoundSet → FoundSet → FoundSet → Type 0
IsBoth (F.Unknown d) b found = found ≡ F.Unknown d
IsBoth F.Absent b found = found ≡ F.Absent
IsBoth (F.Is a) (F.Is b) (F.Is s) = IsBothSets a b s
IsBoth (F.Is a) (F.Is b) found = ⊥
IsBoth (F.Is a) b found = found ≡ b

-- one name more was opened on the way
abbrev pub raised_method : Method → Method
raised_method m = record m { opened = m.opened + 1 }

abbrev pub raised_part : UnionPart → UnionPart
raised_part u = record u { opened = u.opened + 1 }

abbrev pub IsRaisable : TypeSet → Type 0
IsRaisable s = AllByRecursion (λ m. m.opened + 1 < 2 ^ 32) s.methods.items × AllByRecursion (λ u. AllByRecursion (λ p. p.opened + 1 < 2 ^ 32) u.items) s.unions.items

pub record IsRaised (a s : TypeSet) : Type 0 where
  pub methods : s.methods.items ≡ map raised_method a.methods.items
  pub unions : map (λ u. u.items) s.unions.items ≡ map (λ u. map raised_part u.items) a.unions.items
  pub comparable : s.comparable ≡ a.comparable
