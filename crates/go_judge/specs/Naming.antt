-- Declarations and scope (Go specification).
-- Says what is known of the identifiers of a package that is checked. What they mean is left to go_constructs, which
-- tables a package has to go_model.
use Rattle.std.specs.Prelude.{◌≡◌, ℕ, List, [], IsSome, Option, None, Some}
use Rattle.go_base.specs.declared.ids.ObjId.{ObjId}
use Rattle.go_module.specs.declared.object.Object.{Object}

-- the object that each identifier denotes, by the number of the identifier's node; the number of the constant spec around
-- each identifier `iota`; the objects, by their numbers; and the path of the package in which the identifiers stand
pub record Naming : Type 0 where
  pub denotes : ℕ → Option ObjId
  pub iota : ℕ → Option ℕ
  pub objects : ℕ → Option Object
  pub home : List ℕ

-- nothing is denoted
abbrev pub no_names : Naming
no_names = record { denotes = λ id. None; iota = λ id. None; objects = λ d. None; home = [] }

-- each object that is denoted is there
abbrev pub AreThere : Naming → Type 0
AreThere names = (id : ℕ) (d : ObjId) → names.denotes id ≡ Some d → IsSome (names.objects d.0)
