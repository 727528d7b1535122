-- Constant declarations; Declarations and scope (Go specification).
-- Decides which headers the declarations of a package have, where those of packages before are known: those that some
-- justified list holds. No order of work is named.
use Rattle.std.specs.Prelude.{◌≡◌, ℕ, Some, None, List, [], ◌∷◌}
use Rattle.go_judge.specs.Naming.{Naming}
use Rattle.go_module.specs.Names.Declarations.{Declaration}
use Rattle.go_judge.specs.Records.{HeaderData}
use Rattle.go_judge.specs.Headers.{Headers, headers_of}
use Rattle.go_values.specs.Declared.{declared_as}
use Rattle.go_values.specs.Records.{header_over}

-- the header h of d, which has none before, follows from the headers alone
pub record Follows (before : Headers) (naming : Naming) (declarations : List Declaration) (headers : Headers) (d : ℕ) (h : HeaderData) : Type 0 where
  pub declaration : Declaration
  pub declared : declared_as declarations d ≡ Some declaration
  pub fresh : before d ≡ None
  pub tells : header_over naming headers declaration ≡ Some h

-- a justified list: each header follows from those before and from the pairs before it alone
abbrev pub Justified : Headers → Naming → List Declaration → List (ℕ × HeaderData) → Type 0
Justified before naming declarations [] = Unit {0}
Justified before naming declarations (p ∷ list) = Justified before naming declarations list × Follows before naming declarations (headers_of before list) p.0 p.1

-- it is known before, or some justified list has it
pub record Known (before : Headers) (naming : Naming) (declarations : List Declaration) (d : ℕ) (h : HeaderData) : Type 0 where
  pub list : List (ℕ × HeaderData)
  pub justified : Justified before naming declarations list
  pub has : headers_of before list d ≡ Some h
