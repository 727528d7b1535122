-- Declarations and scope (Go specification).
-- Decides which declaration an object is.
use Rattle.std.specs.Prelude.{ℕ, ◌==◌, List, Option, find}
use Rattle.go_module.specs.Names.Declarations.{Declaration, number_of}

-- the declaration whose object has that number; the first, where numbers repeat, as those of a module that is loaded do
-- not
abbrev pub declared_as : List Declaration → ℕ → Option Declaration
declared_as declarations d = find (λ declaration. (number_of declaration).0 == d) declarations
