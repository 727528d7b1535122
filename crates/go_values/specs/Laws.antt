-- Laws of known headers.
-- Says that a declaration has one header. What holds of every question: `Stays` of `Quests`; of every outcome: `Stays` of
-- `Outcomes`.
use Rattle.std.specs.Prelude.{◌≡◌, ℕ, List}
use Rattle.go_judge.specs.Headers.{Headers}
use Rattle.go_judge.specs.Naming.{Naming}
use Rattle.go_module.specs.Names.Declarations.{Declaration}
use Rattle.go_judge.specs.Records.{HeaderData}
use Rattle.go_values.specs.Headers.{Known}

-- a declaration has at most one header
abbrev pub OneHeader : Headers → Naming → List Declaration → Type 0
OneHeader before naming declarations = (d : ℕ) (h k : HeaderData) → Known before naming declarations d h → Known before naming declarations d k → h ≡ k
