-- What the values of a package break.
use Rattle.std.specs.Prelude.{◌≡◌, ◌↔◌, ℕ, Bool, true, List}
use Rattle.go_base.specs.declared.rule.Broken.{Broken}
use Rattle.go_module.specs.Modules.Module.{PackageData}
use Rattle.go_module.specs.Names.Declarations.{declarations_of}
use Rattle.go_module.specs.Order.{IsListOf}
use Rattle.go_judge.specs.Naming.{Naming}
use Rattle.go_judge.specs.Headers.{Headers}
use Rattle.go_values.specs.Rules.{broken_values}
use Rattle.go_values.specs.Waiting.{Chain}

-- the list of a report has exactly what the values of a package break over these headers, by which declarations wait for
-- themselves
pub record AreBroken (naming : Naming) (headers : Headers) (p : PackageData) (list : List Broken) : Type 0 where
  pub cyclic : ℕ → Bool
  pub is_cyclic : (d : ℕ) → (cyclic d ≡ true) ↔ Chain naming (declarations_of p) headers d d
  pub is_list : IsListOf (broken_values naming headers cyclic p) list
