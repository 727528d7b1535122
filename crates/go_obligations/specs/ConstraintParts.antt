-- Interfaces that are not basic, by their underlying types.
use Rattle.std.specs.Prelude.{◌≡◌, true}
use Rattle.go_term.specs.Types.{TypeData}
use Rattle.go_term.specs.declared.term.Term.{Term}
use Rattle.go_model.specs.Obligations.Constraints.{adds_terms}
use Rattle.go_model.specs.Obligations.Embedded.{Embeds}
use Rattle.go_judge.specs.Headers.{Headers}
use Rattle.go_judge.specs.Types.TypeSets.{is_interface}
use Rattle.go_judge.specs.declared.form.Form.{Form}
use Rattle.go_judge.specs.declared.form.Form.TheVariants as F

-- over these headers an underlying type is an interface that is not basic
pub record IsGeneral (headers : Headers) (literal : TypeData) : Type 0 where
  pub part : TypeData
  pub an_interface : is_interface literal ≡ true
  pub embeds : Embeds headers literal part
  pub adds : adds_terms part ≡ true

-- there is an underlying type, and it is one
abbrev pub IsGeneralForm : Headers → (Term → TypeData) → Form → Type 0
IsGeneralForm headers tree (F.Is u) = IsGeneral headers (tree u)
IsGeneralForm headers tree form = ⊥
