-- Basic interfaces; General interfaces; Type constraints (Go specification).
-- Decides which types are constraints alone: "Interfaces that are not basic may only be used as type constraints, or as
-- elements of other interfaces used as constraints. They cannot be the types of values or variables, or components of other,
-- non-interface types." An interface is basic where all its elements, with those of what it embeds, are methods.
use Rattle.std.specs.Prelude.{◌≡◌, ◌&&◌, ◌||◌, Bool, true, false, is_some, not}
use Rattle.std.specs.List.{list_any}
use Rattle.go_base.specs.declared.rule.Rule.{Rule}
use Rattle.go_base.specs.declared.rule.Family.TheVariants.{C}
use Rattle.go_term.specs.declared.basic.Basic.TheVariants as B
use Rattle.go_term.specs.Types.{TypeData, basic, made, param, union}
use Rattle.go_model.specs.Obligations.Embedded.{Embeds, IsUnderlying, elements_of, embedded_type}
use Rattle.go_judge.specs.Headers.{Headers}
use Rattle.go_judge.specs.Types.TypeSets.{is_interface}

-- C15: an interface with terms or `comparable` is used other than as a constraint
abbrev pub misused_constraint : Rule
misused_constraint = record { family = C; number = 15 }

abbrev pub is_union : TypeData → Bool
is_union (made union terms) = true
is_union elem = false

-- an element with `~` or with several terms
abbrev pub has_terms : TypeData → Bool
has_terms elem = is_union elem && not (is_some (embedded_type elem))

-- an embedded type by itself, by its underlying type: one that is no interface is a term, `comparable` is no list of methods,
-- nor is a literal with such an element
abbrev pub adds_terms : TypeData → Bool
adds_terms (made (basic B.Comparable) parts) = true
adds_terms u = not (is_interface u) || list_any has_terms (elements_of u)

abbrev pub is_parameter : TypeData → Bool
is_parameter (made (param d i) parts) = true
is_parameter t = false

-- over these headers the type is an interface that is not basic
pub record IsConstraint (headers : Headers) (t : TypeData) : Type 0 where
  pub literal : TypeData
  pub part : TypeData
  pub no_parameter : is_parameter t ≡ false
  pub is_literal : IsUnderlying headers t literal
  pub an_interface : is_interface literal ≡ true
  pub embeds : Embeds headers literal part
  pub adds : adds_terms part ≡ true
