-- General interfaces; Struct types (Go specification).
-- Answers that are kept (own): which demands on named types without type arguments are asked once, by what, and when the
-- answers that are kept are right.
use Rattle.std.specs.Prelude.{◌≡◌, ◌↔◌, ◌&&◌, Bool, true, Option, Some}
use Rattle.std.specs.Map.{lookup}
use denote.Enum.Bare.{sameb}
use Rattle.go_base.specs.declared.ids.ObjId.{ObjId}
use Rattle.go_tree.specs.declared.node_kind.NodeKind.TheVariants.{EmbeddedField, EmbeddedPointer}
use Rattle.go_module.specs.Scopes.{same_object}
use Rattle.go_term.specs.Types.{TypeData, made, named, no_parts, of_one, pointer}
use Rattle.go_judge.specs.Headers.{Headers}
use Rattle.go_obligations.specs.contracts.answers.NamedDemand.{the_type}
use Rattle.go_obligations.specs.declared.answers.Answers.{Answers}
use Rattle.go_obligations.specs.declared.answers.NamedDemand.{NamedDemand}
use Rattle.go_obligations.specs.declared.answers.NamedDemand.TheVariants as N
use Rattle.go_obligations.specs.declared.answers.NamedKey.{NamedKey}
use Rattle.go_obligations.specs.declared.obligation.Demand.{Demand}
use Rattle.go_obligations.specs.declared.obligation.Demand.TheVariants as D
use Rattle.go_obligations.specs.Owed.{Fails}

abbrev pub same_key : NamedKey → NamedKey → Bool
same_key a b = sameb the_type a.demand b.demand && same_object a.object b.object

-- the answer at a key, if any
abbrev pub answer_kept : Answers → NamedKey → Option Bool
answer_kept answers key = lookup (same_key key) answers.table.entries

-- a named type without type arguments
abbrev pub named_type : ObjId → TypeData
named_type d = made (named d) no_parts

-- the demand for which one on a named type stands, and the type on which it is made: behind a `*` a pointer type
abbrev pub demand_of : NamedDemand → Demand
demand_of N.NoConstraint = D.NoConstraint
demand_of N.Embeddable = D.Embeddable EmbeddedField
demand_of N.EmbeddableBehindStar = D.Embeddable EmbeddedPointer

abbrev pub type_by : NamedDemand → TypeData → TypeData
type_by N.NoConstraint t = t
type_by N.Embeddable t = t
type_by N.EmbeddableBehindStar t = of_one pointer t

-- a key stands for a demand on a type
pub record IsKeyOf (demand : Demand) (t : TypeData) (key : NamedKey) : Type 0 where
  pub demanded : demand ≡ demand_of key.demand
  pub stands : t ≡ type_by key.demand (named_type key.object)

-- over these headers the type for which a key stands does not meet its demand
abbrev pub FailsAt : Headers → NamedKey → Type 0
FailsAt headers key = Fails headers (demand_of key.demand) (type_by key.demand (named_type key.object))

-- each answer that is kept is right over these headers
abbrev pub AreAnswers : Headers → Answers → Type 0
AreAnswers headers answers = (key : NamedKey) (fails : Bool) → answer_kept answers key ≡ Some fails → (fails ≡ true) ↔ FailsAt headers key
