-- Struct types (Go specification).
-- Decides which types may be embedded in a struct: "An embedded field must be specified as a type name T or as a pointer to
-- a non-interface type name *T, and T itself may not be a pointer type or type parameter." An alias of a pointer type is one
-- (own).
use Rattle.std.specs.Prelude.{◌&&◌, Bool, true, false, not}
use Rattle.std.specs.Option.{option_map_or}
use Rattle.go_base.specs.declared.rule.Rule.{Rule}
use Rattle.go_base.specs.declared.rule.Family.TheVariants.{C}
use Rattle.go_tree.specs.declared.node_kind.NodeKind.{NodeKind}
use Rattle.go_tree.specs.declared.node_kind.NodeKind.TheVariants.{EmbeddedField, EmbeddedPointer}
use Rattle.go_term.specs.Types.{TypeData, made, more_parts, no_parts, param, pointer}
use Rattle.go_judge.specs.Types.Forms.{found_in}
use Rattle.go_judge.specs.Types.TypeIdentity.{Test}
use Rattle.go_judge.specs.Types.TypeSets.{is_interface}
use Rattle.go_judge.specs.Types.UnderlyingType.{under}
use Rattle.go_judge.specs.Quests.{Done, then_ask}

-- C9: an embedded type is not allowed
abbrev pub invalid_embedding : Rule
invalid_embedding = record { family = C; number = 9 }

-- a type with this underlying type, behind a `*` or not
abbrev pub embeds_as : Bool → TypeData → Bool
embeds_as starred (made pointer parts) = false
embeds_as starred u = not (starred && is_interface u)

abbrev pub may_embed : Bool → TypeData → Test
may_embed starred (made (param d i) parts) = Done false
may_embed starred t = then_ask (under t) (λ reach. Done (option_map_or (embeds_as starred) (found_in reach) true))

-- by the kind of an embedded field and its type
abbrev pub may_be_embedded : NodeKind → TypeData → Test
may_be_embedded EmbeddedField t = may_embed false t
may_be_embedded EmbeddedPointer (made pointer (more_parts t no_parts)) = may_embed true t
may_be_embedded kind t = Done true
