-- Embedded interfaces (Go specification).
-- Decides what an interface embeds, "directly or indirectly": "an interface T may use a (possibly qualified) interface type
-- name E as an interface element", and the underlying type of E embeds in turn. A type whose underlying type is not known
-- embeds nothing.
use Rattle.std.specs.Prelude.{◌≡◌, false, Option, None, Some, List, [], Contains, option_to_list}
use Rattle.std.specs.List.{flat_map}
use Rattle.go_term.specs.Types.{TypeData, interface_type, list_of, made, more_parts, no_parts, union, union_term}
use Rattle.go_judge.specs.Headers.{Headers}
use Rattle.go_judge.specs.Types.UnderlyingType.{Reaches, under}
use Rattle.go_judge.specs.Quests.{Decided, run}

-- over these headers the underlying type of t is u
abbrev pub IsUnderlying : Headers → TypeData → TypeData → Type 0
IsUnderlying headers t u = run headers (under t) ≡ Decided (Reaches u)

-- the type of an element that is one term without `~`
abbrev pub embedded_type : TypeData → Option TypeData
embedded_type (made union (more_parts (made (union_term false) (more_parts t no_parts)) no_parts)) = Some t
embedded_type elem = None

-- the elements of an interface literal; another type has none
abbrev pub elements_of : TypeData → List TypeData
elements_of (made interface_type elems) = list_of elems
elements_of t = []

-- the types that an interface literal embeds directly
abbrev pub embedded_in : TypeData → List TypeData
embedded_in t = flat_map (λ elem. option_to_list (embedded_type elem)) (elements_of t)

-- over these headers: the type t, and the underlying types of what it embeds, directly or indirectly
pub data Embeds (headers : Headers) (t : TypeData) : TypeData → Type 0 where
  itself : Embeds headers t t
  further : (u e v : TypeData) → Embeds headers t u → Contains (embedded_in u) e → IsUnderlying headers e v → Embeds headers t v
