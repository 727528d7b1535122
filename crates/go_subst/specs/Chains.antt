-- Underlying types (Go specification), one turn of a chain of types at a time.
-- Says what a turn leaves of a chain that has come to a type through the named types of a path, where some turns are left.
use Rattle.std.specs.Prelude.{◌≡◌, ℕ, List, Option, map, option_and_then, reverse, Some}
use Rattle.indexmap.specs.IndexMap.{keys}
use Rattle.go_base.specs.declared.ids.ObjId.{ObjId}
use Rattle.go_term.specs.Size.{size_fault}
use Rattle.go_term.specs.Types.{TypeData, made}
use Rattle.go_term.specs.View.{type_of}
use Rattle.go_term.specs.declared.fault.TermFault.{TermFault}
use Rattle.go_term.specs.declared.fault.TermFault.TheVariants.{NoMemory}
use Rattle.go_judge.specs.Records.{HeaderData}
use Rattle.go_judge.specs.Headers.{Headers}
use Rattle.go_judge.specs.Types.Forms.{reached_as}
use Rattle.go_judge.specs.Types.UnderlyingType.{Exceeds, Origin, Reach, Reaching, declared_by, literal_of, on_with, refers_to, under_from}
use Rattle.go_judge.specs.Quests.{Asked, Decided, Need, run}
use Rattle.go_subst.specs.declared.path.Origin as declared
use Rattle.go_subst.specs.declared.path.Path.{Path}
use Rattle.go_subst.specs.declared.underlying.Turn.{Turn}
use Rattle.go_subst.specs.declared.underlying.Turn.TheVariants.{End, On}

abbrev pub origin_as : declared.Origin → Origin
origin_as o = (o.declaration, o.parameter)

-- where the named types of a path are declared, the last first
abbrev pub path_of : Path → List Origin
path_of path = reverse (map origin_as (keys path.met))

-- where a type is declared, if it is a named type
abbrev pub origin_of : TypeData → Option Origin
origin_of (made head parts) = declared_by head

-- the type at which a chain ends that has come to a type that is no named type
abbrev pub literal : TypeData → TypeData
literal (made head parts) = literal_of head parts

-- the type to which a type refers, by the header of that declaration
abbrev pub referred : TypeData → HeaderData → Option TypeData
referred (made head parts) header = refers_to head parts header

-- why the type that is referred to is not made: want of memory, or exactly its size
abbrev pub IsReferredCause : TermFault → Option TypeData → Type 0
IsReferredCause NoMemory next = Unit {0}
IsReferredCause fault next = option_and_then size_fault next ≡ Some fault

-- on from a type, to which the chain comes for the first time, by the header of its declaration
abbrev pub asked_from : ℕ → List Origin → TypeData → ObjId → Reaching
asked_from n path t d = Need d.0 (λ header. on_with (under_from n path) t (referred t header))

-- what the chain comes to after a turn, which leaves this path and so many turns
abbrev pub turn_as : Headers → ℕ → List Origin → Turn → Asked Reach
turn_as headers n path (End reached) = reached_as type_of reached
turn_as headers n path (On next) = run headers (under_from n path (type_of next))

-- why there is no turn: want of memory, or the next type exceeds the limits so, however many turns are left
abbrev pub IsTurnCause : TermFault → Headers → (ℕ → Reaching) → Type 0
IsTurnCause NoMemory headers chain = Unit {0}
IsTurnCause fault headers chain = (n : ℕ) → run headers (chain n) ≡ Decided (Exceeds fault)
