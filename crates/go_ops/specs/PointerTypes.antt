-- Addresses and pointer types, as the code finds them.
use Rattle.std.specs.Prelude.{◌&&◌, ◌||◌, Bool, Option, None, ◌∷◌, is_some}
use Rattle.go_term.specs.Types as types
use Rattle.go_term.specs.Types.{TypeData}
use Rattle.go_term.specs.declared.term.Term.{Term}
use Rattle.go_judge.specs.declared.rec.Mode.{Mode}
use Rattle.go_judge.specs.declared.rec.Mode.TheVariants as M
use Rattle.go_judge.specs.declared.rec.Rec.{Rec}
use Rattle.go_judge.specs.Limits.{within_limits}
use Rattle.go_judge.specs.Judged.{Asks, OutcomeData, tested}
use Rattle.go_judge.specs.Operands.{at_whole}
use Rattle.go_judge.specs.Records.{HeaderData, RecData}
use Rattle.go_judge.specs.Headers.{Headers}
use Rattle.go_judge.specs.Quests.{Done}
use Rattle.go_constructs.specs.Operators.Constants.{value_record}
use Rattle.go_constructs.specs.Operators.Pointers.{is_addressable, pointer_to}
use Rattle.go_ops.specs.Refusals.{by_whole}
use Rattle.go_constructs.specs.Operators.Rules.{no_address}

-- what is asked of an address behind R1 and R2
abbrev pub address_asks : Bool → RecData → Asks HeaderData RecData
address_asks literal x = record {
  tests = at_whole no_address (Done (is_some x.type && (literal || is_addressable x.mode))) ∷ within_limits (pointer_to x);
  gives = Done (value_record M.Value (pointer_to x) None);
}

-- a node that stands for that and has this type, where nothing else is asked
abbrev pub typed_outcome : Headers → Mode → TypeData → OutcomeData RecData
typed_outcome headers mode type = tested headers (within_limits type) (Done (value_record mode type None))

-- the address of what has this type, and is addressable or not
abbrev pub typed_address : Headers → Bool → TypeData → OutcomeData RecData
typed_address headers addressable t = by_whole no_address addressable (typed_outcome headers M.Value (types.of_one types.pointer t))

-- the term of the type that a record stands for, where it stands for one
abbrev pub term_by : Mode → Option Term → Option Term
term_by M.IsType term = term
term_by mode term = None

abbrev pub term_in : Rec → Option Term
term_in rec = term_by rec.mode rec.ty
