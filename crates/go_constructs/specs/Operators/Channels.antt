-- Receive operator (Go specification).
-- Decides what is asked of `<-x`: "For an operand ch whose core type is a channel, the value of the receive operation
-- <-ch is the value received from the channel ch. The channel direction must permit receive operations, and the type of
-- the receive operation is the element type of the channel." Core types are underlying types, as long as there are no
-- type parameters.
use Rattle.std.specs.Prelude.{is_some, Bool, true, false, Option, Some, None, [], ◌∷◌, if◌then◌else◌, unwrap_or}
use Rattle.go_term.specs.Types.{TypeData, channel, made, more_parts, no_parts}
use Rattle.go_term.specs.declared.term.Dir.{Dir}
use Rattle.go_term.specs.declared.term.Dir.TheVariants.{Both, Receive, Send}
use Rattle.go_judge.specs.declared.rec.Mode.TheVariants as M
use Rattle.go_judge.specs.Judged.{Asks}
use Rattle.go_judge.specs.Operands.{are_values, at_whole, type_or_none}
use Rattle.go_judge.specs.Records.{HeaderData, RecData}
use Rattle.go_constructs.specs.Operators.Constants.{value_record}
use Rattle.go_constructs.specs.Operators.Matching.{are_single}
use Rattle.go_constructs.specs.Operators.Pointers.{under_operand}
use Rattle.go_constructs.specs.Operators.Rules.{no_receive}

abbrev pub permits_receive : Dir → Bool
permits_receive Send = false
permits_receive Receive = true
permits_receive Both = true

-- the type of what is received
abbrev pub received_from : Option TypeData → Option TypeData
received_from (Some (made (channel dir) (more_parts element no_parts))) = if permits_receive dir then Some element else None
received_from type = None

abbrev pub receive : RecData → Asks HeaderData RecData
receive x = record {
  tests =
      are_values 0 (x ∷ [])
      ∷ (are_single (x ∷ [])
      ∷ (at_whole no_receive (under_operand x (λ u. is_some (received_from u))) ∷ []));
  gives = under_operand x (λ u. value_record M.CommaOk (unwrap_or (received_from u) (type_or_none x)) None);
}
