-- What questions about types are answered by.
use Rattle.std.specs.Prelude.{◌≡◌, Bool, true, false, Option, None, Some}
use Rattle.go_term.specs.Types.{TypeData}
use Rattle.go_term.specs.declared.fault.TermFault.{TermFault}
use Rattle.go_term.specs.declared.fault.TermFault.TheVariants.{NoMemory}
use Rattle.go_term.specs.declared.term.Term.{Term}
use Rattle.go_judge.specs.declared.form.Form.{Form}
use Rattle.go_judge.specs.declared.form.Form.TheVariants as F
use Rattle.go_judge.specs.declared.form.Reached.{Reached}
use Rattle.go_judge.specs.declared.form.Reached.TheVariants as R
use Rattle.go_judge.specs.declared.outcome.Answer.{Answer}
use Rattle.go_judge.specs.declared.outcome.Answer.TheVariants.{Yes, No, Unknown}
use Rattle.go_judge.specs.Headers.{Headers}
use Rattle.go_judge.specs.Types.UnderlyingType.{Reach, Reaches, Returns, Exceeds, under}
use Rattle.go_judge.specs.Quests.{Asked, Decided, Lacks, run}

-- the underlying type, where there is one: a chain that returns has none, nor has one that leads past the limits
abbrev pub found_in : Reach → Option TypeData
found_in (Reaches t) = Some t
found_in Returns = None
found_in (Exceeds fault) = None

-- what an answer says of a chain, and of an underlying type, where types stand for these
module _ (tree : Term → TypeData) where
  abbrev pub reached_as : Reached → Asked Reach
  reached_as (R.Is t) = Decided (Reaches (tree t))
  reached_as R.Cycle = Decided Returns
  reached_as (R.Unknown d) = Lacks d.0

  abbrev pub form_as : Form → Asked (Option TypeData)
  form_as (F.Is t) = Decided (Some (tree t))
  form_as F.Absent = Decided None
  form_as (F.Unknown d) = Lacks d.0

-- what an answer says of a question that is Yes or No
abbrev pub answer_as : Answer → Asked Bool
answer_as Yes = Decided true
answer_as No = Decided false
answer_as (Unknown d) = Lacks d.0

-- the type that an answer has is one of these
abbrev pub IsOwnForm : (Term → Type 0) → Form → Type 0
IsOwnForm own (F.Is t) = own t
IsOwnForm own F.Absent = Unit {0}
IsOwnForm own (F.Unknown d) = Unit {0}

-- of what was asked, the underlying type
abbrev pub form_asked : Asked Reach → Asked (Option TypeData)
form_asked (Decided reach) = Decided (found_in reach)
form_asked (Lacks d) = Lacks d

-- what the underlying type of a type comes to over the headers
abbrev pub underlying_over : Headers → TypeData → Asked (Option TypeData)
underlying_over headers t = form_asked (run headers (under t))

-- why a chain is not followed to its end: want of memory, or a type on it exceeds the limits so
abbrev pub IsReachCause : TermFault → Headers → TypeData → Type 0
IsReachCause NoMemory headers t = Unit {0}
IsReachCause fault headers t = run headers (under t) ≡ Decided (Exceeds fault)
