-- The statuses of a run.
-- Decides the exit status and the message of each, and after which a report was written whole.
use Rattle.std.specs.Prelude.{ℕ, List, [], codes, ⊤}
use Rattle.go_base.specs.declared.status.Status.{Status}
use Rattle.go_base.specs.declared.status.Status.TheVariants.{Accepted, Refused, Usage, Beyond, ReadFault, WriteFault, NoMemory}

abbrev pub status_code : Status → ℕ
status_code Accepted = 0
status_code Refused = 1
status_code Usage = 2
status_code Beyond = 3
status_code ReadFault = 4
status_code WriteFault = 5
status_code NoMemory = 6

abbrev pub status_message : Status → List ℕ
status_message Accepted = []
status_message Refused = []
status_message Usage = codes "usage: gocheck ROOT [--stubs ROOT2]"
status_message Beyond = codes "outside the profile or past a limit"
status_message ReadFault = codes "reading failed"
status_message WriteFault = codes "writing failed"
status_message NoMemory = codes "out of memory"

-- a report was written whole
abbrev pub IsReport : Status → Type 0
IsReport Accepted = ⊤
IsReport Refused = ⊤
IsReport Usage = ⊥
IsReport Beyond = ⊤
IsReport ReadFault = ⊥
IsReport WriteFault = ⊥
IsReport NoMemory = ⊥
