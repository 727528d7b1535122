-- The status of a run.
-- Decides with which status the report of a module, or the rules that it breaks before its packages are checked, end a
-- run.
use Rattle.std.specs.Prelude.{Bool, true, false, if◌then◌else◌, List, []}
use Rattle.std.specs.List.{list_all, list_any}
use Rattle.go_base.specs.declared.rule.Family.{Family}
use Rattle.go_base.specs.declared.rule.Family.TheVariants.{U, L}
use Rattle.go_base.specs.declared.status.Status.{Status}
use Rattle.go_base.specs.declared.status.Status.TheVariants.{Accepted, Refused, Beyond}
use Rattle.go_module.specs.declared.places.Placed.{Placed}
use Rattle.go_report.specs.Phases.{is_accepted}
use Rattle.go_report.specs.Report.{VerdictData, accepted, refused, skipped, ReportData}

-- a rule on forms outside the language that is checked, or a limit
abbrev pub is_beyond : Family → Bool
is_beyond U = true
is_beyond L = true
is_beyond _ = false

abbrev pub has_beyond : List Placed → Bool
has_beyond list = list_any (λ placed. is_beyond placed.rule.family) list

-- the status that rules end a run with which are broken before packages are checked
abbrev pub refusal_of : List Placed → Status
refusal_of list = if has_beyond list then Beyond else Refused

-- the rules that a package breaks
abbrev pub broken_in : VerdictData → List Placed
broken_in (accepted lines named) = []
broken_in (refused list) = list
broken_in skipped = []

-- the status that the report of a module ends a run with, whose packages are checked; where rules are broken before, it is
-- `refusal_of`
abbrev pub verdict_of : ReportData → Status
verdict_of report =
    if list_any (λ p. has_beyond (broken_in p.verdict)) report.packages then Beyond
    else if list_all (λ p. is_accepted p.verdict) report.packages then Accepted else Refused
