use Rattle.std.proofs.Common.{◌≡◌, None}
use Rattle.go_parse_tests.proofs.cursor_tests.shows.Given as goal

-- the cursor is not spent
abbrev pub invariant-loop-row : goal.invariant-loop-row
invariant-loop-row g l = l.cursor.fault ≡ None
