use Rattle.std.proofs.Common.{take}
use Rattle.go_names.specs.Views.{trees_at}
use Rattle.go_scope.specs.Members.{AreMarks}
use Rattle.go_scope.proofs.member_rules.marks_of.Given as goal

-- the marks of the names so far
abbrev pub invariant-loop-name : goal.invariant-loop-name
invariant-loop-name l = AreMarks (trees_at (take l.name-index l.names)) l.marks.entries
