-- When an answer is what is wanted.
use Rattle.std.specs.Prelude.{◌≡◌}
use Rattle.go_rows.specs.declared.answer.Answer.{Answer}

-- the bytes that were answered are those that are wanted
abbrev pub IsAsWanted : Answer → Type 0
IsAsWanted answer = answer.found.items ≡ answer.wanted.items
