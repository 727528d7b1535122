-- How many steps a right side has.
use Rattle.std.specs.Prelude.{ℕ, ◌+◌}
use Rattle.go_tree.specs.declared.production.Production.{Production}
use Rattle.go_tree.specs.Grammar.RightSide.{RightSide, Do, Call, Nothing, Seq, Or, Many, When}

abbrev pub size : RightSide Production → ℕ
size (Do a) = 1
size (Call n) = 1
size Nothing = 1
size (Seq g h) = 1 + size g + size h
size (Or g h) = 1 + size g + size h
size (Many g) = 1 + size g
size (When a g h) = 1 + size g + size h
