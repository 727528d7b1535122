use Rattle.std.proofs.Common.{take}
use Rattle.go_load.specs.Packages.Trees.{AreParsed}
use Rattle.go_load.proofs.parse_texts.parse_each.Given as goal

-- the first texts are parsed
abbrev pub invariant-loop-number : goal.invariant-loop-number
invariant-loop-number l = AreParsed (take l.number l.texts) l.parsed.files.items l.parsed.next l.parsed.broken.items
