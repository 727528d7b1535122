use Rattle.std.proofs.Common.{◌≡◌, ◌++◌, map, drop}
use Rattle.go_module.specs.Broken.{told}
use Rattle.go_mod.specs.Seen.{seen}
use Rattle.go_mod.proofs.module_file.push_each.Given as goal

-- what was pushed so far and what is left are what is pushed
abbrev pub invariant-loop-line : goal.invariant-loop-line
invariant-loop-line l = l.list.items ++ told 0 l.rule (map (λ p. p.offset) (map seen (drop l.line-index l.lines))) ≡ l.fn.list.items ++ told 0 l.rule (map (λ p. p.offset) (map seen l.lines))
