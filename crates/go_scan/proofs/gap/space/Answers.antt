use Rattle.std.proofs.Common.{sym, ◌∙◌}
use Rattle.go_tree.proofs.SpaceLemmas.{blank_lies}
use Rattle.go_scan.proofs.gap.space.Goals as goal

pub returns-then-is_white_space-clause-space : goal.returns-then-is_white_space-clause-space
returns-then-is_white_space-clause-space c =
    let l = blank_lies c.args.bytes.now c.args.at (rw c.byte_at-byte.ensures at (sym c.is_white_space.ensures ∙ c.if-is_white_space.true)) in
    (l.space, l.behind, l.within)
