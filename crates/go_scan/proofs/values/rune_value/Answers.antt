use Rattle.std.proofs.Common.{sym, subst, List, ℕ}
use Rattle.go_scan.specs.Quoted.{IsRuneInside}
use Rattle.go_scan.proofs.InsideLemmas.{rune_inside}
use Rattle.go_scan.proofs.values.rune_value.Goals as goal

pub code_point-requires : goal.code_point-requires
code_point-requires c = subst (λ (xs : List ℕ). IsRuneInside xs) (sym c.inside.ensures) (rune_inside c.args.text.now c.requires)
