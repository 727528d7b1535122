-- The names of rules.
-- Decides how a rule is written: the letter of its family, and its number in decimal.
use Rattle.std.specs.Prelude.{ℕ, List, ◌++◌, codes, decimal}
use Rattle.go_base.specs.declared.rule.Family.{Family}
use Rattle.go_base.specs.declared.rule.Family.TheVariants.{S, M, P, C, R, I, N, U, L}
use Rattle.go_base.specs.declared.rule.Rule.{Rule}

abbrev pub family_letter : Family → List ℕ
family_letter S = codes "S"
family_letter M = codes "M"
family_letter P = codes "P"
family_letter C = codes "C"
family_letter R = codes "R"
family_letter I = codes "I"
family_letter N = codes "N"
family_letter U = codes "U"
family_letter L = codes "L"

abbrev pub rule_text : Rule → List ℕ
rule_text rule = family_letter rule.family ++ decimal rule.number
