-- Expressions; Types (Go specification).
-- Names the rules by which an operand is not of the kind that is needed.
use Rattle.go_base.specs.declared.rule.Rule.{Rule}
use Rattle.go_base.specs.declared.rule.Family.TheVariants.{C, R}

-- C12: "The length is part of the array's type; it must evaluate to a non-negative constant representable by a value of type
-- int"
abbrev pub no_length : Rule
no_length = record { family = C; number = 12 }

-- C13: something other than a type stands for a type
abbrev pub no_type : Rule
no_type = record { family = C; number = 13 }

-- R1: no value, or no constant, stands where one is needed
abbrev pub no_value : Rule
no_value = record { family = R; number = 1 }
