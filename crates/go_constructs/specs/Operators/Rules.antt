-- Operators; Constant expressions; Address operators; Receive operator (Go specification).
-- Names the rules that operators have.
use Rattle.go_base.specs.declared.rule.Rule.{Rule}
use Rattle.go_base.specs.declared.rule.Family.TheVariants.{L, R, U}

-- R2: several values stand where one is needed
abbrev pub several_values : Rule
several_values = record { family = R; number = 2 }

-- R3: a unary operator is not defined on the type
abbrev pub undefined_unary : Rule
undefined_unary = record { family = R; number = 3 }

-- R4: operand types do not match
abbrev pub mismatched_operands : Rule
mismatched_operands = record { family = R; number = 4 }

-- R5: an operator is not defined on the type
abbrev pub undefined_binary : Rule
undefined_binary = record { family = R; number = 5 }

-- R6: operands do not compare
abbrev pub incomparable_operands : Rule
incomparable_operands = record { family = R; number = 6 }

-- R7: an integer or a constant is divided by a constant zero
abbrev pub division_by_zero : Rule
division_by_zero = record { family = R; number = 7 }

-- R8: a constant is not represented by the integer type that it is given, or a typed constant overflows
abbrev pub constant_overflow : Rule
constant_overflow = record { family = R; number = 8 }

-- R9: a shift count or a left operand of a shift is not allowed
abbrev pub invalid_shift : Rule
invalid_shift = record { family = R; number = 9 }

-- R10: `&` of what is neither addressable nor a composite literal
abbrev pub no_address : Rule
no_address = record { family = R; number = 10 }

-- R11: `*` of no pointer
abbrev pub no_pointer : Rule
no_pointer = record { family = R; number = 11 }

-- R12: a receive from no channel, or from one for sending alone
abbrev pub no_receive : Rule
no_receive = record { family = R; number = 12 }

-- U9: a constant of a float type is no whole number that is kept (own)
abbrev pub unkept_float : Rule
unkept_float = record { family = U; number = 9 }

-- L3: a string constant has at most 1,048,576 bytes
abbrev pub long_text : Rule
long_text = record { family = L; number = 3 }
