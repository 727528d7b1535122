-- The rules on the form of a file, each by its family and its number in the table of rules.
use Rattle.go_base.specs.declared.rule.Rule.{Rule}
use Rattle.go_base.specs.declared.rule.Family.TheVariants.{S, U}

abbrev pub mixed_parameters : Rule
mixed_parameters = record { family = S; number = 4 }

abbrev pub misplaced_variadic : Rule
misplaced_variadic = record { family = S; number = 5 }

abbrev pub misplaced_guard : Rule
misplaced_guard = record { family = S; number = 6 }

abbrev pub bad_defined_name : Rule
bad_defined_name = record { family = S; number = 7 }

abbrev pub missing_values : Rule
missing_values = record { family = S; number = 8 }

abbrev pub bad_communication : Rule
bad_communication = record { family = S; number = 9 }

abbrev pub bad_switch_header : Rule
bad_switch_header = record { family = S; number = 10 }

abbrev pub missing_call : Rule
missing_call = record { family = S; number = 11 }

abbrev pub repeated_default : Rule
repeated_default = record { family = S; number = 12 }

abbrev pub defining_post_statement : Rule
defining_post_statement = record { family = S; number = 13 }

abbrev pub bad_receiver_list : Rule
bad_receiver_list = record { family = S; number = 14 }

abbrev pub generic_method : Rule
generic_method = record { family = S; number = 15 }

abbrev pub third_range_variable : Rule
third_range_variable = record { family = S; number = 16 }

abbrev pub open_array_type : Rule
open_array_type = record { family = S; number = 17 }

abbrev pub several_operands : Rule
several_operands = record { family = S; number = 18 }

abbrev pub float_literal : Rule
float_literal = record { family = U; number = 2 }

abbrev pub build_constraint : Rule
build_constraint = record { family = U; number = 3 }

abbrev pub generic_alias : Rule
generic_alias = record { family = U; number = 4 }

abbrev pub local_generic_type : Rule
local_generic_type = record { family = U; number = 5 }
