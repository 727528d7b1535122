-- Function types; Declarations; Composite literals; Statements (Go specification).
-- Decides what is broken at one node of a file, by all rules on the form of a file. Which node breaks
-- which rule is left to the families.
use Rattle.std.specs.Prelude.{ℕ, List, ◌++◌}
use Rattle.go_base.specs.declared.rule.Broken.{Broken}
use Rattle.go_tree.specs.Tree.{Tree}
use Rattle.go_module.specs.Broken.{told}
use Rattle.go_form.specs.Rules as rule
use Rattle.go_form.specs.Families.Parameters.{mixed_parameters_at, misplaced_variadics_at, bad_receiver_list_at, generic_method_at}
use Rattle.go_form.specs.Families.Declarations.{missing_values_at, open_array_types_at, float_literal_at, generic_alias_at, local_generic_types_at}
use Rattle.go_form.specs.Families.Guards.{misplaced_guards_at}
use Rattle.go_form.specs.Families.Statements.{bad_defined_names_at, missing_call_at, defining_post_statement_at, third_range_variable_at, several_operands_at}
use Rattle.go_form.specs.Families.SwitchStatements.{bad_switch_header_at, repeated_defaults_at, bad_communication_at}

abbrev pub broken_parameters : ℕ → Tree → List Broken
broken_parameters file t =
    told file rule.mixed_parameters (mixed_parameters_at t)
    ++ (told file rule.misplaced_variadic (misplaced_variadics_at t)
    ++ (told file rule.bad_receiver_list (bad_receiver_list_at t)
    ++ told file rule.generic_method (generic_method_at t)))

abbrev pub broken_declarations : ℕ → Tree → List Broken
broken_declarations file t =
    told file rule.missing_values (missing_values_at t)
    ++ told file rule.open_array_type (open_array_types_at t)

-- own: forms of Go outside the language that is checked
abbrev pub unsupported_forms : ℕ → Tree → List Broken
unsupported_forms file t =
    told file rule.float_literal (float_literal_at t)
    ++ (told file rule.generic_alias (generic_alias_at t)
    ++ told file rule.local_generic_type (local_generic_types_at t))

abbrev pub broken_assignments : ℕ → Tree → List Broken
broken_assignments file t =
    told file rule.bad_defined_name (bad_defined_names_at t)
    ++ told file rule.several_operands (several_operands_at t)

abbrev pub broken_statements : ℕ → Tree → List Broken
broken_statements file t =
    told file rule.missing_call (missing_call_at t)
    ++ (told file rule.defining_post_statement (defining_post_statement_at t)
    ++ told file rule.third_range_variable (third_range_variable_at t))

abbrev pub broken_switches : ℕ → Tree → List Broken
broken_switches file t =
    told file rule.misplaced_guard (misplaced_guards_at t)
    ++ (told file rule.bad_communication (bad_communication_at t)
    ++ (told file rule.bad_switch_header (bad_switch_header_at t)
    ++ told file rule.repeated_default (repeated_defaults_at t)))

-- what is broken at one node of the file
abbrev pub broken_at_node : ℕ → Tree → List Broken
broken_at_node file t =
    broken_parameters file t
    ++ (broken_declarations file t
    ++ (unsupported_forms file t
    ++ (broken_assignments file t
    ++ (broken_statements file t
    ++ broken_switches file t))))
