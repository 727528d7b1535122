-- Limits on constants and on types.
-- Names the rules by which a value or a type is too large to be checked, and asks those on types (own).
use Rattle.std.specs.Prelude.{not, nat_lt, List, [], ◌∷◌, ◌++◌}
use Rattle.go_base.specs.declared.rule.Rule.{Rule}
use Rattle.go_base.specs.declared.rule.Family.TheVariants.{L}
use Rattle.go_term.specs.Size.{depth, most_depth, most_nodes, nodes}
use Rattle.go_term.specs.Types.{TypeData}
use Rattle.go_judge.specs.Judged.{Asks, RuleTest}
use Rattle.go_judge.specs.Operands.{are_types, at_whole}
use Rattle.go_judge.specs.Records.{RecData, type_record}
use Rattle.go_judge.specs.Quests.{Done}

-- L2: a constant integer is from -2^127 to 2^127-1
abbrev pub wide_integer : Rule
wide_integer = record { family = L; number = 2 }

-- L4: a type is at most 256 types deep
abbrev pub deep_type : Rule
deep_type = record { family = L; number = 4 }

-- L5: a type has at most 65,536 nodes
abbrev pub large_type : Rule
large_type = record { family = L; number = 5 }

abbrev pub within_limits : {H : Type 0} → TypeData → List (RuleTest H)
within_limits type =
    at_whole deep_type (Done (not (nat_lt most_depth (depth type))))
    ∷ (at_whole large_type (Done (not (nat_lt most_nodes (nodes type)))) ∷ [])

-- what is asked of a node that stands for this type, behind these tests
abbrev pub makes : {H : Type 0} → List (RuleTest H) → TypeData → Asks H RecData
makes tests type = record { tests = tests ++ within_limits type; gives = Done (type_record type) }

-- and of a type literal, whose operands are types
abbrev pub makes_of : {H : Type 0} → List RecData → TypeData → Asks H RecData
makes_of rs type = makes (are_types 0 rs ∷ []) type
