-- Integer literals; Rune literals; String literals; Constants (Go specification).
-- Decides what is asked of a literal, which has no operand. "An integer literal is a sequence of digits representing an
-- integer constant"; "A rune literal represents a rune constant, an integer value identifying a Unicode code point"; "A
-- string literal represents a string constant obtained from concatenating a sequence of characters". Own: L2 and L3, whether
-- the value is within the limits; a text that is no string literal stands for the empty string, and no literal has one.
use Rattle.std.specs.Prelude.{ℕ, pos, is_some, length, nat_le, List, [], ◌∷◌, unwrap_or}
use Rattle.go_num.specs.Arithmetic.{limited}
use Rattle.go_num.specs.Text.{most_text}
use Rattle.go_num.specs.declared.value.Value.TheVariants.{Int, Text}
use Rattle.go_scan.specs.StringTexts.{string_of}
use Rattle.go_term.specs.Types.{TypeData, basic_type}
use Rattle.go_term.specs.declared.basic.Basic.TheVariants.{UntypedInt, UntypedRune, UntypedString}
use Rattle.go_tree.specs.Lexical.LiteralValues.{int_lit_value, rune_lit_value}
use Rattle.go_judge.specs.Judged.{Construct}
use Rattle.go_judge.specs.Limits.{wide_integer}
use Rattle.go_judge.specs.Operands.{at_whole, leaf}
use Rattle.go_judge.specs.Quests.{Done}
use Rattle.go_judge.specs.Records.{HeaderData, RecData}
use Rattle.go_constructs.specs.Operators.Constants.{constant_record}
use Rattle.go_constructs.specs.Operators.Rules.{long_text}

-- one that stands for this number, an untyped constant of this kind
abbrev pub number_literal : TypeData → ℕ → Construct HeaderData RecData
number_literal kind n = leaf (record {
  tests = at_whole wide_integer (Done (is_some (limited (pos n)))) ∷ [];
  gives = Done (constant_record kind (Int (pos n)));
})

-- one that stands for these bytes
abbrev pub bytes_literal : List ℕ → Construct HeaderData RecData
bytes_literal bytes = leaf (record {
  tests = at_whole long_text (Done (nat_le (length bytes) most_text)) ∷ [];
  gives = Done (constant_record (basic_type UntypedString) (Text bytes));
})

-- by how they are written
abbrev pub integer_literal : List ℕ → Construct HeaderData RecData
integer_literal written = number_literal (basic_type UntypedInt) (int_lit_value written)

abbrev pub rune_literal : List ℕ → Construct HeaderData RecData
rune_literal written = number_literal (basic_type UntypedRune) (rune_lit_value written)

abbrev pub string_literal : List ℕ → Construct HeaderData RecData
string_literal written = bytes_literal (unwrap_or (string_of written) [])
