-- The text of values.
-- Decides how the value of a constant reads.
use Rattle.std.specs.Prelude.{ℕ, Bool, true, false, List, codes}
use Rattle.std.specs.Fmt.{signed_decimal}
use Rattle.go_num.specs.declared.value.Value.{Value}
use Rattle.go_num.specs.declared.value.Value.TheVariants.{Bool as Truth, Int, Text}
use Rattle.go_num.specs.Strings.{string_text}

abbrev pub truth_text : Bool → List ℕ
truth_text true = codes "true"
truth_text false = codes "false"

abbrev pub value_text : Value → List ℕ
value_text (Truth b) = truth_text b
value_text (Int v) = signed_decimal v
value_text (Text text) = string_text text
