-- Parts of what is asked of two operands: as the code finds them.
use Rattle.std.specs.Prelude.{Bool, true, false, Option, Some, None}
use Rattle.go_num.specs.declared.value.NumKind.{NumKind}
use Rattle.go_judge.specs.declared.outcome.Answer.{Answer}
use Rattle.go_judge.specs.declared.outcome.Answer.TheVariants.{No, Yes}
use Rattle.go_constructs.specs.declared.sort.Sort.{Sort}
use Rattle.go_constructs.specs.declared.sort.Sort.TheVariants as S

-- an answer by a test
abbrev pub answer_of : Bool → Answer
answer_of true = Yes
answer_of false = No

-- the kind of an untyped sort
abbrev pub kind_of : Sort → Option NumKind
kind_of (S.Untyped k) = Some k
kind_of s = None
