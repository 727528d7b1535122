-- Records of operands, and what operands are wanted as, as the code has them.
use Rattle.std.specs.Prelude.{IfSome, Option, List, map}
use Rattle.std.specs.Borrow.{Bor}
use Rattle.std.specs.List.{AllByRecursion}
use Rattle.std.specs.Option.{option_map}
use Rattle.go_term.specs.Types.{TypeData}
use Rattle.go_term.specs.declared.term.Term.{Term}
use Rattle.go_judge.specs.declared.rec.Rec.{Rec}
use Rattle.go_judge.specs.Records.{RecData, rec_as}
use Rattle.go_judge.specs.Types.Own.{IsOwnRec}

-- the record of an operand, where it has one
abbrev pub found_as : (Term → TypeData) → Option (Bor Rec) → Option RecData
found_as tree found = option_map (λ rec. rec_as tree rec.now) found

abbrev pub founds_as : (Term → TypeData) → List (Option (Bor Rec)) → List (Option RecData)
founds_as tree founds = map (found_as tree) founds

abbrev pub IsOwnFound : (Term → Type 0) → Option (Bor Rec) → Type 0
IsOwnFound own found = IfSome found (λ rec. IsOwnRec own rec.now)

abbrev pub AreOwnFounds : (Term → Type 0) → List (Option (Bor Rec)) → Type 0
AreOwnFounds own founds = AllByRecursion (IsOwnFound own) founds

-- what operands are wanted as
abbrev pub wants_as : (Term → TypeData) → List (Option Term) → List (Option TypeData)
wants_as tree wants = map (option_map tree) wants

abbrev pub AreOwnWants : (Term → Type 0) → List (Option Term) → Type 0
AreOwnWants own wants = AllByRecursion (λ want. IfSome want own) wants
