-- Qualified identifiers; Selectors (Go specification).
-- Decides what is asked of `x.f`: where f is a name of a package x, what is asked of that name; else x is the operand,
-- and a selector of a value or a type breaks U0, so that its record is never asked.
use Rattle.std.specs.Prelude.{false, [], ◌∷◌}
use Rattle.go_module.specs.Rules.{unbuilt_form}
use Rattle.go_constructs.specs.declared.meaning.Meaning.{Meaning}
use Rattle.go_constructs.specs.declared.meaning.Meaning.TheVariants.{AnyType, BasicType, Declared, DefinedType, Iota, Other, Predeclared, Truth}
use Rattle.go_judge.specs.Judged.{Construct}
use Rattle.go_constructs.specs.Name.{name}
use Rattle.go_judge.specs.Operands.{at_whole, of_one}
use Rattle.go_judge.specs.Records.{HeaderData, RecData}
use Rattle.go_judge.specs.Quests.{Done}

abbrev pub selector : Meaning → Construct HeaderData RecData
selector Other = of_one (λ x. record { tests = at_whole unbuilt_form (Done false) ∷ []; gives = Done x })
selector (Declared d) = name (Declared d)
selector (DefinedType d) = name (DefinedType d)
selector (BasicType d basic) = name (BasicType d basic)
selector (AnyType d) = name (AnyType d)
selector (Truth d truth) = name (Truth d truth)
selector (Iota d n) = name (Iota d n)
selector Predeclared = name Predeclared
