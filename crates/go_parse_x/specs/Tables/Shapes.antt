-- Shapes: which right side a place stands for, by the places of its parts.
use Rattle.std.specs.Prelude.{◌≡◌, false}
use Rattle.go_tree.specs.declared.production.Production.{Production}
use Rattle.go_tree.specs.Grammar.Tables.Prediction.{is_empty}
use Rattle.go_tree.specs.Grammar.Trees.Sentence.{tables}
use Rattle.go_tree.specs.Grammar.RightSide as r
use Rattle.go_tree.specs.Grammar.RightSide.{RightSide, Do}
use Rattle.go_parse_x.specs.declared.line.Act as act
use Rattle.go_parse_x.specs.declared.line.Act.TheVariants as a
use Rattle.go_parse_x.specs.declared.shape.Shape.{Shape}
use Rattle.go_parse_x.specs.declared.shape.Shape.TheVariants.{Pass, Act, Call, Nothing, Seq, Or, Many, When}
use Rattle.go_parse_x.specs.Tables.Leads.{IsSetOf}
use Rattle.go_parse_x.specs.Tables.Lines.{ahead_of, side}

abbrev pub act_of : act.Act → r.Act
act_of a.Open = r.Open
act_of a.Reopen = r.Reopen
act_of a.Adopt = r.Adopt
act_of a.CheckType = r.CheckType
act_of (a.Close kind) = r.Close kind

abbrev pub side_of : Shape → RightSide Production
side_of (Pass kind) = Do (r.Pass kind)
side_of (Act a) = Do (act_of a)
side_of (Call n) = r.Call n
side_of Nothing = r.Nothing
side_of (Seq g h) = r.Seq (side g) (side h)
side_of (Or set g h) = r.Or (side g) (side h)
side_of (Many set g) = r.Many (side g)
side_of (When asked g h) = r.When (ahead_of asked) (side g) (side h)

-- the sets of a shape are right, and the first of two is never empty
abbrev pub IsLed : Shape → Type 0
IsLed (Or set g h) = IsSetOf set (side g) × (is_empty tables (side g) ≡ false)
IsLed (Many set g) = IsSetOf set (side g)
IsLed _ = Unit {0}
