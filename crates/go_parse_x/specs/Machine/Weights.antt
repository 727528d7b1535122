-- How many steps are left before a token is passed, at most.
use Rattle.std.specs.Prelude.{ℕ, ◌+◌, List, [], ◌∷◌, cond}
use Rattle.go_tree.specs.declared.production.Items.TheVariants.{ImportSpecs, ConstSpecs, VarSpecs, TypeSpecs, TypeParamGroups, Types, Parameters, Fields, Elems, Indexes, Elements}
use Rattle.go_tree.specs.declared.production.Production.{Production}
use Rattle.go_tree.specs.declared.production.Production.TheVariants as p
use Rattle.go_tree.specs.Grammar.RightSide.{RightSide, Do, Call, Nothing, Seq, Or, Many, When}
use Rattle.go_tree.specs.Grammar.Tables.Prediction.{is_empty}
use Rattle.go_tree.specs.Grammar.Trees.Sentence.{tables}

-- the weight of a production: one more than that of its right side
abbrev pub weight : Production → ℕ
weight p.Import = 5
weight p.ImportSpec = 22
weight p.Top = 21
weight p.FuncRest = 22
weight p.Name = 5
weight p.StringLit = 5
weight p.Decl = 15
weight p.ConstSpec = 15
weight p.VarSpec = 15
weight p.Idents = 10
weight (p.Exprs _) = 135
weight p.TypeSpec = 9
weight p.TypeSpecBracket = 129
weight p.TypeParam = 10
weight p.ConstraintAfterName = 66
weight (p.More ImportSpecs) = 5
weight (p.More ConstSpecs) = 5
weight (p.More VarSpecs) = 5
weight (p.More TypeSpecs) = 5
weight (p.More TypeParamGroups) = 3
weight (p.More Types) = 3
weight (p.More Parameters) = 3
weight (p.More Fields) = 5
weight (p.More Elems) = 5
weight (p.More Indexes) = 3
weight (p.More Elements) = 3
weight p.AnyType = 70
weight p.TypeNoBracket = 64
weight p.TypeNoName = 62
weight p.ResultType = 56
weight p.ChanElem = 63
weight p.TypeName = 7
weight p.BracketType = 5
weight p.Signature = 11
weight p.Param = 76
weight p.ParamAfterName = 84
weight p.Field = 12
weight p.FieldAfterName = 92
weight p.Elem = 79
weight p.Union = 82
weight p.Term = 77
weight (p.Expr _) = 130
weight (p.Conjunction _) = 128
weight (p.Comparison _) = 126
weight (p.CompareTail _) = 36
weight (p.Sum _) = 124
weight (p.AddTail _) = 24
weight (p.Product _) = 122
weight (p.MulTail _) = 42
weight (p.Unary _) = 120
weight p.Operand = 69
weight p.BasicLit = 21
weight p.FuncOperand = 5
weight p.AfterName = 26
weight p.AfterSelector = 26
weight p.AfterIndex = 27
weight p.Suffix = 15
weight p.CallRest = 135
weight p.AfterArg = 9
weight p.Element = 140
weight p.ElementPart = 138
weight p.ExprNoName = 114
weight p.Tails = 124
weight p.CallOrDot = 11
weight p.Stmt = 214
weight (p.Simple _) = 132
weight (p.AfterExpr _) = 72
weight (p.SimpleTail _) = 65
weight (p.Clause _) = 11
weight (p.ClauseBody _) = 237
weight (p.AfterClauseStmt _) = 7
weight p.For = 5
weight p.ForAfterExpr = 90
weight p.ForClauses = 138
weight _ = 6

-- the weight of a right side up to its first token
abbrev pub weigh : RightSide Production → ℕ
weigh (Do a) = 1
weigh (Call n) = weight n
weigh Nothing = 1
weigh (Seq g h) = 1 + weigh g + cond (is_empty tables g) (weigh h) 0
weigh (Or g h) = 1 + weigh g + weigh h
weigh (Many g) = 1 + weigh g
weigh (When a g h) = 1 + weigh g + weigh h

-- the weight of all these, up to the first token
abbrev pub cost : List (RightSide Production) → ℕ
cost [] = 0
cost (g ∷ gs) = weigh g + cond (is_empty tables g) (cost gs) 0
