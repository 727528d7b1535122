-- The one list of all productions: what holds at each of them holds at every production. A test that computes to
-- true at each is proved by `by_test _ refl`, any other fact that computes there by `by_production _ assumption`.
use Rattle.std.specs.Prelude.{◌≡◌, Bool, true, List, [], ◌∷◌}
use Rattle.std.specs.List.{AllByRecursion, list_all}
use Rattle.std.proofs.lemmas.List.Elements.{recursion_from_All}
use Rattle.std.proofs.lemmas.List.Sums.{AllPass-from_list_all}
use Rattle.go_tree.specs.declared.production.Form.TheVariants.{Plain, Header}
use Rattle.go_tree.specs.declared.production.Items.TheVariants.{ImportSpecs, ConstSpecs, VarSpecs, TypeSpecs, TypeParamGroups, Types, Parameters, Fields, Elems, Indexes, Elements}
use Rattle.go_tree.specs.declared.production.Clauses.TheVariants.{Cases, Comms}
use Rattle.go_tree.specs.declared.production.Production.{Production}
use Rattle.go_tree.specs.declared.production.Production.TheVariants as p

-- in the order of their declaration
abbrev pub all_productions : List Production
all_productions =
    p.File ∷ p.Import ∷ p.ImportSpec ∷ p.Top ∷ p.FuncRest ∷ p.Name ∷ p.StringLit ∷ p.Decl
    ∷ p.ConstSpec ∷ p.VarSpec ∷ p.Idents ∷ p.Exprs Plain ∷ p.Exprs Header ∷ p.TypeSpec
    ∷ p.TypeSpecBracket ∷ p.TypeParams ∷ p.TypeParam ∷ p.ConstraintAfterName ∷ p.More ImportSpecs
    ∷ p.More ConstSpecs ∷ p.More VarSpecs ∷ p.More TypeSpecs ∷ p.More TypeParamGroups ∷ p.More Types
    ∷ p.More Parameters ∷ p.More Fields ∷ p.More Elems ∷ p.More Indexes ∷ p.More Elements
    ∷ p.AnyType ∷ p.TypeNoBracket ∷ p.TypeNoName ∷ p.ResultType ∷ p.ChanElem ∷ p.TypeName
    ∷ p.TypeArgs ∷ p.ParenType ∷ p.StarType ∷ p.BracketType ∷ p.MapType ∷ p.RecvChan ∷ p.ChanType
    ∷ p.FuncType ∷ p.Signature ∷ p.Params ∷ p.Param ∷ p.ParamAfterName ∷ p.StructType ∷ p.Field
    ∷ p.FieldAfterName ∷ p.InterfaceType ∷ p.Elem ∷ p.Union ∷ p.Term ∷ p.Expr Plain ∷ p.Expr Header
    ∷ p.OrTail Plain ∷ p.OrTail Header ∷ p.Conjunction Plain ∷ p.Conjunction Header
    ∷ p.AndTail Plain ∷ p.AndTail Header ∷ p.Comparison Plain ∷ p.Comparison Header
    ∷ p.CompareTail Plain ∷ p.CompareTail Header ∷ p.Sum Plain ∷ p.Sum Header ∷ p.AddTail Plain
    ∷ p.AddTail Header ∷ p.Product Plain ∷ p.Product Header ∷ p.MulTail Plain ∷ p.MulTail Header
    ∷ p.Unary Plain ∷ p.Unary Header ∷ p.Operand ∷ p.BasicLit ∷ p.FuncOperand ∷ p.AfterName
    ∷ p.AfterSelector ∷ p.AfterIndex ∷ p.Suffix ∷ p.CallRest ∷ p.AfterArg ∷ p.Value ∷ p.Element
    ∷ p.ElementPart ∷ p.ExprNoName ∷ p.Tails ∷ p.CallOrDot ∷ p.Block ∷ p.Stmt ∷ p.Simple Plain
    ∷ p.Simple Header ∷ p.AfterExpr Plain ∷ p.AfterExpr Header ∷ p.SimpleTail Plain
    ∷ p.SimpleTail Header ∷ p.If ∷ p.Switch ∷ p.Select ∷ p.Clause Cases ∷ p.Clause Comms
    ∷ p.ClauseBody Cases ∷ p.ClauseBody Comms ∷ p.AfterClauseStmt Cases ∷ p.AfterClauseStmt Comms
    ∷ p.For ∷ p.ForAfterExpr ∷ p.ForClauses ∷ []

-- A production with a parameter has a line for one of its values: the last line covers the others only below such a
-- line.
pub by_production : (P : Production → Type 0) → AllByRecursion P all_productions → (n : Production) → P n
by_production P h (p.Exprs Plain) = assumption
by_production P h (p.More ImportSpecs) = assumption
by_production P h (p.Expr Plain) = assumption
by_production P h (p.OrTail Plain) = assumption
by_production P h (p.Conjunction Plain) = assumption
by_production P h (p.AndTail Plain) = assumption
by_production P h (p.Comparison Plain) = assumption
by_production P h (p.CompareTail Plain) = assumption
by_production P h (p.Sum Plain) = assumption
by_production P h (p.AddTail Plain) = assumption
by_production P h (p.Product Plain) = assumption
by_production P h (p.MulTail Plain) = assumption
by_production P h (p.Unary Plain) = assumption
by_production P h (p.Simple Plain) = assumption
by_production P h (p.AfterExpr Plain) = assumption
by_production P h (p.SimpleTail Plain) = assumption
by_production P h (p.Clause Cases) = assumption
by_production P h (p.ClauseBody Cases) = assumption
by_production P h (p.AfterClauseStmt Cases) = assumption
by_production P h _ = assumption

pub by_test : (test : Production → Bool) → list_all test all_productions ≡ true → (n : Production) → test n ≡ true
by_test test h =
    let P : Production → Type 0 = λ n. test n ≡ true in
    by_production P (recursion_from_All P all_productions (AllPass-from_list_all test all_productions h))
