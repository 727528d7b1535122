-- The types of a judge: which are its own, and what each stands for.
-- Says what a call of a judge leaves as it was, and which shapes, records, headers and outcomes have types of its own. A
-- judge may come to have further types in a call; those that it had stay, and stand for what they stood for.
use Rattle.std.specs.Prelude.{◌≡◌, Bool, IfSome}
use Rattle.std.specs.List.{AllByRecursion}
use Rattle.go_term.specs.Types.{TypeData}
use Rattle.go_term.specs.declared.term.Term.{Term}
use Rattle.go_term.specs.declared.shape.Shape.{Shape}
use Rattle.go_term.specs.declared.shape.Shape.TheVariants as S
use Rattle.go_term.specs.declared.shape.FuncShape.{FuncShape}
use Rattle.go_term.specs.declared.shape.ElemShape.{ElemShape}
use Rattle.go_term.specs.declared.shape.ElemShape.TheVariants as E
use Rattle.go_judge.specs.declared.header.Header.{Header}
use Rattle.go_judge.specs.declared.header.Header.TheVariants as H
use Rattle.go_judge.specs.declared.header.TypeParam.{TypeParam}
use Rattle.go_judge.specs.declared.outcome.Outcome.{Outcome}
use Rattle.go_judge.specs.declared.outcome.Outcome.TheVariants.{Broken, Found, Nothing, Waits}
use Rattle.go_judge.specs.declared.rec.Rec.{Rec}
use Rattle.go_judge.specs.Headers.{Headers, Outcomes}
use Rattle.go_judge.specs.Naming.{Naming}

-- types stay, and stand for what they stood for
pub record KeepsTypes (own own' : Term → Type 0) (tree tree' : Term → TypeData) : Type 0 where
  pub types : (t : Term) → own t → own' t
  pub trees : (t : Term) → own t → tree' t ≡ tree t

-- and the headers, the names, the outcomes and what else stays are as before
pub record Keeps {World : Type 0} (headers headers' : Headers) (names names' : Naming) (outcomes outcomes' : Outcomes) (spent spent' : Bool) (world world' : World) (own own' : Term → Type 0) (tree tree' : Term → TypeData) : Type 0 where
  pub same : headers' ≡ headers
  pub named : names' ≡ names
  pub walked : outcomes' ≡ outcomes
  pub memory : spent' ≡ spent
  pub around : world' ≡ world
  pub kept : KeepsTypes own own' tree tree'

module _ (own : Term → Type 0) where
  abbrev pub AreOwnFunc : FuncShape → Type 0
  AreOwnFunc f = AllByRecursion own f.params.items × AllByRecursion own f.results.items

  abbrev pub IsOwnElem : ElemShape → Type 0
  IsOwnElem (E.Method d name home f) = AreOwnFunc f
  IsOwnElem (E.Union terms) = AllByRecursion (λ u. own u.ty) terms.items

  -- each part of the layer is a type of its own
  abbrev pub AreOwn : Shape → Type 0
  AreOwn (S.Basic b) = Unit {0}
  AreOwn (S.Pointer t) = own t
  AreOwn (S.Slice t) = own t
  AreOwn (S.Array n t) = own t
  AreOwn (S.Map k v) = own k × own v
  AreOwn (S.Chan d t) = own t
  AreOwn (S.Func f) = AreOwnFunc f
  AreOwn (S.Struct fields) = AllByRecursion (λ f. own f.ty) fields.items
  AreOwn (S.Interface elems) = AllByRecursion IsOwnElem elems.items
  AreOwn (S.Tuple ts) = AllByRecursion own ts.items
  AreOwn (S.Named d ts) = AllByRecursion own ts.items
  AreOwn (S.Param d i) = Unit {0}
  AreOwn (S.Bound k) = Unit {0}

  -- the type of a record, those of a header, and that of the record of an outcome
  abbrev pub IsOwnRec : Rec → Type 0
  IsOwnRec r = IfSome r.ty own

  abbrev pub IsOwnParam : TypeParam → Type 0
  IsOwnParam p = own p.bound

  abbrev pub IsOwnHeader : Header → Type 0
  IsOwnHeader (H.Const type value) = own type
  IsOwnHeader (H.Var type) = own type
  IsOwnHeader (H.Func params type) = AllByRecursion IsOwnParam params.items × own type
  IsOwnHeader (H.Defined params right methods) = AllByRecursion IsOwnParam params.items × own right
  IsOwnHeader (H.Alias type) = own type

  abbrev pub IsOwnOutcome : Outcome → Type 0
  IsOwnOutcome (Found rec) = IsOwnRec rec
  IsOwnOutcome (Broken rule spots) = Unit {0}
  IsOwnOutcome (Waits d) = Unit {0}
  IsOwnOutcome Nothing = Unit {0}
