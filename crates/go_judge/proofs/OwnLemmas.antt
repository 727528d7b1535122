-- What calls one after another leave as it was.
use Rattle.std.proofs.Common.{Bool, List, [], ◌∷◌, refl, ◌∙◌}
use Rattle.std.specs.List.{AllByRecursion}
use Rattle.go_term.specs.declared.shape.ElemShape.{ElemShape}
use Rattle.go_term.specs.declared.shape.ElemShape.TheVariants as E
use Rattle.go_term.specs.declared.shape.FieldShape.{FieldShape}
use Rattle.go_term.specs.declared.shape.Shape.{Shape}
use Rattle.go_term.specs.declared.shape.Shape.TheVariants as S
use Rattle.go_term.specs.declared.shape.UnionShape.{UnionShape}
use Rattle.go_judge.specs.declared.form.Form.{Form}
use Rattle.go_judge.specs.declared.form.Form.TheVariants as F
use Rattle.go_term.specs.Types.{TypeData}
use Rattle.go_term.specs.declared.term.Term.{Term}
use Rattle.go_judge.specs.Headers.{Headers, Outcomes}
use Rattle.go_judge.specs.Types.Forms.{IsOwnForm}
use Rattle.go_judge.specs.Types.Own.{AreOwn, IsOwnElem, Keeps, KeepsTypes}
use Rattle.go_judge.specs.Naming.{Naming}

pub types_stay : {own : Term → Type 0} {tree : Term → TypeData} → KeepsTypes own own tree tree
types_stay = record { types = λ t is. is; trees = λ t is. refl }

pub types_then : {own own' own'' : Term → Type 0} {tree tree' tree'' : Term → TypeData}
    → KeepsTypes own own' tree tree' → KeepsTypes own' own'' tree' tree'' → KeepsTypes own own'' tree tree''
types_then a b = record { types = λ t is. b.types t (a.types t is); trees = λ t is. b.trees t (a.types t is) ∙ a.trees t is }

pub stays : {World : Type 0} {headers : Headers} {names : Naming} {outcomes : Outcomes} {spent : Bool} {world : World} {own : Term → Type 0} {tree : Term → TypeData}
    → Keeps headers headers names names outcomes outcomes spent spent world world own own tree tree
stays = record { same = refl; named = refl; walked = refl; memory = refl; around = refl; kept = types_stay }

pub keeps_then : {World : Type 0} {headers headers' headers'' : Headers} {names names' names'' : Naming} {outcomes outcomes' outcomes'' : Outcomes} {spent spent' spent'' : Bool} {world world' world'' : World} {own own' own'' : Term → Type 0} {tree tree' tree'' : Term → TypeData}
    → Keeps headers headers' names names' outcomes outcomes' spent spent' world world' own own' tree tree'
    → Keeps headers' headers'' names' names'' outcomes' outcomes'' spent' spent'' world' world'' own' own'' tree' tree''
    → Keeps headers headers'' names names'' outcomes outcomes'' spent spent'' world world'' own own'' tree tree''
keeps_then a b = record { same = b.same ∙ a.same; named = b.named ∙ a.named; walked = b.walked ∙ a.walked; memory = b.memory ∙ a.memory; around = b.around ∙ a.around; kept = types_then a.kept b.kept }

-- where any type is a judge's own, each part of a layer is
abbrev pub Any : Term → Type 0
Any t = Unit {0}

pub all_any : (ts : List Term) → AllByRecursion Any ts
all_any [] = tt
all_any (t ∷ ts) = (tt, all_any ts)

fields_any : (fs : List FieldShape) → AllByRecursion (λ (f : FieldShape). Any f.ty) fs
fields_any [] = tt
fields_any (f ∷ fs) = (tt, fields_any fs)

unions_any : (us : List UnionShape) → AllByRecursion (λ (u : UnionShape). Any u.ty) us
unions_any [] = tt
unions_any (u ∷ us) = (tt, unions_any us)

elem_any : (e : ElemShape) → IsOwnElem Any e
elem_any (E.Method d name home f) = (all_any f.params.items, all_any f.results.items)
elem_any (E.Union terms) = unions_any terms.items

elems_any : (es : List ElemShape) → AllByRecursion (IsOwnElem Any) es
elems_any [] = tt
elems_any (e ∷ es) = (elem_any e, elems_any es)

pub shape_any : (s : Shape) → AreOwn Any s
shape_any (S.Basic b) = tt
shape_any (S.Pointer t) = tt
shape_any (S.Slice t) = tt
shape_any (S.Array n t) = tt
shape_any (S.Map k v) = (tt, tt)
shape_any (S.Chan d t) = tt
shape_any (S.Func f) = (all_any f.params.items, all_any f.results.items)
shape_any (S.Struct fields) = fields_any fields.items
shape_any (S.Interface elems) = elems_any elems.items
shape_any (S.Tuple ts) = all_any ts.items
shape_any (S.Named d ts) = all_any ts.items
shape_any (S.Param d i) = tt
shape_any (S.Bound k) = tt

pub form_any : (f : Form) → IsOwnForm Any f
form_any (F.Is t) = tt
form_any F.Absent = tt
form_any (F.Unknown d) = tt
