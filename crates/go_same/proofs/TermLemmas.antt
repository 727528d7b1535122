-- Whether terms lie in sets: the same over a judge that has gone on, and within other bounds.
use Rattle.std.proofs.Common.{◌≡◌, ℕ, zero, suc, ◌-◌, Bool, true, false, if◌then◌else◌, List, map, refl, sym, ap, ◌∙◌, arith, Vec, Global}
use Rattle.std.specs.List.{AllByRecursion}
use Rattle.std.specs.Prelude.{nat_le, not}
use Rattle.go_term.specs.Shapes.{shape_tree}
use Rattle.go_term.specs.Types.{TypeData}
use Rattle.go_term.specs.declared.shape.Shape.{Shape}
use Rattle.go_term.specs.declared.shape.Shape.TheVariants as S
use Rattle.go_term.specs.declared.term.Term.{Term}
use Rattle.go_judge.specs.Headers.{Headers}
use Rattle.go_judge.specs.Types.Own.{KeepsTypes}
use Rattle.go_judge.specs.Types.TypeIdentity as identity
use Rattle.go_judge.specs.Types.TypeIdentity.{ask_any, ask_each, fit, interfaces_in}
use Rattle.go_judge.specs.Types.TypeSets.{TermData, plain}
use Rattle.go_judge.specs.Quests.{Done, run}
use Rattle.go_same.specs.Bounded as bounded
use Rattle.go_same.specs.Collect.{is_name_shape}
use Rattle.go_same.specs.Sets.{IsOwnSet, part_view, set_view}
use Rattle.go_same.specs.declared.bounds.Bounds.{Bounds}
use Rattle.go_same.specs.declared.set.TypeSet.{TypeSet}
use Rattle.go_same.specs.declared.set.UnionPart.{UnionPart}
use Rattle.go_same.proofs.KeepLemmas.{all_parts_kept, part_kept, parts_kept, set_kept}

-- over a judge that has gone on
module _ {own own' : Term → Type 0} {tree tree' : Term → TypeData} (kept : KeepsTypes own own' tree tree') (known known' : Headers) (same : known' ≡ known) (bounds : Bounds) where
  pub terms-moved : (s t : TypeSet) → IsOwnSet own s → IsOwnSet own t
      → run known' (bounded.terms_lie bounds (set_view tree' s) (set_view tree' t)) ≡ run known (bounded.terms_lie bounds (set_view tree s) (set_view tree t))
  terms-moved s t s_own t_own = λ j. run (same j) (bounded.terms_lie bounds (set_kept kept s s_own j) (set_kept kept t t_own j))

  -- u and us are what is lent of them
  pub union-moved : (u ps : List UnionPart) → u ≡ ps → (s t : TypeSet) → AllByRecursion (λ p. own p.ty) ps → IsOwnSet own s → IsOwnSet own t
      → run known' (ask_each (bounded.term_lies bounds (set_view tree' s) (set_view tree' t)) (map (part_view tree') u)) ≡ run known (ask_each (bounded.term_lies bounds (set_view tree s) (set_view tree t)) (map (part_view tree) ps))
  union-moved u ps is s t u_own s_own t_own =
      let parts = ap (map (part_view tree')) is ∙ parts_kept kept ps u_own in
      λ j. run (same j) (ask_each (bounded.term_lies bounds (set_kept kept s s_own j) (set_kept kept t t_own j)) (parts j))

  pub term-moved : (a : UnionPart) (s t : TypeSet) → own a.ty → IsOwnSet own s → IsOwnSet own t
      → run known' (bounded.term_lies bounds (set_view tree' s) (set_view tree' t) (part_view tree' a)) ≡ run known (bounded.term_lies bounds (set_view tree s) (set_view tree t) (part_view tree a))
  term-moved a s t a_own s_own t_own = λ j. run (same j) (bounded.term_lies bounds (set_kept kept s s_own j) (set_kept kept t t_own j) (part_kept kept a a_own j))

  pub lies-moved : (us ps : List (Vec UnionPart Global)) → us ≡ ps → (a : UnionPart) → AllByRecursion (λ u. AllByRecursion (λ p. own p.ty) u.items) ps → own a.ty
      → run known' (bounded.lies_in bounds (map (λ u. map (part_view tree') u.items) us) (part_view tree' a)) ≡ run known (bounded.lies_in bounds (map (λ u. map (part_view tree) u.items) ps) (part_view tree a))
  lies-moved us ps is a us_own a_own =
      let unions = ap (map (λ u. map (part_view tree') u.items)) is ∙ all_parts_kept kept ps us_own in
      λ j. run (same j) (bounded.lies_in bounds (unions j) (part_kept kept a a_own j))

  pub any-moved : (u ps : List UnionPart) → u ≡ ps → (a : UnionPart) → AllByRecursion (λ p. own p.ty) ps → own a.ty
      → run known' (ask_any (bounded.lies_within bounds (part_view tree' a)) (map (part_view tree') u)) ≡ run known (ask_any (bounded.lies_within bounds (part_view tree a)) (map (part_view tree) ps))
  any-moved u ps is a u_own a_own =
      let parts = ap (map (part_view tree')) is ∙ parts_kept kept ps u_own in
      λ j. run (same j) (ask_any (bounded.lies_within bounds (part_kept kept a a_own j)) (parts j))

  pub within-moved : (a b : UnionPart) → own a.ty → own b.ty
      → run known' (bounded.lies_within bounds (part_view tree' a) (part_view tree' b)) ≡ run known (bounded.lies_within bounds (part_view tree a) (part_view tree b))
  within-moved a b a_own b_own = λ j. run (same j) (bounded.lies_within bounds (part_kept kept a a_own j) (part_kept kept b b_own j))

-- behind so many names
module _ (bounds : Bounds) (opened : ℕ) (a b : TypeData) where
  pub behind-none : nat_le opened bounds.left ≡ false → identity.by_form bounds.short a b ≡ identity.behind (identity.same bounds.levels) bounds.left bounds.short opened a b
  behind-none few = ap (λ c. if c then identity.same bounds.levels bounds.short (bounds.left - opened) a b else identity.by_form bounds.short a b) (sym few)

pub behind-moved : (known known' : Headers) → known' ≡ known → (bounds : Bounds) (opened : ℕ) (a : TypeData) {b b' : TypeData} → b' ≡ b
    → run known' (identity.behind (identity.same bounds.levels) bounds.left bounds.short opened a (plain b')) ≡ run known (identity.behind (identity.same bounds.levels) bounds.left bounds.short opened a (plain b))
behind-moved known known' same bounds opened a is = λ j. run (same j) (identity.behind (identity.same bounds.levels) bounds.left bounds.short opened a (plain (is j)))

-- TERMS OF ONE TYPE

-- what stands at a type says whether it is declared
pub declared-layer : (tree : Term → TypeData) (shape : Shape) → is_name_shape shape ≡ identity.is_declared (plain (shape_tree tree shape))
declared-layer tree (S.Named d ts) = refl
declared-layer tree (S.Param d i) = refl
declared-layer tree shape = refl

-- over a judge that has gone on
pub declared-moved : {own own' : Term → Type 0} {tree tree' : Term → TypeData} → KeepsTypes own own' tree tree' → (known known' : Headers) → known' ≡ known → (bounds : Bounds) (opened : ℕ) (a b : Term) → own a → own b
    → run known' (bounded.same_declared bounds opened (plain (tree' a)) (plain (tree' b))) ≡ run known (bounded.same_declared bounds opened (plain (tree a)) (plain (tree b)))
declared-moved kept known known' same bounds opened a b a_own b_own = λ j. run (same j) (bounded.same_declared bounds opened (plain (kept.trees a a_own j)) (plain (kept.trees b b_own j)))

-- over one that has found the underlying type of the second
pub found-moved : (known known' : Headers) → known' ≡ known → (bounds : Bounds) (opened : ℕ) {a a' : TypeData} → a' ≡ a → (v : TypeData)
    → run known' (bounded.has_underlying bounds opened (plain a') v) ≡ run known (bounded.has_underlying bounds opened (plain a) v)
found-moved known known' same bounds opened is v = λ j. run (same j) (bounded.has_underlying bounds opened (plain (is j)) v)

-- as a premise
pub premise-asked : (known : Headers) (bounds inner : Bounds) → inner.levels ≡ bounds.levels → inner.left ≡ bounds.left → inner.short ≡ not bounds.short → (tree : Term → TypeData) (us ps : List (Vec UnionPart Global)) → us ≡ ps → (a : TermData)
    → run known (bounded.lies_in inner (map (λ u. map (part_view tree) u.items) us) a) ≡ run known (identity.lies_in (identity.same bounds.levels) bounds.left (not bounds.short) (map (λ u. map (part_view tree) u.items) ps) a)
premise-asked known bounds inner levels left short tree us ps is a = λ j. run known (identity.lies_in (identity.same (levels j)) (left j) (short j) (map (λ u. map (part_view tree) u.items) (is j)) a)

-- a level of interfaces lower
same-level : (levels : ℕ) → (levels ≡ 0 → ⊥) → (short : Bool) (left : ℕ) (a b : TypeData)
    → (if fit a b then ask_each (identity.same_interfaces (identity.same (levels - 1)) left short) (interfaces_in a b) else Done false) ≡ identity.same levels short left a b
same-level zero some short left a b = absurd (some refl)
same-level (suc n) some short left a b =
    let e : (suc n) - 1 ≡ n = omega arith in
    ap (λ m. if fit a b then ask_each (identity.same_interfaces (identity.same m) left short) (interfaces_in a b) else Done false) e

pub pairs-asked : (known known' : Headers) → known' ≡ known → (bounds : Bounds) → (bounds.levels ≡ 0 → ⊥) → (a b : TypeData) (fits : Bool) → fits ≡ fit a b → fits ≡ true → (pairs : List (TypeData × TypeData)) → pairs ≡ interfaces_in a b
    → run known' (ask_each (identity.same_interfaces (identity.same (bounds.levels - 1)) bounds.left bounds.short) pairs) ≡ run known (bounded.same bounds a b)
pairs-asked known known' same bounds some a b fits is sure pairs within =
    (λ j. run (same j) (ask_each (identity.same_interfaces (identity.same (bounds.levels - 1)) bounds.left bounds.short) (within j)))
    ∙ ap (λ c. run known (if c then ask_each (identity.same_interfaces (identity.same (bounds.levels - 1)) bounds.left bounds.short) (interfaces_in a b) else Done false)) (sym sure ∙ is)
    ∙ ap (run known) (same-level bounds.levels some bounds.short bounds.left a b)
