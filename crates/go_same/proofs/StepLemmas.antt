-- One step of collecting, over a judge that has gone on.
use Rattle.std.proofs.Common.{◌≡◌, ℕ, zero, suc, ◌-◌, ◌≤◌, Bool, true, false, Option, None, Some, List, [], ◌∷◌, map, length, refl, sym, ap, subst, ◌∙◌, arith, codes, Vec, Global}
use Rattle.std.specs.List.{AllByRecursion}
use Rattle.std.specs.Option.{option_map}
use Rattle.std.specs.Prelude.{IfOk, IfSome, Result, Ok, Err}
use Rattle.go_term.specs.Shapes.{elem_tree, shape_tree, union_tree}
use Rattle.go_term.specs.Size.{depth, greatest_depth}
use Rattle.go_term.specs.Types.{TypeData, basic_type, no_parts, more_parts, parts_of}
use Rattle.go_term.specs.declared.basic.Basic.TheVariants as B
use Rattle.go_term.specs.declared.shape.ElemShape.{ElemShape}
use Rattle.go_term.specs.declared.shape.Shape.{Shape}
use Rattle.go_term.specs.declared.shape.UnionShape.{UnionShape}
use Rattle.go_term.specs.declared.term.Term.{Term}
use Rattle.go_judge.specs.Headers.{Headers}
use Rattle.go_judge.specs.Types.Forms.{underlying_over}
use Rattle.go_judge.specs.Types.Own.{AreOwnFunc, IsOwnElem, KeepsTypes}
use Rattle.go_judge.specs.Types.TypeSets.{SetAsked, SetData, MethodData, TermData, both_sets, either_set, element_set, elements_set, error_set, is_interface, named_set, named_set_by, opened_method, opened_set, opened_term, plain, plain_all, set_of, term_set, tilde_set, union_term_set}
use Rattle.go_judge.specs.Quests.{Asked, Decided, Done, run}
use Rattle.go_same.specs.Collect.{IsRaisedFound, asked_after, asked_joined, asked_then, kind_of, kind_set, opening_within}
use Rattle.go_same.specs.Joins.{IsBoth, IsRaised, raised_method, raised_part}
use Rattle.go_same.specs.Sets.{IsOwnFound, IsOwnSet, found_as, method_view, part_view, set_view}
use Rattle.go_same.specs.declared.set.FoundSet.{FoundSet}
use Rattle.go_same.specs.declared.set.FoundSet.TheVariants as F
use Rattle.go_same.specs.declared.set.Method.{Method}
use Rattle.go_same.specs.declared.set.TypeSet.{TypeSet}
use Rattle.go_same.specs.declared.set.UnionPart.{UnionPart}
use Rattle.go_same.specs.declared.kind.TypeKind.{TypeKind}
use Rattle.go_same.proofs.CollectLemmas.{both_viewed, elements-next, joined-last, kind_fits, run-then, set_of-opening, union_rest, union_rest-next}
use Rattle.go_same.proofs.KeepLemmas.{elem_kept, elem_types, found_kept, found_types, union_kept}
use Rattle.go_same.proofs.UnderLemmas.{named-over}

mapped_items : (f : List UnionPart → List TermData) (us : List (Vec UnionPart Global)) → map f (map (λ u. u.items) us) ≡ map (λ u. f u.items) us
mapped_items f [] = refl
mapped_items f (u ∷ us) = ap (λ ys. f u.items ∷ ys) (mapped_items f us)

all_items : (P : List UnionPart → Type 0) (us : List (Vec UnionPart Global)) → AllByRecursion P (map (λ u. u.items) us) → AllByRecursion (λ u. P u.items) us
all_items P [] all = tt
all_items P (u ∷ us) all = (all.0, all_items P us all.1)

abbrev pub one_part : Bool → Term → List (List UnionPart)
one_part tilde t = (record { tilde = tilde; ty = t; opened = 0 } ∷ []) ∷ []

-- the set of one term
pub term_viewed : (tree : Term → TypeData) (s : TypeSet) (tilde : Bool) (t : Term) → s.methods.items ≡ [] → map (λ u. u.items) s.unions.items ≡ one_part tilde t → s.comparable ≡ false → set_view tree s ≡ term_set tilde (plain (tree t))
term_viewed tree s tilde t methods unions comparable =
    let first : map (method_view tree) s.methods.items ≡ [] = ap (map (method_view tree)) methods in
    let second : map (λ u. map (part_view tree) u.items) s.unions.items ≡ (record { tilde = tilde; type = plain (tree t); opened = 0 } ∷ []) ∷ []
    = sym (mapped_items (map (part_view tree)) s.unions.items) ∙ ap (map (map (part_view tree))) unions in
    cc

pub term_owned : (own : Term → Type 0) (s : TypeSet) (tilde : Bool) (t : Term) → s.methods.items ≡ [] → map (λ u. u.items) s.unions.items ≡ one_part tilde t → own t → IsOwnSet own s
term_owned own s tilde t methods unions is = (
  subst (AllByRecursion (λ m. AreOwnFunc own m.signature)) (sym methods) tt,
  all_items (AllByRecursion (λ p. own p.ty)) s.unions.items (subst (AllByRecursion (AllByRecursion (λ p. own p.ty))) (sym unions) ((is, tt), tt)),
)

-- a term with `~`
pub tilde_answer : (known : Headers) (opening : TypeData → SetAsked) (tree : Term → TypeData) (u : UnionShape) → u.tilde ≡ true → run known (tilde_set opening (plain (tree u.ty))) ≡ run known (union_term_set opening (plain (union_tree tree u)))
tilde_answer known opening tree u sure = rw sure refl

pub plain_answer : (known : Headers) (n : ℕ) (tree : Term → TypeData) (u : UnionShape) → u.tilde ≡ false → run known (set_of n (plain (tree u.ty))) ≡ run known (union_term_set (opening_within n) (plain (union_tree tree u)))
plain_answer known n tree u off = rw off (ap (run known) (set_of-opening n (plain (tree u.ty))))

-- a type by what stands at it
pub kind_moved : (known known' : Headers) (n : ℕ) (tree : Term → TypeData) (t t' : TypeData) (shape : Shape) (kind : TypeKind) → known' ≡ known → t' ≡ t → shape_tree tree shape ≡ t → kind ≡ kind_of shape
    → run known' (kind_set (opening_within n) tree (plain t') kind) ≡ run known (set_of n (plain t))
kind_moved known known' n tree t t' shape kind same moved seen is =
    ap (λ k. run k (kind_set (opening_within n) tree (plain t') kind)) same
    ∙ ap (λ x. run known (kind_set (opening_within n) tree (plain x) kind)) (moved ∙ sym seen)
    ∙ ap (λ k. run known (kind_set (opening_within n) tree (plain (shape_tree tree shape)) k)) is
    ∙ ap (run known) (sym (kind_fits (opening_within n) tree shape))
    ∙ ap (run known) (sym (set_of-opening n (plain (shape_tree tree shape))))
    ∙ ap (λ x. run known (set_of n (plain x))) seen

-- the set of a name
pub named_moved : (known known' : Headers) (opening : TypeData → SetAsked) (t t' : TypeData) (asked : Asked (Option TypeData)) → known' ≡ known → t' ≡ t → asked ≡ underlying_over known t
    → asked_then asked (λ u. run known' (named_set_by opening (plain t') u)) ≡ run known (named_set opening (plain t))
named_moved known known' opening t t' asked same moved e =
    ap (λ k. asked_then asked (λ u. run k (named_set_by opening (plain t') u))) same
    ∙ ap (λ x. asked_then asked (λ u. run known (named_set_by opening (plain x) u))) moved
    ∙ ap (λ a. asked_then a (λ u. run known (named_set_by opening (plain t) u))) e
    ∙ sym (named-over known opening (plain t) t refl)

pub closed_answer : (known : Headers) (opening : TypeData → SetAsked) (tree : Term → TypeData) (t : Term) (u : TypeData) (s : TypeSet) → is_interface u ≡ false → set_view tree s ≡ term_set false (plain (tree t))
    → Decided (Some (set_view tree s)) ≡ run known (named_set_by opening (plain (tree t)) (Some u))
closed_answer known opening tree t u s off e = rw off (ap (λ x. Decided (Some x)) e)

opening-less : (n : ℕ) (t : TypeData) → (n ≡ 0 → ⊥) → opening_within n t ≡ set_of (n - 1) t
opening-less zero t some = absurd (some refl)
opening-less (suc n) t some = ap (λ m. set_of m t) (let e : n ≡ suc n - 1 = omega arith in e)

pub opened_answer : (known : Headers) (n : ℕ) (p u : TypeData) (x y : Asked (Option SetData)) → is_interface u ≡ true → (n ≡ 0 → ⊥) → x ≡ run known (set_of (n - 1) (plain u)) → y ≡ asked_then x (λ s. Decided (option_map opened_set s))
    → y ≡ run known (named_set_by (opening_within n) p (Some u))
opened_answer known n p u x y sure some e f = rw sure (
    f ∙ ap (λ a. asked_then a (λ s. Decided (option_map opened_set s))) (e ∙ ap (run known) (sym (opening-less n (plain u) some)))
    ∙ sym (run-then known (opening_within n (plain u)) (λ s. Done (option_map opened_set s))))

-- one name deeper
methods_raised : (tree : Term → TypeData) (ms : List Method) → map (method_view tree) (map raised_method ms) ≡ map opened_method (map (method_view tree) ms)
methods_raised tree [] = refl
methods_raised tree (m ∷ ms) = ap (λ xs. opened_method (method_view tree m) ∷ xs) (methods_raised tree ms)

parts_raised : (tree : Term → TypeData) (ps : List UnionPart) → map (part_view tree) (map raised_part ps) ≡ map opened_term (map (part_view tree) ps)
parts_raised tree [] = refl
parts_raised tree (p ∷ ps) = ap (λ xs. opened_term (part_view tree p) ∷ xs) (parts_raised tree ps)

unions_raised : (tree : Term → TypeData) (us : List (Vec UnionPart Global)) → map (map (part_view tree)) (map (λ u. map raised_part u.items) us) ≡ map (map opened_term) (map (λ u. map (part_view tree) u.items) us)
unions_raised tree [] = refl
unions_raised tree (u ∷ us) = let one = parts_raised tree u.items in let rest = unions_raised tree us in cc

set_raised : (tree : Term → TypeData) (a s : TypeSet) → IsRaised a s → set_view tree s ≡ opened_set (set_view tree a)
set_raised tree a s is =
    let methods : map (method_view tree) s.methods.items ≡ map opened_method (map (method_view tree) a.methods.items) = ap (map (method_view tree)) is.methods ∙ methods_raised tree a.methods.items in
    let unions : map (λ u. map (part_view tree) u.items) s.unions.items ≡ map (map opened_term) (map (λ u. map (part_view tree) u.items) a.unions.items)
    = sym (mapped_items (map (part_view tree)) s.unions.items) ∙ ap (map (map (part_view tree))) is.unions ∙ unions_raised tree a.unions.items in
    let comparable = is.comparable in cc

pub raised_viewed : (tree : Term → TypeData) (a found : FoundSet) → IsRaisedFound a found → found_as tree found ≡ asked_then (found_as tree a) (λ s. Decided (option_map opened_set s))
raised_viewed tree (F.Is a) (F.Is s) is = ap (λ x. Decided (Some x)) (set_raised tree a s is)
raised_viewed tree (F.Is a) F.Absent is = absurd is
raised_viewed tree (F.Is a) (F.Unknown d) is = absurd is
raised_viewed tree F.Absent found is = ap (found_as tree) is
raised_viewed tree (F.Unknown d) found is = ap (found_as tree) is

methods_own : (own : Term → Type 0) (ms : List Method) → AllByRecursion (λ m. AreOwnFunc own m.signature) ms → AllByRecursion (λ m. AreOwnFunc own m.signature) (map raised_method ms)
methods_own own [] all = tt
methods_own own (m ∷ ms) all = (all.0, methods_own own ms all.1)

parts_own : (own : Term → Type 0) (ps : List UnionPart) → AllByRecursion (λ p. own p.ty) ps → AllByRecursion (λ p. own p.ty) (map raised_part ps)
parts_own own [] all = tt
parts_own own (p ∷ ps) all = (all.0, parts_own own ps all.1)

unions_own : (own : Term → Type 0) (us : List (Vec UnionPart Global)) → AllByRecursion (λ u. AllByRecursion (λ p. own p.ty) u.items) us → AllByRecursion (AllByRecursion (λ p. own p.ty)) (map (λ u. map raised_part u.items) us)
unions_own own [] all = tt
unions_own own (u ∷ us) all = (parts_own own u.items all.0, unions_own own us all.1)

pub raised_owned : (own : Term → Type 0) (a found : FoundSet) → IsRaisedFound a found → IsOwnFound own a → IsOwnFound own found
raised_owned own a F.Absent is all = tt
raised_owned own a (F.Unknown d) is all = tt
raised_owned own (F.Is a) (F.Is s) is all = (
  subst (AllByRecursion (λ m. AreOwnFunc own m.signature)) (sym is.methods) (methods_own own a.methods.items all.0),
  all_items (AllByRecursion (λ p. own p.ty)) s.unions.items (subst (AllByRecursion (AllByRecursion (λ p. own p.ty))) (sym is.unions) (unions_own own a.unions.items all.1)),
)
raised_owned own F.Absent (F.Is s) is all = absurd (let never : F.Is s ≡ F.Absent = is in cc)
raised_owned own (F.Unknown d) (F.Is s) is all = absurd (let never : F.Is s ≡ F.Unknown d = is in cc)

-- the first of those that are left
module _ {own own' : Term → Type 0} {tree tree' : Term → TypeData} (before : KeepsTypes own own' tree tree') where
  module _ (rest next : List ElemShape) (e : ElemShape) (opens : rest ≡ e ∷ next) (all : AllByRecursion (IsOwnElem own) rest) where
    elem_all : IsOwnElem own e × AllByRecursion (IsOwnElem own) next
    elem_all = subst (AllByRecursion (IsOwnElem own)) opens all

    pub elem_here : IsOwnElem own' e
    elem_here = elem_types before e elem_all.0

    pub elems_left : AllByRecursion (IsOwnElem own) next
    elems_left = elem_all.1

    pub elem_shallow : (n : ℕ) → greatest_depth (parts_of (map (elem_tree tree) rest)) ≤ n → depth (elem_tree tree' e) ≤ n
    elem_shallow n le =
        let same : depth (elem_tree tree' e) ≡ depth (elem_tree tree e) = ap depth (elem_kept before e elem_all.0) in
        let split : greatest_depth (parts_of (map (elem_tree tree) rest)) ≡ greatest_depth (more_parts (elem_tree tree e) (parts_of (map (elem_tree tree) next))) = ap (λ xs. greatest_depth (parts_of (map (elem_tree tree) xs))) opens in
        omega (arith, same, split, le)

    pub elems_shallow : (n : ℕ) → greatest_depth (parts_of (map (elem_tree tree) rest)) ≤ n → greatest_depth (parts_of (map (elem_tree tree) next)) ≤ n
    elems_shallow n le =
        let split : greatest_depth (parts_of (map (elem_tree tree) rest)) ≡ greatest_depth (more_parts (elem_tree tree e) (parts_of (map (elem_tree tree) next))) = ap (λ xs. greatest_depth (parts_of (map (elem_tree tree) xs))) opens in
        omega (arith, split, le)

    pub elems_step : {own'' : Term → Type 0} {tree'' : Term → TypeData} → KeepsTypes own' own'' tree' tree'' → (known known' : Headers) → known' ≡ known → (opening : TypeData → SetAsked) (found one more : FoundSet) → IsBoth found one more → IsOwnFound own' found
        → found_as tree'' one ≡ run known' (element_set opening (plain (elem_tree tree' e))) → (whole : Asked (Option SetData))
        → asked_joined both_sets (found_as tree' found) (run known (elements_set opening (plain_all (parts_of (map (elem_tree tree) rest))))) ≡ whole
        → asked_joined both_sets (found_as tree'' more) (run known (elements_set opening (plain_all (parts_of (map (elem_tree tree) next))))) ≡ whole
    elems_step {own''} {tree''} here known known' same opening found one more is owned answer whole left =
        let later = run known (elements_set opening (plain_all (parts_of (map (elem_tree tree) next)))) in
        let grew : found_as tree'' more ≡ asked_joined both_sets (found_as tree' found) (run known (element_set opening (plain (elem_tree tree e))))
        = both_viewed tree'' found one more is
        ∙ ap (λ x. asked_joined both_sets x (found_as tree'' one)) (found_kept here found owned)
        ∙ ap (λ x. asked_joined both_sets (found_as tree' found) x) (answer ∙ ap (λ k. run k (element_set opening (plain (elem_tree tree' e)))) same ∙ ap (λ x. run known (element_set opening (plain x))) (elem_kept before e elem_all.0)) in
        ap (λ x. asked_joined both_sets x later) grew
        ∙ elements-next known opening (found_as tree' found) (plain (elem_tree tree e)) (plain_all (parts_of (map (elem_tree tree) next)))
        ∙ ap (λ xs. asked_joined both_sets (found_as tree' found) (run known (elements_set opening (plain_all (parts_of (map (elem_tree tree) xs)))))) (sym opens)
        ∙ left

  module _ (rest next : List UnionShape) (u : UnionShape) (opens : rest ≡ u ∷ next) (all : AllByRecursion (λ u. own u.ty) rest) where
    term_all : own u.ty × AllByRecursion (λ u. own u.ty) next
    term_all = subst (AllByRecursion (λ u. own u.ty)) opens all

    pub term_here : own' u.ty
    term_here = before.types u.ty term_all.0

    pub terms_left : AllByRecursion (λ u. own u.ty) next
    terms_left = term_all.1

    pub term_shallow : (n : ℕ) → greatest_depth (parts_of (map (union_tree tree) rest)) ≤ n → depth (union_tree tree' u) ≤ n
    term_shallow n le =
        let same : depth (union_tree tree' u) ≡ depth (union_tree tree u) = ap depth (union_kept before u term_all.0) in
        let split : greatest_depth (parts_of (map (union_tree tree) rest)) ≡ greatest_depth (more_parts (union_tree tree u) (parts_of (map (union_tree tree) next))) = ap (λ xs. greatest_depth (parts_of (map (union_tree tree) xs))) opens in
        omega (arith, same, split, le)

    pub terms_shallow : (n : ℕ) → greatest_depth (parts_of (map (union_tree tree) rest)) ≤ n → greatest_depth (parts_of (map (union_tree tree) next)) ≤ n
    terms_shallow n le =
        let split : greatest_depth (parts_of (map (union_tree tree) rest)) ≡ greatest_depth (more_parts (union_tree tree u) (parts_of (map (union_tree tree) next))) = ap (λ xs. greatest_depth (parts_of (map (union_tree tree) xs))) opens in
        omega (arith, split, le)

    pub terms_step : (known known' : Headers) → known' ≡ known → (opening : TypeData → SetAsked) (first : Option (Asked (Option SetData))) (more : Asked (Option SetData))
        → more ≡ asked_after either_set first (run known' (union_term_set opening (plain (union_tree tree' u)))) → (whole : Asked (Option SetData))
        → union_rest known opening first (plain_all (parts_of (map (union_tree tree) rest))) ≡ whole
        → union_rest known opening (Some more) (plain_all (parts_of (map (union_tree tree) next))) ≡ whole
    terms_step known known' same opening first more answer whole left =
        ap (λ x. union_rest known opening (Some x) (plain_all (parts_of (map (union_tree tree) next))))
        (answer ∙ ap (λ k. asked_after either_set first (run k (union_term_set opening (plain (union_tree tree' u))))) same ∙ ap (λ x. asked_after either_set first (run known (union_term_set opening (plain x)))) (union_kept before u term_all.0))
        ∙ union_rest-next known opening first (plain (union_tree tree u)) (plain_all (parts_of (map (union_tree tree) next)))
        ∙ ap (λ xs. union_rest known opening first (plain_all (parts_of (map (union_tree tree) xs)))) (sym opens)
        ∙ left

  pub some_types : (o : Option FoundSet) → IfSome o (IsOwnFound own) → IfSome o (IsOwnFound own')
  some_types None all = tt
  some_types (Some found) all = found_types before found all

  pub after_moved : (o : Option FoundSet) → IfSome o (IsOwnFound own) → (one asked : Asked (Option SetData)) → one ≡ asked → asked_after either_set (option_map (found_as tree') o) one ≡ asked_after either_set (option_map (found_as tree) o) asked
  after_moved None all one asked e = e
  after_moved (Some found) all one asked e = ap (λ x. asked_joined either_set x one) (found_kept before found all) ∙ ap (asked_joined either_set (found_as tree found)) e

pub ok-both : {X Y : Type 0} (r : Result X Y) (P Q : X → Type 0) → IfOk r P → IfOk r Q → IfOk r (λ x. P x × Q x)
ok-both (Ok x) P Q p q = (p, q)
ok-both (Err y) P Q p q = tt

-- no element is left
nothing_left : {A : Type 0} (xs : List A) (n : ℕ) → n ≡ length xs → n ≡ 0 → xs ≡ []
nothing_left [] n e f = refl
nothing_left (x ∷ xs) n e f = absurd (omega arith)

pub elems_end : (known : Headers) (opening : TypeData → SetAsked) (tree : Term → TypeData) (rest : List ElemShape) (n : ℕ) → n ≡ length rest → n ≡ 0 → (x whole : Asked (Option SetData))
    → asked_joined both_sets x (run known (elements_set opening (plain_all (parts_of (map (elem_tree tree) rest))))) ≡ whole → x ≡ whole
elems_end known opening tree rest n e f x whole left =
    sym (joined-last x) ∙ ap (λ xs. asked_joined both_sets x (run known (elements_set opening (plain_all (parts_of (map (elem_tree tree) xs)))))) (sym (nothing_left rest n e f)) ∙ left

-- `error`
abbrev pub AreErrorMethods : Term → List Method → Type 0
AreErrorMethods text ms = (map (λ m. m.name) ms ≡ codes "Error" ∷ []) × (map (λ m. m.home) ms ≡ [] ∷ []) × (map (λ m. m.opened) ms ≡ 0 ∷ []) × (map (λ m. m.signature.variadic) ms ≡ false ∷ [])
    × (map (λ m. m.signature.params.items) ms ≡ [] ∷ []) × (map (λ m. m.signature.results.items) ms ≡ (text ∷ []) ∷ [])

error_methods : (tree : Term → TypeData) (text : Term) → tree text ≡ basic_type B.String → (ms : List Method) → AreErrorMethods text ms → map (method_view tree) ms ≡ error_set.methods
error_methods tree text e [] is = absurd (let never : map (λ (m : Method). m.name) [] ≡ codes "Error" ∷ [] = is.0 in cc)
error_methods tree text e (m ∷ n ∷ ms) is = absurd (let never : m.name ∷ n.name ∷ map (λ (m : Method). m.name) ms ≡ codes "Error" ∷ [] = is.0 in cc)
error_methods tree text e (m ∷ []) is =
    let named : m.name ∷ [] ≡ codes "Error" ∷ [] = is.0 in
    let housed : m.home ∷ [] ≡ [] ∷ [] = is.1 in
    let counted : m.opened ∷ [] ≡ 0 ∷ [] = is.2 in
    let varied : m.signature.variadic ∷ [] ≡ false ∷ [] = is.3 in
    let taken : m.signature.params.items ∷ [] ≡ [] ∷ [] = is.4 in
    let given : m.signature.results.items ∷ [] ≡ (text ∷ []) ∷ [] = is.5 in
    let params : m.signature.params.items ≡ [] = cc in
    let results : m.signature.results.items ≡ text ∷ [] = cc in
    let first : plain_all (parts_of (map tree m.signature.params.items)) ≡ no_parts = ap (λ xs. plain_all (parts_of (map tree xs))) params in
    let second : plain_all (parts_of (map tree m.signature.results.items)) ≡ more_parts (basic_type B.String) no_parts = ap (λ xs. plain_all (parts_of (map tree xs))) results ∙ ap (λ x. more_parts (plain x) no_parts) e in
    cc

abbrev set_data : List MethodData → List (List TermData) → Bool → SetData
set_data methods unions comparable = record { methods = methods; unions = unions; comparable = comparable }

pub error_viewed : (tree : Term → TypeData) (text : Term) → tree text ≡ basic_type B.String → (s : TypeSet) → AreErrorMethods text s.methods.items → s.unions.items ≡ [] → s.comparable ≡ false → set_view tree s ≡ error_set
error_viewed tree text e s is unions comparable =
    ap (λ ms. set_data ms (map (λ u. map (part_view tree) u.items) s.unions.items) s.comparable) (error_methods tree text e s.methods.items is)
    ∙ ap (λ us. set_data error_set.methods (map (λ u. map (part_view tree) u.items) us) s.comparable) unions
    ∙ ap (λ c. set_data error_set.methods [] c) comparable

error_own : (own : Term → Type 0) (text : Term) → own text → (ms : List Method) → map (λ m. m.signature.params.items) ms ≡ [] ∷ [] → map (λ m. m.signature.results.items) ms ≡ (text ∷ []) ∷ [] → AllByRecursion (λ m. AreOwnFunc own m.signature) ms
error_own own text is [] params results = tt
error_own own text is (m ∷ n ∷ ms) params results = absurd (let never : m.signature.params.items ∷ n.signature.params.items ∷ map (λ (m : Method). m.signature.params.items) ms ≡ [] ∷ [] = params in cc)
error_own own text is (m ∷ []) params results =
    let taken : m.signature.params.items ∷ [] ≡ [] ∷ [] = params in
    let given : m.signature.results.items ∷ [] ≡ (text ∷ []) ∷ [] = results in
    let first : m.signature.params.items ≡ [] = cc in
    let second : m.signature.results.items ≡ text ∷ [] = cc in
    ((subst (AllByRecursion own) (sym first) tt, subst (AllByRecursion own) (sym second) (is, tt)), tt)

pub error_owned : (own : Term → Type 0) (text : Term) → own text → (s : TypeSet) → AreErrorMethods text s.methods.items → s.unions.items ≡ [] → IsOwnSet own s
error_owned own text is s methods unions =
    (error_own own text is s.methods.items methods.4 methods.5, subst (AllByRecursion (λ u. AllByRecursion (λ p. own p.ty) u.items)) (sym unions) tt)
