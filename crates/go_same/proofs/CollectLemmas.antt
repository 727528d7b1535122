-- Sets that are joined one after another, and what stands at a type.
use Rattle.std.proofs.Common.{◌≡◌, ℕ, zero, suc, Bool, true, false, ◌||◌, Option, None, Some, List, [], ◌∷◌, ◌++◌, map, refl, sym, ap, subst, ◌∙◌, append_assoc}
use Rattle.std.proofs.lemmas.Grind.{flat_map-append}
use Rattle.std.proofs.lemmas.List.{append-nil, map-append}
use Rattle.std.proofs.lemmas.List.Concat.{flat_map-cons}
use Rattle.std.specs.List.{AllByRecursion}
use Rattle.std.specs.Option.{option_map}
use Rattle.go_term.specs.Shapes.{shape_tree}
use Rattle.go_term.specs.Types.{TypeData, Parts, field, made, method, no_parts, more_parts, param}
use Rattle.go_term.specs.declared.basic.Basic.{Basic}
use Rattle.go_term.specs.declared.basic.Basic.TheVariants as B
use Rattle.go_term.specs.declared.shape.Shape.{Shape}
use Rattle.go_term.specs.declared.shape.Shape.TheVariants as S
use Rattle.go_term.specs.declared.term.Term.{Term}
use Rattle.go_judge.specs.Headers.{Headers}
use Rattle.go_judge.specs.Types.Own.{AreOwn, AreOwnFunc}
use Rattle.go_judge.specs.Types.TypeSets.{SetAsked, SetData, TermData, all_types, both_sets, either_set, either_unions, element_set, elements_set, is_interface, joined, joined_to, plain, set_of, term_set, tilde_set, type_set, union_set, union_term_set}
use Rattle.go_judge.specs.Quests.{Asked, Decided, Lacks, Quest, Done, Need, run, then_ask}
use Rattle.go_same.specs.Collect.{HasElements, IsKindOf, IsOwnKind, asked_after, asked_joined, asked_joined_to, asked_then, basic_kind, is_interface_kind, is_param, kind_of, kind_set, opening_within}
use Rattle.go_same.specs.Joins.{IsBoth, IsBothSets}
use Rattle.go_same.specs.Sets.{IsOwnFound, IsOwnSet, found_as, is_set, method_view, part_view, set_view}
use Rattle.go_same.specs.declared.set.FoundSet.{FoundSet}
use Rattle.go_same.specs.declared.set.FoundSet.TheVariants as F
use Rattle.go_same.specs.declared.set.TypeSet.{TypeSet}
use Rattle.go_same.proofs.KeepLemmas.{all-joined}

-- one question after another
pub run-then : {H A B : Type 0} (known : ℕ → Option H) (q : Quest H A) (next : A → Quest H B) → run known (then_ask q next) ≡ asked_then (run known q) (λ a. run known (next a))
run-then known (Done a) next = refl
run-then {H} {A} {B} known (Need d go_on) next = go (known d) (λ h. run-then known (go_on h) next)
  where
    go : (o : Option H) → ((h : H) → run known (then_ask (go_on h) next) ≡ asked_then (run known (go_on h)) (λ a. run known (next a)))
        → elim o as (λ _. Asked B) [ None ↦ Lacks d | Some h ↦ run known (then_ask (go_on h) next) ]
        ≡ asked_then (elim o as (λ _. Asked A) [ None ↦ Lacks d | Some h ↦ run known (go_on h) ]) (λ a. run known (next a))
    go None each = refl
    go (Some h) each = each h

pub then-agrees : {A B : Type 0} (x : Asked A) (f g : A → Asked B) → ((a : A) → f a ≡ g a) → asked_then x f ≡ asked_then x g
then-agrees (Decided a) f g each = each a
then-agrees (Lacks d) f g each = refl

pub run-joined : (known : Headers) (join : SetData → SetData → SetData) (a b : SetAsked) → run known (joined join a b) ≡ asked_joined join (run known a) (run known b)
run-joined known join a b = run-then known a (joined_to join b) ∙ then-agrees (run known a) (λ x. run known (joined_to join b x)) (asked_joined_to join (run known b)) second
  where
    second : (x : Option SetData) → run known (joined_to join b x) ≡ asked_joined_to join (run known b) x
    second None = refl
    second (Some x) = run-then known b (λ o. Done (option_map (join x) o))

pub joined-assoc : (join : SetData → SetData → SetData) → ((a b c : SetData) → join a (join b c) ≡ join (join a b) c) → (x y z : Asked (Option SetData)) → asked_joined join x (asked_joined join y z) ≡ asked_joined join (asked_joined join x y) z
joined-assoc join assoc (Lacks d) y z = refl
joined-assoc join assoc (Decided None) y z = refl
joined-assoc join assoc (Decided (Some a)) (Lacks d) z = refl
joined-assoc join assoc (Decided (Some a)) (Decided None) z = refl
joined-assoc join assoc (Decided (Some a)) (Decided (Some b)) (Lacks d) = refl
joined-assoc join assoc (Decided (Some a)) (Decided (Some b)) (Decided None) = refl
joined-assoc join assoc (Decided (Some a)) (Decided (Some b)) (Decided (Some c)) = ap (λ s. Decided (Some s)) (assoc a b c)

or-assoc : (a b c : Bool) → (a || (b || c)) ≡ ((a || b) || c)
or-assoc true b c = refl
or-assoc false b c = refl

or-false : (a : Bool) → (a || false) ≡ a
or-false true = refl
or-false false = refl

pub both-assoc : (a b c : SetData) → both_sets a (both_sets b c) ≡ both_sets (both_sets a b) c
both-assoc a b c =
    let methods = append_assoc a.methods b.methods c.methods in
    let unions = append_assoc a.unions b.unions c.unions in
    let comparable = or-assoc a.comparable b.comparable c.comparable in cc

both-none : (a : SetData) → both_sets a all_types ≡ a
both-none a =
    let methods = append-nil a.methods in
    let unions = append-nil a.unions in
    let comparable = or-false a.comparable in
    let same : both_sets a all_types ≡ record { methods = a.methods; unions = a.unions; comparable = a.comparable } = cc in same

pub joined-first : (y : Asked (Option SetData)) → asked_joined both_sets (Decided (Some all_types)) y ≡ y
joined-first (Lacks d) = refl
joined-first (Decided None) = refl
joined-first (Decided (Some s)) = refl

pub joined-last : (x : Asked (Option SetData)) → asked_joined both_sets x (Decided (Some all_types)) ≡ x
joined-last (Lacks d) = refl
joined-last (Decided None) = refl
joined-last (Decided (Some s)) = ap (λ a. Decided (Some a)) (both-none s)

-- terms of unions beside one another, of three
beside : (u v : List TermData) (ws : List (List TermData)) → map (λ x. u ++ x) (map (λ w. v ++ w) ws) ≡ map (λ w. (u ++ v) ++ w) ws
beside u v [] = refl
beside u v (w ∷ ws) = let one = append_assoc u v w in let rest = beside u v ws in cc

each_beside : (u : List TermData) (vs ws : List (List TermData)) → map (λ x. u ++ x) (either_unions vs ws) ≡ either_unions (map (λ v. u ++ v) vs) ws
each_beside u [] ws = refl
each_beside u (v ∷ vs) ws =
    ap (map (λ x. u ++ x)) (flat_map-cons (λ v. map (λ w. v ++ w) ws) v vs)
    ∙ map-append (λ x. u ++ x) (map (λ w. v ++ w) ws) (either_unions vs ws)
    ∙ (let one = beside u v ws in let rest = each_beside u vs ws in
    let both : map (λ x. u ++ x) (map (λ w. v ++ w) ws) ++ map (λ x. u ++ x) (either_unions vs ws) ≡ map (λ w. (u ++ v) ++ w) ws ++ either_unions (map (λ v. u ++ v) vs) ws = cc in both)
    ∙ sym (flat_map-cons (λ v. map (λ w. v ++ w) ws) (u ++ v) (map (λ v. u ++ v) vs))

unions-assoc : (us vs ws : List (List TermData)) → either_unions us (either_unions vs ws) ≡ either_unions (either_unions us vs) ws
unions-assoc [] vs ws = refl
unions-assoc (u ∷ us) vs ws =
    flat_map-cons (λ u. map (λ v. u ++ v) (either_unions vs ws)) u us
    ∙ (let one = each_beside u vs ws in let rest = unions-assoc us vs ws in
    let both : map (λ v. u ++ v) (either_unions vs ws) ++ either_unions us (either_unions vs ws) ≡ either_unions (map (λ v. u ++ v) vs) ws ++ either_unions (either_unions us vs) ws = cc in both)
    ∙ sym (flat_map-append (λ v. map (λ w. v ++ w) ws) (map (λ v. u ++ v) vs) (either_unions us vs))
    ∙ ap (λ xs. either_unions xs ws) (sym (flat_map-cons (λ u. map (λ v. u ++ v) vs) u us))

pub either-assoc : (a b c : SetData) → either_set a (either_set b c) ≡ either_set (either_set a b) c
either-assoc a b c = let unions = unions-assoc a.unions b.unions c.unions in cc

-- the terms that are left of a union, behind those before
abbrev pub union_rest : Headers → (TypeData → SetAsked) → Option (Asked (Option SetData)) → Parts → Asked (Option SetData)
union_rest known opening None parts = run known (union_set opening parts)
union_rest known opening (Some a) no_parts = a
union_rest known opening (Some a) (more_parts u us) = asked_joined either_set a (run known (union_set opening (more_parts u us)))

pub union_rest-next : (known : Headers) (opening : TypeData → SetAsked) (before : Option (Asked (Option SetData))) (u : TypeData) (us : Parts)
    → union_rest known opening (Some (asked_after either_set before (run known (union_term_set opening u)))) us ≡ union_rest known opening before (more_parts u us)
union_rest-next known opening None u no_parts = refl
union_rest-next known opening None u (more_parts v vs) = sym (run-joined known either_set (union_term_set opening u) (union_set opening (more_parts v vs)))
union_rest-next known opening (Some a) u no_parts = refl
union_rest-next known opening (Some a) u (more_parts v vs) =
    sym (joined-assoc either_set either-assoc a (run known (union_term_set opening u)) (run known (union_set opening (more_parts v vs))))
    ∙ ap (asked_joined either_set a) (sym (run-joined known either_set (union_term_set opening u) (union_set opening (more_parts v vs))))

pub elements-next : (known : Headers) (opening : TypeData → SetAsked) (a : Asked (Option SetData)) (e : TypeData) (es : Parts)
    → asked_joined both_sets (asked_joined both_sets a (run known (element_set opening e))) (run known (elements_set opening es)) ≡ asked_joined both_sets a (run known (elements_set opening (more_parts e es)))
elements-next known opening a e es =
    sym (joined-assoc both_sets both-assoc a (run known (element_set opening e)) (run known (elements_set opening es)))
    ∙ ap (asked_joined both_sets a) (sym (run-joined known both_sets (element_set opening e) (elements_set opening es)))

-- intersections, viewed
sets_viewed : (tree : Term → TypeData) (a b s : TypeSet) → IsBothSets a b s → set_view tree s ≡ both_sets (set_view tree a) (set_view tree b)
sets_viewed tree a b s is =
    let methods = ap (map (method_view tree)) is.methods ∙ map-append (method_view tree) a.methods.items b.methods.items in
    let unions = ap (map (λ u. map (part_view tree) u.items)) is.unions ∙ map-append (λ u. map (part_view tree) u.items) a.unions.items b.unions.items in
    let comparable = is.comparable in cc

sets_owned : (own : Term → Type 0) (a b s : TypeSet) → IsBothSets a b s → IsOwnSet own a → IsOwnSet own b → IsOwnSet own s
sets_owned own a b s is all also = (
  subst (AllByRecursion (λ m. AreOwnFunc own m.signature)) (sym is.methods) (all-joined (λ m. AreOwnFunc own m.signature) a.methods.items b.methods.items all.0 also.0),
  subst (AllByRecursion (λ u. AllByRecursion (λ p. own p.ty) u.items)) (sym is.unions) (all-joined (λ u. AllByRecursion (λ p. own p.ty) u.items) a.unions.items b.unions.items all.1 also.1),
)

pub both_viewed : (tree : Term → TypeData) (a b found : FoundSet) → IsBoth a b found → found_as tree found ≡ asked_joined both_sets (found_as tree a) (found_as tree b)
both_viewed tree (F.Unknown d) b found is = ap (found_as tree) is
both_viewed tree F.Absent b found is = ap (found_as tree) is
both_viewed tree (F.Is a) (F.Unknown d) found is = ap (found_as tree) is
both_viewed tree (F.Is a) F.Absent found is = ap (found_as tree) is
both_viewed tree (F.Is a) (F.Is b) (F.Is s) is = ap (λ x. Decided (Some x)) (sets_viewed tree a b s is)
both_viewed tree (F.Is a) (F.Is b) F.Absent is = absurd is
both_viewed tree (F.Is a) (F.Is b) (F.Unknown d) is = absurd is

pub both_owned : (own : Term → Type 0) (a b found : FoundSet) → IsBoth a b found → IsOwnFound own a → IsOwnFound own b → IsOwnFound own found
both_owned own a b (F.Unknown d) is all also = tt
both_owned own a b F.Absent is all also = tt
both_owned own (F.Is a) (F.Is b) (F.Is s) is all also = sets_owned own a b s is all also
both_owned own (F.Unknown d) b (F.Is s) is all also = absurd (cc)
both_owned own F.Absent b (F.Is s) is all also = absurd (cc)
both_owned own (F.Is a) (F.Unknown d) (F.Is s) is all also = absurd (cc)
both_owned own (F.Is a) F.Absent (F.Is s) is all also = absurd (cc)

-- nothing that is joined to it later counts, where it is no set
unset_stays : (tree : Term → TypeData) (join : SetData → SetData → SetData) (found : FoundSet) → is_set found ≡ false → (later : Asked (Option SetData)) → asked_joined join (found_as tree found) later ≡ found_as tree found
unset_stays tree join (F.Is s) off later = absurd (let never : true ≡ false = off in cc)
unset_stays tree join F.Absent off later = refl
unset_stays tree join (F.Unknown d) off later = refl

pub elements_unset : (tree : Term → TypeData) (found : FoundSet) → is_set found ≡ false → (later whole : Asked (Option SetData)) → asked_joined both_sets (found_as tree found) later ≡ whole → found_as tree found ≡ whole
elements_unset tree found off later whole left = sym (unset_stays tree both_sets found off later) ∙ left

pub union_unset : (tree : Term → TypeData) (known : Headers) (opening : TypeData → SetAsked) (found : FoundSet) → is_set found ≡ false → (parts : Parts) (whole : Asked (Option SetData))
    → union_rest known opening (Some (found_as tree found)) parts ≡ whole → found_as tree found ≡ whole
union_unset tree known opening found off no_parts whole left = left
union_unset tree known opening found off (more_parts u us) whole left = sym (unset_stays tree either_set found off (run known (union_set opening (more_parts u us)))) ∙ left

-- what stands at a type
pub set_of-opening : (n : ℕ) (t : TypeData) → set_of n t ≡ type_set (opening_within n) t
set_of-opening zero t = refl
set_of-opening (suc n) t = refl

basic_fits : (opening : TypeData → SetAsked) (tree : Term → TypeData) (b : Basic) → type_set opening (plain (shape_tree tree (S.Basic b))) ≡ kind_set opening tree (plain (shape_tree tree (S.Basic b))) (basic_kind b)
basic_fits opening tree B.Error = refl
basic_fits opening tree B.Comparable = refl
basic_fits opening tree b = refl

pub kind_fits : (opening : TypeData → SetAsked) (tree : Term → TypeData) (shape : Shape) → type_set opening (plain (shape_tree tree shape)) ≡ kind_set opening tree (plain (shape_tree tree shape)) (kind_of shape)
kind_fits opening tree (S.Basic b) = basic_fits opening tree b
kind_fits opening tree shape = refl

basic_stands : (tree : Term → TypeData) (b : Basic) → IsKindOf tree (shape_tree tree (S.Basic b)) (basic_kind b)
basic_stands tree b = record { interface = same b; literal = none b }
  where
    same : (b : Basic) → is_interface (shape_tree tree (S.Basic b)) ≡ is_interface_kind (basic_kind b)
    same B.Error = refl
    same B.Comparable = refl
    same b = refl

    none : (b : Basic) → HasElements tree (shape_tree tree (S.Basic b)) (basic_kind b)
    none B.Error = tt
    none B.Comparable = tt
    none b = tt

pub kind_stands : (tree : Term → TypeData) (shape : Shape) → IsKindOf tree (shape_tree tree shape) (kind_of shape)
kind_stands tree (S.Basic b) = basic_stands tree b
kind_stands tree (S.Interface es) = record { interface = refl; literal = refl }
kind_stands tree shape = record { interface = refl; literal = tt }

basic_own : (own : Term → Type 0) (b : Basic) → IsOwnKind own (basic_kind b)
basic_own own B.Error = tt
basic_own own B.Comparable = tt
basic_own own b = tt

pub kind_owned : (own : Term → Type 0) (shape : Shape) → AreOwn own shape → IsOwnKind own (kind_of shape)
kind_owned own (S.Basic b) all = basic_own own b
kind_owned own (S.Interface es) all = all
kind_owned own shape all = tt

-- a term with `~`
pub tilde_alone : (opening : TypeData → SetAsked) (t : TypeData) → is_param t ≡ false → Done (Some (term_set true (plain t))) ≡ tilde_set opening (plain t)
tilde_alone opening (made (param d i) ps) off = absurd (let never : true ≡ false = off in cc)
tilde_alone opening (made (field f) ps) off = refl
tilde_alone opening (made (method m) ps) off = refl
tilde_alone opening (made h ps) off = refl
