-- Unions of type sets: the terms of each union beside those of each other.
use Rattle.std.proofs.Common.{◌≡◌, ℕ, suc, ◌+◌, ◌<◌, List, [], ◌∷◌, ◌++◌, map, length, drop, get_or, refl, sym, ap, subst, ◌∙◌, add-one, drop-cons, append_assoc, Vec, Global}
use Rattle.std.proofs.lemmas.List.{map-append}
use Rattle.std.proofs.lemmas.List.Concat.{flat_map-cons}
use Rattle.std.specs.List.{AllByRecursion, flat_map}
use Rattle.go_term.specs.Types.{TypeData}
use Rattle.go_term.specs.declared.term.Term.{Term}
use Rattle.go_judge.specs.Types.Own.{KeepsTypes}
use Rattle.go_judge.specs.Types.TypeSets.{TermData, either_unions}
use Rattle.go_same.specs.Sets.{part_view}
use Rattle.go_same.specs.declared.set.UnionPart.{UnionPart}
use Rattle.go_same.proofs.KeepLemmas.{all-joined, all_parts_kept, all_parts_types, map-agrees, parts_kept, parts_types}

-- what is left of a list, from an element on
module _ {A : Type 0} (xs : List A) (i : ℕ) (x : A) (lt : i < length xs) (at : x ≡ get_or xs i x) where
  pub opens : drop i xs ≡ x ∷ drop (i + 1) xs
  opens = rw add-one (drop-cons xs i x lt ∙ ap (λ y. y ∷ drop (suc i) xs) (sym at))

  pub left_parts : (own : A → Type 0) → AllByRecursion own (drop i xs) → own x × AllByRecursion own (drop (i + 1) xs)
  left_parts own all = subst (AllByRecursion own) opens all

  pub left_map : {B : Type 0} (view : A → B) → map view (drop i xs) ≡ view x ∷ map view (drop (i + 1) xs)
  left_map view = ap (map view) opens

grown : {B : Type 0} (done more rest total : List B) (b : B) → more ≡ done ++ b ∷ [] → done ++ (b ∷ rest) ≡ total → more ++ rest ≡ total
grown done more rest total b e f = ap (λ xs. xs ++ rest) e ∙ append_assoc done (b ∷ []) rest ∙ f

-- one more of a list, over a judge that has gone on
module _ {A B : Type 0} (own1 own2 : A → Type 0) (view0 view1 view2 : A → B) (all : List A)
    (stays : map view2 all ≡ map view1 all) (owned : AllByRecursion own2 all) where
  pub more_own : (more : List A) (one : A) → more ≡ all ++ one ∷ [] → own2 one → AllByRecursion own2 more
  more_own more one e is = subst (AllByRecursion own2) (sym e) (all-joined own2 all (one ∷ []) owned (is, tt))

  pub more_made : (more : List A) (one : A) (b : B) (rest total : List B) → more ≡ all ++ one ∷ [] → view2 one ≡ b → map view1 all ++ (b ∷ rest) ≡ total → map view2 more ++ rest ≡ total
  more_made more one b rest total e same made =
      grown (map view1 all) (map view2 more) rest total b
      (ap (map view2) e ∙ map-append view2 all (one ∷ []) ∙ ap (λ xs. xs ++ view2 one ∷ []) stays ∙ ap (λ y. map view1 all ++ y ∷ []) same) made

-- copies of terms, one after another
module _ {own0 own1 own2 : Term → Type 0} {tree0 tree1 tree2 : Term → TypeData} (before : KeepsTypes own0 own1 tree0 tree1) (here : KeepsTypes own1 own2 tree1 tree2) where
  module _ (ps : List UnionPart) (i : ℕ) (p : UnionPart) (lt : i < length ps) (at : p ≡ get_or ps i p) (left : AllByRecursion (λ p. own0 p.ty) (drop i ps))
      (all more : List UnionPart) (copy : UnionPart) (e : more ≡ all ++ copy ∷ []) (owned : AllByRecursion (λ p. own1 p.ty) all) where
    pub copy_left : AllByRecursion (λ p. own0 p.ty) (drop (i + 1) ps)
    copy_left = (left_parts ps i p lt at (λ p. own0 p.ty) left).1

    pub copy_own : own2 copy.ty → AllByRecursion (λ p. own2 p.ty) more
    copy_own is = more_own (λ p. own1 p.ty) (λ p. own2 p.ty) (part_view tree0) (part_view tree1) (part_view tree2) all (parts_kept here all owned) (parts_types here all owned) more copy e is

    pub copy_made : (total : List TermData) → part_view tree2 copy ≡ part_view tree1 p
        → map (part_view tree1) all ++ map (part_view tree0) (drop i ps) ≡ total → map (part_view tree2) more ++ map (part_view tree0) (drop (i + 1) ps) ≡ total
    copy_made total same made =
        let is = (left_parts ps i p lt at (λ p. own0 p.ty) left).0 in
        let same_tree = before.trees p.ty is in
        let as_first : part_view tree2 copy ≡ part_view tree0 p = cc in
        more_made (λ p. own1 p.ty) (λ p. own2 p.ty) (part_view tree0) (part_view tree1) (part_view tree2) all (parts_kept here all owned) (parts_types here all owned) more copy (part_view tree0 p) (map (part_view tree0) (drop (i + 1) ps)) total e as_first
        (ap (λ xs. map (part_view tree1) all ++ xs) (sym (left_map ps i p lt at (part_view tree0))) ∙ made)

  -- one union joined to each of several
  module _ (vs : List (Vec UnionPart Global)) (i : ℕ) (v : Vec UnionPart Global) (lt : i < length vs) (at : v ≡ get_or vs i v) (left : AllByRecursion (λ u. AllByRecursion (λ p. own0 p.ty) u.items) (drop i vs))
      (us : List UnionPart) (own_us : AllByRecursion (λ p. own0 p.ty) us)
      (all more : List (Vec UnionPart Global)) (both : Vec UnionPart Global) (e : more ≡ all ++ both ∷ []) (owned : AllByRecursion (λ u. AllByRecursion (λ p. own1 p.ty) u.items) all) where
    pub each_left : AllByRecursion (λ u. AllByRecursion (λ p. own0 p.ty) u.items) (drop (i + 1) vs)
    each_left = (left_parts vs i v lt at (λ u. AllByRecursion (λ p. own0 p.ty) u.items) left).1

    pub each_own : AllByRecursion (λ p. own2 p.ty) both.items → AllByRecursion (λ u. AllByRecursion (λ p. own2 p.ty) u.items) more
    each_own is = more_own (λ u. AllByRecursion (λ p. own1 p.ty) u.items) (λ u. AllByRecursion (λ p. own2 p.ty) u.items) (λ u. map (part_view tree0) u.items) (λ u. map (part_view tree1) u.items) (λ u. map (part_view tree2) u.items) all (all_parts_kept here all owned) (all_parts_types here all owned) more both e is

    pub each_made : (total : List (List TermData)) (others : List UnionPart) → others ≡ v.items → map (part_view tree2) both.items ≡ map (part_view tree1) us ++ map (part_view tree1) others
        → map (λ u. map (part_view tree1) u.items) all ++ map (λ v. map (part_view tree0) us ++ map (part_view tree0) v.items) (drop i vs) ≡ total
        → map (λ u. map (part_view tree2) u.items) more ++ map (λ v. map (part_view tree0) us ++ map (part_view tree0) v.items) (drop (i + 1) vs) ≡ total
    each_made total others is_v same made =
        let is = (left_parts vs i v lt at (λ u. AllByRecursion (λ p. own0 p.ty) u.items) left).0 in
        let first = parts_kept before us own_us in
        let second = parts_kept before v.items is in
        let as_first : map (part_view tree2) both.items ≡ map (part_view tree0) us ++ map (part_view tree0) v.items = cc in
        let grow = more_made (λ u. AllByRecursion (λ p. own1 p.ty) u.items) (λ u. AllByRecursion (λ p. own2 p.ty) u.items) (λ u. map (part_view tree0) u.items) (λ u. map (part_view tree1) u.items) (λ u. map (part_view tree2) u.items) all (all_parts_kept here all owned) (all_parts_types here all owned) in
        grow more both (map (part_view tree0) us ++ map (part_view tree0) v.items) (map (λ v. map (part_view tree0) us ++ map (part_view tree0) v.items) (drop (i + 1) vs)) total e as_first
        (ap (λ xs. map (λ u. map (part_view tree1) u.items) all ++ xs) (sym (left_map vs i v lt at (λ v. map (part_view tree0) us ++ map (part_view tree0) v.items))) ∙ made)

-- the second list of copies
pub both_made : {own0 own1 : Term → Type 0} {tree0 tree1 : Term → TypeData} → KeepsTypes own0 own1 tree0 tree1 → (none us vs first : List UnionPart) → none ≡ [] → AllByRecursion (λ p. own0 p.ty) vs
    → map (part_view tree1) first ≡ map (part_view tree0) none ++ map (part_view tree0) us → map (part_view tree1) first ++ map (part_view tree1) vs ≡ map (part_view tree0) us ++ map (part_view tree0) vs
both_made {own0} {own1} {tree0} {tree1} kept none us vs first empty own made =
    let second = parts_kept kept vs own in
    let gone : map (part_view tree0) none ++ map (part_view tree0) us ≡ map (part_view tree0) us = ap (λ xs. map (part_view tree0) xs ++ map (part_view tree0) us) empty in
    let same : map (part_view tree1) first ≡ map (part_view tree0) us = made ∙ gone in cc

mapped_twice : {A B C : Type 0} (f : B → C) (g : A → B) (xs : List A) → map f (map g xs) ≡ map (λ x. f (g x)) xs
mapped_twice f g [] = refl
mapped_twice f g (x ∷ xs) = ap (λ ys. f (g x) ∷ ys) (mapped_twice f g xs)

-- each union joined to each of the others
pub products_made : {own0 own1 : Term → Type 0} {tree0 tree1 : Term → TypeData} (tree2 : Term → TypeData) → KeepsTypes own0 own1 tree0 tree1
    → (us : List (Vec UnionPart Global)) (i : ℕ) (u : Vec UnionPart Global) → i < length us → u ≡ get_or us i u → AllByRecursion (λ u. AllByRecursion (λ p. own0 p.ty) u.items) (drop i us)
    → (vs : List (Vec UnionPart Global)) → AllByRecursion (λ u. AllByRecursion (λ p. own0 p.ty) u.items) vs
    → (all more : List (Vec UnionPart Global)) (one : List UnionPart) → one ≡ u.items
    → map (λ u. map (part_view tree2) u.items) more ≡ map (λ u. map (part_view tree1) u.items) all ++ map (λ v. map (part_view tree1) one ++ map (part_view tree1) v.items) vs
    → (total : List (List TermData))
    → map (λ u. map (part_view tree1) u.items) all ++ either_unions (map (λ u. map (part_view tree0) u.items) (drop i us)) (map (λ u. map (part_view tree0) u.items) vs) ≡ total
    → map (λ u. map (part_view tree2) u.items) more ++ either_unions (map (λ u. map (part_view tree0) u.items) (drop (i + 1) us)) (map (λ u. map (part_view tree0) u.items) vs) ≡ total
products_made {own0} {own1} {tree0} {tree1} tree2 kept us i u lt at left vs own_vs all more one is_u grew total made =
    let is = (left_parts us i u lt at (λ u. AllByRecursion (λ p. own0 p.ty) u.items) left).0 in
    let first = ap (map (part_view tree1)) is_u ∙ parts_kept kept u.items is in
    let each : map (λ v. map (part_view tree1) one ++ map (part_view tree1) v.items) vs ≡ map (λ v. map (part_view tree0) u.items ++ map (part_view tree0) v.items) vs
    = map-agrees (λ u. AllByRecursion (λ p. own0 p.ty) u.items) (λ v. map (part_view tree1) one ++ map (part_view tree1) v.items) (λ v. map (part_view tree0) u.items ++ map (part_view tree0) v.items)
    (λ v owned. let second = parts_kept kept v.items owned in cc) vs own_vs in
    let within : map (λ v. map (part_view tree0) u.items ++ v) (map (λ u. map (part_view tree0) u.items) vs) ≡ map (λ v. map (part_view tree0) u.items ++ map (part_view tree0) v.items) vs
    = mapped_twice (λ v. map (part_view tree0) u.items ++ v) (λ u. map (part_view tree0) u.items) vs in
    let unfolds : either_unions (map (λ u. map (part_view tree0) u.items) (drop i us)) (map (λ u. map (part_view tree0) u.items) vs)
    ≡ map (λ v. map (part_view tree0) u.items ++ v) (map (λ u. map (part_view tree0) u.items) vs) ++ either_unions (map (λ u. map (part_view tree0) u.items) (drop (i + 1) us)) (map (λ u. map (part_view tree0) u.items) vs)
    = ap (λ xs. either_unions xs (map (λ u. map (part_view tree0) u.items) vs)) (left_map us i u lt at (λ u. map (part_view tree0) u.items))
    ∙ flat_map-cons (λ u. map (λ v. u ++ v) (map (λ u. map (part_view tree0) u.items) vs)) (map (part_view tree0) u.items) (map (λ u. map (part_view tree0) u.items) (drop (i + 1) us)) in
    let rest = either_unions (map (λ u. map (part_view tree0) u.items) (drop (i + 1) us)) (map (λ u. map (part_view tree0) u.items) vs) in
    let done = map (λ u. map (part_view tree1) u.items) all in
    ap (λ xs. xs ++ rest) (grew ∙ ap (λ xs. done ++ xs) (each ∙ sym within))
    ∙ append_assoc done (map (λ v. map (part_view tree0) u.items ++ v) (map (λ u. map (part_view tree0) u.items) vs)) rest
    ∙ ap (λ xs. done ++ xs) (sym unfolds) ∙ made

mapped-back : {A B : Type 0} (h : A → B) (P : B → Type 0) (xs : List A) → AllByRecursion P (map h xs) → AllByRecursion (λ x. P (h x)) xs
mapped-back h P [] all = tt
mapped-back h P (x ∷ xs) all = (all.0, mapped-back h P xs all.1)

-- each union with each other, as lists
abbrev pub each_with_each : List (Vec UnionPart Global) → List (Vec UnionPart Global) → List (List UnionPart)
each_with_each us vs = flat_map (λ u. map (λ v. u.items ++ v.items) vs) us

one_with_each : (tree : Term → TypeData) (us : List UnionPart) (vs : List (Vec UnionPart Global))
    → map (map (part_view tree)) (map (λ v. us ++ v.items) vs) ≡ map (λ v. map (part_view tree) us ++ v) (map (λ v. map (part_view tree) v.items) vs)
one_with_each tree us [] = refl
one_with_each tree us (v ∷ vs) = let one = map-append (part_view tree) us v.items in let rest = one_with_each tree us vs in cc

each_viewed : (tree : Term → TypeData) (us vs : List (Vec UnionPart Global))
    → map (map (part_view tree)) (each_with_each us vs) ≡ either_unions (map (λ u. map (part_view tree) u.items) us) (map (λ u. map (part_view tree) u.items) vs)
each_viewed tree [] vs = refl
each_viewed tree (u ∷ us) vs =
    ap (map (map (part_view tree))) (flat_map-cons (λ u. map (λ v. u.items ++ v.items) vs) u us)
    ∙ map-append (map (part_view tree)) (map (λ v. u.items ++ v.items) vs) (each_with_each us vs)
    ∙ (let one = one_with_each tree u.items vs in let rest = each_viewed tree us vs in
    let both : map (map (part_view tree)) (map (λ v. u.items ++ v.items) vs) ++ map (map (part_view tree)) (each_with_each us vs)
    ≡ map (λ v. map (part_view tree) u.items ++ v) (map (λ v. map (part_view tree) v.items) vs) ++ either_unions (map (λ u. map (part_view tree) u.items) us) (map (λ u. map (part_view tree) u.items) vs) = cc in both)
    ∙ sym (flat_map-cons (λ x. map (λ y. x ++ y) (map (λ u. map (part_view tree) u.items) vs)) (map (part_view tree) u.items) (map (λ u. map (part_view tree) u.items) us))

pub one_viewed : (tree : Term → TypeData) (us vs all : List (Vec UnionPart Global)) → map (λ u. u.items) all ≡ each_with_each us vs
    → map (λ u. map (part_view tree) u.items) all ≡ either_unions (map (λ u. map (part_view tree) u.items) us) (map (λ u. map (part_view tree) u.items) vs)
one_viewed tree us vs all e = sym (mapped_twice (map (part_view tree)) (λ u. u.items) all) ∙ ap (map (map (part_view tree))) e ∙ each_viewed tree us vs

each_owned : (own : Term → Type 0) (us vs : List (Vec UnionPart Global)) → AllByRecursion (λ u. AllByRecursion (λ p. own p.ty) u.items) us → AllByRecursion (λ u. AllByRecursion (λ p. own p.ty) u.items) vs
    → AllByRecursion (AllByRecursion (λ p. own p.ty)) (each_with_each us vs)
each_owned own [] vs all also = tt
each_owned own (u ∷ us) vs all also =
    subst (AllByRecursion (AllByRecursion (λ p. own p.ty))) (sym (flat_map-cons (λ u. map (λ v. u.items ++ v.items) vs) u us))
    (all-joined (AllByRecursion (λ p. own p.ty)) (map (λ v. u.items ++ v.items) vs) (each_with_each us vs) (with_one vs also) (each_owned own us vs all.1 also))
  where
    with_one : (ws : List (Vec UnionPart Global)) → AllByRecursion (λ u. AllByRecursion (λ p. own p.ty) u.items) ws → AllByRecursion (AllByRecursion (λ p. own p.ty)) (map (λ v. u.items ++ v.items) ws)
    with_one [] each = tt
    with_one (w ∷ ws) each = (all-joined (λ p. own p.ty) u.items w.items all.0 each.0, with_one ws each.1)

pub one_owned : (own : Term → Type 0) (us vs all : List (Vec UnionPart Global)) → map (λ u. u.items) all ≡ each_with_each us vs
    → AllByRecursion (λ u. AllByRecursion (λ p. own p.ty) u.items) us → AllByRecursion (λ u. AllByRecursion (λ p. own p.ty) u.items) vs → AllByRecursion (λ u. AllByRecursion (λ p. own p.ty) u.items) all
one_owned own us vs all e first second = mapped-back (λ u. u.items) (AllByRecursion (λ p. own p.ty)) all (subst (AllByRecursion (AllByRecursion (λ p. own p.ty))) (sym e) (each_owned own us vs first second))
