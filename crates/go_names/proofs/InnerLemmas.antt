-- The parts of a node that are read further, of things that each have a tree.
use Rattle.std.proofs.Common.{◌≡◌, ℕ, zero, suc, ◌+◌, ◌-◌, ◌<◌, ◌≤◌, Bool, true, false, not, cond, List, [], ◌∷◌, ◌++◌, length, get_or, map, filter, take, drop, refl, sym, ap, ◌∙◌, arith}
use Rattle.std.proofs.lemmas.List.{append-nil, take_more, take_rest}
use Rattle.std.proofs.lemmas.List.Elements.{All-nil, All-cons, All-head, All-tail, All-filter, filter-append}
use Rattle.std.specs.List.{list_any, All as AllOf}
use Rattle.go_tree.specs.declared.node.Node.{Node}
use Rattle.go_tree.specs.Tree.{Tree, tree_of, kind_of, list_of, parts_of}
use Rattle.go_module.specs.declared.inner.Inner.{Inner}
use Rattle.go_module.specs.declared.inner.Inner.TheVariants.{All, First, Last, BehindFirst, BehindNames, BehindKey, TypesAlone, Neither}
use Rattle.go_module.specs.Names.Inner.{is_name_kind, is_tag_kind, is_named_param, is_unnamed_param, first_alone, last_alone, all_behind, behind_key, types_alone, inner_of, inner_by, inner_parts}

-- one thing stands for another

map-cond : {X Y : Type 0} (f : X → Y) (b : Bool) (xs ys : List X) → map f (cond b xs ys) ≡ cond b (map f xs) (map f ys)
map-cond f true xs ys = refl
map-cond f false xs ys = refl

pub map-filter : {X Y : Type 0} (f : X → Y) (p : Y → Bool) (xs : List X) → map f (filter (λ x. p (f x)) xs) ≡ filter p (map f xs)
map-filter f p [] = refl
map-filter f p (x ∷ xs) = map-cond f (p (f x)) (x ∷ filter (λ x. p (f x)) xs) (filter (λ x. p (f x)) xs) ∙ ap (λ ys. cond (p (f x)) (f x ∷ ys) ys) (map-filter f p xs)

list_any-map : {X Y : Type 0} (f : X → Y) (p : Y → Bool) (xs : List X) → list_any (λ x. p (f x)) xs ≡ list_any p (map f xs)
list_any-map f p [] = refl
list_any-map f p (x ∷ xs) = rw (list_any-map f p xs)

first_alone-map : {X Y : Type 0} (tree : Y → Tree) (f : X → Y) (xs : List X) → map f (first_alone (λ x. tree (f x)) xs) ≡ first_alone tree (map f xs)
first_alone-map tree f [] = refl
first_alone-map tree f (x ∷ xs) = refl

last_alone-map : {X Y : Type 0} (tree : Y → Tree) (f : X → Y) (xs : List X) → map f (last_alone (λ x. tree (f x)) xs) ≡ last_alone tree (map f xs)
last_alone-map tree f [] = refl
last_alone-map tree f (x ∷ []) = refl
last_alone-map tree f (x ∷ (y ∷ ys)) = last_alone-map tree f (y ∷ ys)

all_behind-map : {X Y : Type 0} (tree : Y → Tree) (f : X → Y) (xs : List X) → map f (all_behind (λ x. tree (f x)) xs) ≡ all_behind tree (map f xs)
all_behind-map tree f [] = refl
all_behind-map tree f (x ∷ xs) = refl

behind_key-map : {X Y : Type 0} (tree : Y → Tree) (f : X → Y) (xs : List X) → map f (behind_key (λ x. tree (f x)) xs) ≡ behind_key tree (map f xs)
behind_key-map tree f [] = refl
behind_key-map tree f (x ∷ xs) = map-cond f (is_name_kind (kind_of (tree (f x)))) xs (x ∷ xs)

types_alone-map : {X Y : Type 0} (tree : Y → Tree) (f : X → Y) (xs : List X) → map f (types_alone (λ x. tree (f x)) xs) ≡ types_alone tree (map f xs)
types_alone-map tree f xs =
    map-cond f (list_any (λ x. is_named_param (kind_of (tree (f x)))) xs) (filter (λ x. not (is_unnamed_param (kind_of (tree (f x))))) xs) xs
    ∙ ap (λ b. cond b (map f (filter (λ x. not (is_unnamed_param (kind_of (tree (f x))))) xs)) (map f xs)) (list_any-map f (λ y. is_named_param (kind_of (tree y))) xs)
    ∙ ap (λ ys. cond (list_any (λ y. is_named_param (kind_of (tree y))) (map f xs)) ys (map f xs)) (map-filter f (λ y. not (is_unnamed_param (kind_of (tree y)))) xs)

behind_names-map : {X Y : Type 0} (tree : Y → Tree) (f : X → Y) (xs : List X) → map f (inner_by (λ x. tree (f x)) BehindNames xs) ≡ inner_by tree BehindNames (map f xs)
behind_names-map tree f xs =
    last_alone-map tree f (filter (λ x. not (is_tag_kind (kind_of (tree (f x))))) xs)
    ∙ ap (last_alone tree) (map-filter f (λ y. not (is_tag_kind (kind_of (tree y)))) xs)

pub inner_by-map : {X Y : Type 0} (tree : Y → Tree) (f : X → Y) (which : Inner) (xs : List X) → map f (inner_by (λ x. tree (f x)) which xs) ≡ inner_by tree which (map f xs)
inner_by-map tree f All xs = refl
inner_by-map tree f First xs = first_alone-map tree f xs
inner_by-map tree f Last xs = last_alone-map tree f xs
inner_by-map tree f BehindFirst xs = all_behind-map tree f xs
inner_by-map tree f BehindNames xs = behind_names-map tree f xs
inner_by-map tree f BehindKey xs = behind_key-map tree f xs
inner_by-map tree f TypesAlone xs = types_alone-map tree f xs
inner_by-map tree f Neither xs = refl

-- the nodes that stand for the parts of a node
pub inner_nodes : (t : Tree) (ns : List Node) → map tree_of ns ≡ list_of (parts_of t) → map tree_of (inner_by tree_of (inner_of (kind_of t)) ns) ≡ inner_parts t
inner_nodes t ns parts = inner_by-map (λ u. u) tree_of (inner_of (kind_of t)) ns ∙ ap (inner_by (λ u. u) (inner_of (kind_of t))) parts

pub ruleset inner_lemmas = (inner_nodes)

all_cond : {X : Type 0} (P : X → Type 0) (b : Bool) (xs ys : List X) → AllOf P xs → AllOf P ys → AllOf P (cond b xs ys)
all_cond P true xs ys first second = first
all_cond P false xs ys first second = second

all_first : {X : Type 0} (tree : X → Tree) (P : X → Type 0) (xs : List X) → AllOf P xs → AllOf P (first_alone tree xs)
all_first tree P [] all = all
all_first tree P (x ∷ xs) all = All-cons P x [] (All-head P x xs all) (All-nil P)

all_last : {X : Type 0} (tree : X → Tree) (P : X → Type 0) (xs : List X) → AllOf P xs → AllOf P (last_alone tree xs)
all_last tree P [] all = all
all_last tree P (x ∷ []) all = all
all_last tree P (x ∷ (y ∷ ys)) all = all_last tree P (y ∷ ys) (All-tail P x (y ∷ ys) all)

all_others : {X : Type 0} (tree : X → Tree) (P : X → Type 0) (xs : List X) → AllOf P xs → AllOf P (all_behind tree xs)
all_others tree P [] all = all
all_others tree P (x ∷ xs) all = All-tail P x xs all

all_behind_key : {X : Type 0} (tree : X → Tree) (P : X → Type 0) (xs : List X) → AllOf P xs → AllOf P (behind_key tree xs)
all_behind_key tree P [] all = all
all_behind_key tree P (x ∷ xs) all = all_cond P (is_name_kind (kind_of (tree x))) xs (x ∷ xs) (All-tail P x xs all) all

-- what holds of all parts holds of those that are read further
pub all_inner : {X : Type 0} (tree : X → Tree) (P : X → Type 0) (which : Inner) (xs : List X) → AllOf P xs → AllOf P (inner_by tree which xs)
all_inner tree P All xs all = all
all_inner tree P First xs all = all_first tree P xs all
all_inner tree P Last xs all = all_last tree P xs all
all_inner tree P BehindFirst xs all = all_others tree P xs all
all_inner tree P BehindNames xs all =
    all_last tree P (filter (λ x. not (is_tag_kind (kind_of (tree x)))) xs) (All-filter (λ x. not (is_tag_kind (kind_of (tree x)))) P xs all)
all_inner tree P BehindKey xs all = all_behind_key tree P xs all
all_inner tree P TypesAlone xs all =
    all_cond P (list_any (λ x. is_named_param (kind_of (tree x))) xs) (filter (λ x. not (is_unnamed_param (kind_of (tree x)))) xs) xs (All-filter (λ x. not (is_unnamed_param (kind_of (tree x)))) P xs all) all
all_inner tree P Neither xs all = All-nil P

-- parts of a slice

pub first_alone-take : (ns : List Node) → 1 ≤ length ns → take (1 - 0) (drop 0 ns) ≡ first_alone tree_of ns
first_alone-take [] le = absurd (omega arith)
first_alone-take (n ∷ ns) le = refl

last_alone-drop : (n : Node) (ns : List Node) → drop (length ns) (n ∷ ns) ≡ last_alone tree_of (n ∷ ns)
last_alone-drop n [] = refl
last_alone-drop n (m ∷ ns) = last_alone-drop m ns

pub last_alone-some : (ns : List Node) → 1 ≤ length ns → take (length ns - (length ns - 1)) (drop (length ns - 1) ns) ≡ last_alone tree_of ns
last_alone-some [] le = absurd (omega arith)
last_alone-some (n ∷ ns) le =
    let last : length (n ∷ ns) - 1 ≡ length ns = omega arith in
    take_rest (n ∷ ns) (length (n ∷ ns) - 1) ∙ ap (λ (k : ℕ). drop k (n ∷ ns)) last ∙ last_alone-drop n ns

pub all_behind-some : (ns : List Node) → 1 ≤ length ns → take (length ns - 1) (drop 1 ns) ≡ all_behind tree_of ns
all_behind-some [] le = absurd (omega arith)
all_behind-some (n ∷ ns) le = take_rest (n ∷ ns) 1

last_alone-push : (ns : List Node) (n : Node) → last_alone tree_of (ns ++ n ∷ []) ≡ n ∷ []
last_alone-push [] n = refl
last_alone-push (m ∷ []) n = refl
last_alone-push (m ∷ (k ∷ ns)) n = last_alone-push (k ∷ ns) n

one_long : (ns : List Node) (i : ℕ) (n : Node) → i < length ns → n ≡ get_or ns i n → take (i + 1 - i) (drop i ns) ≡ n ∷ []
one_long [] i n lt is = absurd (omega arith)
one_long (m ∷ ns) zero n lt is = ap (λ (k : Node). k ∷ []) (sym is)
one_long (m ∷ ns) (suc i) n lt is =
    let same : suc i + 1 - suc i ≡ i + 1 - i = omega arith in
    ap (λ (k : ℕ). take k (drop i ns)) same ∙ one_long ns i n (omega arith) is

-- the last of one node more that passes
pub last_alone-more_found : (p : Node → Bool) (ns : List Node) (i : ℕ) (n : Node) → i < length ns → n ≡ get_or ns i n → p n ≡ true → take (i + 1 - i) (drop i ns) ≡ last_alone tree_of (filter p (take (i + 1) ns))
last_alone-more_found p ns i n lt is passes =
    one_long ns i n lt is
    ∙ sym (last_alone-push (filter p (take i ns)) n)
    ∙ ap (λ (ms : List Node). last_alone tree_of (filter p (take i ns) ++ ms)) (sym (ap (λ (b : Bool). cond b (n ∷ []) []) passes))
    ∙ ap (last_alone tree_of) (sym (filter-append p (take i ns) (n ∷ [])))
    ∙ ap (λ (m : Node). last_alone tree_of (filter p (take i ns ++ m ∷ []))) is
    ∙ ap (λ (ms : List Node). last_alone tree_of (filter p ms)) (sym (take_more ns i n lt))

pub last_alone-more_other : (p : Node → Bool) (ns : List Node) (i : ℕ) (n : Node) → i < length ns → n ≡ get_or ns i n → p n ≡ false → last_alone tree_of (filter p (take i ns)) ≡ last_alone tree_of (filter p (take (i + 1) ns))
last_alone-more_other p ns i n lt is fails =
    ap (last_alone tree_of) (sym (append-nil (filter p (take i ns)))
    ∙ ap (λ (ms : List Node). filter p (take i ns) ++ ms) (sym (ap (λ (b : Bool). cond b (n ∷ []) []) fails))
    ∙ sym (filter-append p (take i ns) (n ∷ []))
    ∙ ap (λ (m : Node). filter p (take i ns ++ m ∷ [])) is
    ∙ ap (filter p) (sym (take_more ns i n lt)))

pub ruleset alone_lemmas = (first_alone-take, last_alone-some, all_behind-some)
