-- What shapes say of open nodes, and what the acts make of open nodes that fit a shape.
use Rattle.std.proofs.Common.{◌≡◌, ℕ, Bool, true, false, List, [], ◌∷◌, ◌++◌, refl, sym, subst, cond, Option, None, Some, ◌&&◌}
use Rattle.std.proofs.lemmas.Bool.{and_parts, or_left, or_right}
use Rattle.go_tree.specs.declared.node_kind.NodeKind.{NodeKind}
use Rattle.go_tree.specs.Tree.{Tree, kind_of, start_of}
use Rattle.go_tree.specs.Grammar.RightSide.{Open, Reopen, Adopt, CheckType, Close}
use Rattle.go_tree.specs.Grammar.Trees.Reading.{OpenNode, reopen, adopt, close_last, node_read, ends_in_type}
use Rattle.go_tree.proofs.ShapeLemmas.{Fits, HasPart, meet, covers, fits_covered, fits_left, fits_right, some_part}
use Rattle.go_tree.proofs.DecidedTests.{implied}
use Rattle.go_tree.proofs.NetEffects.{Sort, Named, ByParts, ChanLiteral, TypeLiteral, Other, sort_of, Sorts, sorts, has, any_sort, only, Is, join_sorts, within, Shape, stack, flow_act, join_parts, parts_within, stacked, joined, join_both, settles, if_settled, settled_by, repeated_flow, then_flow}
use Rattle.go_tree.proofs.TruthLemmas.{implies}

-- the trees are of these sorts
abbrev pub Are : List Sorts → List Tree → Type 0
Are [] [] = Unit {0}
Are [] (x ∷ xs) = ⊥
Are (c ∷ cs) [] = ⊥
Are (c ∷ cs) (x ∷ xs) = Is c x × Are cs xs

-- an open node with further parts
abbrev pub with_parts : List Tree → OpenNode → OpenNode
with_parts xs f = record { start = f.start; parts = xs ++ f.parts }

abbrev pub FitsShape : Shape → List OpenNode → List Tree → Type 0
FitsShape (stack us cs) tops xs = Fits us tops × Are cs xs

-- those that fit a shape, round them f with some more parts, and round it those below
abbrev pub standing : OpenNode → List OpenNode → List OpenNode → List Tree → List OpenNode
standing f below tops new = tops ++ (with_parts new f ∷ below)

-- ---- sorts

has_within : (c d : Sorts) (x : Sort) → within c d ≡ true → has c x ≡ true → has d x ≡ true
has_within (sorts a b c d e) (sorts f g h i j) x w q =
    let first = and_parts (implied a f) (implied b g && (implied c h && (implied d i && implied e j))) w in
    let second = and_parts (implied b g) (implied c h && (implied d i && implied e j)) first.1 in
    let third = and_parts (implied c h) (implied d i && implied e j) second.1 in
    let fourth = and_parts (implied d i) (implied e j) third.1 in
    go first.0 second.0 third.0 fourth.0 fourth.1 x q
  where
    go : implied a f ≡ true → implied b g ≡ true → implied c h ≡ true → implied d i ≡ true → implied e j ≡ true → (x : Sort) → has (sorts a b c d e) x ≡ true → has (sorts f g h i j) x ≡ true
    go v w x y z Named q = implies a f v q
    go v w x y z ByParts q = implies b g w q
    go v w x y z ChanLiteral q = implies c h x q
    go v w x y z TypeLiteral q = implies d i y q
    go v w x y z Other q = implies e j z q

pub is_within : (c d : Sorts) (t : Tree) → within c d ≡ true → Is c t → Is d t
is_within c d t h i = has_within c d (sort_of (kind_of t)) h i

has_left : (c d : Sorts) (x : Sort) → has c x ≡ true → has (join_sorts c d) x ≡ true
has_left (sorts a b c d e) (sorts f g h i j) Named q = or_left a f q
has_left (sorts a b c d e) (sorts f g h i j) ByParts q = or_left b g q
has_left (sorts a b c d e) (sorts f g h i j) ChanLiteral q = or_left c h q
has_left (sorts a b c d e) (sorts f g h i j) TypeLiteral q = or_left d i q
has_left (sorts a b c d e) (sorts f g h i j) Other q = or_left e j q

has_right : (c d : Sorts) (x : Sort) → has d x ≡ true → has (join_sorts c d) x ≡ true
has_right (sorts a b c d e) (sorts f g h i j) Named q = or_right a f q
has_right (sorts a b c d e) (sorts f g h i j) ByParts q = or_right b g q
has_right (sorts a b c d e) (sorts f g h i j) ChanLiteral q = or_right c h q
has_right (sorts a b c d e) (sorts f g h i j) TypeLiteral q = or_right d i q
has_right (sorts a b c d e) (sorts f g h i j) Other q = or_right e j q

only_itself : (x : Sort) → has (only x) x ≡ true
only_itself Named = refl
only_itself ByParts = refl
only_itself ChanLiteral = refl
only_itself TypeLiteral = refl
only_itself Other = refl

any_one : (x : Sort) → has any_sort x ≡ true
any_one Named = refl
any_one ByParts = refl
any_one ChanLiteral = refl
any_one TypeLiteral = refl
any_one Other = refl

pub any_tree : (t : Tree) → Is any_sort t
any_tree t = any_one (sort_of (kind_of t))

are_within : (cs ds : List Sorts) (xs : List Tree) → parts_within cs ds ≡ true → Are cs xs → Are ds xs
are_within [] [] xs h a = a
are_within [] (d ∷ ds) xs h a = cc
are_within (c ∷ cs) [] xs h a = cc
are_within (c ∷ cs) (d ∷ ds) [] h a = absurd a
are_within (c ∷ cs) (d ∷ ds) (x ∷ xs) h a = let z = and_parts (within c d) (parts_within cs ds) h in (is_within c d x z.0 a.0, are_within cs ds xs z.1 a.1)

joined_tail : (c d : Sorts) (o : Option (List Sorts)) (es : List Sorts) → elim o [ None ↦ None | Some fs ↦ Some (join_sorts c d ∷ fs) ] ≡ Some es → (fs : List Sorts) × (o ≡ Some fs) × (join_sorts c d ∷ fs ≡ es)
joined_tail c d None es h = cc
joined_tail c d (Some fs) es h = (fs, refl, cc)

joined_left : (cs ds es : List Sorts) (xs : List Tree) → join_parts cs ds ≡ Some es → Are cs xs → Are es xs
joined_left [] [] es xs h a = let q : [] ≡ es = cc in subst (λ z. Are z xs) q a
joined_left [] (d ∷ ds) es xs h a = cc
joined_left (c ∷ cs) [] es xs h a = cc
joined_left (c ∷ cs) (d ∷ ds) es [] h a = absurd a
joined_left (c ∷ cs) (d ∷ ds) es (x ∷ xs) h a = let z = joined_tail c d (join_parts cs ds) es h in subst (λ y. Are y (x ∷ xs)) z.2 (has_left c d (sort_of (kind_of x)) a.0, joined_left cs ds z.0 xs z.1 a.1)

joined_right : (cs ds es : List Sorts) (xs : List Tree) → join_parts cs ds ≡ Some es → Are ds xs → Are es xs
joined_right [] [] es xs h a = let q : [] ≡ es = cc in subst (λ z. Are z xs) q a
joined_right [] (d ∷ ds) es xs h a = cc
joined_right (c ∷ cs) [] es xs h a = cc
joined_right (c ∷ cs) (d ∷ ds) es [] h a = absurd a
joined_right (c ∷ cs) (d ∷ ds) es (x ∷ xs) h a = let z = joined_tail c d (join_parts cs ds) es h in subst (λ y. Are y (x ∷ xs)) z.2 (has_right c d (sort_of (kind_of x)) a.0, joined_right cs ds z.0 xs z.1 a.1)

-- ---- shapes

stacked_parts : (x : Option (List Bool)) (y : Option (List Sorts)) (τ : Shape) → stacked x y ≡ Some τ → (us : List Bool) × (cs : List Sorts) × (x ≡ Some us) × (y ≡ Some cs) × (stack us cs ≡ τ)
stacked_parts None y τ h = cc
stacked_parts (Some us) None τ h = cc
stacked_parts (Some us) (Some cs) τ h = (us, cs, refl, refl, cc)

pub shape_left : (σ ρ τ : Shape) (tops : List OpenNode) (xs : List Tree) → joined σ ρ ≡ Some τ → FitsShape σ tops xs → FitsShape τ tops xs
shape_left (stack us cs) (stack vs ds) τ tops xs h f = let z = stacked_parts (meet us vs) (join_parts cs ds) τ h in subst (λ y. FitsShape y tops xs) z.4 (fits_left us vs z.0 tops z.2 f.0, joined_left cs ds z.1 xs z.3 f.1)

pub shape_right : (σ ρ τ : Shape) (tops : List OpenNode) (xs : List Tree) → joined σ ρ ≡ Some τ → FitsShape ρ tops xs → FitsShape τ tops xs
shape_right (stack us cs) (stack vs ds) τ tops xs h f = let z = stacked_parts (meet us vs) (join_parts cs ds) τ h in subst (λ y. FitsShape y tops xs) z.4 (fits_right us vs z.0 tops z.2 f.0, joined_right cs ds z.1 xs z.3 f.1)

pub shape_settled : (σ τ : Shape) (tops : List OpenNode) (xs : List Tree) → settles σ τ ≡ true → FitsShape τ tops xs → FitsShape σ tops xs
shape_settled (stack us cs) (stack vs ds) tops xs h f = let z = and_parts (covers us vs) (parts_within ds cs) h in (fits_covered us vs tops z.0 f.0, are_within ds cs xs z.1 f.1)

pub halves : (x y : Option Shape) (τ : Shape) → join_both x y ≡ Some τ → (σ ρ : Shape) × (x ≡ Some σ) × (y ≡ Some ρ) × (joined σ ρ ≡ Some τ)
halves None y τ h = cc
halves (Some σ) None τ h = cc
halves (Some σ) (Some ρ) τ h = (σ, ρ, refl, refl, h)

-- what repeating makes of σ is τ: it says less than σ, and what one round makes of it says no less
pub record Repeats (F : Shape → Option Shape) (σ τ : Shape) : Type 0 where
  pub less : (tops : List OpenNode) (xs : List Tree) → FitsShape σ tops xs → FitsShape τ tops xs
  pub round : Shape
  pub goes : F τ ≡ Some round
  pub settled : settles τ round ≡ true

settles_so : (F : Shape → Option Shape) (σ τ : Shape) (x : Option Shape) → F σ ≡ x → if_settled σ x ≡ Some τ → Repeats F σ τ
settles_so F σ τ None q h = cc
settles_so F σ τ (Some ρ) q h = go (settles σ ρ) refl h
  where
    go : (b : Bool) → settles σ ρ ≡ b → cond b (Some σ) None ≡ Some τ → Repeats F σ τ
    go true e h = let same : σ ≡ τ = cc in subst (λ x. Repeats F σ x) same (record { less = λ tops xs f. f; round = ρ; goes = q; settled = e })
    go false e h = cc

settled_later : (F : Shape → Option Shape) (σ ρ τ : Shape) (x : Option Shape) → joined σ ρ ≡ x → settled_by F x ≡ Some τ → Repeats F σ τ
settled_later F σ ρ τ None q h = cc
settled_later F σ ρ τ (Some π) q h =
    let z = settles_so F π τ (F π) refl h in
    record { less = λ tops xs f. z.less tops xs (shape_left σ ρ π tops xs q f); round = z.round; goes = z.goes; settled = z.settled }

pub repeated : (F : Shape → Option Shape) (σ τ : Shape) (x : Option Shape) → F σ ≡ x → repeated_flow F σ x ≡ Some τ → Repeats F σ τ
repeated F σ τ None q h = cc
repeated F σ τ (Some ρ) q h = go (settles σ ρ) refl h
  where
    go : (b : Bool) → settles σ ρ ≡ b → elim b [ true ↦ Some σ | false ↦ settled_by F (joined σ ρ) ] ≡ Some τ → Repeats F σ τ
    go true e h = let same : σ ≡ τ = cc in subst (λ x. Repeats F σ x) same (record { less = λ tops xs f. f; round = ρ; goes = q; settled = e })
    go false e h = settled_later F σ ρ τ (joined σ ρ) refl h

-- repeating again makes nothing more of it
pub repeats_itself : (F : Shape → Option Shape) (σ τ : Shape) → Repeats F σ τ → repeated_flow F τ (F τ) ≡ Some τ
repeats_itself F σ τ z = subst (λ x. repeated_flow F τ x ≡ Some τ) (sym z.goes) (go (settles τ z.round) z.settled)
  where
    go : (b : Bool) → b ≡ true → elim b [ true ↦ Some τ | false ↦ settled_by F (joined τ z.round) ] ≡ Some τ
    go true e = refl
    go false e = cc

pub chained : (f : Shape → Option Shape) (x : Option Shape) (τ : Shape) → then_flow f x ≡ Some τ → (ρ : Shape) × (x ≡ Some ρ) × (f ρ ≡ Some τ)
chained f None τ h = cc
chained f (Some ρ) τ h = (ρ, refl, h)

-- ---- acts

-- what an act makes of the open nodes that fit a shape, whatever stands below them
pub record Acts (F : List OpenNode → List OpenNode) (τ : Shape) (tops : List OpenNode) (new : List Tree) : Type 0 where
  pub tops' : List OpenNode
  pub new' : List Tree
  pub fit : FitsShape τ tops' new'
  pub makes : (f : OpenNode) (below : List OpenNode) → F (standing f below tops new) ≡ standing f below tops' new'

shaped : (F : List OpenNode → List OpenNode) (σ τ : Shape) (tops : List OpenNode) (new : List Tree) → Some σ ≡ Some τ → Acts F σ tops new → Acts F τ tops new
shaped F σ τ tops new q a = let y : σ ≡ τ = cc in subst (λ x. Acts F x tops new) y a

reopened_acts : (us : List Bool) (cs : List Sorts) (start : ℕ) (parts : List Tree) (tops : List OpenNode) (xs : List Tree) → HasPart parts → FitsShape (stack us cs) tops xs → Acts reopen (stack (true ∷ false ∷ us) cs) (record { start = start; parts = parts } ∷ tops) xs
reopened_acts us cs start [] tops xs part fit = absurd part
reopened_acts us cs start (x ∷ ys) tops xs part fit = record {
  tops' = record { start = start_of x; parts = x ∷ [] } ∷ record { start = start; parts = ys } ∷ tops;
  new' = xs;
  fit = ((λ e. tt, (λ e. cc, fit.0)), fit.1);
  makes = λ f below. refl;
}

pub reopen_acts : (σ τ : Shape) (tops : List OpenNode) (xs : List Tree) → flow_act Reopen σ ≡ Some τ → FitsShape σ tops xs → Acts reopen τ tops xs
reopen_acts (stack [] []) τ tops xs q fit = cc
reopen_acts (stack [] (c ∷ cs)) τ [] [] q fit = absurd fit.1
reopen_acts (stack [] (c ∷ cs)) τ [] (x ∷ xs) q fit = shaped reopen (stack (true ∷ []) cs) τ [] (x ∷ xs) q (record {
  tops' = record { start = start_of x; parts = x ∷ [] } ∷ [];
  new' = xs;
  fit = ((λ e. tt, tt), fit.1.1);
  makes = λ f below. refl;
})
reopen_acts (stack [] (c ∷ cs)) τ (g ∷ tops) xs q fit = absurd fit.0
reopen_acts (stack (false ∷ us) cs) τ tops xs q fit = cc
reopen_acts (stack (true ∷ us) cs) τ [] xs q fit = absurd fit.0
reopen_acts (stack (true ∷ us) cs) τ (g ∷ tops) xs q fit = shaped reopen (stack (true ∷ false ∷ us) cs) τ (g ∷ tops) xs q (reopened_acts us cs g.start g.parts tops xs (fit.0.0 refl) (fit.0.1, fit.1))

adopted_acts : (us : List Bool) (cs : List Sorts) (g : OpenNode) (start : ℕ) (parts : List Tree) (tops : List OpenNode) (xs : List Tree) → HasPart parts → FitsShape (stack us cs) tops xs → Acts adopt (stack (true ∷ false ∷ us) cs) (g ∷ record { start = start; parts = parts } ∷ tops) xs
adopted_acts us cs g start [] tops xs part fit = absurd part
adopted_acts us cs g start (x ∷ ys) tops xs part fit = record {
  tops' = record { start = start_of x; parts = g.parts ++ x ∷ [] } ∷ record { start = start; parts = ys } ∷ tops;
  new' = xs;
  fit = ((λ e. some_part g.parts x, (λ e. cc, fit.0)), fit.1);
  makes = λ f below. refl;
}

pub adopt_acts : (σ τ : Shape) (tops : List OpenNode) (xs : List Tree) → flow_act Adopt σ ≡ Some τ → FitsShape σ tops xs → Acts adopt τ tops xs
adopt_acts (stack [] cs) τ tops xs q fit = cc
adopt_acts (stack (u ∷ []) []) τ tops xs q fit = cc
adopt_acts (stack (u ∷ []) (c ∷ cs)) τ [] xs q fit = absurd fit.0
adopt_acts (stack (u ∷ []) (c ∷ cs)) τ (g ∷ []) [] q fit = absurd fit.1
adopt_acts (stack (u ∷ []) (c ∷ cs)) τ (g ∷ []) (x ∷ xs) q fit = shaped adopt (stack (true ∷ []) cs) τ (g ∷ []) (x ∷ xs) q (record {
  tops' = record { start = start_of x; parts = g.parts ++ x ∷ [] } ∷ [];
  new' = xs;
  fit = ((λ e. some_part g.parts x, tt), fit.1.1);
  makes = λ f below. refl;
})
adopt_acts (stack (u ∷ []) (c ∷ cs)) τ (g ∷ (h ∷ tops)) xs q fit = absurd fit.0.1
adopt_acts (stack (u ∷ (false ∷ us)) cs) τ tops xs q fit = cc
adopt_acts (stack (u ∷ (true ∷ us)) cs) τ [] xs q fit = absurd fit.0
adopt_acts (stack (u ∷ (true ∷ us)) cs) τ (g ∷ []) xs q fit = absurd fit.0.1
adopt_acts (stack (u ∷ (true ∷ us)) cs) τ (g ∷ (h ∷ tops)) xs q fit = shaped adopt (stack (true ∷ false ∷ us) cs) τ (g ∷ (h ∷ tops)) xs q (adopted_acts us cs g h.start h.parts tops xs (fit.0.1.0 refl) (fit.0.1.1, fit.1))

pub open_acts : (start : ℕ) (σ τ : Shape) (tops : List OpenNode) (xs : List Tree) → flow_act Open σ ≡ Some τ → FitsShape σ tops xs → Acts (λ fs. record { start = start; parts = [] } ∷ fs) τ tops xs
open_acts start (stack us cs) τ tops xs q fit = shaped (λ fs. record { start = start; parts = [] } ∷ fs) (stack (false ∷ us) cs) τ tops xs q (record {
  tops' = record { start = start; parts = [] } ∷ tops;
  new' = xs;
  fit = ((λ e. cc, fit.0), fit.1);
  makes = λ f below. refl;
})

pub close_acts : (bytes : List ℕ) (kind : NodeKind) (last : ℕ) (σ τ : Shape) (tops : List OpenNode) (xs : List Tree) → flow_act (Close kind) σ ≡ Some τ → FitsShape σ tops xs → Acts (close_last bytes kind last) τ tops xs
close_acts bytes kind last (stack [] cs) τ tops xs q fit = cc
close_acts bytes kind last (stack (u ∷ []) cs) τ [] xs q fit = absurd fit.0
close_acts bytes kind last (stack (u ∷ []) cs) τ (g ∷ []) xs q fit = shaped (close_last bytes kind last) (stack [] (only (sort_of kind) ∷ cs)) τ (g ∷ []) xs q (record {
  tops' = [];
  new' = node_read bytes kind last g ∷ xs;
  fit = (tt, (only_itself (sort_of kind), fit.1));
  makes = λ f below. refl;
})
close_acts bytes kind last (stack (u ∷ []) cs) τ (g ∷ (h ∷ tops)) xs q fit = absurd fit.0.1
close_acts bytes kind last (stack (u ∷ (v ∷ us)) cs) τ [] xs q fit = absurd fit.0
close_acts bytes kind last (stack (u ∷ (v ∷ us)) cs) τ (g ∷ []) xs q fit = absurd fit.0.1
close_acts bytes kind last (stack (u ∷ (v ∷ us)) cs) τ (g ∷ (h ∷ tops)) xs q fit = shaped (close_last bytes kind last) (stack (true ∷ us) cs) τ (g ∷ (h ∷ tops)) xs q (record {
  tops' = record { start = h.start; parts = node_read bytes kind last g ∷ h.parts } ∷ tops;
  new' = xs;
  fit = ((λ e. tt, fit.0.1.1), fit.1);
  makes = λ f below. refl;
})

pub check_same : (σ τ : Shape) (tops : List OpenNode) (xs : List Tree) (f g : OpenNode) (below above : List OpenNode) → flow_act CheckType σ ≡ Some τ → FitsShape σ tops xs → (ends_in_type (standing f below tops xs) ≡ ends_in_type (standing g above tops xs)) × (σ ≡ τ)
check_same (stack [] []) τ tops xs f g below above q fit = cc
check_same (stack [] (c ∷ cs)) τ [] [] f g below above q fit = absurd fit.1
check_same (stack [] (c ∷ cs)) τ [] (x ∷ xs) f g below above q fit = (refl, cc)
check_same (stack [] (c ∷ cs)) τ (h ∷ tops) xs f g below above q fit = absurd fit.0
check_same (stack (u ∷ us) cs) τ [] xs f g below above q fit = absurd fit.0
check_same (stack (u ∷ us) cs) τ (h ∷ tops) xs f g below above q fit = (refl, cc)
