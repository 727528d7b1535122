-- One step of the question whether two types are identical, over a judge that has gone on.
use Rattle.std.proofs.Common.{◌≡◌, ℕ, suc, Bool, true, false, if◌then◌else◌, Some, List, [], ◌∷◌, length, map, refl, sym, ap, subst, ◌∙◌, arith}
use Rattle.std.specs.List.{AllByRecursion}
use Rattle.go_term.specs.Types.{TypeData}
use Rattle.go_term.specs.declared.shape.Shape.{Shape}
use Rattle.go_term.specs.declared.term.Term.{Term}
use Rattle.go_judge.specs.Headers.{Headers}
use Rattle.go_judge.specs.Types.Forms.{answer_as}
use Rattle.go_judge.specs.Types.Heads.{alike}
use Rattle.go_judge.specs.Types.Own.{AreOwn, KeepsTypes}
use Rattle.go_judge.specs.Types.TypeIdentity as identity
use Rattle.go_judge.specs.Types.TypeIdentity.{Test, and_ask, ask_each, fit, identical, interfaces_in, most_levels, most_opened}
use Rattle.go_judge.specs.Types.TypeSets.{SetData, plain, set_of}
use Rattle.go_judge.specs.Quests.{Asked, Decided, Done, run, then_ask}
use Rattle.go_judge.specs.declared.outcome.Answer.{Answer}
use Rattle.go_judge.specs.declared.outcome.Answer.TheVariants as A
use Rattle.go_same.specs.Bounded as bounded
use Rattle.go_same.specs.Collect.{asked_then}
use Rattle.go_same.specs.Layers.{IsOwnPair, pair_view}
use Rattle.go_same.specs.Sets.{IsOwnSet, found_as, set_view}
use Rattle.go_same.specs.declared.bounds.Bounds.{Bounds}
use Rattle.go_same.specs.declared.set.FoundSet.{FoundSet}
use Rattle.go_same.specs.declared.set.FoundSet.TheVariants as F
use Rattle.go_same.specs.declared.set.TypeSet.{TypeSet}
use Rattle.go_same.proofs.CollectLemmas.{run-then}
use Rattle.go_same.proofs.KeepLemmas.{set_kept}
use Rattle.go_same.proofs.KeptLemmas.{layer_kept, layer_stays}

-- ONE QUESTION AND ANOTHER

module _ (known : Headers) where
  -- where the first is Yes the other is left
  pub and_yes : (a b : Test) → Decided true ≡ run known a → run known b ≡ run known (and_ask a b)
  and_yes a b e =
      ap (λ (r : Asked Bool). asked_then r (λ yes. run known (if yes then b else Done false))) e
      ∙ sym (run-then known a (λ yes. if yes then b else Done false))

  -- any other answer is that of both
  pub and_other : (x : Answer) (a b : Test) → (x ≡ A.Yes → ⊥) → answer_as x ≡ run known a → answer_as x ≡ run known (and_ask a b)
  and_other A.Yes a b other e = absurd (other refl)
  and_other A.No a b other e =
      ap (λ (r : Asked Bool). asked_then r (λ yes. run known (if yes then b else Done false))) e
      ∙ sym (run-then known a (λ yes. if yes then b else Done false))
  and_other (A.Unknown d) a b other e =
      ap (λ (r : Asked Bool). asked_then r (λ yes. run known (if yes then b else Done false))) e
      ∙ sym (run-then known a (λ yes. if yes then b else Done false))

  -- where it is no
  pub and_no : (a b : Test) → run known a ≡ Decided false → Decided false ≡ run known (and_ask a b)
  and_no a b e = and_other A.No a b (λ wrong. cc) (sym e)

-- INTERFACES TWO BY TWO

module _ {own own' : Term → Type 0} {tree tree' : Term → TypeData} (kept : KeepsTypes own own' tree tree')
    (rest next : List (Shape × Shape)) (p : Shape × Shape) (opens : rest ≡ p ∷ next) (owned : AllByRecursion (IsOwnPair own) rest) where
  parted : IsOwnPair own p × AllByRecursion (IsOwnPair own) next
  parted = subst (AllByRecursion (IsOwnPair own)) opens owned

  pub pair_here : AreOwn own' p.0 × AreOwn own' p.1
  pair_here = (layer_stays kept p.0 parted.0.0, layer_stays kept p.1 parted.0.1)

  pub pairs_left : AllByRecursion (IsOwnPair own) next
  pairs_left = parted.1

  module _ (known known' : Headers) (same : known' ≡ known) (test : TypeData × TypeData → Test) where
    -- the question of the pair, over the judge as it was
    asked_here : run known' (test (pair_view tree' p)) ≡ run known (test (pair_view tree p))
    asked_here = λ j. run (same j) (test (plain (layer_kept kept p.0 parted.0.0 j), plain (layer_kept kept p.1 parted.0.1 j)))

    asked_rest : run known (ask_each test (map (pair_view tree) (p ∷ next))) ≡ run known (ask_each test (map (pair_view tree) rest))
    asked_rest = ap (λ (ps : List (Shape × Shape)). run known (ask_each test (map (pair_view tree) ps))) (sym opens)

    pub pairs_step : (x : Answer) (whole : Asked Bool) → x ≡ A.Yes → answer_as x ≡ run known' (test (pair_view tree' p))
        → run known (ask_each test (map (pair_view tree) rest)) ≡ whole → run known (ask_each test (map (pair_view tree) next)) ≡ whole
    pairs_step x whole so told left =
        and_yes known (test (pair_view tree p)) (ask_each test (map (pair_view tree) next)) (sym (ap answer_as so) ∙ told ∙ asked_here) ∙ asked_rest ∙ left

    pub pairs_stop : (x : Answer) (whole : Asked Bool) → (x ≡ A.Yes → ⊥) → answer_as x ≡ run known' (test (pair_view tree' p))
        → run known (ask_each test (map (pair_view tree) rest)) ≡ whole → answer_as x ≡ whole
    pairs_stop x whole other told left =
        and_other known x (test (pair_view tree p)) (ask_each test (map (pair_view tree) next)) other (told ∙ asked_here) ∙ asked_rest ∙ left

-- none are left
pub pairs_end : (known : Headers) (test : TypeData × TypeData → Test) (tree : Term → TypeData) (rest : List (Shape × Shape)) (n : ℕ) → n ≡ length rest → n ≡ 0 → (whole : Asked Bool)
    → run known (ask_each test (map (pair_view tree) rest)) ≡ whole → answer_as A.Yes ≡ whole
pairs_end known test tree [] n is none whole left = left
pairs_end known test tree (p ∷ ps) n is none whole left = absurd (omega arith)

-- TWO INTERFACES

module _ (go : Bool → ℕ → TypeData → TypeData → Test) (left : ℕ) (short : Bool) (known : Headers) where
  pub layers_asked : (p : TypeData × TypeData) → alike p.0 p.1 ≡ false
      → asked_then (run known (set_of left p.0)) (λ s. run known (identity.same_as go left short p.1 s)) ≡ run known (identity.same_interfaces go left short p)
  layers_asked p e =
      sym (run-then known (set_of left p.0) (identity.same_as go left short p.1))
      ∙ ap (λ (c : Bool). run known (if c then Done true else then_ask (set_of left p.0) (identity.same_as go left short p.1))) (sym e)

  pub second_asked : (b : TypeData) (s : SetData)
      → asked_then (run known (set_of left b)) (λ t. run known (identity.same_as_set go left short s t)) ≡ run known (identity.same_as go left short b (Some s))
  second_asked b s = sym (run-then known (set_of left b) (identity.same_as_set go left short s))

-- over a judge that has found a set
module _ {own own1 : Term → Type 0} {tree tree1 : Term → TypeData} (here : KeepsTypes own own1 tree tree1) (known known1 : Headers) (same1 : known1 ≡ known) (b : Bounds) where
  -- the first
  pub first_moved : (first : FoundSet) (t u : Term) → own u → alike (plain (tree t)) (plain (tree u)) ≡ false
      → found_as tree1 first ≡ run known (set_of b.left (plain (tree t)))
      → asked_then (found_as tree1 first) (λ s. run known1 (identity.same_as (identity.same b.levels) b.left b.short (plain (tree1 u)) s))
      ≡ run known (bounded.same_interfaces b (plain (tree t), plain (tree u)))
  first_moved first t u u_own other told =
      (λ j. asked_then (told j) (λ s. run (same1 j) (identity.same_as (identity.same b.levels) b.left b.short (plain (here.trees u u_own j)) s)))
      ∙ layers_asked (identity.same b.levels) b.left b.short known (plain (tree t), plain (tree u)) other

  -- the second
  pub second_moved : (first second : FoundSet) (s : TypeSet) (u : Term) → first ≡ F.Is s → IsOwnSet own s
      → found_as tree1 second ≡ run known (set_of b.left (plain (tree u)))
      → asked_then (found_as tree1 second) (λ t. run known1 (identity.same_as_set (identity.same b.levels) b.left b.short (set_view tree1 s) t))
      ≡ asked_then (found_as tree first) (λ s. run known (identity.same_as (identity.same b.levels) b.left b.short (plain (tree u)) s))
  second_moved first second s u is owned told =
      let first_set : set_view tree1 s ≡ set_view tree s = set_kept here s owned in
      (λ j. asked_then (told j) (λ t. run (same1 j) (identity.same_as_set (identity.same b.levels) b.left b.short (first_set j) t)))
      ∙ second_asked (identity.same b.levels) b.left b.short known (plain (tree u)) (set_view tree s)
      ∙ ap (λ (f : FoundSet). asked_then (found_as tree f) (λ s. run known (identity.same_as (identity.same b.levels) b.left b.short (plain (tree u)) s))) (sym is)

-- TYPES

module _ (known : Headers) (x y : TypeData) (b : Bounds) where
  module _ (n : ℕ) (level : suc n ≡ b.levels) where
    pub types_apart : false ≡ fit x y → Decided false ≡ run known (bounded.same b x y)
    types_apart not_so =
        ap (λ (c : Bool). run known (if c then ask_each (identity.same_interfaces (identity.same n) b.left b.short) (interfaces_in x y) else Done false)) not_so
        ∙ ap (λ (n : ℕ). run known (identity.same n b.short b.left x y)) level

    pub types_within : (left : ℕ) (short : Bool) → left ≡ b.left → short ≡ b.short → true ≡ fit x y → (pairs : List (TypeData × TypeData)) → pairs ≡ interfaces_in x y
        → (known' : Headers) → known' ≡ known → run known' (ask_each (identity.same_interfaces (identity.same n) left short) pairs) ≡ run known (bounded.same b x y)
    types_within left short is_left is_short so pairs are known' same =
        (λ j. run (same j) (ask_each (identity.same_interfaces (identity.same n) (is_left j) (is_short j)) (are j)))
        ∙ ap (λ (c : Bool). run known (if c then ask_each (identity.same_interfaces (identity.same n) b.left b.short) (interfaces_in x y) else Done false)) so
        ∙ ap (λ (n : ℕ). run known (identity.same n b.short b.left x y)) level

-- within the bounds of the whole question
abbrev pub outermost : Bounds
outermost = record { levels = most_levels; left = most_opened; short = false }

pub levels_whole : suc 8480 ≡ most_levels
unfolding most_levels
levels_whole = refl

pub opened_whole : 32 ≡ most_opened
unfolding most_opened
opened_whole = refl
