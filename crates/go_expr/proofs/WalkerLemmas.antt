-- Walks over a node and its operands, one after another.
use Rattle.std.proofs.Common.{◌≡◌, ℕ, zero, suc, Bor, Option, Some, List, [], ◌∷◌, ◌++◌, Contains, drop, map, reverse, refl, sym, ap, ◌∙◌, subst}
use Rattle.std.specs.Prelude.{◌==◌, if◌then◌else◌}
use Rattle.std.specs.List.{flat_map}
use Rattle.std.proofs.lemmas.List.{map-append, reverse-append}
use Rattle.std.proofs.lemmas.List.Elements.{Contains-append_left, Contains-append_right}
use Rattle.go_tree.specs.declared.node.Node.{Node}
use Rattle.go_tree.specs.Tree.{Tree, id_of, tree_of}
use Rattle.go_term.specs.Types.{TypeData}
use Rattle.go_term.specs.declared.term.Term.{Term}
use Rattle.go_operands.specs.Operands.{operands_of, expressions_in}
use Rattle.go_judge.specs.Naming.{Naming}
use Rattle.go_judge.specs.declared.outcome.Outcome.{Outcome}
use Rattle.go_judge.specs.Judged.{OutcomeData}
use Rattle.go_judge.specs.Records.{RecData}
use Rattle.go_judge.specs.View.{outcome_as}
use Rattle.go_judge.specs.Headers.{Headers, Outcomes}
use Rattle.go_model.specs.Outcomes.Walk.{outcome}
use Rattle.go_model.specs.Outcomes.Walked.{ArePartly, walked_over}
use Rattle.go_model.proofs.WalkedLemmas.{partly_more, partly_walked, walked-append, walked-same}
use Rattle.go_module.proofs.MemberLemmas.{contains_none, contains_tail}
use Rattle.go_names.specs.Views.{trees_at}
use Rattle.go_operands.proofs.OperandLemmas.{expressions_in-operands}

-- one more walk, behind those over other nodes, by the same meanings and headers
pub walked_more : (naming k : Naming) (headers h : Headers) (nodes others all : List Tree) (old mid new : Outcomes) → k ≡ naming → h ≡ headers → nodes ++ others ≡ all
    → ((n : ℕ) → mid n ≡ walked_over naming headers others old n) → ((n : ℕ) → new n ≡ walked_over k h nodes mid n) → (n : ℕ) → new n ≡ walked_over naming headers all old n
walked_more naming k headers h nodes others all old mid new same_means same_headers is so_far now n =
    now n
    ∙ (λ i. walked_over (same_means i) (same_headers i) nodes mid n)
    ∙ walked-same naming headers nodes mid (walked_over naming headers others old) so_far n
    ∙ sym (walked-append naming headers nodes others old n)
    ∙ ap (λ (ts : List Tree). walked_over naming headers ts old n) is

-- what is told at a number that is that of a node
pub told_at : (t : Tree) (made : OutcomeData RecData) (before : Option (OutcomeData RecData)) (id n : ℕ) → id ≡ id_of t → (if id == n then Some made else before) ≡ (if id_of t == n then Some made else before)
told_at t made before id n is = ap (λ (k : ℕ). if k == n then Some made else before) is

-- the nodes of the parts from a place on, and those of one part, are nodes of the whole
rest_of : (n : ℕ) (parts : List (Bor Node)) (s : Tree) → Contains (flat_map expressions_in (trees_at (drop n parts))) s → Contains (flat_map expressions_in (trees_at parts)) s
rest_of zero parts s h = h
rest_of (suc n) [] s h = absurd (contains_none s h)
rest_of (suc n) (part ∷ parts) s h = Contains-append_right (expressions_in (tree_of part.now)) (flat_map expressions_in (trees_at parts)) s (rest_of n parts s h)

pub rest_within : (n : ℕ) (parts : List (Bor Node)) (t : Tree) → trees_at parts ≡ operands_of t → (s : Tree) → Contains (flat_map expressions_in (trees_at (drop n parts))) s → Contains (expressions_in t) s
rest_within n parts t are s h =
    subst (λ (nodes : List Tree). Contains nodes s) (sym (expressions_in-operands t))
    (contains_tail t (flat_map expressions_in (operands_of t)) s (subst (λ (ps : List Tree). Contains (flat_map expressions_in ps) s) are (rest_of n parts s h)))

pub part_within : (n : ℕ) (parts : List (Bor Node)) (part : Bor Node) (rest : List (Bor Node)) (t : Tree) → trees_at parts ≡ operands_of t → part ∷ rest ≡ drop n parts → (s : Tree) → Contains (expressions_in (tree_of part.now)) s → Contains (expressions_in t) s
part_within n parts part rest t are at s h =
    rest_within n parts t are s
    (subst (λ (ps : List (Bor Node)). Contains (flat_map expressions_in (trees_at ps)) s) at (Contains-append_left (expressions_in (tree_of part.now)) (flat_map expressions_in (trees_at rest)) s h))

-- where a walk over a node breaks off behind those over its operands from a place on
pub broken_off : (naming : Naming) (headers : Headers) (node : Tree) (operands : List (Bor Node)) (place : ℕ) (old mid : Outcomes) → trees_at operands ≡ operands_of node
    → ((n : ℕ) → mid n ≡ walked_over naming headers (flat_map expressions_in (trees_at (drop place operands))) old n) → ArePartly naming headers (expressions_in node) old mid
broken_off naming headers node operands place old mid are reached =
    partly_walked naming headers (flat_map expressions_in (trees_at (drop place operands))) (expressions_in node) old mid (rest_within place operands node are) reached

-- a walk over a part that broke off, by the same meanings and headers
pub partly_next : (naming k : Naming) (headers h : Headers) (part node : Tree) (old mid new : Outcomes) → k ≡ naming → h ≡ headers → ((s : Tree) → Contains (expressions_in part) s → Contains (expressions_in node) s)
    → ArePartly naming headers (expressions_in node) old mid → ArePartly k h (expressions_in part) mid new → ArePartly naming headers (expressions_in node) old new
partly_next naming k headers h part node old mid new same_means same_headers within so_far last =
    partly_more naming headers (expressions_in part) (expressions_in node) old mid new within so_far
    (subst (λ (m : Naming). ArePartly m headers (expressions_in part) mid new) same_means (subst (λ (hs : Headers). ArePartly k hs (expressions_in part) mid new) same_headers last))

module _ (naming : Naming) (headers : Headers) where
  -- the nodes of a walk may be named otherwise
  pub parts_done : (nodes all : List Tree) (old new : Outcomes) → nodes ≡ all → ((n : ℕ) → new n ≡ walked_over naming headers nodes old n) → (n : ℕ) → new n ≡ walked_over naming headers all old n
  parts_done nodes all old new is now n = now n ∙ ap (λ (ts : List Tree). walked_over naming headers ts old n) is

  -- a node is told behind its operands parts
  pub node_done : (t : Tree) (old inside new : Outcomes) (made : OutcomeData RecData) → ((n : ℕ) → inside n ≡ walked_over naming headers (flat_map expressions_in (operands_of t)) old n) → made ≡ outcome naming headers t
      → ((n : ℕ) → new n ≡ (if id_of t == n then Some made else inside n)) → (n : ℕ) → new n ≡ walked_over naming headers (expressions_in t) old n
  node_done t old inside new made so_far is now n =
      now n
      ∙ (λ i. if id_of t == n then Some (is i) else so_far n i)
      ∙ ap (λ (nodes : List Tree). walked_over naming headers nodes old n) (sym (expressions_in-operands t))

  -- the outcome of one more part, the last first
  pub outcomes_more : (tree : Term → TypeData) (x : Tree) (rest all : List Tree) (old new : List Outcome) (o : Outcome) → x ∷ rest ≡ all
      → map (outcome_as tree) old ≡ reverse (map (outcome naming headers) rest) → outcome_as tree o ≡ outcome naming headers x → new ≡ old ++ o ∷ [] → map (outcome_as tree) new ≡ reverse (map (outcome naming headers) all)
  outcomes_more tree x rest all old new o is_all so_far is now =
      ap (map (outcome_as tree)) now
      ∙ map-append (outcome_as tree) old (o ∷ [])
      ∙ (λ i. so_far i ++ is i ∷ [])
      ∙ sym (reverse-append (outcome naming headers x ∷ []) (map (outcome naming headers) rest))
      ∙ ap (λ (ts : List Tree). reverse (map (outcome naming headers) ts)) is_all

-- what is made of a list in reverse
pub map-reverse : {A B : Type 0} (g : A → B) (xs : List A) → map g (reverse xs) ≡ reverse (map g xs)
map-reverse g [] = refl
map-reverse g (x ∷ xs) =
    ap (map g) (reverse-append (x ∷ []) xs)
    ∙ map-append g (reverse xs) (x ∷ [])
    ∙ ap (λ l. l ++ g x ∷ []) (map-reverse g xs)
    ∙ sym (reverse-append (g x ∷ []) (map g xs))
