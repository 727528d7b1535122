-- What walks leave: one walk after another, and that each node has its outcome where a number tells its node.
use Rattle.std.proofs.Common.{◌≡◌, ℕ, Bool, true, false, Option, Some, List, [], ◌∷◌, ◌++◌, refl, ap, ⊎_elim, arith, ◌∙◌}
use Rattle.std.specs.Prelude.{◌==◌, Contains, if◌then◌else◌}
use Rattle.std.proofs.lemmas.Bool.Decides.{nat_tests}
use Rattle.go_tree.specs.Tree.{Tree, id_of}
use Rattle.go_module.proofs.MemberLemmas.{cons_cases, contains_head, contains_none, contains_tail}
use Rattle.go_judge.specs.Naming.{Naming}
use Rattle.go_judge.specs.Judged.{OutcomeData}
use Rattle.go_judge.specs.Records.{RecData}
use Rattle.go_judge.specs.Headers.{Headers, Outcomes}
use Rattle.go_model.specs.Outcomes.Walk.{outcome}
use Rattle.go_model.specs.Outcomes.Walked.{AreNumbered, ArePartly, AreWalked, IsLeft, as_before, of_node, walked_over}

module _ (naming : Naming) (headers : Headers) where
  -- a walk over some nodes behind a walk over others is one over both
  pub walked-append : (xs ys : List Tree) (before : Outcomes) (n : ℕ) → walked_over naming headers (xs ++ ys) before n ≡ walked_over naming headers xs (walked_over naming headers ys before) n
  walked-append [] ys before n = refl
  walked-append (x ∷ xs) ys before n = ap (λ (o : Option (OutcomeData RecData)). if id_of x == n then Some (outcome naming headers x) else o) (walked-append xs ys before n)

  -- what was before counts number by number
  pub walked-same : (xs : List Tree) (before other : Outcomes) → ((n : ℕ) → before n ≡ other n) → (n : ℕ) → walked_over naming headers xs before n ≡ walked_over naming headers xs other n
  walked-same [] before other same n = same n
  walked-same (x ∷ xs) before other same n = ap (λ (o : Option (OutcomeData RecData)). if id_of x == n then Some (outcome naming headers x) else o) (walked-same xs before other same n)

  -- each node of a walk has its outcome
  pub are_walked : (nodes : List Tree) → AreNumbered nodes → (before : Outcomes) → AreWalked naming headers nodes (walked_over naming headers nodes before)
  are_walked nodes numbered before t h = among nodes (λ u i. i) h
    where
      found : (u : Tree) (us : List Tree) → Contains nodes u → (Contains us t → walked_over naming headers us before (id_of t) ≡ Some (outcome naming headers t)) → Contains (u ∷ us) t → (b : Bool) → (id_of u == id_of t) ≡ b
          → (if b then Some (outcome naming headers u) else walked_over naming headers us before (id_of t)) ≡ Some (outcome naming headers t)
      found u us in_u later i true e =
          let same : id_of u ≡ id_of t = grind (arith, nat_tests) in
          ap (λ (x : Tree). Some (outcome naming headers x)) (numbered u t in_u h same)
      found u us in_u later i false e = later (there i)
        where
          there : Contains (u ∷ us) t → Contains us t
          there i = ⊎_elim (λ (here : u ≡ t). absurd (let same : id_of u ≡ id_of t = ap id_of here in grind (arith, nat_tests))) (λ (on : Contains us t). on) (cons_cases u us t i)

      among : (us : List Tree) → ((u : Tree) → Contains us u → Contains nodes u) → Contains us t → walked_over naming headers us before (id_of t) ≡ Some (outcome naming headers t)
      among [] within i = absurd (contains_none t i)
      among (u ∷ us) within i = found u us (within u (contains_head u us u refl)) (among us (λ v j. within v (contains_tail u us v j))) i (id_of u == id_of t) refl

  -- a walk over some nodes leaves of each number what it had, or the outcome of one of them
  walked_cases : (nodes : List Tree) (before : Outcomes) (n : ℕ) → IsLeft naming headers nodes before (walked_over naming headers nodes before) n
  walked_cases [] before n = as_before refl
  walked_cases (x ∷ xs) before n = by_number (id_of x == n) refl (walked_cases xs before n)
    where
      by_number : (b : Bool) → (id_of x == n) ≡ b → IsLeft naming headers xs before (walked_over naming headers xs before) n → IsLeft naming headers (x ∷ xs) before (walked_over naming headers (x ∷ xs) before) n
      by_number true e later = of_node x (contains_head x xs x refl) (grind (arith, nat_tests)) (ap (λ b. if b then Some (outcome naming headers x) else walked_over naming headers xs before n) e)
      by_number false e (as_before was) = as_before (ap (λ b. if b then Some (outcome naming headers x) else walked_over naming headers xs before n) e ∙ was)
      by_number false e (of_node t h at is) = of_node t (contains_tail x xs t h) at (ap (λ b. if b then Some (outcome naming headers x) else walked_over naming headers xs before n) e ∙ is)

  pub partly_walked : (nodes all : List Tree) (before after : Outcomes) → ((t : Tree) → Contains nodes t → Contains all t) → ((n : ℕ) → after n ≡ walked_over naming headers nodes before n) → ArePartly naming headers all before after
  partly_walked nodes all before after within now n = by_case (walked_cases nodes before n)
    where
      by_case : IsLeft naming headers nodes before (walked_over naming headers nodes before) n → IsLeft naming headers all before after n
      by_case (as_before was) = as_before (now n ∙ was)
      by_case (of_node t h at is) = of_node t (within t h) at (now n ∙ is)

  -- where nothing is walked, and behind one walk more that broke off
  pub partly_same : (nodes : List Tree) (before : Outcomes) → ArePartly naming headers nodes before before
  partly_same nodes before n = as_before refl

  pub partly_more : (nodes all : List Tree) (before mid after : Outcomes) → ((t : Tree) → Contains nodes t → Contains all t) → ArePartly naming headers all before mid → ArePartly naming headers nodes mid after → ArePartly naming headers all before after
  partly_more nodes all before mid after within first last n = by_case (last n) (first n)
    where
      by_case : IsLeft naming headers nodes mid after n → IsLeft naming headers all before mid n → IsLeft naming headers all before after n
      by_case (of_node t h at is) so_far = of_node t (within t h) at is
      by_case (as_before same) (as_before was) = as_before (same ∙ was)
      by_case (as_before same) (of_node t h at is) = of_node t h at (same ∙ is)
