-- What is reached from the packages that are no stubs.
use Rattle.std.proofs.Common.{◌≡◌, ℕ, zero, suc, Bool, true, false, not, List, [], ◌∷◌, Some, length, map, refl, sym, ap, subst, ◌∙◌}
use Rattle.std.specs.Prelude.{◌↔◌}
use Rattle.std.proofs.lemmas.List.{length-map}
use Rattle.go_graph.specs.Graph.{ReachedFrom, is_marked}
use Rattle.go_graph.proofs.ReachLemmas.{reached_more}
use Rattle.go_module.specs.Modules.Packages.{IsOwn, Reached}

no_stub : (s : Bool) → not s ≡ true → Some s ≡ Some false
no_stub true e = cc
no_stub false e = refl

stub_not : (s : Bool) → Some s ≡ Some false → not s ≡ true
stub_not true e = cc
stub_not false e = refl

own_marked : (stubs : List Bool) (k : ℕ) → is_marked (map not stubs) k ≡ true → IsOwn stubs k
own_marked [] k e = cc
own_marked (s ∷ stubs) zero e = no_stub s e
own_marked (s ∷ stubs) (suc k) e = own_marked stubs k e

marked_own : (stubs : List Bool) (k : ℕ) → IsOwn stubs k → is_marked (map not stubs) k ≡ true
marked_own [] k e = cc
marked_own (s ∷ stubs) zero e = stub_not s e
marked_own (s ∷ stubs) (suc k) e = marked_own stubs k e

module _ (stubs own : List Bool) (imports : List (List ℕ)) (is : own ≡ map not stubs) where
  pub own_length : length stubs ≡ length imports → length own ≡ length imports
  own_length same = ap length is ∙ length-map stubs not ∙ same

  pub reached_own : (marks : List Bool) → ((v : ℕ) → (is_marked marks v ≡ true) ↔ ReachedFrom imports (λ s. is_marked own s ≡ true) v) → (k : ℕ) → (is_marked marks k ≡ true) ↔ Reached stubs imports k
  reached_own marks exact k = (
    λ marked. reached_more imports (λ s. is_marked own s ≡ true) (IsOwn stubs) (λ v h. own_marked stubs v (subst (λ (marks : List Bool). is_marked marks v ≡ true) is h)) k ((exact k).0 marked),
    λ reached. (exact k).1 (reached_more imports (IsOwn stubs) (λ s. is_marked own s ≡ true) (λ v h. subst (λ (marks : List Bool). is_marked marks v ≡ true) (sym is) (marked_own stubs v h)) k reached),
  )
