-- The types in a signature, as the code goes over them.
use Rattle.std.proofs.Common.{◌≡◌, ℕ, zero, suc, ◌<◌, Bool, List, [], ◌∷◌, length, take, drop, map, refl, sym, ap, ◌∙◌, arith}
use Rattle.std.specs.Prelude.{◌||◌}
use Rattle.std.specs.List.{AllByRecursion, list_any}
use Rattle.std.proofs.lemmas.List.{take-map, drop-map}
use Rattle.go_tree.specs.declared.node.Node.{Node}
use Rattle.go_tree.specs.declared.node_kind.NodeKind.TheVariants.{Params}
use Rattle.go_tree.specs.Tree.{Tree, branch, kind_of, list_of, parts_of, tree_of}
use Rattle.go_module.specs.NodeParts.{all_but_first}
use Rattle.go_term.specs.Types.{TypeData, signature_parts}
use Rattle.go_term.specs.declared.term.Term.{Term}
use Rattle.go_constructs.specs.Signatures.{list_types, many_params, param_types, params_of, result_types, types_in}

-- a test of some node
pub any-trees : (f : Tree → Bool) (nodes : List Node) → list_any (λ n. f (tree_of n)) nodes ≡ list_any f (map tree_of nodes)
any-trees f [] = refl
any-trees f (n ∷ ns) = ap (λ rest. f (tree_of n) || rest) (any-trees f ns)

-- what holds of all holds of the first, and of those behind them
module _ {X : Type 0} (P : X → Type 0) where
  pub all-take : (n : ℕ) (xs : List X) → AllByRecursion P xs → AllByRecursion P (take n xs)
  all-take zero xs are = tt
  all-take (suc n) [] are = tt
  all-take (suc n) (x ∷ xs) are = (are.0, all-take n xs are.1)

  pub all-drop : (n : ℕ) (xs : List X) → AllByRecursion P xs → AllByRecursion P (drop n xs)
  all-drop zero xs are = are
  all-drop (suc n) [] are = tt
  all-drop (suc n) (x ∷ xs) are = all-drop n xs are.1

-- where no type is left
pub params-none : (tree : Term → TypeData) (named : Bool) (p : Tree) (ps : List Tree) (types : List Term) → length types < 1 → param_types named ps (map tree types) ≡ param_types named (p ∷ ps) (map tree types)
params-none tree named p [] [] none = refl
params-none tree named p (q ∷ qs) [] none = refl
params-none tree named p ps (t ∷ ts) none = absurd (omega (arith, none))

-- results: a list, another type, and no node or several
pub result-list : (t : Tree) (ts : List TypeData) → kind_of t ≡ Params → list_types (list_of (parts_of t)) ts ≡ result_types (t ∷ []) ts
result-list (branch id from to kind text parts) ts is = ap (λ k. result_types (branch id from to k text parts ∷ []) ts) (sym is)

pub result-other : (t : Tree) (ts : List TypeData) → (kind_of t ≡ Params → ⊥) → ts ≡ result_types (t ∷ []) ts
result-other (branch id from to Params text parts) ts other = absurd (other refl)
result-other (branch id from to kind text parts) ts other = refl

pub result-many : (a b : Tree) (more : List Tree) (ts : List TypeData) → ts ≡ result_types (a ∷ (b ∷ more)) ts
result-many (branch id from to Params text parts) b more ts = refl
result-many (branch id from to kind text parts) b more ts = refl

-- both lists
pub signature-parts : (tree : Term → TypeData) (signature : Tree) (types params results firsts behind : List Term) (nodes others : List Tree) (many : ℕ)
    → map tree params ≡ list_types nodes (map tree firsts) → map tree results ≡ result_types others (map tree behind)
    → nodes ≡ params_of signature → others ≡ all_but_first (parts_of signature) → firsts ≡ take many types → behind ≡ drop many types → many ≡ many_params signature
    → signature_parts (map tree params) (map tree results) ≡ types_in signature (map tree types)
signature-parts tree signature types params results firsts behind nodes others many first second are rest taken left is =
    (λ i. signature_parts (first i) (second i))
    ∙ (λ i. signature_parts (list_types (are i) (map tree (taken i))) (result_types (rest i) (map tree (left i))))
    ∙ (λ i. signature_parts (list_types (params_of signature) (sym (take-map tree many types) i)) (result_types (all_but_first (parts_of signature)) (sym (drop-map tree many types) i)))
    ∙ (λ i. signature_parts (list_types (params_of signature) (take (is i) (map tree types))) (result_types (all_but_first (parts_of signature)) (drop (is i) (map tree types))))
