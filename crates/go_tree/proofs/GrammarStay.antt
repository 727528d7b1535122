-- In the grammar each production stays within the open nodes that it needs: by computation.
use Rattle.std.proofs.Common.{◌≡◌, true, List, [], ◌∷◌, refl}
use Rattle.go_tree.specs.declared.token.TokenKind.{TokenKind}
use Rattle.go_tree.specs.declared.token.TokenKind.TheVariants.{Arrow, Dot}
use Rattle.go_tree.specs.declared.production.Production.{Production}
use Rattle.go_tree.specs.Grammar.Trees.Sentence.{production}
use Rattle.go_tree.proofs.GrammarBalance.{needs}
use Rattle.go_tree.proofs.StayLemmas.{stays, is_node}
use Rattle.go_tree.proofs.ByProduction.{by_test}

-- the tokens behind which one more is looked at
abbrev pub undecided : List TokenKind
undecided = Arrow ∷ Dot ∷ []

pub stay_checked : (n : Production) → stays needs undecided (production n) (needs n) is_node ≡ true
stay_checked = by_test _ refl
