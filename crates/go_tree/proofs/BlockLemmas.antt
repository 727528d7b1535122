-- A block that was read by itself is read the same where it stands.
use Rattle.std.proofs.Common.{◌≡◌, ℕ, false, List, [], ◌∷◌, ◌++◌, refl, ◌↔◌}
use Rattle.go_tree.specs.declared.token.Token.{Token}
use Rattle.go_tree.specs.declared.token.TokenKind.TheVariants.{LeftBrace, RightBrace}
use Rattle.go_tree.specs.declared.node_kind.NodeKind.TheVariants as k
use Rattle.go_tree.specs.declared.production.Production.{Production}
use Rattle.go_tree.specs.declared.production.Production.TheVariants.{Block, Stmt}
use Rattle.go_tree.specs.Tree.{Tree}
use Rattle.go_tree.specs.Grammar.RightSide.{RightSide, Call}
use Rattle.go_tree.specs.Grammar.Words.{◌•◌, opt, many, semi, the}
use Rattle.go_tree.specs.Grammar.Trees.Reading.{State, OpenNode}
use Rattle.go_tree.specs.Grammar.Tables.Prediction.{AllDecided}
use Rattle.go_tree.specs.Grammar.Trees.Sentence.{tables, ReadsGo, Derives}
use Rattle.go_tree.proofs.SpanActLemmas.{ends}
use Rattle.go_tree.proofs.ShapeLemmas.{covers}
use Rattle.go_tree.proofs.StayLemmas.{stays, AllStay, covers_self}
use Rattle.go_tree.proofs.GrammarBalance.{needs}
use Rattle.go_tree.proofs.GrammarStay.{undecided}
use Rattle.go_tree.proofs.ClosedLemmas.{closed_ahead, closed_back}

-- what stands between the braces
abbrev more_statements : RightSide Production
more_statements = many (semi • opt (the Stmt))

abbrev statements : List (RightSide Production)
statements = opt (the Stmt) ∷ more_statements ∷ []

statements_stay : AllStay needs undecided statements (false ∷ [])
statements_stay = (false ∷ [], λ ρ. stays needs undecided more_statements ρ (covers (false ∷ [])), refl, refl, λ π c. (π, covers (false ∷ []), covers_self π, c, λ ρ l. l))

-- a block that was read by itself is read the same before more tokens and on top of other nodes, and is the
-- newest part there
pub block_in_place : (bytes : List ℕ) (ts : List Token) (t : Tree) → Derives bytes Block ts t → (gs : List (RightSide Production)) → AllDecided tables (Call Block ∷ gs) → (last : ℕ) (f : OpenNode) (fs : List OpenNode) (more : List Token) (e : State) → e.rest ≡ [] → ReadsGo bytes (Call Block ∷ gs) (record { last = last; rest = ts ++ more; open_nodes = f ∷ fs }) e ↔ ReadsGo bytes gs (record { last = ends ts; rest = more; open_nodes = record { start = f.start; parts = t ∷ f.parts } ∷ fs }) e
block_in_place bytes ts t d gs ok last f fs more e z = (
  closed_ahead bytes Block k.Block LeftBrace RightBrace statements refl refl statements_stay ts t d gs ok last f fs more e z,
  closed_back bytes Block k.Block LeftBrace RightBrace statements refl refl statements_stay ts t d gs last f fs more e,
)
