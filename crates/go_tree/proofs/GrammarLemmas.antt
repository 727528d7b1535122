-- One token decides in the grammar, and whatever is open can be completed: by computation.
use Rattle.std.proofs.Common.{◌≡◌, true, refl, Some}
use Rattle.go_tree.specs.declared.production.Production.{Production}
use Rattle.go_tree.specs.Grammar.Tables.Prediction.{AreRight}
use Rattle.go_tree.specs.Grammar.Tables.Completion.{spell, holds, HaveTexts}
use Rattle.go_tree.specs.Grammar.Trees.Sentence.{production, tables, texts}
use Rattle.go_tree.specs.Grammar.Tables.Brief.{brief}
use Rattle.go_tree.specs.Grammar.Tables.Rank.{rank, top_rank}
use Rattle.go_tree.proofs.DecidedTests.{right_at}
use Rattle.go_tree.proofs.DecidedLemmas.{are_right}
use Rattle.go_tree.proofs.ByProduction.{by_production, by_test}

each_right : (n : Production) → right_at production tables n ≡ true
each_right = by_test _ refl

pub tables_right : AreRight Production production tables
tables_right = are_right Production production tables each_right

each_brief : (n : Production) → spell texts (rank n) (production n) ≡ Some (brief n)
each_brief = by_production _ assumption

each_part : (n : Production) → holds texts top_rank (production n) ≡ true
each_part = by_test _ refl

pub texts_right : HaveTexts Production production texts top_rank
texts_right = record { brief = each_brief; parts = each_part }
