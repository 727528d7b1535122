use Rattle.std.proofs.Common.{ℕ, IfSome, sym, subst}
use Rattle.go_tree.specs.Tree.{tree_of}
use Rattle.go_parse_x.specs.Tables.Opened.{numbers, numbers_in, Rises}
use Rattle.go_parse_x.proofs.OpenedLemmas.{newest_rises}
use Rattle.go_parse_x.proofs.opened.last_node.Goals as goal

pub returns-clause-numbers : goal.returns-clause-numbers
returns-clause-numbers c = subst (λ fs. IfSome c.pop-2.result (λ n. (low next : ℕ) → Rises low (numbers fs) next → Rises low (numbers_in (tree_of n)) next)) (sym c.in_ok-pop.ensures.items) (newest_rises c.pop.new.self.items c.in_ok-pop.field-0 c.pop-2.new.self.items c.pop-2.result c.pop-2.ensures.items)
