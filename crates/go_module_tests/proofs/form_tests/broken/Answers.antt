use Rattle.std.proofs.Common.{false, sym, subst}
use Rattle.go_tree.specs.Lexical.Scan.{Gap, none}
use Rattle.go_module_tests.proofs.form_tests.broken.Goals as goal

pub broken_forms-requires : goal.broken_forms-requires
broken_forms-requires c = subst (Gap false _ 0) (sym c.in_ok-root.ensures) none
