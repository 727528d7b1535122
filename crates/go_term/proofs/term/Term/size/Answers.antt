use Rattle.std.proofs.Common.{ap, ◌∙◌}
use Rattle.go_term.specs.Sizes.{size_of}
use Rattle.go_term.specs.View.{type_of}
use Rattle.go_term.proofs.SubstLemmas.{subst_none}
use Rattle.go_term.proofs.term.Term.size.Goals as goal

pub returns : goal.returns
returns c = c.size_of.ensures ∙ ap size_of (subst_none (type_of c.args.self.now))
