use Rattle.std.proofs.Common.{◌∙◌}
use Rattle.go_same.proofs.KeptLemmas.{layer_kept, layer_stays}
use Rattle.go_same.proofs.see.see_both.Goals as goal

pub returns-clause-a_shape : goal.returns-clause-a_shape
returns-clause-a_shape g c = layer_kept c.in_ok-y.ensures.keeps.kept c.in_ok-x.x c.in_ok-x.ensures.own ∙ c.in_ok-x.ensures.shape

pub returns-clause-a_parts : goal.returns-clause-a_parts
returns-clause-a_parts g c = layer_stays c.in_ok-y.ensures.keeps.kept c.in_ok-x.x c.in_ok-x.ensures.own
