use Rattle.go_module.proofs.OrderLemmas.{one_ascending}
use Rattle.go_module.proofs.laws.one_list.Goals as goal

pub returns : goal.returns
returns c found a b first second =
    one_ascending a b first.ascending second.ascending
    (λ z h. (second.same z).1 ((first.same z).0 h))
    (λ z h. (first.same z).1 ((second.same z).0 h))
