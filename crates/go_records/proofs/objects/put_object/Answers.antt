use Rattle.std.proofs.Common.{◌++◌, ap, sym, ◌∙◌}
use Rattle.std.proofs.lemmas.List.{append-nil}
use Rattle.go_records.proofs.TypeLemmas.{missing_object}
use Rattle.go_records.proofs.objects.put_object.Goals as goal

pub returns-in-None : goal.returns-in-None
returns-in-None c =
    let text = c.args.out.now.items in
    sym (ap (λ t. text ++ t) (missing_object c.args.object c.args.named.now c.in-None.ensures) ∙ append-nil text)
