use Rattle.std.proofs.Common.{refl, sym, ◌∙◌}
use Rattle.go_load.proofs.ParsedLemmas.{parsed-length}
use Rattle.go_load.proofs.parse_texts.parse_texts.Goals as goal

pub returns-then-breaks_none-clause-length : goal.returns-then-breaks_none-clause-length
returns-then-breaks_none-clause-length c =
    parsed-length c.args.texts.now c.in_ok-files.field-0.files.items c.in_ok-files.field-0.next c.in_ok-files.field-0.broken.items c.in_ok-files.ensures (sym c.deref.ensures.value ∙ c.if-breaks_none.ensures.none refl)
