use Rattle.std.proofs.Common.{sym, ◌∙◌}
use Rattle.go_load.proofs.SourceLemmas.{special_with}
use Rattle.go_load.proofs.source.broken_with.Goals as goal

pub returns : goal.returns
returns c =
    let more = rw (c.in_ok-push.ensures.items, c.broken_at.ensures) at c.ordered.ensures in
    special_with c.args.number c.args.path.now c.args.bytes.now _ c.in_ok-list.list.items _ (sym c.is_plain_path.ensures ∙ c.if-is_plain_path.false) c.in_ok-list.ensures more
