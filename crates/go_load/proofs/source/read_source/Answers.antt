use Rattle.std.proofs.Common.{subst}
use Rattle.go_tree.specs.Tree.{tree_of}
use Rattle.go_load.specs.Sources.{SourceBreaks, too_long, no_tree, by_form}
use Rattle.go_load.proofs.SourceLemmas.{one_told}
use Rattle.go_load.proofs.source.read_source.Goals as goal

pub returns-then-bytes-gt-MOST_BYTES : goal.returns-then-bytes-gt-MOST_BYTES
returns-then-bytes-gt-MOST_BYTES c =
    one_told c.args.path.now c.args.bytes.now c.args.number c.args.first.0 _ c.one_broken.result (too_long c.if-bytes-gt-MOST_BYTES.true) (rw c.broken_at.ensures at c.one_broken.ensures)

pub returns-in_ok-broken_by-in-Err : goal.returns-in_ok-broken_by-in-Err
returns-in_ok-broken_by-in-Err c =
    one_told c.args.path.now c.args.bytes.now c.args.number c.args.first.0 _ c.one_broken-in-Err.result (no_tree c.in-Err.fault c.in_ok-broken_by-in-Err.field-0 c.if-bytes-gt-MOST_BYTES.false c.in-Err.ensures.fault c.in_ok-broken_by-in-Err.ensures.rule) c.one_broken-in-Err.ensures

pub returns-then-breaks_none : goal.returns-then-breaks_none
returns-then-breaks_none c =
    let none = rw c.deref.ensures.value at (c.breaks_none.ensures.none c.if-breaks_none.true) in
    (c.in-Ok.ensures.number, c.in-Ok.ensures.file, subst (λ l. SourceBreaks c.args.number c.args.first.0 c.args.path.now c.args.bytes.now l) none (by_form (tree_of c.in-Ok.file.root) c.in_ok-list-in-Ok.list.items c.if-bytes-gt-MOST_BYTES.false c.in-Ok.ensures.file c.in_ok-list-in-Ok.ensures))

pub returns-else-breaks_none : goal.returns-else-breaks_none
returns-else-breaks_none c =
    (rw c.deref.ensures.value at (c.breaks_none.ensures.some c.if-breaks_none.false), by_form (tree_of c.in-Ok.file.root) c.in_ok-list-in-Ok.list.items c.if-bytes-gt-MOST_BYTES.false c.in-Ok.ensures.file c.in_ok-list-in-Ok.ensures)
