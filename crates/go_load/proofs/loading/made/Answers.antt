use Rattle.std.proofs.Common.{refl}
use Rattle.go_load.proofs.LoadLemmas.{packages_told}
use Rattle.go_load.proofs.loading.made.Goals as goal

pub returns-then-not-breaks_none-clause-broken : goal.returns-then-not-breaks_none-clause-broken
returns-then-not-breaks_none-clause-broken c =
    packages_told c.args.read.path c.as_slice.result.now c.args.read.texts.items c.deref.result.now c.deref-2.result.now c.deref-then-not-breaks_none.result.now
    c.in_ok-files.files.items c.deref-3.result.now _ c.in_ok-heads.heads.items c.deref-4.result.now c.deref-5.result.now c.in_ok-packages.packages c.in_ok-broken.broken.items c.deref-6.result.now c.deref-then-not-breaks_none-2.result.now c.in_ok-placed_among.field-0.items
    c.as_slice.ensures c.deref.ensures.value c.deref-2.ensures.value c.deref-then-not-breaks_none.ensures.value c.deref-3.ensures.value c.deref-4.ensures.value c.deref-5.ensures.value c.deref-6.ensures.value c.deref-then-not-breaks_none-2.ensures.value
    c.in_ok-files.ensures.sound c.in_ok-files.ensures.files c.in_ok-heads.ensures c.in_ok-packages.ensures c.in_ok-broken.ensures (c.if-not-breaks_none.ensures.some refl) c.in_ok-placed_among.ensures
