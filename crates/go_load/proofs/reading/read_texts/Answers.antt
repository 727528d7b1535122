use Rattle.std.specs.Option.{option_copied}
use Rattle.std.proofs.lemmas.Result.{IfOk-weaker}
use Rattle.go_load.proofs.ReadingLemmas.{all_read}
use Rattle.go_load.proofs.reading.read_texts.Goals as goal

pub returns-clause-texts : goal.returns-clause-texts
returns-clause-texts g c =
    IfOk-weaker c.read_both.result _ _
    (λ texts both. all_read (g.T.Tree.files c.args.tree.now) (g.T.Tree.files c.list_stubs.new.tree) c.args.root.now (option_copied c.args.stubs) c.args.names.now c.in_ok-own.own.items c.deref.result.now c.in_ok-stub_files.stub_files.items c.deref-2.result.now texts.items c.in_ok-stub_files.ensures.leaves.files c.deref.ensures.value c.deref-2.ensures.value c.in_ok-own.ensures c.in_ok-stub_files.ensures.files both)
    c.read_both.ensures.texts
