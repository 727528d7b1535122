use Rattle.std.proofs.Common.{List, Option, subst}
use Rattle.std.specs.Option.{option_copied}
use Rattle.std.proofs.lemmas.Result.{err_from_is_err_and}
use Rattle.go_base.specs.declared.tree.MemFile.{MemFile}
use Rattle.go_load.specs.Texts.ReadTexts.{AreAllRead}
use Rattle.go_load.proofs.ReadingLemmas.{reads_broken, reads_module, reads_nothing}
use Rattle.go_load.proofs.reading.read_listed.Goals as goal

pub returns-in_err-path-clause-broken : goal.returns-in_err-path-clause-broken
returns-in_err-path-clause-broken g c =
    let p = err_from_is_err_and c.from_residual.result c.from_residual.ensures.1 in
    rw (p.1, p.2) (reads_broken (g.T.Tree.files c.args.tree.now) c.args.root.now (option_copied c.args.stubs) c.args.names.now c.in_err-path.field-0.0 c.requires c.in_err-path.ensures.broken)

pub returns-in_err-texts-clause-broken : goal.returns-in_err-texts-clause-broken
returns-in_err-texts-clause-broken g c =
    let p = err_from_is_err_and c.from_residual-in_err-texts.result c.from_residual-in_err-texts.ensures.1 in
    rw (p.1, p.2) (reads_nothing (g.T.Tree.files c.args.tree.now) c.args.root.now (option_copied c.args.stubs) c.in_err-texts.field-0.0 c.in_err-texts.ensures.no_rule)

pub returns-clause-read : goal.returns-clause-read
returns-clause-read g c =
    let stubs = option_copied c.args.stubs in
    let all = subst (λ (told : Option (List MemFile)). AreAllRead told c.args.root.now stubs c.args.names.now c.in_ok-texts.texts.items) c.in_ok-path.ensures.leaves.files c.in_ok-texts.ensures.texts in
    reads_module (g.T.Tree.files c.args.tree.now) c.args.root.now stubs c.args.names.now c.in_ok-path.path c.in_ok-texts.texts.items c.requires c.in_ok-path.ensures.path all
