use Rattle.std.proofs.Common.{sym, subst, refl}
use Rattle.std.proofs.lemmas.List.{take_all}
use Rattle.go_base.specs.Tree.{HasDistinctPaths}
use Rattle.go_base.proofs.TreeLemmas.{distinct_more, among_breaks}
use Rattle.go_base.proofs.files.has_distinct_paths.Goals as goal

pub returns-then-is_among : goal.returns-then-is_among
returns-then-is_among c =
    let broken : HasDistinctPaths c.args.files.now → ⊥ =
    among_breaks c.args.files.now c.loop-i.i c.index-files-i.result c.loop-i-test.true
    (sym c.index-files-i.is) (c.if-is_among.ensures.0 refl) in
    ((λ no. absurd (cc)), λ distinct. absurd (broken distinct))

pub loop-i-preserved : goal.loop-i-preserved
loop-i-preserved c =
    distinct_more c.args.files.now c.loop-i.i c.index-files-i.result c.loop-i-test.true
    (sym c.index-files-i.is) c.loop-i.invariant
    (λ among. let no = c.if-is_among.ensures.1 among in absurd (cc))

pub returns : goal.returns
returns c =
    let distinct : HasDistinctPaths c.args.files.now =
    subst HasDistinctPaths (take_all c.loop-i.i c.args.files.now c.loop-i-test.false)
    c.loop-i.invariant in
    ((λ _. distinct), λ _. refl)
