use Rattle.std.proofs.Common.{Some, None, sym, ap, ◌∙◌}
use Rattle.std.specs.Option.{option_map}
use Rattle.go_tree.specs.Tree.{tree_of}
use Rattle.go_decl.proofs.PartLemmas.{part_start_is}
use Rattle.go_decl.proofs.broken.part_start.Goals as goal

pub returns-in-Some : goal.returns-in-Some
returns-in-Some c =
    c.start.ensures
    ∙ sym (part_start_is (tree_of c.args.node.now) c.parts.result.now c.args.place c.parts.ensures (Some c.in-Some.part.now) (sym c.part_at.ensures ∙ ap (option_map (λ part. part.now)) c.in-Some.is))

pub returns-in-None : goal.returns-in-None
returns-in-None c =
    c.start-in-None.ensures
    ∙ sym (part_start_is (tree_of c.args.node.now) c.parts.result.now c.args.place c.parts.ensures None (sym c.part_at.ensures ∙ ap (option_map (λ part. part.now)) c.in-None.is))
