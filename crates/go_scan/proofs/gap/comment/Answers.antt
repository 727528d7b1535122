use Rattle.std.proofs.Common.{inl, inr, sym, ◌∙◌, arith}
use Rattle.go_tree.specs.Lexical.Comments.{OpensLine, OpensGeneral}
use Rattle.go_tree.specs.Lexical.Scan.{line, general}
use Rattle.go_scan.proofs.SpaceLemmas.{line_alone, general_alone}
use Rattle.go_scan.proofs.gap.comment.Goals as goal

pub returns-in-Ok-clause-space : goal.returns-in-Ok-clause-space
returns-in-Ok-clause-space c = let w = c.in-Ok.ensures.within in (line c.in-Ok.ensures.whole, omega (arith, w.0), w.1)

pub returns-in-Err-clause-stuck : goal.returns-in-Err-clause-stuck
returns-in-Err-clause-stuck c =
    let o : OpensLine c.args.bytes.now c.args.at = (c.requires, sym c.byte_at-next.ensures ∙ c.if-next-eq47.true) in
    (line_alone c.args.bytes.now c.args.at o c.in-Err.ensures.none, inl o, c.in-Err.ensures.stuck)

pub returns-in-Ok-general_comment-clause-space : goal.returns-in-Ok-general_comment-clause-space
returns-in-Ok-general_comment-clause-space c = let w = c.in-Ok-general_comment.ensures.within in (general c.in-Ok-general_comment.ensures.whole, omega (arith, w.0), w.1)

pub returns-in-Err-general_comment-clause-stuck : goal.returns-in-Err-general_comment-clause-stuck
returns-in-Err-general_comment-clause-stuck c =
    let o : OpensGeneral c.args.bytes.now c.args.at = (c.requires, sym c.byte_at-next.ensures ∙ c.if-next-eq42.true) in
    (general_alone c.args.bytes.now c.args.at o c.in-Err-general_comment.ensures.none, inr o, c.in-Err-general_comment.ensures.stuck)
