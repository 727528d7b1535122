use Rattle.std.proofs.Common.{Bor, Option, Some, sym, ap, ◌∙◌, subst}
use Rattle.std.specs.Prelude.{IfSome, option_and_then}
use Rattle.std.specs.Option.{option_map}
use Rattle.go_judge.specs.declared.rec.Rec.{Rec}
use Rattle.go_judge.specs.Records.{rec_as}
use Rattle.go_values.specs.Records.{told_by}
use Rattle.go_judge.specs.Types.Own.{IsOwnRec}
use Rattle.go_judge.proofs.OwnDataLemmas.{rec_copied}
use Rattle.go_decl.proofs.header.header_of.Goals as goal

pub header_in-requires : goal.header_in-requires
header_in-requires g c =
    let asked = c.args.asked.now in
    let own = g.A.Ask.is_type asked in
    let given = subst (λ (o : Option (Bor Rec)). IfSome o (λ rec. IsOwnRec own rec.now)) c.in-Some.is c.requires in
    (rec_copied own (g.A.Ask.tree asked) (g.met.A.Ask.copies asked) c.in-Some.rec.now c.in_ok-clone-in-Some.field-0 c.in_ok-clone-in-Some.ensures.cases given).0

pub returns-in_ok-clone-in-Some-clause-header : goal.returns-in_ok-clone-in-Some-clause-header
returns-in_ok-clone-in-Some-clause-header g c =
    let asked = c.args.asked.now in
    let own = g.A.Ask.is_type asked in
    let tree = g.A.Ask.tree asked in
    let given = subst (λ (o : Option (Bor Rec)). IfSome o (λ rec. IsOwnRec own rec.now)) c.in-Some.is c.requires in
    let copied = rec_copied own tree (g.met.A.Ask.copies asked) c.in-Some.rec.now c.in_ok-clone-in-Some.field-0 c.in_ok-clone-in-Some.ensures.cases given in
    c.header_in.ensures.header
    ∙ ap (λ r. option_and_then (told_by c.args.kind) (Some r)) copied.1
    ∙ ap (λ (o : Option (Bor Rec)). option_and_then (told_by c.args.kind) (option_map (λ rec. rec_as tree rec.now) o)) (sym c.in-Some.is)
