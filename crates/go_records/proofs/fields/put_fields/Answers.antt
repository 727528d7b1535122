use Rattle.std.proofs.Common.{◌≡◌, ◌++◌, ◌∷◌, ◌∙◌, ap, take}
use Rattle.std.specs.List.{flat_map}
use Rattle.std.proofs.lemmas.List.{take_all}
use Rattle.go_records.proofs.FieldLemmas.{joined_to}
use Rattle.go_records.proofs.fields.put_fields.Goals as goal

pub returns : goal.returns
returns c =
    let whole : take c.loop-field.field-index c.in-Some.others.now ≡ c.in-Some.others.now = take_all _ _ c.loop-field-test.false in
    let out : c.loop-field.out.items ≡ (c.args.out.now.items ++ c.in-Some.first.now.now) ++ flat_map (λ field. 9 ∷ field.now) c.in-Some.others.now = c.loop-field.invariant ∙ (ap (λ t. t ++ flat_map (λ field. 9 ∷ field.now) (take c.loop-field.field-index c.in-Some.others.now)) c.in_ok-extend_from_slice.ensures.items ∙ ap (λ t. (c.args.out.now.items ++ c.in-Some.first.now.now) ++ flat_map (λ field. 9 ∷ field.now) t) whole) in
    joined_to c.args.out.now.items c.loop-field.out.items c.in-Some.first.now c.in-Some.others.now c.args.fields.now c.in-Some.ensures.cases.0 out
