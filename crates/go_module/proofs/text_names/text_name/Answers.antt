use Rattle.std.proofs.Common.{sym, ◌∙◌}
use Rattle.go_module.proofs.NameLemmas.{no_text, text_stays}
use Rattle.go_module.proofs.text_names.text_name.Goals as goal

pub returns-in_ok-from_str-in-Ok : goal.returns-in_ok-from_str-in-Ok
returns-in_ok-from_str-in-Ok c =
    c.new.ensures ∙ c.in_ok-from_str-in-Ok.ensures.ok ∙ c.in-Ok.ensures.cases.0
    ∙ sym (text_stays c.args.bytes.now c.in-Ok.ensures.cases.1)

pub returns-in-Err : goal.returns-in-Err
returns-in-Err c =
    c.new-in-Err-2.ensures ∙ c.new-in-Err.ensures.bytes ∙ sym (no_text c.args.bytes.now c.in-Err.ensures.cases.0)
