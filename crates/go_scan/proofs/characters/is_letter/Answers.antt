use Rattle.std.proofs.Common.{sym, ◌∙◌}
use Rattle.go_scan.proofs.CharacterLemmas.{ascii_letters}
use Rattle.go_scan.proofs.characters.is_letter.Goals as goal

pub returns-then-c-lt128 : goal.returns-then-c-lt128
returns-then-c-lt128 c = c.is_ascii_letter.ensures ∙ sym (ascii_letters c.args.c c.if-c-lt128.true)
