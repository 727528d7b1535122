use Rattle.std.proofs.Common.{ap, Err}
use Rattle.go_load.proofs.StringLemmas.{literal_path, long_path}
use Rattle.go_load.proofs.import_strings.path_of_string.Goals as goal

pub returns-in-Ok : goal.returns-in-Ok
returns-in-Ok c = literal_path c.args.text.now c.in-Ok.path c.args.token c.requires c.in-Ok.ensures.value (λ past. let wrong = c.in-Ok.ensures.long.1 past in cc wrong)

pub returns-in-Err-LongText : goal.returns-in-Err-LongText
returns-in-Err-LongText c = long_path c.args.text.now c.empty.result c.args.token c.requires (c.in-Err-LongText.ensures.long.0 (ap Err c.in-Err-LongText.field-0-is)) c.empty.ensures
