use Rattle.go_load.proofs.StringLemmas.{other_path}
use Rattle.go_load.proofs.import_strings.path_of_token.Goals as goal

pub returns-else-is_whole_text : goal.returns-else-is_whole_text
returns-else-is_whole_text c = other_path c.args.text.now c.empty.result c.args.token c.requires (λ is. let wrong = c.if-is_whole_text.ensures.1 is in cc wrong) c.empty.ensures
