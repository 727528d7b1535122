use Rattle.go_load.proofs.StringLemmas.{no_path}
use Rattle.go_load.proofs.import_strings.import_path_of.Goals as goal

pub returns-in-Err : goal.returns-in-Err
returns-in-Err c = no_path c.args.text.now c.empty.result c.in-Err.ensures.no_token c.empty.ensures
