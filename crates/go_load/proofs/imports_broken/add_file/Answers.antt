use Rattle.std.proofs.Common.{◌++◌, [], sym, ap, ◌∙◌, Option}
use Rattle.std.specs.Option.{option_map_or}
use Rattle.std.specs.List.{flat_map}
use Rattle.std.proofs.lemmas.List.{append-nil}
use Rattle.go_module.specs.Modules.Heads.{FileHead}
use Rattle.go_module.specs.Modules.BrokenImports.{broken_import}
use Rattle.go_module.proofs.MemberLemmas.{get_beyond}
use Rattle.go_load.proofs.imports_broken.add_file.Goals as goal

pub returns-in-None : goal.returns-in-None
returns-in-None c =
    let found = c.args.found.now.items in
    sym (append-nil found)
    ∙ ap (λ (o : Option FileHead). found ++ flat_map (broken_import c.args.places.now c.args.stubs.now c.args.from_stub c.args.file) (option_map_or (λ head. head.imports) o [])) (sym (get_beyond c.args.heads.now c.args.file c.in-None.ensures.lookup.3))
