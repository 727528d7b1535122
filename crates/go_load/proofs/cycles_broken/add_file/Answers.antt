use Rattle.std.proofs.Common.{◌++◌, [], sym, ap, ◌∙◌, Option}
use Rattle.std.specs.Option.{option_map_or}
use Rattle.std.specs.List.{flat_map}
use Rattle.std.proofs.lemmas.List.{append-nil}
use Rattle.go_module.specs.Modules.Heads.{FileHead}
use Rattle.go_load.specs.Packages.CyclicImports.{named_import}
use Rattle.go_module.proofs.MemberLemmas.{get_beyond}
use Rattle.go_load.proofs.cycles_broken.add_file.Goals as goal

pub returns-in-None : goal.returns-in-None
returns-in-None c =
    let list = c.args.list.now.items in
    sym (append-nil list)
    ∙ ap (λ (o : Option FileHead). list ++ flat_map (named_import c.args.places.now c.args.stubs.now c.args.from_stub c.args.file) (option_map_or (λ head. head.imports) o [])) (sym (get_beyond c.args.heads.now c.args.file c.in-None.ensures.lookup.3))
