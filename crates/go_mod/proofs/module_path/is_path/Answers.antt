use Rattle.std.proofs.Common.{rules}
use Rattle.std.proofs.lemmas.Iterator.Search.{all_from_yields_List}
use Rattle.std.proofs.lemmas.Iterator.Splits.{YieldsList-from_slice_split}
use Rattle.go_module.specs.Modules.PathParts.{is_slash}
use Rattle.go_mod.specs.ModulePath.{is_element}
use Rattle.go_mod.proofs.module_path.is_path.Goals as goal

pub returns : goal.returns
returns c =
    all_from_yields_List is_element _ _ _ c.all.ensures.ran (YieldsList-from_slice_split _ is_slash c.args.text.now c.split.ensures.rest c.split.ensures.done c.split.ensures.closure (λ x b q k. search rules)) (λ x b q k. search rules)
