use Rattle.std.proofs.Common.{ap, ◌∙◌, take}
use Rattle.std.proofs.lemmas.List.{take_min}
use Rattle.go_num.specs.Strings.{most_printed}
use Rattle.go_num.proofs.value_texts.front.Goals as goal

pub returns : goal.returns
returns c = ap (λ n. take n c.args.text.now) c.min.ensures ∙ take_min most_printed c.args.text.now
