use Rattle.std.proofs.Common.{◌≡◌, ◌++◌, [], length, refl, ap, ◌∙◌, arith}
use Rattle.std.proofs.lemmas.List.{nil_from_length}
use Rattle.go_parse_x.proofs.LevelLemmas.{closed_outside}
use Rattle.go_parse_x.proofs.heights.Levels.closes.Goals as goal

pub returns-in-None : goal.returns-in-None
returns-in-None c = λ ms h.
    let some = c.in-None.ensures.cases in
    let none : length c.pop.new.self.items ≡ 0 = omega (arith, some.1, c.pop.new.self.ok.0) in
    let left = nil_from_length c.pop.new.self.items none in
    closed_outside c.args.self.now _ ms h (c.in-None.ensures.items ∙ ap (λ xs. xs ++ []) left) left refl refl
