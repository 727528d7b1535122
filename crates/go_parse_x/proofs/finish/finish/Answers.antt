use Rattle.std.proofs.Common.{◌≡◌, ◌++◌, [], length, ap, ◌∙◌, arith}
use Rattle.std.proofs.lemmas.List.{nil_from_length}
use Rattle.go_parse_x.proofs.EndLemmas.{end_whole}
use Rattle.go_parse_x.proofs.finish.finish.Goals as goal

pub returns-in_default-clause-whole : goal.returns-in_default-clause-whole
returns-in_default-clause-whole c =
    let cases = c.in_default.ensures.cases in
    let none : length c.pop.new.self.items ≡ 0 = omega (arith, cases.1, c.pop.new.self.ok.0) in
    let left = nil_from_length c.pop.new.self.items none in
    let over : c.loop-place.todo.items ≡ [] = c.in_default.ensures.items ∙ ap (λ xs. xs ++ []) left in
    end_whole _ _ _ _ _ (rw over at c.loop-place.invariant.same)
