use Rattle.std.proofs.Common.{◌≡◌, true, List, ℕ, sym, subst, arith}
use Rattle.go_scan.specs.StringTexts.{is_string}
use Rattle.go_scan.proofs.StringLemmas.{string_within}
use Rattle.go_scan.proofs.StringTextLemmas.{literal_is_string}
use Rattle.go_scan.proofs.values.string_value.Goals as goal

pub part-requires-clause-before : goal.part-requires-clause-before
part-requires-clause-before c = let w = string_within c.args.bytes.now c.args.from c.args.to c.requires in omega (arith, w.0)

pub part-requires-clause-within : goal.part-requires-clause-within
part-requires-clause-within c = (string_within c.args.bytes.now c.args.from c.args.to c.requires).1

pub text_value-requires : goal.text_value-requires
text_value-requires c = subst (λ (xs : List ℕ). is_string xs ≡ true) (sym c.part.ensures) (literal_is_string c.args.bytes.now c.args.from c.args.to c.requires)
