use Rattle.std.proofs.Common.{◌<◌, ◌≤◌, ◌+◌, length, sym, ◌∙◌, arith}
use Rattle.go_scan.proofs.WordLemmas.{letter_lies, word_by_run, word_longest}
use Rattle.go_scan.proofs.words.word_end.Goals as goal

lies : (c : goal.Then-is_letter) → (0 < c.in_ok-c.len) × (c.args.from + c.in_ok-c.len ≤ length c.args.bytes.now)
lies c = letter_lies c.args.bytes.now c.args.from c.in_ok-c.c c.in_ok-c.len c.in_ok-c.ensures.some.0 c.in_ok-c.ensures.some.1

pub overflow_add-from : goal.overflow_add-from
overflow_add-from c = let w = (lies c).1 in omega (arith, w)

pub run_end-requires : goal.run_end-requires
run_end-requires c = (lies c).1

pub returns-then-is_letter-clause-word : goal.returns-then-is_letter-clause-word
returns-then-is_letter-clause-word c =
    let s = c.in_ok-c.ensures.some in
    let word = word_by_run c.args.bytes.now c.args.from c.in_ok-c.c c.in_ok-c.len c.run_end.result s.0 s.1 (sym c.is_letter.ensures ∙ c.if-is_letter.true) c.run_end.ensures.run in
    let w = c.run_end.ensures.within in
    let some = (letter_lies c.args.bytes.now c.args.from c.in_ok-c.c c.in_ok-c.len s.0 s.1).0 in
    (word, omega (arith, w.0, some), w.1)

pub returns-then-is_letter-clause-longest : goal.returns-then-is_letter-clause-longest
returns-then-is_letter-clause-longest c = word_longest c.args.bytes.now c.args.from c.in_ok-c.len c.run_end.result c.in_ok-c.ensures.some.1 c.run_end.ensures.run c.run_end.ensures.ends
