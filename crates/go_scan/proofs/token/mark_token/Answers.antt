use Rattle.go_scan.proofs.LongestLemmas.{mark_is_longest, no_mark_token, blamed_here, no_small_letter}
use Rattle.go_scan.proofs.token.mark_token.Goals as goal

pub mark-requires-clause-letter : goal.mark-requires-clause-letter
mark-requires-clause-letter c = no_small_letter c.args.bytes.now c.args.from c.requires.word

pub returns-in-Some-clause-token : goal.returns-in-Some-clause-token
returns-in-Some-clause-token c =
    let s = c.in-Some.ensures.some in
    mark_is_longest c.args.bytes.now c.in-Some.longest.0 c.args.from c.in-Some.longest.1 s.2 c.requires.word c.requires.number c.requires.quote c.requires.line c.requires.general s.0 c.in-Some.ensures.longest

pub returns-in-None-clause-none : goal.returns-in-None-clause-none
returns-in-None-clause-none c = no_mark_token c.args.bytes.now c.args.from c.requires.word c.requires.number c.requires.quote c.requires.line c.requires.general c.in-None.ensures.none

pub returns-in-None-clause-blamed : goal.returns-in-None-clause-blamed
returns-in-None-clause-blamed c = blamed_here c.args.bytes.now c.args.from c.requires.quote c.requires.line c.requires.general
