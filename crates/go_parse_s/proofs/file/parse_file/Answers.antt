use Rattle.std.proofs.Common.{◌≡◌}
use Rattle.go_parse_x.specs.Answers.{spot_of}
use Rattle.go_parse_s.proofs.FileLemmas.{start, file_from, fault_from, no_memory_from}
use Rattle.go_parse_s.proofs.StartLemmas.{file_gap}
use Rattle.go_parse_s.proofs.file.parse_file.Goals as goal

pub returns-in-Err-clause-fault : goal.returns-in-Err-clause-fault
returns-in-Err-clause-fault c =
    let s = c.new-cursor.ensures.start in
    let from : spot_of c.new-cursor.result ≡ start = let at = s.1 in let last = s.2 in cc in
    fault_from _ _ _ _ _ c.in-Err.fault s.0 c.of_file-pending.ensures.file.1 from c.in-Err.ensures.answer

pub returns-in-Err-finished-clause-fault : goal.returns-in-Err-finished-clause-fault
returns-in-Err-finished-clause-fault c =
    let s = c.new-cursor.ensures.start in
    let from : spot_of c.new-cursor.result ≡ start = let at = s.1 in let last = s.2 in cc in
    no_memory_from _ _ _ _ _ _ _ c.in-Ok.root s.0 c.of_file-pending.ensures.file.1 from c.in-Ok.ensures.answer

pub returns-clause-file : goal.returns-clause-file
returns-clause-file c =
    let s = c.new-cursor.ensures.start in
    let from : spot_of c.new-cursor.result ≡ start = let at = s.1 in let last = s.2 in cc in
    file_from _ _ _ _ _ _ _ _ c.in-Ok.root _ s.0 c.of_file-pending.ensures.file.1 from c.in-Ok.ensures.answer c.in-Ok-finished.ensures.tree

pub returns-clause-start : goal.returns-clause-start
returns-clause-start c = file_gap _ _ _ (returns-clause-file c)
