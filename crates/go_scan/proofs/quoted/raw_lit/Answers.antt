use Rattle.std.proofs.Common.{◌∙◌}
use Rattle.go_scan.proofs.RawLemmas.{RawEnds, raw_none, raw_stuck}
use Rattle.go_scan.proofs.quoted.raw_lit.Goals as goal

unclosed : (c : goal.Else-byte_at-eq96) → RawEnds c.args.bytes.now c.args.from c.run_end-close.result
unclosed c = record {
  opens = c.requires;
  run = c.run_end-close.ensures.run;
  unclosed = λ e. c.if-byte_at-eq96.false (c.byte_at.ensures ∙ e);
  ends = c.run_end-close.ensures.ends;
}

pub returns-else-byte_at-eq96-clause-stuck : goal.returns-else-byte_at-eq96-clause-stuck
returns-else-byte_at-eq96-clause-stuck c = raw_stuck c.args.bytes.now c.args.from c.run_end-close.result c.run_end-close.ensures.within.1 (unclosed c)

pub returns-else-byte_at-eq96-clause-none : goal.returns-else-byte_at-eq96-clause-none
returns-else-byte_at-eq96-clause-none c = raw_none c.args.bytes.now c.args.from c.run_end-close.result (unclosed c)
