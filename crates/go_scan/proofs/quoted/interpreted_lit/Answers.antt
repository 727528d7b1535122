use Rattle.std.proofs.Common.{◌∙◌, sym, arith}
use Rattle.go_tree.specs.Lexical.Literals.{none}
use Rattle.go_tree.proofs.ByteLemmas.{there}
use Rattle.go_scan.proofs.QuotedLemmas.{StringEnds, characters_from, characters_more, string_none, string_stuck}
use Rattle.go_scan.proofs.quoted.interpreted_lit.Goals as goal

pub loop-from-init : goal.loop-from-init
loop-from-init c = record { within = let t = there c.args.bytes.now c.args.from 34 c.requires (omega arith) in omega arith; characters = none }

pub returns-then-byte_at-eq34-clause-within : goal.returns-then-byte_at-eq34-clause-within
returns-then-byte_at-eq34-clause-within c =
    let t = there c.args.bytes.now c.loop-from.at 34 (sym c.byte_at.ensures ∙ c.if-byte_at-eq34.true) (omega arith) in
    let f = characters_from c.loop-from.invariant.characters in
    (omega (arith, f), omega (arith, t))

string_ends : (c : goal.In-Err) → StringEnds c.args.bytes.now c.args.from c.loop-from.at
string_ends c = record { opens = c.requires; characters = c.loop-from.invariant.characters; unclosed = λ e. c.if-byte_at-eq34.false (c.byte_at.ensures ∙ e) }

pub returns-in-Err-clause-stuck : goal.returns-in-Err-clause-stuck
returns-in-Err-clause-stuck c = string_stuck c.args.bytes.now c.args.from c.loop-from.at c.in-Err.at (string_ends c) c.in-Err.ensures.none

pub returns-in-Err-clause-none : goal.returns-in-Err-clause-none
returns-in-Err-clause-none c = λ to lit. string_none c.args.bytes.now c.args.from c.loop-from.at c.in-Err.at to (string_ends c) c.in-Err.ensures.none lit

pub loop-from-preserved : goal.loop-from-preserved
loop-from-preserved c = record {
  within = c.in-Ok.ensures.within.1;
  characters = characters_more c.args.bytes.now c.args.from c.loop-from.at c.in-Ok.to c.loop-from.invariant.characters c.in-Ok.ensures.whole;
}
