use Rattle.std.proofs.Common.{◌≡◌, take, fold}
use Rattle.go_judge.specs.NumberHasher.{byte_in}
use Rattle.go_judge.proofs.number_hasher.NumberHasherHasher.write.Given as goal

-- the bytes so far are in
abbrev pub invariant-loop-byte : goal.invariant-loop-byte
invariant-loop-byte l = l.self.0 ≡ fold byte_in l.initial.self.0 (take l.byte-index l.bytes)
