use Rattle.std.proofs.Common.{take, drop, ap, sym, ◌≡◌, ◌++◌, List, ℕ, Some}
use Rattle.std.proofs.lemmas.List.{take-append-drop}
use Rattle.go_base.specs.Sink.{AddsPrefix}
use Rattle.go_base.proofs.mem_sink.MemSinkSink.put.Goals as goal

-- what was appended is the front of the bytes, and the rest of them stands behind it
front_added : (old new bytes : List ℕ) (n : ℕ) → new ≡ old ++ take n bytes →
    AddsPrefix (Some old) (Some new) bytes
front_added old new bytes n e =
    record {
      front = take n bytes;
      back = drop n bytes;
      whole = sym (take-append-drop n bytes);
      adds = ap Some e;
    }

pub returns-in_ok-append_front-in-Some-clause-err : goal.returns-in_ok-append_front-in-Some-clause-err
returns-in_ok-append_front-in-Some-clause-err c =
    rw (← c.self.view_is) (front_added _ _ c.args.bytes.now c.in-Some.most
    c.in_ok-append_front-in-Some.ensures.ok)
