-- Sinks in memory.
-- Decides what contracts see of them: the bytes taken, and which puts fail.
use Rattle.std.specs.Prelude.{ℕ, ◌==◌, List, Option, find, option_map}
use Rattle.go_base.specs.declared.mem_sink.FailPut.{FailPut}

-- how many bytes the put of that number takes where it fails: the first entry of the number counts
abbrev pub take_at : List FailPut → ℕ → Option ℕ
take_at failing call = option_map (λ put. put.take) (find (λ put. put.call == call) failing)

-- the bytes taken, the puts that fail, and how many puts were made and failed
pub record MemSinkState : Type 0 where
  pub taken : List ℕ
  pub failing : List FailPut
  pub calls : ℕ
  pub faults : ℕ
