use Rattle.std.proofs.Common.{◌≡◌, ◌++◌, get_or, map, filter, take}
use Rattle.go_same.specs.declared.set.Method.{Method}
use Rattle.go_same.specs.MethodOrder as spec
use Rattle.go_same.proofs.methods.add_named.Given as goal

abbrev pub invariant-loop-k : goal.invariant-loop-k
invariant-loop-k l = record {
  in_range : spec.AreInRange l.ms l.ns l.pairs.items;
  so_far : (other : Method) → map (spec.both_at l.ms l.ns other) l.pairs.items ≡ map (spec.both_at l.ms l.ns other) l.initial.pairs.items ++ map (λ n. (get_or l.ms l.i other, n)) (filter (spec.is_named_as (get_or l.ms l.i other)) (take l.k l.ns));
}
