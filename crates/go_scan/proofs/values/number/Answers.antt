use Rattle.std.proofs.Common.{◌≡◌, ◌*◌, length, slice_index, ◌∙◌, ap, refl, arith, take_all}
use Rattle.go_tree.specs.Lexical.Literals.{number_in, digit_value}
use Rattle.go_scan.specs.Escapes.{base_of}
use Rattle.go_scan.proofs.ValueLemmas.{number_step, number_fits}
use Rattle.go_scan.proofs.values.number.Goals as goal

pub overflow_mul-value : goal.overflow_mul-value
overflow_mul-value c =
    let s = number_step c.args.kind c.args.digits.now c.loop-byte.byte-index c.loop-byte.value (slice_index c.args.digits.now c.loop-byte.byte-index) c.requires.digits c.requires.count c.loop-byte-test.true c.loop-byte.invariant refl in
    let b : c.loop-byte.value * c.base.result ≡ c.loop-byte.value * base_of c.args.kind = ap (λ x. c.loop-byte.value * x) c.base.ensures in
    let small = s.small in
    omega arith

pub overflow_add-value : goal.overflow_add-value
overflow_add-value c =
    let s = number_step c.args.kind c.args.digits.now c.loop-byte.byte-index c.loop-byte.value (slice_index c.args.digits.now c.loop-byte.byte-index) c.requires.digits c.requires.count c.loop-byte-test.true c.loop-byte.invariant refl in
    let b : c.loop-byte.value * c.base.result ≡ c.loop-byte.value * base_of c.args.kind = ap (λ x. c.loop-byte.value * x) c.base.ensures in
    let d : c.digit_value.result ≡ digit_value (slice_index c.args.digits.now c.loop-byte.byte-index) = c.digit_value.ensures in
    let small = s.small in
    omega arith

pub overflow_cast-result : goal.overflow_cast-result
overflow_cast-result c =
    let l : c.loop-byte.byte-index ≡ length c.args.digits.now = omega arith in
    let v : c.loop-byte.value ≡ number_in (base_of c.args.kind) c.args.digits.now = c.loop-byte.invariant ∙ ap (λ xs. number_in (base_of c.args.kind) xs) (take_all c.loop-byte.byte-index c.args.digits.now (omega arith)) in
    let f = number_fits c.args.kind c.args.digits.now c.requires.digits c.requires.count in
    omega arith
