use Rattle.std.proofs.Common.{◌≡◌, ◌+◌, ◌-◌, ◌<◌, ◌∷◌, add-one, arith, drop, drop-cons, length, length-drop, map}
use Rattle.std.proofs.lemmas.Result.{on_ok_weaker}
use Rattle.go_term.specs.declared.term.Term.{Term}
use Rattle.go_term.specs.View.{signature_of, type_of}
use Rattle.go_report.specs.Report.{named_view}
use Rattle.go_records.proofs.TypeLemmas.{named_in_parts, named_of-parts, one_type, signature_in_parts, signature_of-parts}
use Rattle.go_records.proofs.types.+types.Goals as goal

pub put_list-loop-t-preserved : goal.put_list-loop-t-preserved
put_list-loop-t-preserved t c =
    let terms = c.args.terms.now in
    let i = c.loop-t.t-index in
    let within : i < length terms = c.loop-t-test.true in
    let front : drop i terms ≡ c.t-item.result ∷ drop (i + 1) terms = rw (add-one, drop-cons terms i c.t-item.result) (cc) in
    let left : c.loop-t.left - 1 ≡ length (drop (i + 1) terms) = omega (arith, length-drop {A = Term}) in
    record {
      left = left;
      whole = one_type (map named_view c.args.named.now) c.loop-t.behind c.args.variadic (c.loop-t.left - 1) c.t-item.result (drop (i + 1) terms) (drop i terms)
          c.loop-t.out.items c.put_if.new.out.items c.put_dots.new.out.items c.put_type.new.out.items _
          front left c.loop-t.invariant.whole c.in_ok-put_if.ensures c.in_ok-put_dots.ensures c.in_ok-put_type.ensures;
    }

pub put_signature-returns : goal.put_signature-returns
put_signature-returns t c =
    let objects = map named_view c.args.named.now in
    on_ok_weaker c.put_list-2.result
    (signature_in_parts objects (signature_of c.args.f.now) c.args.f.now.variadic c.args.f.now.params.items c.args.f.now.results.items c.deref.result.now c.deref-2.result.now c.deref-3.result.now
    c.around_results.result.0.now c.around_results.result.1.now c.args.out.now.items c.put_list.new.out.items c.put_list-2.new.out.items
    (signature_of-parts c.args.f.now) c.deref.ensures.value c.deref-2.ensures.value c.deref-3.ensures.value (c.around_results.ensures objects) c.in_ok-put_list.ensures)
    c.put_list-2.ensures

pub put_type-returns-in_ok-put_object-in-Named : goal.put_type-returns-in_ok-put_object-in-Named
put_type-returns-in_ok-put_object-in-Named t c =
    let objects = map named_view c.args.named.now in
    on_ok_weaker c.put_list-in-Named.result
    (named_in_parts objects c.in-Named.d (type_of c.args.term.now) c.in-Named.ts.items c.deref-in-Named.result.now c.deref-in-Named-2.result.now
    c.around_arguments.result.0.now c.around_arguments.result.1.now c.args.out.now.items c.put_object.new.out.items c.put_list-in-Named.new.out.items
    (named_of-parts c.args.term.now c.in-Named.d c.in-Named.ts c.in-Named.is) c.deref-in-Named.ensures.value c.deref-in-Named-2.ensures.value (c.around_arguments.ensures objects) c.in_ok-put_object-in-Named.ensures)
    c.put_list-in-Named.ensures
