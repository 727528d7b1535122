use Rattle.std.proofs.Common.{◌≡◌, ◌++◌, map, drop, length}
use Rattle.std.specs.Prelude.{codes, false, if◌then◌else◌}
use Rattle.go_term.specs.Types.{parts_of}
use Rattle.go_term.specs.View.{type_of, field_of, elem_of, union_term_of}
use Rattle.go_report.specs.Report.{named_view}
use Rattle.go_report.specs.Text.Types.{texts_of, with_dots}
use Rattle.go_records.proofs.TypeLemmas.{later}
use Rattle.go_records.proofs.types.+types.Given as goal

abbrev pub invariant-put_list-loop-t : goal.invariant-put_list-loop-t
invariant-put_list-loop-t l = record {
  left : l.left ≡ length (drop l.t-index l.terms);
  whole : l.out.items ++ later l.behind (codes ", ") (if l.variadic then with_dots (texts_of (map named_view l.named) (parts_of (map type_of (drop l.t-index l.terms)))) else texts_of (map named_view l.named) (parts_of (map type_of (drop l.t-index l.terms)))) ≡ l.initial.out.items ++ later false (codes ", ") (if l.variadic then with_dots (texts_of (map named_view l.named) (parts_of (map type_of l.terms))) else texts_of (map named_view l.named) (parts_of (map type_of l.terms)));
}

abbrev pub invariant-put_fields-loop-f : goal.invariant-put_fields-loop-f
invariant-put_fields-loop-f l = l.out.items ++ later l.behind (codes "; ") (texts_of (map named_view l.named) (parts_of (map field_of (drop l.f-index l.fields)))) ≡ l.initial.out.items ++ later false (codes "; ") (texts_of (map named_view l.named) (parts_of (map field_of l.fields)))

abbrev pub invariant-put_elems-loop-e : goal.invariant-put_elems-loop-e
invariant-put_elems-loop-e l = l.out.items ++ later l.behind (codes "; ") (texts_of (map named_view l.named) (parts_of (map elem_of (drop l.e-index l.elems)))) ≡ l.initial.out.items ++ later false (codes "; ") (texts_of (map named_view l.named) (parts_of (map elem_of l.elems)))

abbrev pub invariant-put_union-loop-u : goal.invariant-put_union-loop-u
invariant-put_union-loop-u l = l.out.items ++ later l.behind (codes "|") (texts_of (map named_view l.named) (parts_of (map union_term_of (drop l.u-index l.terms)))) ≡ l.initial.out.items ++ later false (codes "|") (texts_of (map named_view l.named) (parts_of (map union_term_of l.terms)))
