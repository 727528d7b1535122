use Rattle.std.proofs.Common.{map, ap, sym, ◌∙◌}
use Rattle.go_term.specs.Substitution.{subst, subst_all}
use Rattle.go_term.specs.Types.{made, struct_type, interface_type, tuple, named, union}
use Rattle.go_term.specs.View.{type_of, field_of, elem_of, union_term_of}
use Rattle.go_subst.proofs.SubstLemmas.{parts_put}
use Rattle.go_subst.proofs.ViewLemmas.{type_of-Struct, type_of-Interface, type_of-Tuple, type_of-Named, elem_of-Union, parts-made, parts-out}
use Rattle.go_subst.proofs.substitution.+put.Goals as goal

pub put_elem-returns-in_ok-put_unions-in-Union : goal.put_elem-returns-in_ok-put_unions-in-Union
put_elem-returns-in_ok-put_unions-in-Union t c =
    rw c.in-Union.is (
    elem_of-Union c.in_ok-put_unions-in-Union.field-0
    ∙ ap (made union) (parts_put c.args.with.now.from.now (map type_of c.args.with.now.to.now) union_term_of c.in-Union.us.items c.deref.result.now c.in_ok-put_unions-in-Union.field-0.items c.deref.ensures.value c.in_ok-put_unions-in-Union.ensures)
    ∙ sym (ap (subst c.args.with.now.from.now (map type_of c.args.with.now.to.now)) (elem_of-Union c.in-Union.us)))

pub put_func-returns-clause-parts : goal.put_func-returns-clause-parts
put_func-returns-clause-parts t c =
    let params = parts_put c.args.with.now.from.now (map type_of c.args.with.now.to.now) type_of c.args.f.now.params.items c.deref.result.now c.in_ok-put_list.field-0.items c.deref.ensures.value c.in_ok-put_list.ensures in
    let results = parts_put c.args.with.now.from.now (map type_of c.args.with.now.to.now) type_of c.args.f.now.results.items c.deref-2.result.now c.in_ok-put_list-2.field-0.items c.deref-2.ensures.value c.in_ok-put_list-2.ensures in
    parts-made _ ∙ rw (params, results) (sym (ap (subst_all c.args.with.now.from.now (map type_of c.args.with.now.to.now)) (parts-out c.args.f.now)))

pub put_in-returns-in_ok-put_fields-in-Struct : goal.put_in-returns-in_ok-put_fields-in-Struct
put_in-returns-in_ok-put_fields-in-Struct t c =
    rw c.in-Struct.is (
    type_of-Struct c.in_ok-put_fields-in-Struct.field-0
    ∙ ap (made struct_type) (parts_put c.args.with.now.from.now (map type_of c.args.with.now.to.now) field_of c.in-Struct.fs.items c.deref-in-Struct.result.now c.in_ok-put_fields-in-Struct.field-0.items c.deref-in-Struct.ensures.value c.in_ok-put_fields-in-Struct.ensures)
    ∙ sym (ap (subst c.args.with.now.from.now (map type_of c.args.with.now.to.now)) (type_of-Struct c.in-Struct.fs)))

pub put_in-returns-in_ok-put_elems-in-Interface : goal.put_in-returns-in_ok-put_elems-in-Interface
put_in-returns-in_ok-put_elems-in-Interface t c =
    rw c.in-Interface.is (
    type_of-Interface c.in_ok-put_elems-in-Interface.field-0
    ∙ ap (made interface_type) (parts_put c.args.with.now.from.now (map type_of c.args.with.now.to.now) elem_of c.in-Interface.es.items c.deref-in-Interface.result.now c.in_ok-put_elems-in-Interface.field-0.items c.deref-in-Interface.ensures.value c.in_ok-put_elems-in-Interface.ensures)
    ∙ sym (ap (subst c.args.with.now.from.now (map type_of c.args.with.now.to.now)) (type_of-Interface c.in-Interface.es)))

pub put_in-returns-in_ok-put_list-in-Tuple : goal.put_in-returns-in_ok-put_list-in-Tuple
put_in-returns-in_ok-put_list-in-Tuple t c =
    rw c.in-Tuple.is (
    type_of-Tuple c.in_ok-put_list-in-Tuple.field-0
    ∙ ap (made tuple) (parts_put c.args.with.now.from.now (map type_of c.args.with.now.to.now) type_of c.in-Tuple.ts.items c.deref-in-Tuple.result.now c.in_ok-put_list-in-Tuple.field-0.items c.deref-in-Tuple.ensures.value c.in_ok-put_list-in-Tuple.ensures)
    ∙ sym (ap (subst c.args.with.now.from.now (map type_of c.args.with.now.to.now)) (type_of-Tuple c.in-Tuple.ts)))

pub put_in-returns-in_ok-put_list-in-Named : goal.put_in-returns-in_ok-put_list-in-Named
put_in-returns-in_ok-put_list-in-Named t c =
    rw c.in-Named.is (
    type_of-Named c.in-Named.d c.in_ok-put_list-in-Named.field-0
    ∙ ap (made (named c.in-Named.d)) (parts_put c.args.with.now.from.now (map type_of c.args.with.now.to.now) type_of c.in-Named.ts.items c.deref-in-Named.result.now c.in_ok-put_list-in-Named.field-0.items c.deref-in-Named.ensures.value c.in_ok-put_list-in-Named.ensures)
    ∙ sym (ap (subst c.args.with.now.from.now (map type_of c.args.with.now.to.now)) (type_of-Named c.in-Named.d c.in-Named.ts)))
