use Rattle.std.proofs.Common.{[], length, List, map, sym, ap, ◌∙◌, subst}
use Rattle.std.proofs.lemmas.List.{length-map}
use Rattle.go_base.specs.declared.rule.Broken.{Broken}
use Rattle.indexmap.specs.IndexMap.{insert_all}
use Rattle.go_module.specs.Order.{IsListOf}
use Rattle.go_module.specs.Modules.Module.{file_view, package_view}
use Rattle.go_module.specs.Names.Rules.BrokenNames.{broken_in_files}
use Rattle.go_module.specs.Names.PackageBlock.{names_of}
use Rattle.go_module.specs.Names.Imports.{known_in}
use Rattle.go_module.specs.Places.{with_number}
use Rattle.go_module.specs.Scopes.{same_node, same_object}
use Rattle.go_names.specs.Views.{specs_view}
use Rattle.go_scope.specs.Blocks.{block_of}
use Rattle.go_scope.specs.Known.{known_by}
use Rattle.go_scope.proofs.CollectLemmas.{are_blocks, blocks_long, specs_long, found_from, uses_are, objects_are, some_numbered, some_told, not_none, is_none}
use Rattle.go_scope.proofs.collecting.collect_own.Goals as goal

pub check_names-requires : goal.check_names-requires
check_names-requires c =
    let K = c.args.before.now in
    let blocks_are = ap (map block_of) c.as_slice-blocks.ensures.value ∙ c.in_ok-imported.ensures in
    let specs_are = ap (map (λ list. specs_view list.items)) c.as_slice-specs.ensures.value ∙ c.in_ok-listed.ensures in
    record {
      blocks = blocks_long c.as_slice-blocks.result.now (known_by K) c.args.place (map file_view c.deref-2.result.now) c.deref-3.result.now blocks_are
          ∙ length-map c.deref-2.result.now file_view
          ∙ ap length c.deref-2.ensures.value;
      specs = sym (length-map c.as_slice-specs.result.now (λ list. specs_view list.items))
          ∙ ap length specs_are
          ∙ specs_long 0 (map file_view c.deref.result.now)
          ∙ length-map c.deref.result.now file_view
          ∙ ap length c.deref.ensures.value;
    }

pub returns-then-not-is_empty-clause-err : goal.returns-then-not-is_empty-clause-err
returns-then-not-is_empty-clause-err c m stands =
    let K = c.args.before.now in
    let own = c.args.own.now in
    let are = are_blocks (known_by K) c.args.place own c.as_slice-outer.ensures.value c.in_ok-predeclared.ensures (ap (map (λ list. specs_view list.items)) c.as_slice-specs.ensures.value ∙ c.in_ok-listed.ensures) c.deref.ensures.value c.as_slice-block.ensures.value c.in_ok-declared.ensures c.as_slice-blocks.ensures.value c.in_ok-imported.ensures c.deref-2.ensures.value c.deref-3.ensures.value in
    let specs = map (λ list. specs_view list.items) c.as_slice-specs.result.now in
    let found = c.check_names.new.found in
    let whole = found_from m K c.args.place own stands c.as_slice-outer.result.now c.as_slice-block.result.now c.as_slice-blocks.result.now specs are c.new-found.result.items found.items c.new-found.ensures.items c.in_ok-lists.ensures.found in
    let read = c.deref-then-not-is_empty-2.ensures.value ∙ whole in
    let told = c.in_ok-told.ensures ∙ (λ j. map (with_number (map file_view (c.deref-then-not-is_empty.ensures.value j))) (read j)) in
    let some = not_none found.items found.len (sym found.ok.0) c.if-not-is_empty.ensures in
    record {
      p = package_view own;
      at = stands.at;
      is_list = subst (λ (list : List Broken). IsListOf list c.ordered.result.items) told c.ordered.ensures;
      some = some_told c.in_ok-told.told.items c.ordered.result.items c.ordered.ensures (some_numbered (with_number (package_view own).files) (broken_in_files (known_in m) c.args.place (package_view own)) c.in_ok-told.told.items told (λ none. some (whole ∙ none)));
    }

pub returns-clause-ok : goal.returns-clause-ok
returns-clause-ok c m stands =
    let K = c.args.before.now in
    let own = c.args.own.now in
    let are = are_blocks (known_by K) c.args.place own c.as_slice-outer.ensures.value c.in_ok-predeclared.ensures (ap (map (λ list. specs_view list.items)) c.as_slice-specs.ensures.value ∙ c.in_ok-listed.ensures) c.deref.ensures.value c.as_slice-block.ensures.value c.in_ok-declared.ensures c.as_slice-blocks.ensures.value c.in_ok-imported.ensures c.deref-2.ensures.value c.deref-3.ensures.value in
    let specs = map (λ list. specs_view list.items) c.as_slice-specs.result.now in
    let found = c.check_names.new.found in
    let whole = found_from m K c.args.place own stands c.as_slice-outer.result.now c.as_slice-block.result.now c.as_slice-blocks.result.now specs are c.new-found.result.items found.items c.new-found.ensures.items c.in_ok-lists.ensures.found in
    let none = is_none found.items found.len (sym found.ok.0) c.if-not-is_empty.ensures in
    let lists = map (λ list. list.items) c.deref-4.result.now in
    let lists_are = ap (map (λ list. list.items)) c.deref-4.ensures.value ∙ c.in_ok-lists.ensures.resolved in
    let objects = objects_are m K c.args.place own stands c.as_slice-outer.result.now c.as_slice-block.result.now c.as_slice-blocks.result.now specs are lists lists_are in
    let uses = uses_are m K c.args.place own stands c.as_slice-outer.result.now c.as_slice-block.result.now c.as_slice-blocks.result.now specs are lists lists_are in
    record {
      p = package_view own;
      at = stands.at;
      sound = ap (map (with_number (package_view own).files)) (sym whole ∙ none);
      tables = record {
        objects = c.in_ok-scopes.ensures.objects ∙ ap (insert_all same_object []) objects;
        uses = c.in_ok-scopes.ensures.uses ∙ ap (insert_all same_node []) uses;
        iotas = c.in_ok-scopes.ensures.iotas;
        methods = c.in_ok-scopes.ensures.methods;
        names = c.in_ok-scopes.ensures.names ∙ ap names_of are.block_is;
      };
    }
