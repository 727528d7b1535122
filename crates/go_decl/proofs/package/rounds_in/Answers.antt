use Rattle.std.proofs.Common.{◌≡◌, ◌∙◌, Bool, true, List, Some, sym, ap, subst}
use Rattle.std.specs.Prelude.{◌↔◌}
use Rattle.std.specs.List.{flat_map}
use Rattle.std.proofs.lemmas.Result.{IfOk-weaker}
use Rattle.go_tree.specs.Tree.{id_of}
use Rattle.go_module.specs.Modules.Module.{PackageData, package_view}
use Rattle.go_module.specs.Names.Declarations.{Declaration, declarations_in, declarations_of, specs_of}
use Rattle.go_operands.specs.Operands.{expressions_in_parts}
use Rattle.go_module.specs.Order.{IsListOf}
use Rattle.go_judge.specs.Headers.{Headers}
use Rattle.go_model.specs.Outcomes.Walked.{AreWalked, nodes_of, walked_over}
use Rattle.go_values.specs.Headers.{Known}
use Rattle.go_values.specs.Rules.{broken_values}
use Rattle.go_values.specs.Waiting.{Chain}
use Rattle.go_model.proofs.WalkedLemmas.{are_walked}
use Rattle.go_names.specs.declared.declaration.Declaration.{Declaration as OwnDeclaration}
use Rattle.go_names.specs.declared.spec.Spec.{Spec}
use Rattle.go_names.specs.Views.{declarations_view, specs_view}
use Rattle.go_expr.proofs.ResultLemmas.{on_err}
use Rattle.go_decl.specs.Places.{placed_by}
use Rattle.go_decl.specs.Waits.{marked_by}
use Rattle.go_decl.proofs.HonestHeaders.{honest_same}
use Rattle.go_decl.proofs.KnownLemmas.{still_agree, still_own, still_same}
use Rattle.go_decl.proofs.ListLemmas.{on_ok}
use Rattle.go_decl.proofs.ReadLemmas.{under_walked}
use Rattle.go_decl.proofs.RoundLemmas.{backed_as, backed_same}
use Rattle.go_decl.proofs.package.rounds_in.Goals as goal

-- where memory is refused before the rounds
pub returns-in_err-declarations-clause-err : goal.returns-in_err-declarations-clause-err
returns-in_err-declarations-clause-err g c =
    on_err c.from_residual-in_err-declarations.result _
    (backed_same (g.R.Ask.headers c.args.rules.now) (g.R.Ask.names c.args.rules.now) (declarations_of (package_view c.args.own.now)) _ c.requires.same)

pub returns-in_err-places-clause-err : goal.returns-in_err-places-clause-err
returns-in_err-places-clause-err g c =
    on_err c.from_residual-in_err-places.result _
    (backed_same (g.R.Ask.headers c.args.rules.now) (g.R.Ask.names c.args.rules.now) (declarations_of (package_view c.args.own.now)) _ c.requires.same)

-- the declarations of the package, as they were listed
listed : {specs deref_specs : List Spec} {declarations deref_declarations : List OwnDeclaration} (p : PackageData) → deref_declarations ≡ declarations → declarations_view declarations ≡ declarations_in (specs_view deref_specs)
    → deref_specs ≡ specs → specs_view specs ≡ specs_of p → declarations_view deref_declarations ≡ declarations_of p
listed p same are at is = ap declarations_view same ∙ are ∙ ap declarations_in (ap specs_view at ∙ is)

-- walks give the rules more types, and the map stays

pub returns-in_err-walk_specs-clause-err : goal.returns-in_err-walk_specs-clause-err
returns-in_err-walk_specs-clause-err g c =
    on_err c.from_residual-in_err-walk_specs.result _
    (backed_as (listed (package_view c.args.own.now) c.deref-3.ensures.value c.in_ok-declarations.ensures c.deref.ensures.value c.in_ok-specs.ensures)
    (still_agree c.walk_specs.ensures.types c.add_rounds.new.known c.add_rounds.ensures.own ∙ c.in_ok-add_rounds.ensures.known) c.add_rounds.ensures.backed)

pub returns-in_err-cyclic-clause-err : goal.returns-in_err-cyclic-clause-err
returns-in_err-cyclic-clause-err g c =
    on_err c.from_residual-in_err-cyclic.result _
    (backed_as (listed (package_view c.args.own.now) c.deref-3.ensures.value c.in_ok-declarations.ensures c.deref.ensures.value c.in_ok-specs.ensures)
    (still_agree c.walk_specs.ensures.types c.add_rounds.new.known c.add_rounds.ensures.own ∙ c.in_ok-add_rounds.ensures.known) c.add_rounds.ensures.backed)

pub returns-in_err-cyclic-clause-own : goal.returns-in_err-cyclic-clause-own
returns-in_err-cyclic-clause-own g c = still_own c.walk_specs.ensures.types c.add_rounds.new.known c.add_rounds.ensures.own

pub returns-in_err-walk_specs-clause-honest : goal.returns-in_err-walk_specs-clause-honest
returns-in_err-walk_specs-clause-honest g c = honest_same c.add_rounds.ensures.honest c.walk_specs.ensures.same

pub returns-in_err-cyclic-clause-honest : goal.returns-in_err-cyclic-clause-honest
returns-in_err-cyclic-clause-honest g c = honest_same c.add_rounds.ensures.honest c.walk_specs.ensures.same

pub returns-clause-err : goal.returns-clause-err
returns-clause-err g c =
    on_err c.broken_values.result _
    (backed_as (listed (package_view c.args.own.now) c.deref-3.ensures.value c.in_ok-declarations.ensures c.deref.ensures.value c.in_ok-specs.ensures)
    (still_agree c.walk_specs.ensures.types c.add_rounds.new.known c.add_rounds.ensures.own ∙ c.in_ok-add_rounds.ensures.known) c.add_rounds.ensures.backed)

pub returns-clause-own : goal.returns-clause-own
returns-clause-own g c = still_own c.walk_specs.ensures.types c.add_rounds.new.known c.add_rounds.ensures.own

pub returns-clause-honest : goal.returns-clause-honest
returns-clause-honest g c = honest_same c.add_rounds.ensures.honest c.walk_specs.ensures.same

pub returns-clause-known : goal.returns-clause-known
returns-clause-known g c =
    on_ok c.broken_values.result _ (still_same c.walk_specs.ensures.types c.add_rounds.new.known c.add_rounds.ensures.own c.in_ok-add_rounds.ensures.known c.walk_specs.ensures.same)

pub returns-clause-exact : goal.returns-clause-exact
returns-clause-exact g c =
    let old = g.R.Ask.headers c.args.rules.now in
    let naming = (g.R.Ask.names c.args.rules.now) in
    let p = package_view c.args.own.now in
    let declarations : declarations_view c.deref-3.result.now ≡ declarations_of p =
    listed p c.deref-3.ensures.value c.in_ok-declarations.ensures c.deref.ensures.value c.in_ok-specs.ensures in
    on_ok c.broken_values.result _
    (λ d h.
    subst (λ (ds : List Declaration). (g.R.Ask.headers c.walk_specs.new.walks d ≡ Some h) ↔ Known old naming ds d h) declarations
    (subst (λ (m : Headers). (m d ≡ Some h) ↔ Known old naming (declarations_view c.deref-3.result.now) d h) (sym c.walk_specs.ensures.same) (c.in_ok-add_rounds.ensures.exact d h)))

pub nodes_walked : (g : _) (c : goal.After-drop-specs-2 g) → AreWalked (g.R.Ask.names c.args.rules.now) (g.R.Ask.headers c.walk_specs.new.walks) (nodes_of (package_view c.args.own.now)) (g.R.Ask.outcomes c.walk_specs.new.walks)
nodes_walked g c = λ t h.
    let naming = (g.R.Ask.names c.args.rules.now) in
    let headers = g.R.Ask.headers c.walk_specs.new.walks in
    let before = g.R.Ask.outcomes c.add_rounds.new.rules in
    let specs = ap specs_view c.deref-4.ensures.value ∙ c.in_ok-specs.ensures in
    c.in_ok-walk_specs.ensures.reached (id_of t)
    ∙ (λ i. walked_over (c.add_rounds.ensures.names i) (sym c.walk_specs.ensures.same i) (flat_map expressions_in_parts (specs i)) before (id_of t))
    ∙ are_walked naming headers (nodes_of (package_view c.args.own.now)) c.requires.numbered before t h

pub returns-clause-nodes : goal.returns-clause-nodes
returns-clause-nodes g c = on_ok c.broken_values.result _ (nodes_walked g c)

pub returns-clause-list : goal.returns-clause-list
returns-clause-list g c =
    let naming = (g.R.Ask.names c.args.rules.now) in
    let headers = g.R.Ask.headers c.walk_specs.new.walks in
    let outcomes = g.R.Ask.outcomes c.walk_specs.new.walks in
    let p = package_view c.args.own.now in
    let places = c.in_ok-places.places.entries in
    let cyclic = c.in_ok-cyclic.cyclic.items in
    let declarations : declarations_view c.deref-5.result.now ≡ declarations_of p =
    listed p c.deref-5.ensures.value c.in_ok-declarations.ensures c.deref.ensures.value c.in_ok-specs.ensures in
    let walked = nodes_walked g c in
    IfOk-weaker c.broken_values.result _ _
    (λ list is. record {
      cyclic = marked_by (placed_by places) cyclic;
      is_cyclic = λ d. subst (λ (ds : List Declaration). (marked_by (placed_by places) cyclic d ≡ true) ↔ Chain naming ds headers d d) declarations
          (c.in_ok-cyclic.ensures.exact naming headers (under_walked naming headers outcomes p (declarations_view c.deref-5.result.now) declarations walked) d);
      is_list = subst (λ (marks : List Bool). IsListOf (broken_values naming headers (marked_by (placed_by places) marks) p) list.items) c.deref-6.ensures.value (is naming headers walked);
    })
    c.broken_values.ensures
