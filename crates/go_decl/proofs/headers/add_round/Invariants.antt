use Rattle.std.proofs.Common.{◌≡◌, ℕ, Some, false, true, ◌≤◌, ◌<◌}
use Rattle.std.specs.Map.{lookup}
use Rattle.go_base.specs.declared.ids.ObjId.{ObjId}
use Rattle.go_module.specs.Scopes.{same_object}
use Rattle.go_judge.specs.Types.Own.{KeepsTypes}
use Rattle.go_judge.specs.HeadersView.{AreOwnHeaders, headers_as}
use Rattle.go_constructs.specs.Operators.Honest.{AreHonest}
use Rattle.go_decl.specs.Rounds.{IsBacked, IsSettled, open_in}
use Rattle.go_names.specs.Views.{declarations_view}
use Rattle.go_decl.proofs.headers.add_round.Given as goal

abbrev pub invariant-loop-place : goal.invariant-loop-place
invariant-loop-place g l = record {
  backed : IsBacked (g.R.Ask.headers l.fn.rules) (g.R.Ask.names l.fn.rules) (declarations_view l.declarations) (g.R.Ask.headers l.rules);
  known : headers_as (g.R.Ask.tree l.rules) l.known ≡ g.R.Ask.headers l.rules;
  own : AreOwnHeaders (g.R.Ask.is_type l.rules) l.known;
  honest : AreHonest (g.R.Ask.headers l.rules);
  names : g.R.Ask.names l.rules ≡ g.R.Ask.names l.fn.rules;
  world : g.R.Ask.world l.rules ≡ g.R.Ask.world l.fn.rules;
  types : KeepsTypes (g.R.Ask.is_type l.fn.rules) (g.R.Ask.is_type l.rules) (g.R.Ask.tree l.fn.rules) (g.R.Ask.tree l.rules);
  fewer : l.added ≡ true → open_in (g.R.Ask.headers l.rules) (declarations_view l.declarations) < open_in (g.R.Ask.headers l.fn.rules) (declarations_view l.declarations);
  no_more : open_in (g.R.Ask.headers l.rules) (declarations_view l.declarations) ≤ open_in (g.R.Ask.headers l.fn.rules) (declarations_view l.declarations);
  settled : l.added ≡ false → (n : ℕ) → n < l.place → (d : ObjId) → lookup (same_object d) l.places.entries ≡ Some n → IsSettled (g.R.Ask.headers l.rules) (g.R.Ask.names l.fn.rules) (declarations_view l.declarations) (g.R.Ask.headers l.rules) d.0;
}
