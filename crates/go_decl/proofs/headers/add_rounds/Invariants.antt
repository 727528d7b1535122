use Rattle.std.proofs.Common.{◌≡◌}
use Rattle.go_judge.specs.Types.Own.{KeepsTypes}
use Rattle.go_judge.specs.HeadersView.{AreOwnHeaders, headers_as}
use Rattle.go_constructs.specs.Operators.Honest.{AreHonest}
use Rattle.go_decl.specs.Rounds.{IsBacked, open_in}
use Rattle.go_names.specs.Views.{declarations_view}
use Rattle.go_decl.proofs.headers.add_rounds.Given as goal

abbrev pub invariant-loop : goal.invariant-loop
invariant-loop g l = record {
  backed : IsBacked (g.R.Ask.headers l.fn.rules) (g.R.Ask.names l.fn.rules) (declarations_view l.declarations) (g.R.Ask.headers l.rules);
  known : headers_as (g.R.Ask.tree l.rules) l.known ≡ g.R.Ask.headers l.rules;
  own : AreOwnHeaders (g.R.Ask.is_type l.rules) l.known;
  honest : AreHonest (g.R.Ask.headers l.rules);
  names : g.R.Ask.names l.rules ≡ g.R.Ask.names l.fn.rules;
  world : g.R.Ask.world l.rules ≡ g.R.Ask.world l.fn.rules;
  types : KeepsTypes (g.R.Ask.is_type l.fn.rules) (g.R.Ask.is_type l.rules) (g.R.Ask.tree l.fn.rules) (g.R.Ask.tree l.rules);
}

abbrev pub decreases-loop : goal.decreases-loop
decreases-loop g l = open_in (g.R.Ask.headers l.rules) (declarations_view l.declarations)
