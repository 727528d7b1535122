use Rattle.go_parse_x.proofs.cursor.+token_ahead.Given as goal

abbrev pub decreases-token_ahead : goal.decreases-token_ahead
decreases-token_ahead l = l.ahead
