use Rattle.go_check_tests.proofs.tests.what_is_not_declared_has_no_header.Given as goal

abbrev pub ghosts-counted : goal.ghosts-counted
ghosts-counted g a = record { name = a.blank.name; parts = a.blank.parts }
