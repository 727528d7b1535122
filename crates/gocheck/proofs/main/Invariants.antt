use Rattle.gocheck.proofs.main.Given as goal

abbrev pub ghosts-run_on_folders : goal.ghosts-run_on_folders
ghosts-run_on_folders a = record { name = a.blank.name; parts = a.blank.parts }
