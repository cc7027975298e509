use Rattle.shell_points.proofs.watching.Watching.begin.Given as goal

abbrev pub ghosts-watch_all : goal.ghosts-watch_all
ghosts-watch_all a = record { name = a.blank.name; parts = a.blank.parts }
