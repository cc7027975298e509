use Rattle.debug_command.proofs.debugging.debug.Given as goal

abbrev pub ghosts-debug_lines : goal.ghosts-debug_lines
ghosts-debug_lines g a = record { name = a.blank.name; parts = a.blank.parts }
