use Rattle.check_gate.proofs.run.answer.Given as goal

abbrev pub ghosts-on_ground : goal.ghosts-on_ground
ghosts-on_ground g a = record { ground = record { lines = a.lines.items; faults = g.D.Disk.faults a.disk.now } }
