use Rattle.step_claimer.proofs.claimer.Claimer.join.Given as goal

-- how many numbers there are
abbrev pub ghosts-join_all : goal.ghosts-join_all
ghosts-join_all a = record { count = a.seat.now.me.0.count }
