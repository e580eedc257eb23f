use Rattle.two_phase_check.proofs.keeping.+keeps_way.Given as goal

abbrev pub decreases-keeps_way : goal.decreases-keeps_way
decreases-keeps_way l = l.left
