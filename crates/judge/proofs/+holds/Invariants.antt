use Rattle.judge.proofs.+holds.Given as goal

abbrev pub decreases-holds : goal.decreases-holds
decreases-holds l = l.at
