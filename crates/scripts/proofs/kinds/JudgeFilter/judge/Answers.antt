use Rattle.scripts.proofs.kinds.JudgeFilter.judge.Goals as goal

pub returns-in-Within-clause-same : goal.returns-in-Within-clause-same
returns-in-Within-clause-same c = rw c.in-Within.is c.judge.ensures.same

pub returns-in-Turns-clause-same : goal.returns-in-Turns-clause-same
returns-in-Turns-clause-same c = rw c.in-Turns.is c.judge-in-Turns.ensures.same
