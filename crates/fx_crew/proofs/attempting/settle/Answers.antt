use Rattle.fx_crew.proofs.attempting.settle.Goals as goal

pub returns-in-Err-Conflict-clause-outcome : goal.returns-in-Err-Conflict-clause-outcome
returns-in-Err-Conflict-clause-outcome g c =
    let refused = rw c.in-Err-Conflict.field-0-is at c.in-Err-Conflict.ensures.refused in
    (c.in-Err-Conflict.ensures.seen, (refused.1.0, refused.1.1, refused.1.2))
