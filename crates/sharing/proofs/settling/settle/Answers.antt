use Rattle.sharing.proofs.settling.settle.Goals as goal

pub returns-in-None-clause-settled : goal.returns-in-None-clause-settled
returns-in-None-clause-settled c = rw (c.history.ensures, c.as_slice.ensures.value) at c.in-None.ensures

pub returns-in-Some-clause-stray : goal.returns-in-Some-clause-stray
returns-in-Some-clause-stray c = rw (c.history.ensures, c.as_slice.ensures.value) at c.in-Some.ensures
