use Rattle.fowharimu.proofs.remembering.judge_under.Goals as goal

pub returns-clause-kept : goal.returns-clause-kept
returns-clause-kept g c = (let h = (rw c.requires.one at c.judge.ensures.kept) in h)

pub returns-clause-charged : goal.returns-clause-charged
returns-clause-charged g c = (let h = (rw c.requires.one at c.judge.ensures.charged) in h)

pub returns-clause-judged : goal.returns-clause-judged
returns-clause-judged g c = (let h = (rw c.requires.one at c.judge.ensures.judged) in h)
