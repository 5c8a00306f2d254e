-- What the function says of the moment and of the slice, the method says of the number and of the list.
use Rattle.std.proofs.Common.{w64}
use Rattle.std.proofs.lemmas.Int.{to_z-of_z}
use Rattle.fowharimu.proofs.validator.Validator.judge.Goals as goal

pub returns-clause-judged : goal.returns-clause-judged
returns-clause-judged g c = rw (to_z-of_z w64 c.args.now c.ranges.now, c.as_slice-verifiers.ensures.value) at c.judge.ensures.judged

pub returns-clause-charged : goal.returns-clause-charged
returns-clause-charged g c = rw (to_z-of_z w64 c.args.now c.ranges.now, c.as_slice-verifiers.ensures.value) at c.judge.ensures.charged
