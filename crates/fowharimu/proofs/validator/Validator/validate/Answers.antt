-- What the function says of the moment and of the slice, the method says of the number and of the list.
use Rattle.std.proofs.Common.{w64}
use Rattle.std.proofs.lemmas.Int.{to_z-of_z}
use Rattle.fowharimu.proofs.validator.Validator.validate.Goals as goal

pub returns-clause-report : goal.returns-clause-report
returns-clause-report g c = rw (to_z-of_z w64 c.args.now c.ranges.now, c.as_slice-verifiers.ensures.value) at c.validate.ensures.report

pub returns-clause-charged : goal.returns-clause-charged
returns-clause-charged g c = rw (to_z-of_z w64 c.args.now c.ranges.now, c.as_slice-verifiers.ensures.value) at c.validate.ensures.charged

pub returns-clause-some : goal.returns-clause-some
returns-clause-some g c = rw (to_z-of_z w64 c.args.now c.ranges.now, c.as_slice-verifiers.ensures.value) at c.validate.ensures.some
