use Rattle.std.proofs.Common.{refl, add-one}
use Rattle.jwt_verify.specs.Table.{is_within}
use Rattle.jwt_verify.proofs.tries.allows_call.Goals as goal

pub returns-in-None : goal.returns-in-None
unfolding is_within
returns-in-None g c = rw c.in-None.is refl

pub returns-in-Some : goal.returns-in-Some
unfolding is_within
returns-in-Some g c = rw (c.in-Some.is, c.calls.ensures, add-one) refl
