use Rattle.std.proofs.Common.{ap, Bool}
use Rattle.jwt_request.specs.declared.renewal.renewal.Renewal.{Renewal}
use Rattle.jwt_handles.proofs.renewal.FowRenewal.of.Goals as goal

pub returns : goal.returns
returns c = ap (λ (b : Bool). let it : Renewal = record c.args.it { is_open = b } in it) c.number.ensures
