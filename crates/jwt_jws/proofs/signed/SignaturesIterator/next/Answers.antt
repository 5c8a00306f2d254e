use Rattle.std.proofs.Common.{rules, length, sym, ap, arith}
use Rattle.std.proofs.lemmas.List.{length-map}
use Rattle.jwt_jws.specs.Views.{parts, token}
use Rattle.jwt_jws.proofs.SignaturesLeft.{from_here, none_left, inside}
use Rattle.jwt_jws.proofs.signed.SignaturesIterator.next.Goals as goal

pub returns-in_err-signature-clause-steps : goal.returns-in_err-signature-clause-steps
returns-in_err-signature-clause-steps c =
    let none = none_left (token c.args.self.now.signed.now).signatures c.args.self.now.number (sym (c.in_err-signature.ensures)) in
    rw c.from_residual.ensures (none, none)

pub overflow_add-self : goal.overflow_add-self
overflow_add-self c =
    let signed = c.args.self.now.signed.now in
    omega (
      arith,
      inside (token signed).signatures c.args.self.now.number (parts c.in_ok-signature.signature.now) (sym (c.in_ok-signature.ensures)),
      length-map signed.more.items parts,
      signed.few,
    )

pub returns-clause-steps : goal.returns-clause-steps
returns-clause-steps c =
    from_here (token c.args.self.now.signed.now).signatures c.args.self.now.number (parts c.in_ok-signature.signature.now) (sym (c.in_ok-signature.ensures))

pub returns-clause-goes : goal.returns-clause-goes
returns-clause-goes c =
    let step = from_here (token c.args.self.now.signed.now).signatures c.args.self.now.number (parts c.in_ok-signature.signature.now) (sym (c.in_ok-signature.ensures)) in
    let shorter = ap length step in search rules
