use Rattle.std.proofs.Common.{◌≡◌, ℤ, ap, sym, ◌∙◌, map, subst, rules, w64, to_z, of_z}
use Rattle.jwt_jws.specs.Views.{token}
use Rattle.jwt_possession.specs.Proofs.{IsRefusal, IsSignedByOwnKey}
use Rattle.jwt_possession.specs.Requests.{is_key}
use Rattle.jwt_possession.proofs.proof.signed_by_own_key.Goals as goal

pub returns-in-Err-accepted_by-clause-fault : goal.returns-in-Err-accepted_by-clause-fault
returns-in-Err-accepted_by-clause-fault g c =
    let v = map (λ b. (goal.Verifier-dyn g (b.vtable, b.value)).meaning b.value) c.args.verifiers.now in
    let own = c.in-Ok-own_key.ensures.ok in
    let z : to_z w64 (of_z w64 c.args.now) ≡ c.args.now = search rules in (
      token c.in-Ok.signed,
      own.0,
      c.in-Ok.ensures.token,
      own.1,
      ap (is_key c.args.request.now) (sym (c.thumbprint_of.ensures own.0 own.2)) ∙ sym c.if-not-is_key.ensures,
      subst (λ (n : ℤ). IsRefusal c.args.policy.now v n (token c.in-Ok.signed) own.1.signature own.0 c.in-Err-accepted_by.fault) z
          (c.in-Err-accepted_by.ensures.fault c.args.proof.now own.0 c.in-Ok.ensures.token own.1 own.2),
    )

pub returns-clause-own : goal.returns-clause-own
returns-clause-own g c =
    let v = map (λ b. (goal.Verifier-dyn g (b.vtable, b.value)).meaning b.value) c.args.verifiers.now in
    let own = c.in-Ok-own_key.ensures.ok in
    let z : to_z w64 (of_z w64 c.args.now) ≡ c.args.now = search rules in (
      own.0,
      own.2,
      subst (λ (n : ℤ). IsSignedByOwnKey c.args.policy.now v n c.args.proof.now own.0 c.in-Ok-accepted_by.claims) z
          (c.in-Ok-accepted_by.ensures.accepted c.args.proof.now own.0 c.in-Ok.ensures.token own.1 own.2),
      ap (is_key c.args.request.now) (sym (c.thumbprint_of.ensures own.0 own.2)) ∙ sym c.if-not-is_key.ensures,
    )
