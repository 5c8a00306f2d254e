use Rattle.std.proofs.Common.{sym, ◌∙◌, refl, map}
use Rattle.std.specs.Prelude.{option_map}
use Rattle.jwt_jws.specs.Views.{parts}
use Rattle.jwt_verify.proofs.Pairs.{terms_bar, named_verified, verifier_hmac, verifier_first}
use Rattle.jwt_verify.specs.Pairs.{IsVerifier}
use Rattle.jwt_verify.proofs.live_signature.LiveSignature.of.Goals.{then-is_hmac, else-is_hmac}
use Rattle.jwt_verify.proofs.live_signature.LiveSignature.of.Goals as goal

pub returns-in-Err : goal.returns-in-Err
returns-in-Err g c =
    terms_bar (λ b. (goal.Verifier-dyn g (b.vtable, b.value)).meaning b.value) c.args.terms.now c.args.numbered.now.signed.now c.args.numbered.now.number (parts c.args.numbered.now.signature.now) _ c.requires (sym c.in-Err.ensures)

pub returns : goal.returns
returns g c =
    let v = map (λ b. (goal.Verifier-dyn g (b.vtable, b.value)).meaning b.value) c.args.terms.now.verifiers.now in
    let s = parts c.args.numbered.now.signature.now in
    let p = c.args.terms.now.policy.now in
    let a = c.in-Ok.alg in
    let named = c.in-Ok.ensures.0 in
    let bar = c.in-Ok.ensures.1 in
    let unbarred = (c.bar_is_first_row.ensures.none p s v).0 bar in
    let verifier : IsVerifier v a (option_map (λ b. (goal.Verifier-dyn g (b.now.vtable, b.now.value)).meaning b.now.value) c.if-is_hmac.verifier) = elim c.if-is_hmac.branch [
      | then-is_hmac w ↦ verifier_hmac v a _ (sym c.is_hmac.ensures ∙ w.if-is_hmac.true) (rw w.verifier-is refl)
      | else-is_hmac w ↦ verifier_first v a _ (sym c.is_hmac.ensures ∙ w.if-is_hmac.false) (named_verified p v s a unbarred named) (rw w.verifier-is w.first_for-verifier.ensures)
    ] in
    record {
      same_token = refl;
      same_number = refl;
      is_live = record { signature = c.requires; unbarred = bar; named = named; verifier = verifier };
    }
