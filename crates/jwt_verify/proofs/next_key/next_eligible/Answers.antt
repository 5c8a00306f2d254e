use Rattle.std.proofs.Common.{refl, subst, sym}
use Rattle.jwt_keys.specs.Views.{key_parts}
use Rattle.jwt_verify.specs.Pairs.{IsSecret}
use Rattle.jwt_verify.proofs.Pairs.{live_secret, none_next, some_next}
use Rattle.jwt_verify.proofs.next_key.next_eligible.Goals as goal

pub returns-in_default : goal.returns-in_default
returns-in_default g c =
    none_next (λ b. (goal.Verifier-dyn g (b.vtable, b.value)).meaning b.value) c.args.terms.now c.args.live.now c.args.from c.requires (rw c.in_default.is at c.next_fitting.ensures.number)

pub way-requires : goal.way-requires
way-requires g c none =
    subst IsSecret (sym c.view.ensures)
    (live_secret (λ b. (goal.Verifier-dyn g (b.vtable, b.value)).meaning b.value) c.args.terms.now c.args.live.now c.args.from c.in-Some.number (key_parts c.in-Some.key.now) c.requires c.in-Some.ensures.number c.in-Some.ensures.key none)

pub returns : goal.returns
returns g c =
    some_next (λ b. (goal.Verifier-dyn g (b.vtable, b.value)).meaning b.value) c.args.terms.now c.args.live.now c.args.from _ (key_parts c.in-Some.key.now) _ c.requires c.in-Some.ensures.number c.in-Some.ensures.key c.view.ensures c.way.ensures refl refl
    c.message.ensures c.octets.ensures
