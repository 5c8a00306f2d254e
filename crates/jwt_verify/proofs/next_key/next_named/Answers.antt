use Rattle.std.proofs.Common.{arith, sym, ◌∙◌}
use Rattle.std.proofs.lemmas.List.{length-map}
use Rattle.jwt_jws.specs.Views.{parts}
use Rattle.jwt_keys.specs.Keys.{has_name}
use Rattle.jwt_keys.specs.KeySets.{key_set}
use Rattle.jwt_keys.specs.Views.{key_parts}
use Rattle.jwt_verify.proofs.Named.{none_before, none_left, none_after, passes_within}
use Rattle.jwt_verify.proofs.next_key.next_named.Goals as goal

pub returns-then-fits-clause-number : goal.returns-then-fits-clause-number
returns-then-fits-clause-number g c =
    let p = c.args.terms.now.policy.now in
    let keys = (key_set c.args.terms.now.keys.now).keys in
    let n = rw c.thumb_kid.ensures at c.in-Some.ensures.number in (
      omega (arith, c.named.invariant.start, n.0),
      rw c.in-Some.ensures.key (sym c.fits.ensures ∙ c.if-fits.true),
      none_before p (parts c.args.live.now.signature.now) c.args.name.now keys c.args.from c.named.start c.in-Some.number c.requires.kid c.named.invariant.none n.2,
    )

pub overflow_add-start : goal.overflow_add-start
overflow_add-start g c =
    let keys = c.args.terms.now.keys.now in
    let l = passes_within (has_name c.args.name.now c.thumb_kid.result) (key_set keys).keys c.in-Some.number c.in-Some.ensures.number.1 in
    omega (arith, l, keys.few, length-map keys.keys.items key_parts)

pub named-smaller : goal.named-smaller
named-smaller g c =
    let l = passes_within (has_name c.args.name.now c.thumb_kid.result) (key_set c.args.terms.now.keys.now).keys c.in-Some.number c.in-Some.ensures.number.1 in
    omega (arith, l, c.in-Some.ensures.number.0)

pub named-preserved : goal.named-preserved
named-preserved g c =
    let p = c.args.terms.now.policy.now in
    let keys = (key_set c.args.terms.now.keys.now).keys in
    let n = rw c.thumb_kid.ensures at c.in-Some.ensures.number in record {
      start = omega (arith, c.named.invariant.start, n.0);
      none = none_after p (parts c.args.live.now.signature.now) keys c.args.from c.in-Some.number
          (none_before p (parts c.args.live.now.signature.now) c.args.name.now keys c.args.from c.named.start c.in-Some.number c.requires.kid c.named.invariant.none n.2)
          (rw c.in-Some.ensures.key (sym c.fits.ensures ∙ c.if-fits.false));
    }

pub returns-clause-number : goal.returns-clause-number
returns-clause-number g c =
    let n = rw (c.thumb_kid.ensures, c.in_default.is) at c.named-in-named.ensures.number in
    none_left c.args.terms.now.policy.now (parts c.args.live.now.signature.now) c.args.name.now (key_set c.args.terms.now.keys.now).keys c.args.from c.named.start c.requires.kid c.named.invariant.none n
