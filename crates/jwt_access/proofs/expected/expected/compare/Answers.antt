use Rattle.std.proofs.Common.{◌≡◌, true, None, is_some, sym, ap, ◌∙◌, arith}
use Rattle.serde_json.specs.Find.{get_member}
use Rattle.jwt_access.specs.Pointers.{claim_at}
use Rattle.jwt_access.proofs.Standings.{absent, none_of, other, no_text}
use Rattle.jwt_access.proofs.expected.expected.compare.Goals as goal

pub returns-in_default : goal.returns-in_default
returns-in_default c =
    let e = c.args.expected.now in
    let at = ap (λ ms. claim_at e.claim.now ms) c.object.ensures in
    let none : claim_at e.claim.now c.args.claims.now ≡ None = sym at ∙ grind arith in
    absent c.paths_are_spelled.ensures c.args.claims.now e none

pub returns-then-not-has : goal.returns-then-not-has
returns-then-not-has c =
    let e = c.args.expected.now in
    let at = ap (λ ms. claim_at e.claim.now ms) c.object.ensures in
    absent c.paths_are_spelled.ensures c.args.claims.now e (none_of (get_member c.in-Some.spot.own.now c.in-Some.spot.home) _ (c.in-Some.ensures ∙ at) (sym c.if-not-has.true ∙ c.has.ensures))

pub returns-else-is : goal.returns-else-is
returns-else-is c =
    let e = c.args.expected.now in
    let at = ap (λ ms. claim_at e.claim.now ms) c.object.ensures in
    other c.paths_are_spelled.ensures c.args.alg c.args.claims.now e (get_member c.in-Some.spot.own.now c.in-Some.spot.home) c.in-Some-text.text.now (c.in-Some.ensures ∙ at) c.in-Some-text.ensures c.if-is.ensures

pub returns-in-None : goal.returns-in-None
returns-in-None c =
    let e = c.args.expected.now in
    let at = ap (λ ms. claim_at e.claim.now ms) c.object.ensures in
    let there : true ≡ is_some (get_member c.in-Some.spot.own.now c.in-Some.spot.home) = sym c.if-not-has.false ∙ c.has.ensures in
    no_text c.paths_are_spelled.ensures c.args.alg c.args.claims.now e (get_member c.in-Some.spot.own.now c.in-Some.spot.home) (c.in-Some.ensures ∙ at) there c.in-None.ensures
