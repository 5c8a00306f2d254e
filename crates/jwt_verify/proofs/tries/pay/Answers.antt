use Rattle.std.proofs.Common.{sym, ◌∙◌, ◌≡◌, ◌≤◌, ◌-◌, arith}
use Rattle.jwt_verify.specs.Pairs.{pair_cost, pair_entry}
use Rattle.jwt_verify.proofs.Paying.{counted_push}
use Rattle.jwt_verify.proofs.tries.pay.Goals as goal

pub returns-in-Valid-clause-counted : goal.returns-in-Valid-clause-counted
returns-in-Valid-clause-counted g c =
    let allowed = sym c.allows_call.ensures ∙ c.if-not-allows_call.false in
    let fits : g.B.Budget.octets c.try_pair.new.budget ≤ g.B.Budget.ceiling c.args.budget.now = rw c.try_pair.ensures.ceiling at c.in-Ok.ensures.fits in
    let price : c.octets.result - c.octets-before.result ≡ pair_cost c.args.pair.now = omega (arith, c.octets.ensures, c.octets-before.ensures, c.in-Ok.ensures.paid) in
    rw (c.in_ok-push.ensures.items, c.reserve.ensures.items, price)
    (counted_push (pair_entry c.args.pair.now) c.requires.counted c.in-Ok.ensures.paid c.in-Ok.ensures.called fits allowed)

pub returns-in-Invalid-clause-counted : goal.returns-in-Invalid-clause-counted
returns-in-Invalid-clause-counted g c =
    let allowed = sym c.allows_call.ensures ∙ c.if-not-allows_call.false in
    let fits : g.B.Budget.octets c.try_pair.new.budget ≤ g.B.Budget.ceiling c.args.budget.now = rw c.try_pair.ensures.ceiling at c.in-Ok.ensures.fits in
    let price : c.octets.result - c.octets-before.result ≡ pair_cost c.args.pair.now = omega (arith, c.octets.ensures, c.octets-before.ensures, c.in-Ok.ensures.paid) in
    rw (c.in_ok-push.ensures.items, c.reserve.ensures.items, price)
    (counted_push (pair_entry c.args.pair.now) c.requires.counted c.in-Ok.ensures.paid c.in-Ok.ensures.called fits allowed)

pub returns-in-NoMemory-clause-counted : goal.returns-in-NoMemory-clause-counted
returns-in-NoMemory-clause-counted g c =
    let allowed = sym c.allows_call.ensures ∙ c.if-not-allows_call.false in
    let fits : g.B.Budget.octets c.try_pair.new.budget ≤ g.B.Budget.ceiling c.args.budget.now = rw c.try_pair.ensures.ceiling at c.in-Ok.ensures.fits in
    let price : c.octets.result - c.octets-before.result ≡ pair_cost c.args.pair.now = omega (arith, c.octets.ensures, c.octets-before.ensures, c.in-Ok.ensures.paid) in
    rw (c.in_ok-push.ensures.items, c.reserve.ensures.items, price)
    (counted_push (pair_entry c.args.pair.now) c.requires.counted c.in-Ok.ensures.paid c.in-Ok.ensures.called fits allowed)
