use Rattle.std.proofs.Common.{◌≡◌, ◌≤◌, ◌-◌, map, length}
use Rattle.jwt_jws.specs.Views.{token}
use Rattle.jwt_verify.specs.TermsTable.{terms_table}
use Rattle.jwt_verify.specs.Table.{below, outcome}
use Rattle.jwt_verify.specs.Walk.{HasComeTo, IsCounted}
use Rattle.jwt_verify.proofs.Deciding.{IsTracked}
use Rattle.jwt_verify.proofs.tries.walk.Given as goal

abbrev pub invariant-signatures : goal.invariant-signatures
invariant-signatures g l = let t = terms_table (λ b. (goal.Verifier-dyn g (b.vtable, b.value)).meaning b.value) l.terms l.signed in record {
  at : HasComeTo t l.number 0 l.tries.items;
  within : l.number ≤ length (token l.signed).signatures;
  counted : IsCounted (g.B.Budget.octets l.budget) (g.B.Budget.calls l.budget) (g.B.Budget.ceiling l.budget) l.terms.policy.now.max_calls l.tries.items;
  ceiling : g.B.Budget.ceiling l.budget ≡ g.B.Budget.ceiling l.initial.budget;
  states : l.states.items ≡ map (outcome t) (below l.number);
  signing : IsTracked t l.number l.signing;
}

abbrev pub decreases-signatures : goal.decreases-signatures
decreases-signatures g l = length (token l.signed).signatures - l.number
