use Rattle.std.proofs.Common.{◌≡◌, ◌≤◌, ◌-◌}
use Rattle.std.specs.List.{list_any}
use Rattle.jwt_verify.specs.TermsTable.{terms_table}
use Rattle.jwt_verify.specs.Table.{below}
use Rattle.jwt_verify.specs.Walk.{HasComeTo, IsCounted}
use Rattle.jwt_verify.proofs.Ending.{unverified}
use Rattle.jwt_verify.proofs.tries.try_signature.Given as goal

abbrev pub invariant-keys : goal.invariant-keys
invariant-keys g l = let t = terms_table (λ b. (goal.Verifier-dyn g (b.vtable, b.value)).meaning b.value) l.terms l.live.signed.now in record {
  at : HasComeTo t l.live.number l.from l.tries.items;
  within : l.from ≤ t.keys;
  outcome : l.outcome ≡ unverified (list_any (t.eligible l.live.number) (below l.from));
  counted : IsCounted (g.B.Budget.octets l.budget) (g.B.Budget.calls l.budget) (g.B.Budget.ceiling l.budget) l.terms.policy.now.max_calls l.tries.items;
  ceiling : g.B.Budget.ceiling l.budget ≡ g.B.Budget.ceiling l.initial.budget;
}

abbrev pub decreases-keys : goal.decreases-keys
decreases-keys g l = (terms_table (λ b. (goal.Verifier-dyn g (b.vtable, b.value)).meaning b.value) l.terms l.live.signed.now).keys - l.from
