use Rattle.std.proofs.Common.{◌≡◌, ◌+◌, ◌-◌, ◌++◌, map, take, drop}
use Rattle.std.specs.List.{sum, join_with_byte}
use Rattle.jwt_issue.specs.Issued.{first_spent, signing_cost, signature_element}
use Rattle.jwt_issue.specs.Views.{signer_parts}
use Rattle.jwt_issue.proofs.general.add_elements.Given as goal

-- the signers so far have signed and are paid
abbrev pub invariant-loop-i : goal.invariant-loop-i
invariant-loop-i g l = record {
  text : l.token.items ≡ l.initial.token.items ++ join_with_byte 44 (map (signature_element l.payload) (take l.i (map signer_parts l.signers)));
  left : first_spent 0 (g.B.Budget.ceiling l.initial.budget - g.B.Budget.octets l.initial.budget) (map (signing_cost l.payload) (map signer_parts l.signers))
      ≡ first_spent l.i (g.B.Budget.ceiling l.budget - g.B.Budget.octets l.budget) (drop l.i (map (signing_cost l.payload) (map signer_parts l.signers)));
  octets : g.B.Budget.octets l.budget ≡ g.B.Budget.octets l.initial.budget + sum (take l.i (map (signing_cost l.payload) (map signer_parts l.signers)));
  calls : g.B.Budget.calls l.budget ≡ g.B.Budget.calls l.initial.budget + l.i;
  first : l.i ≡ 0 → l.budget ≡ l.initial.budget;
  ceiling : g.B.Budget.ceiling l.budget ≡ g.B.Budget.ceiling l.initial.budget;
}
