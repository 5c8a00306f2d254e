use Rattle.std.proofs.Common.{◌≡◌, ◌+◌, length, map, take}
use Rattle.std.specs.List.{sum_by}
use Rattle.jwt_issue.specs.Views.{signer_parts}
use Rattle.jwt_issue.proofs.Lengths.{share}
use Rattle.jwt_issue.proofs.size.general_len.Given as goal

abbrev pub invariant-loop-signer : goal.invariant-loop-signer
invariant-loop-signer l = l.len ≡ 29 + length l.payload + sum_by (share l.payload) (take l.signer-index (map signer_parts l.signers))
