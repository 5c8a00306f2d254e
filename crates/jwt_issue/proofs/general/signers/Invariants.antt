use Rattle.std.proofs.Common.{◌≡◌, map, take, drop}
use Rattle.std.specs.List.{All}
use Rattle.jwt_issue.specs.Issued.{first_unfit, signer_of}
use Rattle.jwt_issue.specs.Views.{pair_parts, optional_text, signer_parts}
use Rattle.jwt_issue.proofs.Fit.{IsUtf8Header}
use Rattle.jwt_issue.proofs.general.signers.Given as goal

-- the pairs so far may sign, and the signers are theirs
abbrev pub invariant-loop-i : goal.invariant-loop-i
invariant-loop-i l = record {
  fit : first_unfit 0 (map pair_parts l.pairs) ≡ first_unfit l.i (drop l.i (map pair_parts l.pairs));
  made : map signer_parts l.signers.items ≡ map (signer_of (optional_text l.fn.typ)) (take l.i (map pair_parts l.pairs));
  utf8 : All (IsUtf8Header (optional_text l.fn.typ)) (take l.i (map pair_parts l.pairs));
}
