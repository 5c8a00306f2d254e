use Rattle.std.proofs.Common.{Some, ap, refl, sym, ◌∙◌}
use Rattle.jwt_access.specs.declared.denial.Denial.TheVariants.{ClaimMissing, ClaimNotAllowed}
use Rattle.jwt_mac.specs.declared.algorithm.Alg.TheVariants.{HS256}
use Rattle.jwt_output.proofs.Expecting.{absent_lacks, met_lacks, other_lacks}
use Rattle.jwt_output.proofs.verdicts.denied.text_lacking.Goals as goal

pub returns-in-None : goal.returns-in-None
returns-in-None c = sym (met_lacks c.paths_are_spelled.ensures HS256 c.args.expected.claim c.args.expected.text c.args.claims.now (c.in-None.ensures.met.0 refl))

pub returns-in-Some-Absent : goal.returns-in-Some-Absent
returns-in-Some-Absent c =
    let first = rw c.in-Some-Absent.field-0-is at c.in-Some-Absent.ensures.first in
    ap (λ n. Some (ClaimMissing n)) c.new.ensures
    ∙ sym (absent_lacks c.paths_are_spelled.ensures HS256 c.args.expected.claim c.args.expected.text c.args.claims.now c.in-Some-Absent.field-0-0 first)

pub returns-in-Some-Other : goal.returns-in-Some-Other
returns-in-Some-Other c =
    let first = rw c.in-Some-Other.field-0-is at c.in-Some-Other.ensures.first in
    ap (λ n. Some (ClaimNotAllowed n)) c.new-in-Some-Other.ensures
    ∙ sym (other_lacks c.paths_are_spelled.ensures HS256 c.args.expected.claim c.args.expected.text c.args.claims.now c.in-Some-Other.field-0-0 first)
