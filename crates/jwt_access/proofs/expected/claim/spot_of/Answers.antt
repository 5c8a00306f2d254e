use Rattle.std.proofs.Common.{List, ℕ, sym, ap, ◌∙◌, arith}
use Rattle.std.proofs.lemmas.Str.Pattern.{strip_prefix_char}
use Rattle.jwt_access.specs.Pointers.{claim_at}
use Rattle.jwt_access.proofs.Walks.{at_pointer, at_name}
use Rattle.jwt_access.proofs.expected.claim.spot_of.Goals as goal

pub returns-in-Some : goal.returns-in-Some
returns-in-Some c =
    let is = rw c.in-Some.is at (strip_prefix_char 47 c.args.name.now c.strip_prefix.result c.strip_prefix.ensures.cases (omega arith)) in
    c.end_of.ensures ∙ sym (at_pointer c.in-Some.tokens.now c.args.claims) ∙ ap (λ (n : List ℕ). claim_at n c.args.claims) (sym is)

pub returns-in-None : goal.returns-in-None
returns-in-None c =
    let other = rw c.in-None.is at (strip_prefix_char 47 c.args.name.now c.strip_prefix.result c.strip_prefix.ensures.cases (omega arith)) in
    sym (at_name c.args.name.now c.args.claims other)
