use Rattle.std.proofs.Common.{◌≡◌, ◌↔◌, Option, None, Some, IsNone, IfSome, refl, sym}
use Rattle.serde_json.specs.Data.{Members}
use Rattle.jwt_access.specs.Denials.{denial_of}
use Rattle.jwt_access.specs.DenialWords.{IsDenial}
use Rattle.jwt_access.specs.Granted.{IsGranted}
use Rattle.jwt_access.specs.Rules.{Rule}
use Rattle.jwt_access.specs.declared.denial.Denial.{Denial}
use Rattle.jwt_access.specs.declared.moment.Moment.{Moment}
use Rattle.jwt_output.proofs.verdicts.denied.rule_lacking.Goals as goal

-- what is so in words is the table's answer
the_denial : (rule : Rule) (at : Moment) (ms : Members) (o : Option Denial) → ((denial_of rule at ms ≡ None) ↔ IsGranted rule at ms) → ((d : Denial) → (denial_of rule at ms ≡ Some d) ↔ IsDenial rule at ms d)
    → (IsNone o ↔ IsGranted rule at ms) → IfSome o (IsDenial rule at ms) → o ≡ denial_of rule at ms
the_denial rule at ms None none some granted first = sym (none.1 (granted.0 refl))
the_denial rule at ms (Some d) none some granted first = sym ((some d).1 first)

pub returns-in-Some : goal.returns-in-Some
returns-in-Some c =
    rw c.in-Some.is
    (the_denial c.in-Some.rule.now c.args.moment c.args.claims.now c.denial.result (c.denials_are_said.ensures.granted c.in-Some.rule.now c.args.moment c.args.claims.now) (c.denials_are_said.ensures.denied c.in-Some.rule.now c.args.moment c.args.claims.now)
    c.denial.ensures.granted c.denial.ensures.first)
