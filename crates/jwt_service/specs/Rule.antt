-- The access rule of a call.
use Rattle.std.specs.Prelude.{Option, Some, None}
use Rattle.std.specs.Option.{IfSome}
use Rattle.serde_json.specs.Data.{Members}
use Rattle.jwt_access.specs.Granted.{IsGranted}
use Rattle.jwt_access.specs.Moments.{moment_under}
use Rattle.jwt_access.specs.DenialWords.{IsDenial}
use Rattle.jwt_access.specs.declared.denial.Denial.{Denial}
use Rattle.jwt_service.specs.declared.call.Call.{Call}
use Rattle.jwt_service.specs.declared.service.Issuer.{Issuer}
use Rattle.jwt_service.specs.declared.service.NamedRule.{NamedRule}
use Rattle.jwt_service.specs.declared.service.Service.{Service}
use Rattle.jwt_service.specs.Asking.{IsRuleOf}

-- the claims meet the rule at this moment, where there is one
abbrev pub Meets : Option NamedRule → Issuer → Call → Members → Type 0
Meets rule issuer call claims = IfSome rule (λ it. IsGranted it.rule.now (moment_under issuer.policy.now call.moment) claims)

-- they meet the rule by which the call is measured
abbrev pub MeetsRule : Service → Issuer → Call → Members → Type 0
MeetsRule service issuer call claims = (rule : Option NamedRule) × IsRuleOf service call rule × Meets rule issuer call claims

-- they don't, and this is why
pub record IsDeniedBy (rule : Option NamedRule) (issuer : Issuer) (call : Call) (claims : Members) (denial : Denial) : Type 0 where
  pub met_not : ¬ Meets rule issuer call claims
  pub why : IfSome rule (λ it. IsDenial it.rule.now (moment_under issuer.policy.now call.moment) claims denial)

abbrev pub IsDenied : Service → Issuer → Call → Members → Denial → Type 0
IsDenied service issuer call claims denial = (rule : Option NamedRule) × IsRuleOf service call rule × IsDeniedBy rule issuer call claims denial

-- ---- Cited by contracts of private functions alone

abbrev pub HasDenial : Option NamedRule → Issuer → Call → Members → Option Denial → Type 0
HasDenial rule issuer call claims None = Meets rule issuer call claims
HasDenial rule issuer call claims (Some denial) = IsDeniedBy rule issuer call claims denial
