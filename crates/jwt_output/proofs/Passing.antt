-- Whose answer has the status 0.
use Rattle.std.proofs.Common.{◌≡◌, ◌↔◌, ap₂, ℕ, List, Option, None, Some, refl, arith}
use Rattle.std.specs.Option.{option_or}
use Rattle.serde_json.specs.Data.{Members}
use Rattle.jwt_access.specs.Denials.{denial_of}
use Rattle.jwt_access.specs.Granted.{IsGranted}
use Rattle.jwt_access.specs.Rules.{Rule}
use Rattle.jwt_access.specs.declared.denial.Denial.{Denial}
use Rattle.jwt_access.specs.declared.moment.Moment.{Moment}
use Rattle.jwt_verify.specs.declared.report.InputFault.TheVariants.{Read, TooLong}
use Rattle.jwt_verify.specs.declared.report.Fault.{Fault}
use Rattle.jwt_verify.specs.declared.report.Fault.TheVariants.{OutOfMemory, Text, Form, WorkExceeded, CallsExceeded, VerifierMemory, Signature, Claim}
use Rattle.jwt_verify.specs.declared.report.Verdict.{Verdict}
use Rattle.jwt_verify.specs.declared.report.Verdict.TheVariants.{Accepted, Refused}
use Rattle.jwt_output.specs.verdicts.Denied.{Demands, IsPassed, MeetExpected, MeetRule, expected_lacking, lacking, rule_lacking}
use Rattle.jwt_output.proofs.Expecting.{AreSpelled, expected_lacks_none}
use Rattle.jwt_output.specs.fields.Fields.{Field}
use Rattle.jwt_output.specs.fields.Verdicts.{answer, lacks_of, refusal, status_of}
use Rattle.jwt_settings.specs.declared.printing.Printing.{Printing}

abbrev pub AreSaid : Type 0
AreSaid = (rule : Rule) (at : Moment) (ms : Members) → (denial_of rule at ms ≡ None) ↔ IsGranted rule at ms

rule_lacks_none : AreSaid → (rule : Option Rule) (at : Moment) (ms : Members) → (rule_lacking rule at ms ≡ None) ↔ MeetRule rule at ms
rule_lacks_none said None at ms = (λ e. tt, λ h. refl)
rule_lacks_none said (Some rule) at ms = said rule at ms

both_none : (a b : Option Denial) → option_or a b ≡ None → (a ≡ None) × (b ≡ None)
both_none None b e = (refl, e)
both_none (Some d) b e = absurd cc

lacks_none : AreSaid → AreSpelled → (demands : Demands) (at : Moment) (ms : Members)
    → (lacking demands at ms ≡ None) ↔ (MeetRule demands.rule at ms × MeetExpected demands.expected ms)
lacks_none said spelled demands at ms =
    let rule = rule_lacks_none said demands.rule at ms in
    let expected = expected_lacks_none spelled demands.expected ms in (
      λ e. let none = both_none (rule_lacking demands.rule at ms) (expected_lacking demands.expected ms) e in (rule.0 none.0, expected.0 none.1),
      λ h. ap₂ option_or (rule.1 h.0) (expected.1 h.1),
    )

-- ---- in lines and in JSON

status_none : (o : Option Denial) → (status_of o ≡ 0) ↔ (o ≡ None)
status_none None = (λ e. refl, λ e. refl)
status_none (Some d) = (λ e. absurd (omega (arith, e)), λ e. absurd cc)

refused : (printing : Printing) (fault : Fault) (ran : List Field) → (refusal printing fault ran).status ≡ 0 → ⊥
refused printing OutOfMemory ran e = omega (arith, e)
refused printing VerifierMemory ran e = omega (arith, e)
refused printing (Text Read) ran e = omega (arith, e)
refused printing (Text TooLong) ran e = omega (arith, e)
refused printing (Form f) ran e = omega (arith, e)
refused printing (WorkExceeded i j) ran e = omega (arith, e)
refused printing (CallsExceeded i j) ran e = omega (arith, e)
refused printing (Signature i f) ran e = omega (arith, e)
refused printing (Claim f) ran e = omega (arith, e)

pub passes : AreSaid → AreSpelled → (printing : Printing) (demands : Demands) (at : Moment) (verdict : Verdict) (payload : List ℕ) (ran : List Field)
    → ((answer printing (lacks_of demands at verdict) verdict payload ran).status ≡ 0) ↔ IsPassed demands at verdict
passes said spelled printing demands at (Accepted i j claims) payload ran =
    (λ e. (lacks_none said spelled demands at claims).0 ((status_none (lacking demands at claims)).0 e), λ h. (status_none (lacking demands at claims)).1 ((lacks_none said spelled demands at claims).1 h))
passes said spelled printing demands at (Refused fault) payload ran = (refused printing fault ran, λ h. absurd h)
