-- What the claims of an accepted token don't meet: the first demand of an access rule, or else what a call expects of one claim.
use Rattle.std.specs.Prelude.{if◌then◌else◌, Option, Some, None}
use Rattle.std.specs.Option.{option_or}
use Rattle.serde_json.specs.Data.{Data, Members, string}
use Rattle.jwt_access.specs.Claims.{is_value}
use Rattle.jwt_access.specs.Denials.{denial_of}
use Rattle.jwt_access.specs.Granted.{IsClaim, IsGranted}
use Rattle.jwt_access.specs.Pointers.{claim_at}
use Rattle.jwt_access.specs.Rules.{Rule, text}
use Rattle.jwt_access.specs.declared.denial.Denial.{Denial}
use Rattle.jwt_access.specs.declared.denial.Denial.TheVariants.{ClaimMissing, ClaimNotAllowed}
use Rattle.jwt_access.specs.declared.moment.Moment.{Moment}
use Rattle.jwt_settings.specs.Seen.{Expectation}
use Rattle.jwt_verify.specs.declared.report.Verdict.{Verdict}
use Rattle.jwt_verify.specs.declared.report.Verdict.TheVariants.{Accepted, Refused}

-- what claims are held against: an access rule, and what one of them has to be, where these are asked
pub record Demands : Type 0 where
  pub rule : Option Rule
  pub expected : Option Expectation

-- the first demand of a rule that they don't meet at a moment; by the law `denials_are_said` there is none exactly where they meet it
abbrev pub rule_lacking : Option Rule → Moment → Members → Option Denial
rule_lacking None moment claims = None
rule_lacking (Some rule) moment claims = denial_of rule moment claims

-- what a claim that may be there lacks that has to be this very text
abbrev pub text_lacking : Expectation → Option Data → Option Denial
text_lacking expected None = Some (ClaimMissing expected.claim)
text_lacking expected (Some value) = if is_value (text expected.text) value then None else Some (ClaimNotAllowed expected.claim)

abbrev pub expected_lacking : Option Expectation → Members → Option Denial
expected_lacking None claims = None
expected_lacking (Some expected) claims = text_lacking expected (claim_at expected.claim claims)

-- the rule is asked first
abbrev pub lacking : Demands → Moment → Members → Option Denial
lacking demands moment claims = option_or (rule_lacking demands.rule moment claims) (expected_lacking demands.expected claims)

-- ---- Cited by laws alone

-- the claims meet the rule at a moment, where one is asked
abbrev pub MeetRule : Option Rule → Moment → Members → Type 0
MeetRule None moment claims = Unit {0}
MeetRule (Some rule) moment claims = IsGranted rule moment claims

-- the claim is there, and is that very text, where one is asked
abbrev pub MeetExpected : Option Expectation → Members → Type 0
MeetExpected None claims = Unit {0}
MeetExpected (Some expected) claims = IsClaim expected.claim claims (string expected.text)

-- the token is accepted, and its claims meet the rule, and are what is expected
abbrev pub IsPassed : Demands → Moment → Verdict → Type 0
IsPassed demands moment (Accepted i j claims) = MeetRule demands.rule moment claims × MeetExpected demands.expected claims
IsPassed demands moment (Refused fault) = ⊥
