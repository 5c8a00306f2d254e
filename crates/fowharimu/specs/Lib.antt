-- ---- What contracts of public functions cite, in reading order

-- What the contracts of the calls that this crate names cite: a crate above writes Rattle.fowharimu.specs and the name here.
pub use Rattle.jwt_text.specs.Answers
pub use Rattle.jwt_text.specs.Base64url
pub use Rattle.jwt_text.specs.Intake
pub use Rattle.jwt_text.specs.Members
pub use Rattle.jwt_text.specs.Writing
pub use Rattle.jwt_mac.specs.Algorithm
pub use Rattle.jwt_mac.specs.Hmac
pub use Rattle.jwt_mac.specs.Verifying
pub use Rattle.jwt_rsa.specs.Meanings
pub use Rattle.ecdsa.specs.jws.Meanings as EcdsaMeanings
pub use Rattle.jwt_ed25519.specs.Meanings as Ed25519Meanings
pub use Rattle.jwt_keys.specs.FaultNames as KeysFaultNames
pub use Rattle.jwt_keys.specs.Keys
pub use Rattle.jwt_keys.specs.KeySets
pub use Rattle.jwt_keys.specs.Numbers
pub use Rattle.jwt_keys.specs.Views as KeyViews
pub use Rattle.jwt_jws.specs.CompactForm
pub use Rattle.jwt_jws.specs.Crit
pub use Rattle.jwt_jws.specs.FaultNames as FormFaultNames
pub use Rattle.jwt_jws.specs.Forms
pub use Rattle.jwt_jws.specs.SignedToken
pub use Rattle.jwt_jws.specs.Token
pub use Rattle.jwt_jws.specs.Views as TokenViews
pub use Rattle.jwt_jws.specs.declared.fault.Form.TheVariants as FormVariants
pub use Rattle.jwt_policy.specs.Audiences
pub use Rattle.jwt_policy.specs.Checks
pub use Rattle.jwt_policy.specs.ClaimKinds
pub use Rattle.jwt_policy.specs.Document
pub use Rattle.jwt_policy.specs.FaultNames as PolicyFaultNames
pub use Rattle.jwt_policy.specs.Laws as PolicyLaws
pub use Rattle.jwt_policy.specs.Settings
pub use Rattle.jwt_access.specs.DenialWords
pub use Rattle.jwt_access.specs.Document as AccessDocument
pub use Rattle.jwt_access.specs.FaultNames as AccessFaultNames
pub use Rattle.jwt_access.specs.Granted
pub use Rattle.jwt_access.specs.Moments as AccessMoments
pub use Rattle.jwt_access.specs.RuleTexts
pub use Rattle.jwt_access.specs.Rules
pub use Rattle.jwt_access.specs.Scopes
pub use Rattle.jwt_verify.specs.Accepted
pub use Rattle.jwt_verify.specs.Asks
pub use Rattle.jwt_verify.specs.FaultNames
pub use Rattle.jwt_verify.specs.Laws
pub use Rattle.jwt_verify.specs.Paying
pub use Rattle.jwt_verify.specs.Reports
pub use Rattle.jwt_verify.specs.Steps
pub use Rattle.jwt_verify.specs.Table
pub use Rattle.jwt_verify.specs.Verdict
pub use Rattle.jwt_verify.specs.Verdicts
pub use Rattle.jwt_verify.specs.declared.report.Fault.TheVariants as FaultVariants
pub use Rattle.jwt_verify.specs.declared.report.InputFault.TheVariants as InputFaultVariants
pub use Rattle.jwt_verify.specs.declared.report.Verdict.TheVariants as VerdictVariants
pub use Rattle.jwt_memory.specs.Entries
pub use Rattle.jwt_memory.specs.Kept
pub use Rattle.jwt_memory.specs.Laws as MemoryLaws
pub use Rattle.jwt_memory.specs.Outcomes
pub use Rattle.jwt_possession.specs.once.Accepted as OnceAccepted
pub use Rattle.jwt_possession.specs.once.Laws as OnceLaws
pub use Rattle.jwt_possession.specs.once.Marks as OnceMarks
pub use Rattle.jwt_possession.specs.once.Steps as OnceSteps
pub use Rattle.jwt_possession.specs.declared.once.accepted.Lack.TheVariants as LackVariants
pub use Rattle.jwt_possession.specs.declared.once.once.Taken.TheVariants as TakenVariants
pub use Rattle.jwt_request.specs.Replies
pub use Rattle.jwt_service.specs.Admission
pub use Rattle.jwt_service.specs.Asking
pub use Rattle.jwt_service.specs.Expecting
pub use Rattle.jwt_service.specs.Issuers
pub use Rattle.jwt_service.specs.Judged
pub use Rattle.jwt_service.specs.Laws as ServiceLaws
pub use Rattle.jwt_service.specs.Paths as ServicePaths
pub use Rattle.jwt_service.specs.Plain as PlainService
pub use Rattle.jwt_service.specs.Proving
pub use Rattle.jwt_service.specs.Recalled
pub use Rattle.jwt_service.specs.Reply as ServiceReply
pub use Rattle.jwt_service.specs.Rule as ServiceRule
pub use Rattle.jwt_service.specs.Settled
pub use Rattle.jwt_service.specs.Shown as ServiceShown
pub use Rattle.jwt_service.specs.Taking
pub use Rattle.jwt_service.specs.Unshown
pub use Rattle.jwt_issue.specs.ClaimSets
pub use Rattle.jwt_issue.specs.FaultNames as IssueFaultNames
pub use Rattle.jwt_issue.specs.Issued
pub use Rattle.jwt_issue.specs.Paying as IssuePaying
pub use Rattle.jwt_issue.specs.Signed as IssueSigned
pub use Rattle.jwt_issue.specs.Views as IssueViews
-- the grounds of a verdict with a memory
pub mod Remembering
