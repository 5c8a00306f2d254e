-- A token that is accepted has the claims of its payload.
use Rattle.std.proofs.Common.{◌≡◌, ◌≢◌, ◌∙◌, ℕ, Bool, true, false, List, Result, Ok, Err, refl, sym, subst}
use Rattle.std.specs.Result.{IfOk, IfErr}
use Rattle.serde_json.specs.Data.{Members}
use Rattle.jwt_mac.specs.Verifying.{Meaning}
use Rattle.jwt_jws.specs.Token.{Token}
use Rattle.jwt_policy.specs.ClaimKinds.{claims_of}
use Rattle.jwt_verify.specs.Accepted.{IsAccepted, IsVerdict, TellsTokens}
use Rattle.jwt_verify.specs.Asks.{IsToken}
use Rattle.jwt_verify.specs.Reports.{FoundMemory, terms}
use Rattle.jwt_verify.specs.Verdict.{Terms}
use Rattle.jwt_verify.specs.declared.report.Fault.{Fault}
use Rattle.jwt_verify.specs.declared.report.Fault.TheVariants as fault
use Rattle.jwt_verify.specs.declared.report.Verdict.{Verdict}
use Rattle.jwt_verify.specs.declared.report.Verdict.TheVariants.{Refused}
use Rattle.jwt_memory.specs.Kept.{AreKept}
use Rattle.jwt_memory.specs.Outcomes.{IsFound}
use Rattle.jwt_memory.specs.declared.memory.Memory.{Memory}
use Rattle.jwt_service.specs.declared.accepting.ShownToken.{ShownToken}
use Rattle.jwt_service.specs.declared.call.Call.{Call}
use Rattle.jwt_service.specs.declared.judging.Verified.{Verified}
use Rattle.jwt_service.specs.declared.service.Issuer.{Issuer}
use Rattle.jwt_service.specs.declared.service.Service.{Service}
use Rattle.jwt_service.specs.Admission.{IsShownToken}
use Rattle.jwt_service.specs.Issuers.{IsChosen}
use Rattle.jwt_service.specs.Recalled.{IsMemoryOf, IsRecalled, AreStillKeptWhere}
use Rattle.jwt_service.specs.Judged.{TellsOf, IsVerifiedIn, IsJudgedAs}
use Rattle.jwt_service.proofs.Choices.{ReadsClaims}
use Rattle.jwt_service.proofs.Verdicts.{accepted_then, refused_fault, names_alg}

pub reads_claims : TellsTokens → ReadsClaims → (terms : Terms) (octets : List ℕ) (ceiling signature key : ℕ) (claims : Members) (token : Token) → IsToken terms.policy octets token
    → IsAccepted terms octets ceiling signature key claims → claims_of token.payload ≡ Ok claims
reads_claims law reads terms octets ceiling signature key claims token read accepted =
    let tokens : Ok accepted.token ≡ Ok token = sym ((law terms.policy octets accepted.token).1 accepted.signed.0) ∙ (law terms.policy octets token).1 read in
    let same : accepted.token ≡ token = cc in
    subst (λ (t : Token). claims_of t.payload ≡ Ok claims) same ((reads accepted.token.payload claims).1 accepted.read)

pub with_its_claims : (terms : Terms) (octets : List ℕ) (ceiling signature key : ℕ) (claims other : Members) (token : Token)
    → claims_of token.payload ≡ Ok claims → claims_of token.payload ≡ Ok other → IsAccepted terms octets ceiling signature key claims → IsAccepted terms octets ceiling signature key other
with_its_claims terms octets ceiling signature key claims other token here there accepted =
    let both : Ok claims ≡ Ok other = sym here ∙ there in
    let same : claims ≡ other = cc in
    subst (λ (m : Members). IsAccepted terms octets ceiling signature key m) same accepted

pub tells_of : TellsTokens → ReadsClaims → (terms : Terms) (octets : List ℕ) (ceiling work : ℕ) (verdict : Verdict) (token : Token) → IsToken terms.policy octets token → ceiling ≡ work
    → (FoundMemory verdict → IsVerdict terms octets ceiling verdict) → TellsOf verdict token
tells_of law reads terms octets ceiling work verdict token read same told signature key claims is =
    let accepted = accepted_then terms octets ceiling work verdict signature key claims is same told in (
      names_alg law terms octets work signature key claims token read accepted,
      reads_claims law reads terms octets work signature key claims token read accepted,
    )

-- the verdict of the memory is that of the issuer
pub told_recalled : TellsTokens → ReadsClaims → (issuer : Issuer) (verifiers : List Meaning) (call : Call) (octets : List ℕ) (ceiling : ℕ) (verdict : Verdict) (token : Token) (result : Result Verified Fault)
    → IsToken issuer.policy.now octets token → ceiling ≡ issuer.policy.now.run.work
    → (FoundMemory verdict → IsVerdict (terms issuer.policy.now issuer.keys.now call.moment verifiers) octets ceiling verdict)
    → IfOk result (IsVerifiedIn verdict token) → IfErr result (λ it. it ≢ fault.OutOfMemory → verdict ≡ Refused it) → IsJudgedAs issuer verifiers call octets result
told_recalled law reads issuer verifiers call octets ceiling verdict token (Ok it) read same told (signature, key, claims, is, names, has) refuses =
    let by = terms issuer.policy.now issuer.keys.now call.moment verifiers in
    let work = issuer.policy.now.run.work in
    let accepted = accepted_then by octets ceiling work verdict signature key claims is same told in (
      signature,
      key,
      with_its_claims by octets work signature key claims it.claims token (reads_claims law reads by octets work signature key claims token read accepted) has accepted,
      (token, read, names),
    )
told_recalled law reads issuer verifiers call octets ceiling verdict token (Err it) read same told ok refuses =
    λ found. refused_fault (terms issuer.policy.now issuer.keys.now call.moment verifiers) octets ceiling issuer.policy.now.run.work verdict it
    (refuses (λ e. subst (λ (f : Fault). FoundMemory (Refused f)) e found)) same told found

-- ---- the memory of the service's own issuer

pub is_of_own : (service : Service) (verifiers : List Meaning) (issuer : Issuer) (memory : Memory) → issuer ≡ service.issuer → IsMemoryOf service verifiers memory
    → AreKept issuer.policy.now issuer.keys.now verifiers memory
is_of_own service verifiers issuer memory is kept = subst (λ (i : Issuer). AreKept i.policy.now i.keys.now verifiers memory) (sym is) kept

pub still_of_own : (own : Bool) (service : Service) (verifiers : List Meaning) (shown : ShownToken) (before after : Memory) → (own ≡ true → shown.issuer ≡ service.issuer)
    → IsMemoryOf service verifiers before → AreStillKeptWhere own verifiers shown before after → IsMemoryOf service verifiers after
still_of_own true service verifiers shown before after is kept still = subst (λ (i : Issuer). AreKept i.policy.now i.keys.now verifiers after) (is refl) still
still_of_own false service verifiers shown before after is kept still = subst (λ (m : Memory). IsMemoryOf service verifiers m) (sym still) kept

pub told_found : (remembered : Bool) (service : Service) (call : Call) (shown : ShownToken) (memory : Memory) → IsShownToken service call shown → (remembered ≡ true → shown.own ≡ true)
    → IsFound remembered memory shown.token.now shown.issuer.policy.now.run.work → IsRecalled service call memory remembered
told_found false service call shown memory is own found = tt
told_found true service call shown memory is own found =
    let same = is.3 (own refl) in (
      shown.scheme,
      shown.token.now,
      is.0,
      subst (λ (i : Issuer). IsChosen service shown.token.now i) same is.1,
      subst (λ (i : Issuer). IsFound true memory shown.token.now i.policy.now.run.work) same found,
    )
