-- What a report by the set of a token's own key says.
use Rattle.std.proofs.Common.{◌≡◌, ℕ, ℤ, List, [], ◌∷◌, subst}
use Rattle.serde_json.specs.Data.{Members}
use Rattle.jwt_mac.specs.Verifying.{Meaning}
use Rattle.jwt_jws.specs.Token.{Token}
use Rattle.jwt_keys.specs.Keys.{KeyParts}
use Rattle.jwt_policy.specs.Settings.{Settings}
use Rattle.jwt_verify.specs.declared.report.Fault.{Fault}
use Rattle.jwt_verify.specs.declared.report.Verdict.{Verdict}
use Rattle.jwt_verify.specs.declared.report.Verdict.TheVariants.{Accepted, Refused}
use Rattle.jwt_verify.specs.Accepted.{IsVerdict, TellsTokens, TellsTokenFaults}
use Rattle.jwt_verify.specs.Asks.{IsToken}
use Rattle.jwt_verify.specs.Reports.{FoundMemory}
use Rattle.jwt_verify.specs.Verdict.{Terms}
use Rattle.jwt_possession.specs.Proofs.{HasOwnKey, IsRefusal, IsSignedByOwnKey}
use Rattle.jwt_possession.proofs.OneKey.{refused_told, signed_by_own}

abbrev pub by : Settings → ℤ → List Meaning → List KeyParts → Terms
by policy now verifiers keys = record { policy = policy; keys = keys; now = now; verifiers = verifiers }

-- what the report says of its verdict
abbrev pub Tells : Terms → List ℕ → ℕ → Verdict → Type 0
Tells terms octets ceiling verdict = FoundMemory verdict → IsVerdict terms octets ceiling verdict

module _ (tells : TellsTokens) (faults : TellsTokenFaults) (policy : Settings) (verifiers : List Meaning) (now : ℤ) (octets : List ℕ) (ceiling : ℕ)
    (token : Token) (key : KeyParts) (read : IsToken policy octets token) (own : HasOwnKey token key) (keys : List KeyParts) (one : keys ≡ key ∷ []) (verdict : Verdict)
    (told : Tells (by policy now verifiers keys) octets ceiling verdict) where
  pub accepted_own : (i j : ℕ) (claims : Members) → verdict ≡ Accepted i j claims → IsSignedByOwnKey policy verifiers now octets key claims
  accepted_own i j claims is =
      signed_by_own tells faults policy verifiers now octets ceiling token key read own i j claims
      (subst (λ (ks : List KeyParts). Tells (by policy now verifiers ks) octets ceiling (Accepted i j claims)) one (subst (Tells (by policy now verifiers keys) octets ceiling) is told) tt)

  pub refused_own : (fault : Fault) → verdict ≡ Refused fault → IsRefusal policy verifiers now token own.signature key fault
  refused_own fault is =
      refused_told tells faults policy verifiers now octets ceiling token key read own fault
      (subst (λ (ks : List KeyParts). Tells (by policy now verifiers ks) octets ceiling (Refused fault)) one (subst (Tells (by policy now verifiers keys) octets ceiling) is told))
