-- Issuing by a validator, in the numbers of the header.
use Rattle.std.specs.Prelude.{◌≡◌, ◌≢◌, ℕ, List, [], ◌∷◌, nat_eq, if◌then◌else◌, Option, Some, None, Result, Ok, Err}
use Rattle.jwt_mac.specs.declared.algorithm.Alg.{Alg}
use Rattle.jwt_mac.specs.declared.algorithm.Alg.TheVariants.{HS256, HS384, HS512}
use Rattle.jwt_jws.specs.declared.fault.Form.{Form}
use Rattle.jwt_jws.specs.declared.fault.Form.TheVariants.{Compact, Flattened, General}
use Rattle.jwt_keys.specs.Keys.{KeyParts}
use Rattle.jwt_policy.specs.declared.claim_fault.ClaimFault.{ClaimFault}
use Rattle.jwt_issue.specs.Options.{OptionParts, issued_by}
use Rattle.jwt_issue.specs.declared.fault.IssueFault.{IssueFault}
use Rattle.jwt_handles.specs.declared.report.FowReport.{FowReport}
use Rattle.jwt_handles.specs.declared.status.TheConstants.{FOW_REFUSED, FOW_OUT_OF_MEMORY}
use Rattle.jwt_handles.specs.Faults.{claim_numbers, issue_numbers}
use Rattle.jwt_handles.specs.Reports.{report_numbers}
use Rattle.jwt_handles.specs.Written.{Puts}

-- the HMAC algorithms and the forms, by their numbers
abbrev pub hmac_at : ℕ → Option Alg
hmac_at number = if nat_eq number 1 then Some HS256 else if nat_eq number 2 then Some HS384 else if nat_eq number 3 then Some HS512 else None

abbrev pub form_at : ℕ → Option Form
form_at number = if nat_eq number 1 then Some Compact else if nat_eq number 2 then Some General else if nat_eq number 3 then Some Flattened else None

-- the type that is asked for: none where it has no octets
abbrev pub typ_of : List ℕ → Option (List ℕ)
typ_of [] = None
typ_of (first ∷ rest) = Some (first ∷ rest)

-- what is written of an issuing: the token, or why there is none; unless memory was refused
abbrev pub PutsToken : Result (List ℕ) IssueFault → ℕ → FowReport → ℕ → List ℕ → List ℕ → Type 0
PutsToken (Ok token) status said size old out = status ≢ FOW_OUT_OF_MEMORY → Puts token status size old out
PutsToken (Err fault) status said size old out = status ≢ FOW_OUT_OF_MEMORY → (status ≡ FOW_REFUSED) × (report_numbers said ≡ issue_numbers fault)

-- of these claims
abbrev pub PutsIssued : OptionParts → List KeyParts → Result (List ℕ) ClaimFault → ℕ → FowReport → ℕ → List ℕ → List ℕ → Type 0
PutsIssued options keys (Ok claims) status said size old out = PutsToken (issued_by options keys claims) status said size old out
PutsIssued options keys (Err fault) status said size old out = status ≢ FOW_OUT_OF_MEMORY → (status ≡ FOW_REFUSED) × (report_numbers said ≡ claim_numbers fault)
