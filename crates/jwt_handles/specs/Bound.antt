-- Whether each way in which the token that was accepted last is bound was shown.
use Rattle.std.specs.Prelude.{◌≡◌, ◌≢◌, ℕ, ◌+◌, Bool, List, [], ◌∷◌, Option, Some, None, option_map, is_some, if◌then◌else◌}
use Rattle.serde_json.specs.Data.{Members}
use Rattle.jwt_text.specs.Rows.{first_row}
use Rattle.jwt_possession.specs.Bindings.{bound_key, bound_certificate}
use Rattle.jwt_possession.specs.Possessions.{proved}
use Rattle.jwt_possession.specs.Shown.{binding_rows}
use Rattle.jwt_possession.specs.declared.binding.BindingFault.{BindingFault}
use Rattle.jwt_possession.specs.declared.binding.BindingFault.TheVariants.{Unknown, OtherKey, OtherCertificate}
use Rattle.jwt_possession.specs.declared.binding.Shown.{Shown}
use Rattle.jwt_possession.specs.declared.possession.Possession.{Possession}
use Rattle.jwt_handles.specs.declared.status.TheConstants.{FOW_OK, FOW_REFUSED, FOW_OUT_OF_MEMORY, FOW_ABSENT}

-- no octets are no certificate
abbrev pub certificate_of : List ℕ → Option (List ℕ)
certificate_of [] = None
certificate_of (first ∷ rest) = Some (first ∷ rest)

-- shown are the key of the proof that is kept, where there is one, and this certificate, where there are octets of one
pub record ShowsThese (kept : Option Possession) (der : List ℕ) (shown : Shown) : Type 0 where
  pub key : option_map (λ k. k.now) shown.key ≡ option_map (λ it. (proved it).thumbprint) kept
  pub certificate : option_map (λ c. c.now) shown.certificate ≡ certificate_of der

abbrev pub binding_number : BindingFault → ℕ
binding_number Unknown = 1401
binding_number OtherKey = 1402
binding_number OtherCertificate = 1403

-- FOW_OK where no row holds, else FOW_REFUSED with the number of the first
abbrev pub SaysBinding : Option BindingFault → ℕ → ℕ → Type 0
SaysBinding None status fault = (status ≡ FOW_OK) × (fault ≡ 0)
SaysBinding (Some why) status fault = (status ≡ FOW_REFUSED) × (fault ≡ binding_number why)

-- this bit, where it is set
abbrev pub bit : Bool → ℕ → ℕ
bit is number = if is then number else 0

-- the bits of `enum fow_binding`: the claims are bound to a key, to a certificate
abbrev pub ways_of : Members → ℕ
ways_of claims = bit (is_some (bound_key claims)) 1 + bit (is_some (bound_certificate claims)) 2

-- what is said of these claims, where there are any, by what is shown
abbrev pub SaysShown : Option Members → Shown → ℕ → ℕ → Type 0
SaysShown None shown status fault = (status ≡ FOW_ABSENT) × (fault ≡ 0)
SaysShown (Some claims) shown status fault = (status ≢ FOW_OUT_OF_MEMORY → SaysBinding (first_row (binding_rows claims shown)) status fault)
    × (status ≡ FOW_OUT_OF_MEMORY → fault ≡ 0)

-- the same by the proof that is kept and this certificate
abbrev pub SaysBound : Option Members → Option Possession → List ℕ → ℕ → ℕ → Type 0
SaysBound claims kept der status fault = (shown : Shown) × ShowsThese kept der shown × SaysShown claims shown status fault

-- how the claims that were accepted are bound, where each way is shown; else nothing is said
abbrev pub SaysWays : Option Members → ℕ → ℕ → Type 0
SaysWays None status ways = ways ≡ 0
SaysWays (Some claims) status ways = (status ≡ FOW_OK → ways ≡ ways_of claims) × (status ≢ FOW_OK → ways ≡ 0)
