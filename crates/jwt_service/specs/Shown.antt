-- The token that a request shows.
use Rattle.std.specs.Prelude.{◌≡◌, ◌⊎◌, ◌<◌, ◌-◌, ℕ, List, [], ◌∷◌, length, map, take, drop, true, is_some}
use Rattle.jwt_request.specs.declared.scheme.Scheme.{Scheme}
use Rattle.jwt_request.specs.declared.scheme.Schemes.{Schemes}
use Rattle.jwt_request.specs.declared.credentials.Credentials.TheVariants as found
use Rattle.jwt_request.specs.Spelled.{takes, Carries, IsFound}
use Rattle.jwt_service.specs.declared.call.Call.{Call}
use Rattle.jwt_service.specs.declared.service.Service.{Service}
use Rattle.jwt_service.specs.declared.shown.Shown.{Shown}
use Rattle.jwt_service.specs.declared.shown.Shown.TheVariants.{Several, Absent, Malformed, Token}

-- the schemes that a service takes: DPoP where it says what it asks of proofs
abbrev pub schemes_of : Service → Schemes
schemes_of service = record { bearer = service.bearer; dpop = is_some service.proofs }

-- the value of a header Authorization carries this token by this scheme, which is taken (RFC 6750, section 2.1; RFC 9449, section 7.1)
pub record CarriesToken (schemes : Schemes) (value : List ℕ) (scheme : Scheme) (token : List ℕ) : Type 0 where
  pub taken : takes schemes scheme ≡ true
  pub from : ℕ
  pub to : ℕ
  pub carried : Carries scheme value from to
  pub octets : token ≡ take (to - from) (drop from value)

-- the values of all headers Authorization
abbrev pub values_of : Call → List (List ℕ)
values_of call = map (λ value. value.now) call.authorizations.now

-- the request has one header Authorization, which carries this token
abbrev pub Shows : Schemes → List (List ℕ) → Scheme → List ℕ → Type 0
Shows schemes values scheme token = (value : List ℕ) × (values ≡ value ∷ []) × CarriesToken schemes value scheme token

-- what the values of all headers show
abbrev pub IsShown : Schemes → List (List ℕ) → Shown → Type 0
IsShown schemes values Several = 1 < length values
IsShown schemes values Absent = (values ≡ []) ⊎ ((value : List ℕ) × (values ≡ value ∷ []) × IsFound schemes value found.Absent)
IsShown schemes values (Malformed scheme) = (value : List ℕ) × (values ≡ value ∷ []) × IsFound schemes value (found.Malformed scheme)
IsShown schemes values (Token scheme token) = Shows schemes values scheme token.now

-- ---- Cited by contracts of private functions alone

-- what the value of the one header shows
abbrev pub IsShownBy : Schemes → List ℕ → Shown → Type 0
IsShownBy schemes value Several = ⊥
IsShownBy schemes value Absent = IsFound schemes value found.Absent
IsShownBy schemes value (Malformed scheme) = IsFound schemes value (found.Malformed scheme)
IsShownBy schemes value (Token scheme token) = CarriesToken schemes value scheme token.now
