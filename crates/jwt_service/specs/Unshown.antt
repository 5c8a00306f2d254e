-- How a token is bound, and whether that is shown (RFC 7800, section 3.1; RFC 9449, section 7.2; RFC 8705, section 3).
use Rattle.std.specs.Prelude.{◌≡◌, ℕ, Bool, false, not, List, [], ◌∷◌, ◌++◌, Option, None, option_map, is_some}
use Rattle.std.specs.Borrow.{Bor}
use Rattle.serde_json.specs.Data.{Members}
use Rattle.jwt_text.specs.Rows.{Row, ◌⇒◌, first_row}
use Rattle.jwt_possession.specs.Bindings.{bound_certificate}
use Rattle.jwt_possession.specs.Possessions.{proved}
use Rattle.jwt_possession.specs.Shown.{binding_rows}
use Rattle.jwt_possession.specs.declared.binding.BindingFault.{BindingFault}
use Rattle.jwt_possession.specs.declared.binding.BindingFault.TheVariants.{OtherCertificate}
use Rattle.jwt_possession.specs.declared.binding.Shown.{Shown}
use Rattle.jwt_possession.specs.declared.possession.Possession.{Possession}
use Rattle.jwt_service.specs.declared.call.Call.{Call}
use Rattle.jwt_service.specs.declared.service.Certificates.{Certificates}
use Rattle.jwt_service.specs.declared.service.Certificates.TheVariants.{Ignored, Required}
use Rattle.jwt_service.specs.declared.service.Service.{Service}

-- the certificate that counts: the client's, unless the service looks at none
abbrev pub certificate_by : Certificates → Option (Bor (List ℕ)) → Option (Bor (List ℕ))
certificate_by Ignored certificate = None
certificate_by _ certificate = certificate

abbrev pub certificate_of : Service → Call → Option (Bor (List ℕ))
certificate_of service call = certificate_by service.certificates call.certificate

-- shown are the key of this proof, where there is one, and the certificate that counts, where there is one
pub record ShowsThese (service : Service) (call : Call) (possession : Option Possession) (shown : Shown) : Type 0 where
  pub key : option_map (λ k. k.now) shown.key ≡ option_map (λ p. (proved p).thumbprint) possession
  pub certificate : option_map (λ c. c.now) shown.certificate ≡ option_map (λ c. c.now) (certificate_of service call)

-- the token has to be bound to a certificate, and is to none
abbrev pub lacks_by : Certificates → Members → Bool
lacks_by Required claims = not (is_some (bound_certificate claims))
lacks_by _ claims = false

abbrev pub lacks_certificate : Service → Members → Bool
lacks_certificate service claims = lacks_by service.certificates claims

-- why not each way in which the token is bound is shown, in the order of `binding_rows`; last that it lacks a certificate
abbrev pub unshown_rows : Service → Members → Shown → List (Row BindingFault)
unshown_rows service claims shown = binding_rows claims shown ++ (lacks_certificate service claims ⇒ OtherCertificate) ∷ []

-- the first cause, if any
abbrev pub HasUnshown : Service → Call → Members → Option Possession → Option BindingFault → Type 0
HasUnshown service call claims possession fault = (shown : Shown) × ShowsThese service call possession shown × (first_row (unshown_rows service claims shown) ≡ fault)
