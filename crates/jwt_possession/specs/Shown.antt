-- Each way in which an access token is bound is shown by its sender, and none is unknown (RFC 7800, section 3.1).
use Rattle.std.specs.Prelude.{ℕ, ◌≡◌, ◌⊎◌, Bool, true, false, not, ◌&&◌, ◌||◌, List, [], ◌∷◌, Some, option_map, codes}
use Rattle.std.specs.Option.{option_map_or}
use Rattle.std.specs.List.{list_all}
use Rattle.std.specs.Str.{bytes_eq}
use Rattle.serde_json.specs.Data.{Members}
use Rattle.jwt_text.specs.Members.{has, object_at, member_names}
use Rattle.jwt_text.specs.Rows.{Row, ◌⇒◌}
use Rattle.jwt_policy.specs.Texts.{some_passes}
use Rattle.jwt_possession.specs.Bindings.{is_bound, bound_key, bound_certificate, digest_text}
use Rattle.jwt_possession.specs.declared.binding.Shown.{Shown}
use Rattle.jwt_possession.specs.declared.binding.BindingFault.{BindingFault}
use Rattle.jwt_possession.specs.declared.binding.BindingFault.TheVariants.{Unknown, OtherKey, OtherCertificate}

-- ---- why not each way is shown, in a table

abbrev pub is_known_way : List ℕ → Bool
is_known_way name = bytes_eq name (codes "jkt") || bytes_eq name (codes "x5t#S256")

abbrev pub has_none : List (List ℕ) → Bool
has_none [] = true
has_none (name ∷ names) = false

-- the object has a member, and none of another name
abbrev pub are_known_ways : Members → Bool
are_known_ways ways = not (has_none (member_names ways)) && list_all is_known_way (member_names ways)

-- there is no `cnf`, or it is such an object
abbrev pub is_known : Members → Bool
is_known claims = not (is_bound claims) || option_map_or are_known_ways (object_at (codes "cnf") claims) false

-- `cnf` has a member of this name
abbrev pub binds : List ℕ → Members → Bool
binds name claims = option_map_or (has name) (object_at (codes "cnf") claims) false

abbrev pub is_key_shown : Members → Shown → Bool
is_key_shown claims shown = option_map_or (λ key. some_passes (λ text. bytes_eq text key.now) (bound_key claims)) shown.key false

abbrev pub is_certificate_shown : Members → Shown → Bool
is_certificate_shown claims shown = option_map_or (λ der. some_passes (λ text. bytes_eq text (digest_text der.now)) (bound_certificate claims)) shown.certificate false

-- why not each way is shown, in this order
abbrev pub binding_rows : Members → Shown → List (Row BindingFault)
binding_rows claims shown =
    (not (is_known claims) ⇒ Unknown)
    ∷ (binds (codes "jkt") claims && not (is_key_shown claims shown) ⇒ OtherKey)
    ∷ (binds (codes "x5t#S256") claims && not (is_certificate_shown claims shown) ⇒ OtherCertificate)
    ∷ []

-- ---- Cited by laws alone

-- the sender has shown the key of this thumbprint, by a proof
abbrev pub HasShownKey : Shown → List ℕ → Type 0
HasShownKey shown thumbprint = option_map (λ text. text.now) shown.key ≡ Some thumbprint

-- the sender has shown a certificate with this digest, as its text
abbrev pub HasShownCertificate : Shown → List ℕ → Type 0
HasShownCertificate shown digest = option_map (λ der. digest_text der.now) shown.certificate ≡ Some digest

-- The claims are bound in no way; or `cnf` is an object with a member, and each of its members is shown: `jkt` is the thumbprint of the key that was shown, and `x5t#S256` the digest
-- of the certificate that was. A member of another name is shown by nothing.
abbrev pub IsShown : Members → Shown → Type 0
IsShown claims shown = (is_bound claims ≡ false) ⊎ ((ways : Members) × (object_at (codes "cnf") claims ≡ Some ways) × (member_names ways ≡ [] → ⊥)
    × ((name : List ℕ) → has name ways ≡ true →
    ((name ≡ codes "jkt") × ((thumbprint : List ℕ) × (bound_key claims ≡ Some thumbprint) × HasShownKey shown thumbprint))
    ⊎ ((name ≡ codes "x5t#S256") × ((digest : List ℕ) × (bound_certificate claims ≡ Some digest) × HasShownCertificate shown digest))))
