-- Compact form (RFC 7515, section 7.1).
use Rattle.std.specs.Prelude.{◌≡◌, ◌↔◌, ℕ, false, List, ◌∷◌, ◌++◌, All, Some, Ok}
use Rattle.jwt_jws.specs.Forms.{SpelledToken, is_period, compact, compact_texts, compact_token, opens_object}

-- the octets are the three texts joined by periods, none of the three holds one, and the octets don't open an object
pub record IsCompact (octets protected_text payload_text signature_text : List ℕ) : Type 0 where
  pub joined : octets ≡ protected_text ++ 46 ∷ (payload_text ++ 46 ∷ signature_text)
  pub protected : All (λ c. is_period c ≡ false) protected_text
  pub payload : All (λ c. is_period c ≡ false) payload_text
  pub signature : All (λ c. is_period c ≡ false) signature_text
  pub no_object : opens_object octets ≡ false

-- ---- Cited by laws alone

-- what has compact form is read as its three texts
abbrev pub ReadsCompact : Type 0
ReadsCompact = (octets protected payload signature : List ℕ) → IsCompact octets protected payload signature → compact octets ≡ Ok (compact_token protected payload signature)

-- what is read so, and doesn't open an object, has compact form
abbrev pub IsReadCompact : Type 0
IsReadCompact =
    (octets : List ℕ) (token : SpelledToken) → opens_object octets ≡ false → compact octets ≡ Ok token
    → (protected payload signature : List ℕ) × IsCompact octets protected payload signature × (token ≡ compact_token protected payload signature)

-- of octets that don't open an object: two periods part them into three texts exactly where they have compact form of these
abbrev pub PartsCompact : Type 0
PartsCompact =
    (octets protected payload signature : List ℕ) → opens_object octets ≡ false
    → (compact_texts octets ≡ Some (record { protected = protected; payload = payload; signature = signature })) ↔ IsCompact octets protected payload signature
