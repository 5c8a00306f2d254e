-- Parts of the definitions of a token, by names for proofs.
use Rattle.std.proofs.Common.{◌≡◌, ℕ, Bool, false, List, Some}
use Rattle.std.specs.Prelude.{All}
use Rattle.std.specs.Option.{option_map_or}
use Rattle.std.specs.Str.{bytes_eq}
use Rattle.serde_json.specs.Data.{Data, Members}
use Rattle.serde_json.specs.Find.{as_object, as_str}
use Rattle.jwt_text.specs.Base64url.{Spells}
use Rattle.jwt_text.specs.ObjectText.{IsObjectText}
use Rattle.jwt_jws.specs.Forms.{Spelled, is_period}
use Rattle.jwt_jws.specs.SignedToken.{IsSpelledIn}

abbrev pub HasNoPeriod : List ℕ → Type 0
HasNoPeriod t = All (λ c. is_period c ≡ false) t

abbrev pub SpellsNothing : List ℕ → Type 0
SpellsNothing text = (octets : List ℕ) → ¬ Spells text octets

abbrev pub IsElement : Data → Spelled → Type 0
IsElement d w = (m : Members) × (as_object d ≡ Some m) × IsSpelledIn m w

abbrev pub IsProtectedText : List ℕ → Members → Type 0
IsProtectedText text p = (octets : List ℕ) × Spells text octets × IsObjectText octets p

-- the element is this text
abbrev pub is_text : List ℕ → Data → Bool
is_text name d = option_map_or (λ text. bytes_eq text name) (as_str d) false
