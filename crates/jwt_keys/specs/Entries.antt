-- The key in an entry of a key set (RFC 7517, sections 4 and 5).
use Rattle.std.specs.Prelude.{ℕ, List, [], ◌∷◌, map, Option, Some, None, option_map, option_and_then, unwrap_or, codes, Result, Ok, Err}
use Rattle.serde_json.specs.Data.{Data, Members}
use Rattle.serde_json.specs.Find.{as_str}
use Rattle.jwt_text.specs.Answers.{◌>>=◌, unless, some_or}
use Rattle.jwt_text.specs.Members.{text_at, list_at}
use Rattle.jwt_text.specs.Rows.{first_row}
use Rattle.jwt_mac.specs.Verifying.{KeyOctets, OctKey, RsaKey, EcKey, OkpKey}
use Rattle.jwt_keys.specs.Keys.{KeyParts}
use Rattle.jwt_keys.specs.Kinds.{kind_at}
use Rattle.jwt_keys.specs.SkipTable.{member_octets, skip_rows, shape_skip_of, octet_skip_of}
use Rattle.jwt_keys.specs.Thumbprints.{thumbprint_of}
use Rattle.jwt_keys.specs.declared.skip.SkipReason.{SkipReason}
use Rattle.jwt_keys.specs.declared.skip.SkipReason.TheVariants.{NotObject, CrvUnknown}
use Rattle.jwt_keys.specs.declared.skip.Skip.{Skip}
use Rattle.jwt_keys.specs.declared.kind.KeyKind.{KeyKind}
use Rattle.jwt_keys.specs.declared.kind.KeyKind.TheVariants.{Oct, Rsa, Ec, Okp}

-- the octets that the members of a key of this kind spell; a readable key has them all
abbrev pub octets_in : KeyKind → Members → KeyOctets
octets_in Oct ms = OctKey (member_octets (codes "k") ms)
octets_in Rsa ms = RsaKey (member_octets (codes "n") ms) (member_octets (codes "e") ms)
octets_in (Ec curve) ms = EcKey curve (member_octets (codes "x") ms) (member_octets (codes "y") ms)
octets_in (Okp curve) ms = OkpKey curve (member_octets (codes "x") ms)

-- each element of a readable key's `key_ops` is a text
abbrev pub text_or_empty : Data → List ℕ
text_or_empty d = unwrap_or (as_str d) []

-- the key of this kind with these members, at its place
abbrev pub parts_of : ℕ → KeyKind → Members → KeyParts
parts_of place kind ms = record {
  octets = octets_in kind ms;
  kid = text_at (codes "kid") ms;
  alg = text_at (codes "alg") ms;
  key_use = text_at (codes "use") ms;
  key_ops = option_map (map text_or_empty) (list_at (codes "key_ops") ms);
  thumbprint = thumbprint_of kind ms;
  place = place;
}

-- the key with these members, at its place; none where they tell no kind
abbrev pub key_with : ℕ → Members → Option KeyParts
key_with place ms = option_map (λ kind. parts_of place kind ms) (kind_at ms)

-- the key of an entry that is no object or has these members, or the first row of the skip table that holds
unfoldable pub key_in : ℕ → Option Members → Result KeyParts SkipReason
key_in place entry = unless (first_row (skip_rows entry)) (some_or NotObject (option_and_then (key_with place) entry))

-- ---- what an entry adds to the keys and to the skips

abbrev pub key_if : Result KeyParts SkipReason → List KeyParts
key_if (Ok k) = k ∷ []
key_if (Err reason) = []

abbrev pub skip_if : ℕ → Result KeyParts SkipReason → List Skip
skip_if place (Ok k) = []
skip_if place (Err reason) = record { place = place; reason = reason } ∷ []

-- ---- Cited by contracts of private functions alone

-- ---- the same in the order in which the rows are tried

abbrev pub key_of_kind : ℕ → Option KeyKind → Members → Result KeyParts SkipReason
key_of_kind place None ms = Err CrvUnknown
key_of_kind place (Some kind) ms = unless (octet_skip_of kind ms) (Ok (parts_of place kind ms))

-- the key with these members, or the first of rows 2 to 9 that holds
unfoldable pub key_of : ℕ → Members → Result KeyParts SkipReason
key_of place ms = unless (shape_skip_of ms) (key_of_kind place (kind_at ms) ms)

abbrev pub key_by_steps : ℕ → Option Members → Result KeyParts SkipReason
key_by_steps place entry = some_or NotObject entry >>= key_of place
