-- This crate's values as contracts see them.
use Rattle.std.specs.Prelude.{Option, Some, None, List, ◌∷◌, drop, map, All}
use Rattle.serde_json.specs.Data.{Members}
use Rattle.jwt_text.specs.Parts.{part_octets, IsLent}
use Rattle.jwt_jws.specs.Token.{SignatureParts, Token}
use Rattle.jwt_jws.specs.Forms.{CompactTexts, Spelled, SpelledToken, compact_token}
use Rattle.jwt_jws.specs.declared.signature.Signature.{Signature}
use Rattle.jwt_jws.specs.declared.signed.Signatures.{Signatures}
use Rattle.jwt_jws.specs.declared.signed.Signed.{Signed}
use Rattle.jwt_jws.specs.declared.unprotected.Unprotected.{Unprotected}
use Rattle.jwt_jws.specs.declared.unprotected.Unprotected.TheVariants.{Absent, OtherKind, Members as AnObject}
use Rattle.jwt_jws.specs.declared.compact.CompactTexts.{CompactTexts as LentTexts}
use Rattle.jwt_jws.specs.declared.json.SpelledSignature.{SpelledSignature}
use Rattle.jwt_jws.specs.declared.json.SpelledJson.{SpelledJson}

abbrev pub parts : Signature → SignatureParts
parts signature = record { protected_text = part_octets signature.protected_text; protected = signature.protected; unprotected = signature.unprotected; octets = signature.octets.items }

abbrev pub token : Signed → Token
token signed = record { form = signed.form; payload_text = part_octets signed.payload_text; payload = signed.payload.items; signatures = parts signed.first ∷ map parts signed.more.items }

-- the signatures that are still to come
abbrev pub signatures_left : Signatures → List SignatureParts
signatures_left left = drop left.number (token left.signed.now).signatures

-- no octet of the signing input is copied
abbrev pub AreLent : Signed → Type 0
AreLent signed = IsLent signed.payload_text × All (λ (s : Signature). IsLent s.protected_text) (signed.first ∷ signed.more.items)

-- ---- while a token is read

abbrev pub texts_view : LentTexts → CompactTexts
texts_view texts = record { protected = texts.protected.now; payload = texts.payload.now; signature = texts.signature.now }

-- ---- Cited by contracts of private functions alone

abbrev pub header_view : Unprotected → Option (Option Members)
header_view Absent = None
header_view OtherKind = Some None
header_view (AnObject members) = Some (Some members)

abbrev pub compact_view : LentTexts → SpelledToken
compact_view texts = compact_token texts.protected.now texts.payload.now texts.signature.now

abbrev pub spelled_view : SpelledSignature → Spelled
spelled_view texts = record { protected = texts.protected.now; header = header_view texts.header; signature = texts.signature.now }

abbrev pub json_view : SpelledJson → SpelledToken
json_view texts = record { form = texts.form; payload = texts.payload.now; signatures = map spelled_view texts.signatures.items }
