-- The result of `jwt mac`, and its line.
use Rattle.std.specs.Prelude.{◌+◌, ℕ, Bool, true, false, ◌&&◌, List, length, Option, Some, None, Result, Ok, Err, codes, nat_lt, nat_le, if◌then◌else◌, option_and_then}
use Rattle.std.specs.Str.{bytes_eq}
use Rattle.jwt_text.specs.Answers.{◌>>=◌, or_fault, some_or}
use Rattle.jwt_text.specs.Base64url.{octets_of, spelled}
use Rattle.jwt_text.specs.Members.{text_at}
use Rattle.jwt_text.specs.ObjectText.{object_of}
use Rattle.jwt_mac.specs.declared.algorithm.Alg.{Alg}
use Rattle.jwt_mac.specs.Algorithm.{alg_named, is_hmac_alg, tag_of}
use Rattle.jwt_mac.specs.Verifying.{MessageOctets, signing_input}
use Rattle.jwt_jws.specs.Forms.{CompactTexts, compact_texts}
use Rattle.jwt_command.specs.declared.mac.MacFault.{MacFault}
use Rattle.jwt_command.specs.declared.mac.MacFault.TheVariants.{OutOfMemory, Segments, Base64, Header, AlgMissing, AlgNotAllowed}
use Rattle.jwt_verify.specs.Verdict.{without_line_feed}
use Rattle.jwt_output.specs.Printed.{Answer}
use Rattle.jwt_output.specs.Refused.{printed_read_fault, refused_named}
use Rattle.jwt_settings.specs.declared.printing.Printing.TheVariants.{Lines}
use Rattle.jwt_output.specs.Mac.{Digest, digest_line, key_refused}

-- ---- the key: 1 to 4,096 octets in base64url

abbrev pub within_bounds : List ℕ → Option (List ℕ)
within_bounds k = if nat_le 1 (length k) && nat_le (length k) 4096 then Some k else None

abbrev pub key_spelled : List ℕ → Option (List ℕ)
key_spelled text = option_and_then within_bounds (octets_of text)

-- ---- the tag

abbrev pub hmac_only : Alg → Option Alg
hmac_only alg = if is_hmac_alg alg then Some alg else None

-- the algorithm of a header text, which has to be HS256, HS384 or HS512
unfoldable pub algorithm_of : List ℕ → Result Alg MacFault
algorithm_of header = do
  members ← or_fault Header (object_of header)
  name ← some_or AlgMissing (text_at (codes "alg") members)
  some_or AlgNotAllowed (option_and_then hmac_only (alg_named name))

abbrev pub message_in : CompactTexts → MessageOctets
message_in t = record { protected = t.protected; payload = t.payload }

abbrev pub digest_by : List ℕ → CompactTexts → List ℕ → Alg → Digest
digest_by key t signature alg = let tag = tag_of alg key (signing_input (message_in t)) in record { tag = tag; equal = bytes_eq signature tag }

unfoldable pub texts_digest : List ℕ → CompactTexts → Result Digest MacFault
texts_digest key t = do
  header ← or_fault Base64 (spelled t.protected)
  payload ← or_fault Base64 (spelled t.payload)
  signature ← or_fault Base64 (spelled t.signature)
  alg ← algorithm_of header
  Ok (digest_by key t signature alg)

-- the digest of a token in compact form under a key, or the first cause why it has none
unfoldable pub compact_digest : List ℕ → List ℕ → Result Digest MacFault
compact_digest key z = some_or Segments (compact_texts z) >>= texts_digest key

-- ---- the line

abbrev pub mac_fault_name : MacFault → List ℕ
mac_fault_name Segments = codes "Segments"
mac_fault_name Base64 = codes "Base64"
mac_fault_name Header = codes "Header"
mac_fault_name AlgMissing = codes "AlgMissing"
mac_fault_name AlgNotAllowed = codes "AlgNotAllowed"
mac_fault_name OutOfMemory = codes "OutOfMemory"

abbrev pub mac_line : Result Digest MacFault → Answer
mac_line (Ok d) = digest_line d
mac_line (Err fault) = refused_named Lines (mac_fault_name fault)

-- of an input, by a reader that has failed or not; the limit is compared with the whole input
abbrev pub mac_on : List ℕ → ℕ → Bool → List ℕ → Answer
mac_on key limit true input = printed_read_fault Lines
mac_on key limit false input = if nat_lt limit (length input) then refused_named Lines (codes "TooLong") else mac_line (compact_digest key (without_line_feed true input))

abbrev pub mac_under : Option (List ℕ) → ℕ → Bool → List ℕ → Answer
mac_under None limit failed input = key_refused
mac_under (Some key) limit failed input = mac_on key limit failed input

-- the answer of `jwt mac` with a key text and a limit
abbrev pub mac_answer : List ℕ → ℕ → Bool → List ℕ → Answer
mac_answer key = mac_under (key_spelled key)

-- with the key's text in hand, and one line feed behind it or none
abbrev pub mac_in_hand : Option (List ℕ) → ℕ → Bool → List ℕ → Answer
mac_in_hand (Some text) limit failed input = mac_answer (without_line_feed true text) limit failed input
mac_in_hand None limit failed input = key_refused

-- how much of the input is taken at most: nothing where the key is refused
abbrev pub behind_key : Option (List ℕ) → ℕ → ℕ
behind_key (Some key) limit = limit + 1
behind_key None limit = 0

abbrev pub mac_most : Option (List ℕ) → ℕ → ℕ
mac_most (Some text) limit = behind_key (key_spelled (without_line_feed true text)) limit
mac_most None limit = 0
