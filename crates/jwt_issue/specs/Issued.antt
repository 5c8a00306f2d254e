-- An issued token: its octets (RFC 7515, sections 5.1 and 7), or the first cause why there is none.
use Rattle.std.specs.Prelude.{ℕ, ◌+◌, ◌-◌, ◌&&◌, Bool, true, false, not, ◌==◌, List, [], ◌∷◌, ◌++◌, length, Option, Some, None, Result, Ok, Err, if◌then◌else◌, nat_le, nat_lt, codes, map}
use Rattle.std.specs.Str.{bytes_eq}
use Rattle.std.specs.List.{join_with_byte}
use Rattle.serde_json.specs.Data.{Members, no_members, string, object, put}
use Rattle.serde_json.specs.Written.{compact_text}
use Rattle.jwt_text.specs.Answers.{unless}
use Rattle.jwt_text.specs.Base64url.{spelling}
use Rattle.jwt_text.specs.declared.limits.TheConstants.{LONGEST_TOKEN}
use Rattle.jwt_mac.specs.Algorithm.{is_hmac_alg, digest_size, tag_of, cost_of, name_of}
use Rattle.jwt_mac.specs.Verifying.{KeyOctets, OctKey, RsaKey, EcKey, OkpKey, signing_input}
use Rattle.jwt_mac.specs.declared.algorithm.Alg.{Alg}
use Rattle.jwt_keys.specs.Keys.{KeyParts, permits_of}
use Rattle.jwt_issue.specs.declared.fault.IssueFault.{IssueFault}
use Rattle.jwt_issue.specs.declared.fault.IssueFault.TheVariants.{NoKey, TooManySignatures, AlgNotHmac, KeyUnfit, TooLong, Spent}

-- an algorithm, and the key that signs by it
pub record PairParts : Type 0 where
  pub alg : Alg
  pub key : KeyParts

abbrev pub signing_pair : Alg → KeyParts → PairParts
signing_pair alg key = record { alg = alg; key = key }

-- ---- one signature

-- a member, where there is a text for it
abbrev pub with_text : List ℕ → Option (List ℕ) → Members → Members
with_text name None ms = ms
with_text name (Some t) ms = put name (string t) ms

-- the protected header: `alg`, the key's `kid` where it has one, and `typ` where it is given (RFC 7515, section 4.1)
abbrev pub header : Option (List ℕ) → PairParts → Members
header typ pair =
    with_text (codes "typ") typ (with_text (codes "kid") pair.key.kid
    (put (codes "alg") (string (name_of pair.alg)) no_members))

-- its text: what spells the compact JSON text of the header, whose names are in ascending byte order
unfoldable pub header_spelling : Option (List ℕ) → PairParts → List ℕ
header_spelling typ pair = spelling (compact_text (object (header typ pair)))

-- the secret of a key, if it is one (RFC 7518, section 6.4)
abbrev pub secret_in : KeyOctets → Option (List ℕ)
secret_in (OctKey k) = Some k
secret_in (RsaKey n e) = None
secret_in (EcKey curve x y) = None
secret_in (OkpKey curve x) = None

abbrev pub octets_or_none : Option (List ℕ) → List ℕ
octets_or_none None = []
octets_or_none (Some octets) = octets

-- what a pair signs with: its algorithm, the octets of its secret, and the text of its protected header
pub record SignerParts : Type 0 where
  pub alg : Alg
  pub secret : List ℕ
  pub protected : List ℕ

abbrev pub signer_of : Option (List ℕ) → PairParts → SignerParts
signer_of typ pair = record {
  alg = pair.alg;
  secret = octets_or_none (secret_in pair.key.octets);
  protected = header_spelling typ pair;
}

-- what it signs: the protected text, a period, the payload text (RFC 7515, section 5.1)
abbrev pub input_of : List ℕ → SignerParts → List ℕ
input_of payload s = signing_input (record { protected = s.protected; payload = payload })

-- the text of its signature, which spells the HMAC of the signing input (RFC 7518, section 3.2)
unfoldable pub signature_text : List ℕ → SignerParts → List ℕ
signature_text payload s = spelling (tag_of s.alg s.secret (input_of payload s))

-- what the HMAC costs
abbrev pub signing_cost : List ℕ → SignerParts → ℕ
signing_cost payload s = cost_of s.alg s.secret (input_of payload s)

-- ---- the token

-- compact form (RFC 7515, section 7.1)
abbrev pub in_compact_form : List ℕ → SignerParts → List ℕ
in_compact_form payload s = input_of payload s ++ 46 ∷ [] ++ signature_text payload s

-- the members of one signature in JSON form (RFC 7515, section 7.2.1), of these two texts, with the closing brace
abbrev pub text_members : List ℕ → List ℕ → List ℕ
text_members protected signature = codes "\"protected\":\"" ++ protected ++ codes "\",\"signature\":\"" ++ signature ++ codes "\"}"

abbrev pub signature_members : List ℕ → SignerParts → List ℕ
signature_members payload s = text_members s.protected (signature_text payload s)

-- flattened JSON form (RFC 7515, section 7.2.2), with no white space
abbrev pub flattened_token : List ℕ → SignerParts → List ℕ
flattened_token payload s = codes "{\"payload\":\"" ++ payload ++ codes "\"," ++ signature_members payload s

-- one element of the list `signatures`
abbrev pub signature_element : List ℕ → SignerParts → List ℕ
signature_element payload s = codes "{" ++ signature_members payload s

-- general JSON form (RFC 7515, section 7.2.1), with no white space
abbrev pub general_token : List ℕ → List SignerParts → List ℕ
general_token payload ss =
    codes "{\"payload\":\"" ++ payload
    ++ codes "\",\"signatures\":[" ++ join_with_byte 44 (map (signature_element payload) ss) ++ codes "]}"

-- ---- why a pair may not sign

-- the key's `alg`, where present, is the algorithm (RFC 7517, section 4.4)
abbrev pub alg_agrees : Alg → Option (List ℕ) → Bool
alg_agrees alg None = true
alg_agrees alg (Some text) = bytes_eq text (name_of alg)

-- the secret has at least as many octets as a digest of the algorithm (RFC 7518, section 3.2)
abbrev pub is_long_enough : Alg → Option (List ℕ) → Bool
is_long_enough alg None = false
is_long_enough alg (Some secret) = nat_le (digest_size alg) (length secret)

-- the key may sign by the algorithm
abbrev pub may_sign : PairParts → Bool
may_sign pair =
    is_long_enough pair.alg (secret_in pair.key.octets)
    && alg_agrees pair.alg pair.key.alg
    && permits_of (codes "sign") pair.key

-- why pair i may not sign, if so
unfoldable pub unfit : ℕ → PairParts → Option IssueFault
unfit i pair =
    if not (is_hmac_alg pair.alg) then Some (AlgNotHmac i)
    else if not (may_sign pair) then Some (KeyUnfit i)
    else None

abbrev pub or_else : Option IssueFault → Option IssueFault → Option IssueFault
or_else None later = later
or_else (Some fault) later = Some fault

-- why the first pair that may not sign may not, if there is one; the pairs are numbered from i
abbrev pub first_unfit : ℕ → List PairParts → Option IssueFault
first_unfit i [] = None
first_unfit i (pair ∷ pairs) = or_else (unfit i pair) (first_unfit (i + 1) pairs)

-- ---- what is answered

-- why the first signature whose cost exceeds what those before it leave isn't made, if there is one; they are numbered from i
abbrev pub first_spent : ℕ → ℕ → List ℕ → Option IssueFault
first_spent i left [] = None
first_spent i left (cost ∷ costs) = if nat_lt left cost then Some (Spent i) else first_spent (i + 1) (left - cost) costs

-- the token, unless it has more than 1,048,576 octets or the costs exceed what is left
unfoldable pub token_within : ℕ → List ℕ → List ℕ → Result (List ℕ) IssueFault
token_within left costs token =
    if nat_lt LONGEST_TOKEN (length token) then Err TooLong
    else unless (first_spent 0 left costs) (Ok token)

-- what a pair's signature over these claims costs
abbrev pub pair_signing_cost : Option (List ℕ) → List ℕ → PairParts → ℕ
pair_signing_cost typ claims pair = signing_cost (spelling claims) (signer_of typ pair)

abbrev pub pair_costs : Option (List ℕ) → List ℕ → List PairParts → List ℕ
pair_costs typ claims pairs = map (pair_signing_cost typ claims) pairs

-- what is issued in each form where so many octets are left, or the first refusal

unfoldable pub issued_compact : ℕ → Option (List ℕ) → List ℕ → PairParts → Result (List ℕ) IssueFault
issued_compact left typ claims pair =
    unless (unfit 0 pair) (token_within left (pair_signing_cost typ claims pair ∷ []) (in_compact_form (spelling claims) (signer_of typ pair)))

unfoldable pub flattened_of : ℕ → Option (List ℕ) → List ℕ → PairParts → Result (List ℕ) IssueFault
flattened_of left typ claims pair =
    unless (unfit 0 pair) (token_within left (pair_signing_cost typ claims pair ∷ []) (flattened_token (spelling claims) (signer_of typ pair)))

unfoldable pub general_of : ℕ → Option (List ℕ) → List ℕ → List PairParts → Result (List ℕ) IssueFault
general_of left typ claims pairs =
    if length pairs == 0 then Err NoKey
    else if nat_lt 32 (length pairs) then Err TooManySignatures
    else unless (first_unfit 0 pairs)
    (token_within left (pair_costs typ claims pairs) (general_token (spelling claims) (map (signer_of typ) pairs)))
