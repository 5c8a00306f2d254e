-- The signed token that is issued (RFC 7515), as it is read.
use Rattle.std.specs.Prelude.{ℕ, List, [], ◌∷◌, Option, None, map}
use Rattle.jwt_mac.specs.Algorithm.{tag_of}
use Rattle.jwt_jws.specs.Token.{SignatureParts, Token}
use Rattle.jwt_jws.specs.declared.fault.Form.{Form}
use Rattle.jwt_jws.specs.declared.fault.Form.TheVariants.{Compact, General, Flattened}
use Rattle.jwt_text.specs.Base64url.{spelling}
use Rattle.jwt_issue.specs.Issued.{PairParts, header, header_spelling, signer_of, input_of}

-- the octets of a pair's signature: the HMAC of its own key and its signing input (RFC 7518, section 3.2)
abbrev pub tag_over : Option (List ℕ) → List ℕ → PairParts → List ℕ
tag_over typ claims pair = tag_of pair.alg (signer_of typ pair).secret (input_of (spelling claims) (signer_of typ pair))

abbrev pub signature_over : Option (List ℕ) → List ℕ → PairParts → SignatureParts
signature_over typ claims pair = record {
  protected_text = header_spelling typ pair;
  protected = header typ pair;
  unprotected = None;
  octets = tag_over typ claims pair;
}

-- the token in this form: these claims, and a signature for each pair, in their order
abbrev signed : Form → Option (List ℕ) → List ℕ → List PairParts → Token
signed form typ claims pairs = record {
  form = form;
  payload_text = spelling claims;
  payload = claims;
  signatures = map (signature_over typ claims) pairs;
}

abbrev pub compact_signed : Option (List ℕ) → List ℕ → PairParts → Token
compact_signed typ claims pair = signed Compact typ claims (pair ∷ [])

abbrev pub flattened_signed : Option (List ℕ) → List ℕ → PairParts → Token
flattened_signed typ claims pair = signed Flattened typ claims (pair ∷ [])

abbrev pub general_signed : Option (List ℕ) → List ℕ → List PairParts → Token
general_signed typ claims pairs = signed General typ claims pairs
