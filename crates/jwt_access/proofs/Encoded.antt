-- What the encoder leaves in its buffer is the spelling.
use Rattle.std.proofs.Common.{◌≡◌, ℕ, ◌*◌, ◌+◌, ◌/◌, ◌≤◌, List, ◌++◌, length, take, drop, append-nil, sym, ap, ◌∙◌, arith}
use Rattle.std.proofs.Math.Seq.{take-append_seam}
use Rattle.base64.specs.Rfc4648.{unpadded_len}
use Rattle.base64.specs.Engines.{url_safe_no_pad}
use Rattle.base64.specs.GeneralPurpose.{encode_of, encoded_size_of, IsEncodedOver}
use Rattle.base64.proofs.RoundTrip.{length-encode_symbols}
use Rattle.jwt_text.specs.Base64url.{AreOctets, spelling}
use Rattle.jwt_text.proofs.Base64urlLemmas.{encoded}

pub fits : (n : ℕ) → n ≤ 64 → encoded_size_of url_safe_no_pad n ≤ 86
fits n h = (let small : (4 * n + 2) / 3 ≤ 86 = omega arith in small)

length_encoded : (m : List ℕ) → length (encode_of url_safe_no_pad m) ≡ unpadded_len (length m)
length_encoded m = ap length (append-nil _) ∙ length-encode_symbols _ m

pub spelled_in : (m old new : List ℕ) (len : ℕ) → AreOctets m → len ≡ encoded_size_of url_safe_no_pad (length m) → IsEncodedOver url_safe_no_pad m old new → take len new ≡ spelling m
spelled_in m old new len h is written =
    ap (λ (t : List ℕ). take len t) written
    ∙ ap (λ n. take n (encode_of url_safe_no_pad m ++ drop (encoded_size_of url_safe_no_pad (length m)) old)) (is ∙ sym (length_encoded m))
    ∙ take-append_seam (encode_of url_safe_no_pad m) _
    ∙ encoded m h
