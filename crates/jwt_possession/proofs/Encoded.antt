-- What the encoder leaves in a buffer of its size is the spelling; and an HMAC of few octets can be paid.
use Rattle.std.proofs.Common.{◌≡◌, ℕ, ◌+◌, ◌≤◌, Bool, true, false, cond, List, ◌++◌, length, append-nil, refl, ap, ◌∙◌, arith}
use Rattle.std.proofs.lemmas.List.{drop_all}
use Rattle.std.specs.Prelude.{nat_lt}
use Rattle.base64.specs.Engines.{url_safe_no_pad}
use Rattle.base64.specs.GeneralPurpose.{encode_of, encoded_size_of, IsEncodedOver}
use Rattle.jwt_mac.specs.Algorithm.{try_cost}
use Rattle.jwt_mac.specs.declared.algorithm.Alg.TheVariants.{HS256}
use Rattle.jwt_text.specs.Base64url.{AreOctets, spelling}
use Rattle.jwt_text.proofs.Base64urlLemmas.{encoded}

pub size_is : (n : ℕ) → n ≡ 32 → encoded_size_of url_safe_no_pad n ≡ 43
size_is n is = rw is refl

pub spelled_in : (m old new : List ℕ) → AreOctets m → length m ≡ 32 → length old ≡ 43 → IsEncodedOver url_safe_no_pad m old new → new ≡ spelling m
spelled_in m old new h is room written =
    let size = size_is (length m) is in
    let rest = drop_all (encoded_size_of url_safe_no_pad (length m)) old (omega (arith, size, room)) in
    written ∙ ap (λ (t : List ℕ). encode_of url_safe_no_pad m ++ t) rest ∙ append-nil _ ∙ encoded m h

at_most : (b : Bool) (k : ℕ) → cond b k 0 ≤ k
at_most true k = omega arith
at_most false k = omega arith

pub cost_is_small : (k m : ℕ) → try_cost HS256 k m ≤ m + k + 160
unfolding try_cost
cost_is_small k m = let less = at_most (nat_lt 64 k) k in omega arith
