-- The tests of a signature, one after the other.
use Rattle.std.proofs.Common.{◌≡◌, ◌≢◌, ℕ, ◌≤◌, ◌<◌, sym, ◌∙◌, ap, refl, false, ◌&&◌, nat_lt, List, length, take, drop}
use Rattle.std.specs.Prelude.{Some, None, not}
use Rattle.std.proofs.lemmas.Bool.{and_left, and_right, eq-eqb, ne_eqb, lt-ltb, le-ltb}
use Rattle.jwt_ed25519.specs.Octets.{number_of}
use Rattle.jwt_ed25519.specs.Points.{Coordinates, L}
use Rattle.jwt_ed25519.specs.Decoding.{decoded}
use Rattle.jwt_ed25519.specs.Verifying.{is_small, is_key_for, challenge, equation_holds, is_signature}

module _ (key message signature : List ℕ) where
  pub other_length : length signature ≢ 64 → false ≡ is_signature key message signature
  unfolding is_signature
  other_length other = sym (and_left _ _ (and_left _ _ (ne_eqb (length signature) 64 other)))

  pub s_above : (s : ℕ) → s ≡ number_of (drop 32 signature) → L ≤ s → false ≡ is_signature key message signature
  unfolding is_signature
  s_above s is above = sym (and_left _ _ (and_right _ _ (ap (λ k. nat_lt k L) (sym is) ∙ le-ltb s L above)))

  -- where the length and S are as they have to be
  tested : length signature ≡ 64 → number_of (drop 32 signature) < L →
      is_key_for (take 32 signature) (number_of (drop 32 signature)) (challenge (take 32 signature) key message) (decoded key)
      ≡ is_signature key message signature
  unfolding is_signature
  tested long below =
      let first = eq-eqb (length signature) 64 long in
      let second = lt-ltb (number_of (drop 32 signature)) L below in
      rw (first, second) refl

  pub no_point : length signature ≡ 64 → number_of (drop 32 signature) < L → None ≡ decoded key → false ≡ is_signature key message signature
  no_point long below none =
      ap (is_key_for (take 32 signature) (number_of (drop 32 signature)) (challenge (take 32 signature) key message)) none ∙ tested long below

  pub point_tested : (A : Coordinates) → length signature ≡ 64 → number_of (drop 32 signature) < L → Some A ≡ decoded key →
      (not (is_small A) && equation_holds A (take 32 signature) (number_of (drop 32 signature)) (challenge (take 32 signature) key message))
      ≡ is_signature key message signature
  point_tested A long below some =
      ap (is_key_for (take 32 signature) (number_of (drop 32 signature)) (challenge (take 32 signature) key message)) some ∙ tested long below
