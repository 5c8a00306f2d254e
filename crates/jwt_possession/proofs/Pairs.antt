-- The text of a pair tells it from others: so marks tell pairs apart, or SHA-256 collides.
use Rattle.std.proofs.Common.{◌≡◌, ◌≢◌, ◌⊎◌, ℕ, ◌<◌, ◌^◌, List, ◌++◌, length, take, drop, inl, inr, sym, ap, ◌∙◌, append_assoc, refl}
use Rattle.std.specs.Int.{w64, to_be_bytes, from_be_bytes}
use Rattle.std.proofs.lemmas.Nat.{from_be_bytes-to_be_bytes_8}
use Rattle.std.proofs.Math.Seq.{take-append_seam, drop-append_seam}
use Rattle.std.proofs.lemmas.Bool.{cases_Bool, true≢false}
use Rattle.std.specs.Ordering.{is_eq}
use Rattle.jwt_possession.proofs.Queue.{same_mark, mark_as}
use Rattle.jwt_possession.specs.once.Tables.{by_mark}
use Rattle.jwt_mac.specs.Algorithm.{sha256_of}
use Rattle.jwt_possession.specs.once.Marks.{pair_text}
use Rattle.jwt_possession.specs.once.Laws.{Collision, TellsApart}

same_or_not : (a b : List ℕ) → (a ≡ b) ⊎ (a ≢ b)
same_or_not a b = elim (cases_Bool (is_eq (by_mark a b))) [
  | inl e ↦ inl (same_mark a b e)
  | inr e ↦ inr (λ same. true≢false (sym (mark_as a b same) ∙ e))
]

-- texts with one digest are the same, or collide
origin : (a b : List ℕ) → sha256_of a ≡ sha256_of b → (a ≡ b) ⊎ Collision
origin a b h = elim (same_or_not a b) [
  | inl e ↦ inl e
  | inr ne ↦ inr (a, b, ne, h)
]

fronts : (a b c d : List ℕ) → length a ≡ length c → a ++ b ≡ c ++ d → (a ≡ c) × (b ≡ d)
fronts a b c d long h = (
  sym (take-append_seam a b) ∙ ap (take (length a)) h ∙ ap (λ n. take n (c ++ d)) long ∙ take-append_seam c d,
  sym (drop-append_seam a b) ∙ ap (drop (length a)) h ∙ ap (λ n. drop n (c ++ d)) long ∙ drop-append_seam c d,
)

eight : (n : ℕ) → length (to_be_bytes w64 n) ≡ 8
eight n = refl

-- two pairs with one text are one pair
pub one_pair : (issuer jti other_issuer other_jti : List ℕ) → length issuer < 2 ^ 64 → length other_issuer < 2 ^ 64
    → pair_text issuer jti ≡ pair_text other_issuer other_jti → (issuer ≡ other_issuer) × (jti ≡ other_jti)
one_pair issuer jti other_issuer other_jti fits other_fits same =
    let n = length issuer in
    let m = length other_issuer in
    let cut = fronts (to_be_bytes w64 n) (issuer ++ jti) (to_be_bytes w64 m) (other_issuer ++ other_jti) (eight n ∙ sym (eight m))
    (sym (append_assoc (to_be_bytes w64 n) issuer jti) ∙ same ∙ append_assoc (to_be_bytes w64 m) other_issuer other_jti) in
    let long : n ≡ m = sym (from_be_bytes-to_be_bytes_8 n fits) ∙ ap (from_be_bytes w64) cut.0 ∙ from_be_bytes-to_be_bytes_8 m other_fits in
    fronts issuer jti other_issuer other_jti long cut.1

pub tells_apart : (issuer jti other_issuer other_jti : List ℕ) → length issuer < 2 ^ 64 → length other_issuer < 2 ^ 64 → TellsApart issuer jti other_issuer other_jti
tells_apart issuer jti other_issuer other_jti fits other_fits same = elim (origin (pair_text issuer jti) (pair_text other_issuer other_jti) same) [
  | inr found ↦ inr found
  | inl text ↦ inl (one_pair issuer jti other_issuer other_jti fits other_fits text)
]
