-- The keys and the skips, entry by entry.
use Rattle.std.proofs.Common.{◌≡◌, ℕ, zero, suc, ◌+◌, ◌<◌, List, [], ◌∷◌, ◌++◌, length, drop, slice_get, option_and_then, map, refl, arith, add-one, length-append, ◌≤◌}
use Rattle.serde_json.specs.Data.{Data}
use Rattle.std.specs.Prelude.{unwrap_or, Result, Ok, Err}
use Rattle.jwt_keys.specs.Keys.{KeyParts}
use Rattle.jwt_keys.specs.declared.skip.SkipReason.{SkipReason}
use Rattle.serde_json.specs.Find.{as_object, as_str}
use Rattle.jwt_keys.specs.Entries.{text_or_empty}
use Rattle.jwt_keys.specs.KeySets.{keys_from, skips_from}
use Rattle.jwt_keys.specs.Entries.{key_in, key_by_steps, key_if, skip_if}
use Rattle.jwt_keys.proofs.SkipTable.{key_in_is}

key_here : (base : ℕ) (ds : List Data) (i : ℕ) → i < length ds → keys_from (base + i) (drop i ds) ≡ key_if (key_in (base + i) (option_and_then as_object (slice_get ds i))) ++ keys_from (suc (base + i)) (drop (suc i) ds)
key_here base [] i l = absurd (omega arith)
key_here base (d ∷ ds) zero l = refl
key_here base (d ∷ ds) (suc i) l =
    let e : base + suc i ≡ suc base + i = omega arith in
    rw e (key_here (suc base) ds i (omega arith))

pub keys_more : (ds : List Data) (i : ℕ) → i < length ds → keys_from i (drop i ds) ≡ key_if (key_by_steps i (option_and_then as_object (slice_get ds i))) ++ keys_from (i + 1) (drop (i + 1) ds)
keys_more ds i l =
    let e : 0 + i ≡ i = omega arith in
    let is = key_in_is i (option_and_then as_object (slice_get ds i)) in
    rw (← is) (rw add-one (rw e at (key_here 0 ds i l)))

skip_here : (base : ℕ) (ds : List Data) (i : ℕ) → i < length ds → skips_from (base + i) (drop i ds) ≡ skip_if (base + i) (key_in (base + i) (option_and_then as_object (slice_get ds i))) ++ skips_from (suc (base + i)) (drop (suc i) ds)
skip_here base [] i l = absurd (omega arith)
skip_here base (d ∷ ds) zero l = refl
skip_here base (d ∷ ds) (suc i) l =
    let e : base + suc i ≡ suc base + i = omega arith in
    rw e (skip_here (suc base) ds i (omega arith))

pub skips_more : (ds : List Data) (i : ℕ) → i < length ds → skips_from i (drop i ds) ≡ skip_if i (key_by_steps i (option_and_then as_object (slice_get ds i))) ++ skips_from (i + 1) (drop (i + 1) ds)
skips_more ds i l =
    let e : 0 + i ≡ i = omega arith in
    let is = key_in_is i (option_and_then as_object (slice_get ds i)) in
    rw (← is) (rw add-one (rw e at (skip_here 0 ds i l)))

text_here : (ds : List Data) (i : ℕ) → i < length ds → map text_or_empty (drop i ds) ≡ unwrap_or (option_and_then as_str (slice_get ds i)) [] ∷ map text_or_empty (drop (suc i) ds)
text_here [] i l = absurd (omega arith)
text_here (d ∷ ds) zero l = refl
text_here (d ∷ ds) (suc i) l = text_here ds i (omega arith)

pub texts_more : (ds : List Data) (i : ℕ) → i < length ds → map text_or_empty (drop i ds) ≡ unwrap_or (option_and_then as_str (slice_get ds i)) [] ∷ map text_or_empty (drop (i + 1) ds)
texts_more ds i l = rw add-one (text_here ds i l)

key_if-length : (a : Result KeyParts SkipReason) → length (key_if a) ≤ 1
key_if-length (Ok k) = omega arith
key_if-length (Err r) = omega arith

-- no more keys than entries
pub keys_from-length : (n : ℕ) (ds : List Data) → length (keys_from n ds) ≤ length ds
keys_from-length n [] = omega arith
keys_from-length n (d ∷ ds) =
    let one = key_if-length (key_in n (as_object d)) in
    let more = keys_from-length (suc n) ds in
    rw (length-append (key_if (key_in n (as_object d))) (keys_from (suc n) ds)) (omega (arith, one, more))
