-- Each entry gives a key or a skip, with its place.
use Rattle.std.proofs.Common.{◌≡◌, ℕ, zero, suc, ◌+◌, cond, List, [], ◌∷◌, ◌++◌, Option, Some, None, refl, sym, ap, subst, ◌∙◌, arith}
use Rattle.std.specs.Prelude.{map, not, is_none, option_map, slice_get, Result, Ok, Err}
use Rattle.std.specs.List.{All}
use Rattle.std.proofs.lemmas.List.Elements.{All-nil, All-cons, All-append, All-weaker}
use Rattle.serde_json.specs.Data.{Data, Members}
use Rattle.serde_json.specs.Find.{as_object}
use Rattle.jwt_text.specs.Answers.{unless}
use Rattle.jwt_text.specs.Rows.{Row, first_row}
use Rattle.jwt_keys.specs.Keys.{KeyParts}
use Rattle.jwt_keys.specs.Kinds.{kind_at}
use Rattle.jwt_keys.specs.SkipTable.{skip_rows, shape_skip_of, octet_skip_of}
use Rattle.jwt_keys.specs.Entries.{parts_of, key_of_kind, key_of, key_in, key_by_steps, key_if, skip_if}
use Rattle.jwt_keys.specs.KeySets.{keys_from, skips_from}
use Rattle.jwt_keys.specs.Laws.{is_readable, given_at, ListsEachEntry}
use Rattle.jwt_keys.specs.Numbers.{numbers}
use Rattle.jwt_keys.specs.declared.skip.Skip.{Skip}
use Rattle.jwt_keys.specs.declared.skip.SkipReason.{SkipReason}
use Rattle.jwt_keys.specs.declared.kind.KeyKind.{KeyKind}
use Rattle.jwt_keys.proofs.SkipTable.{ByRows, by_rows, key_in_is}

-- ---- a key has the place of its entry

abbrev HasPlace : ℕ → Result KeyParts SkipReason → Type 0
HasPlace place (Ok k) = k.place ≡ place
HasPlace place (Err reason) = Unit {0}

of_octets : (place : ℕ) (kind : KeyKind) (ms : Members) (o : Option SkipReason) → HasPlace place (unless o (Ok (parts_of place kind ms)))
of_octets place kind ms None = refl
of_octets place kind ms (Some reason) = tt

of_kind : (place : ℕ) (kind : Option KeyKind) (ms : Members) → HasPlace place (key_of_kind place kind ms)
of_kind place None ms = tt
of_kind place (Some kind) ms = of_octets place kind ms (octet_skip_of kind ms)

of_shape : (place : ℕ) (o : Option SkipReason) (a : Result KeyParts SkipReason) → HasPlace place a → HasPlace place (unless o a)
of_shape place None a h = h
of_shape place (Some reason) a h = tt

by_steps : (place : ℕ) (entry : Option Members) → HasPlace place (key_by_steps place entry)
unfolding key_of
by_steps place None = tt
by_steps place (Some ms) = of_shape place (shape_skip_of ms) (key_of_kind place (kind_at ms) ms) (of_kind place (kind_at ms) ms)

has_place : (place : ℕ) (entry : Option Members) → HasPlace place (key_in place entry)
has_place place entry = rw (key_in_is place entry) (by_steps place entry)

-- ---- the places

abbrev key_places : List KeyParts → List ℕ
key_places keys = map (λ k. k.place) keys

key_step : (place : ℕ) (rows : List (Row SkipReason)) (a : Result KeyParts SkipReason) (rest : List KeyParts) → ByRows rows a → HasPlace place a → key_places (key_if a ++ rest) ≡ cond (is_none (first_row rows)) (place ∷ key_places rest) (key_places rest)
key_step place rows (Ok k) rest h at = rw (h, at) refl
key_step place rows (Err reason) rest h at = rw h refl

readable : (n : ℕ) (ds : List Data) → key_places (keys_from n ds) ≡ numbers is_readable n ds
readable n [] = refl
readable n (d ∷ ds) =
    let e : suc n ≡ n + 1 = omega arith in
    key_step n (skip_rows (as_object d)) (key_in n (as_object d)) (keys_from (suc n) ds) (by_rows n (as_object d)) (has_place n (as_object d))
    ∙ rw (readable (suc n) ds, e) refl

abbrev skip_places : List Skip → List ℕ
skip_places skips = map (λ s. s.place) skips

skip_step : (place : ℕ) (rows : List (Row SkipReason)) (a : Result KeyParts SkipReason) (rest : List Skip) → ByRows rows a → skip_places (skip_if place a ++ rest) ≡ cond (not (is_none (first_row rows))) (place ∷ skip_places rest) (skip_places rest)
skip_step place rows (Ok k) rest h = rw h refl
skip_step place rows (Err reason) rest h = rw h refl

unreadable : (n : ℕ) (ds : List Data) → skip_places (skips_from n ds) ≡ numbers (λ d. not (is_readable d)) n ds
unreadable n [] = refl
unreadable n (d ∷ ds) =
    let e : suc n ≡ n + 1 = omega arith in
    skip_step n (skip_rows (as_object d)) (key_in n (as_object d)) (skips_from (suc n) ds) (by_rows n (as_object d))
    ∙ rw (unreadable (suc n) ds, e) refl

-- ---- what stands there, where the first entry has place n

abbrev given : ℕ → List Data → ℕ → Option (Result KeyParts SkipReason)
given place ds i = option_map (λ d. key_in place (as_object d)) (slice_get ds i)

abbrev KeyHere : ℕ → List Data → KeyParts → Type 0
KeyHere n ds k = (i : ℕ) × (k.place ≡ n + i) × (given k.place ds i ≡ Some (Ok k))

key_head : (n : ℕ) (d : Data) (ds : List Data) (a : Result KeyParts SkipReason) → key_in n (as_object d) ≡ a → HasPlace n a → All (KeyHere n (d ∷ ds)) (key_if a)
key_head n d ds (Ok k) e at = All-cons (KeyHere n (d ∷ ds)) k [] (zero, omega (arith, at), subst (λ (place : ℕ). given place (d ∷ ds) zero ≡ Some (Ok k)) (sym at) (ap Some e)) (All-nil (KeyHere n (d ∷ ds)))
key_head n d ds (Err reason) e at = All-nil (KeyHere n (d ∷ ds))

key_later : (n : ℕ) (d : Data) (ds : List Data) (k : KeyParts) → KeyHere (suc n) ds k → KeyHere n (d ∷ ds) k
key_later n d ds k h = (suc h.0, omega (arith, h.1), h.2)

keys_here : (n : ℕ) (ds : List Data) → All (KeyHere n ds) (keys_from n ds)
keys_here n [] = All-nil (KeyHere n [])
keys_here n (d ∷ ds) =
    All-append (KeyHere n (d ∷ ds)) (key_if (key_in n (as_object d))) (keys_from (suc n) ds)
    (key_head n d ds (key_in n (as_object d)) refl (has_place n (as_object d)))
    (All-weaker (KeyHere (suc n) ds) (KeyHere n (d ∷ ds)) (key_later n d ds) (keys_from (suc n) ds) (keys_here (suc n) ds))

key_given : (ds : List Data) (k : KeyParts) → KeyHere 0 ds k → given_at ds k.place ≡ Some (Ok k)
key_given ds k h =
    let same : h.0 ≡ k.place = omega (arith, h.1) in
    subst (λ (i : ℕ). given k.place ds i ≡ Some (Ok k)) same h.2

abbrev SkipHere : ℕ → List Data → Skip → Type 0
SkipHere n ds s = (i : ℕ) × (s.place ≡ n + i) × (given s.place ds i ≡ Some (Err s.reason))

skip_head : (n : ℕ) (d : Data) (ds : List Data) (a : Result KeyParts SkipReason) → key_in n (as_object d) ≡ a → All (SkipHere n (d ∷ ds)) (skip_if n a)
skip_head n d ds (Ok k) e = All-nil (SkipHere n (d ∷ ds))
skip_head n d ds (Err reason) e = All-cons (SkipHere n (d ∷ ds)) (record { place = n; reason = reason }) [] (zero, omega arith, ap Some e) (All-nil (SkipHere n (d ∷ ds)))

skip_later : (n : ℕ) (d : Data) (ds : List Data) (s : Skip) → SkipHere (suc n) ds s → SkipHere n (d ∷ ds) s
skip_later n d ds s h = (suc h.0, omega (arith, h.1), h.2)

skips_here : (n : ℕ) (ds : List Data) → All (SkipHere n ds) (skips_from n ds)
skips_here n [] = All-nil (SkipHere n [])
skips_here n (d ∷ ds) =
    All-append (SkipHere n (d ∷ ds)) (skip_if n (key_in n (as_object d))) (skips_from (suc n) ds)
    (skip_head n d ds (key_in n (as_object d)) refl)
    (All-weaker (SkipHere (suc n) ds) (SkipHere n (d ∷ ds)) (skip_later n d ds) (skips_from (suc n) ds) (skips_here (suc n) ds))

skip_given : (ds : List Data) (s : Skip) → SkipHere 0 ds s → given_at ds s.place ≡ Some (Err s.reason)
skip_given ds s h =
    let same : h.0 ≡ s.place = omega (arith, h.1) in
    subst (λ (i : ℕ). given s.place ds i ≡ Some (Err s.reason)) same h.2

pub lists_each_entry : ListsEachEntry
lists_each_entry ds = record {
  readable = readable 0 ds;
  keys = All-weaker (KeyHere 0 ds) (λ k. given_at ds k.place ≡ Some (Ok k)) (key_given ds) (keys_from 0 ds) (keys_here 0 ds);
  unreadable = unreadable 0 ds;
  skips = All-weaker (SkipHere 0 ds) (λ s. given_at ds s.place ≡ Some (Err s.reason)) (skip_given ds) (skips_from 0 ds) (skips_here 0 ds);
}
