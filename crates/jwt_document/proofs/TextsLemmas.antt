-- The texts of a list, place by place.
use Rattle.std.proofs.Common.{◌≡◌, ℕ, zero, suc, ◌+◌, ◌<◌, List, [], ◌∷◌, ◌++◌, length, take, slice_get, map, option_and_then, unwrap_or, refl, ap, sym, arith, add-one}
use Rattle.std.proofs.lemmas.List.{map-append}
use Rattle.std.specs.Borrow.{Bor}
use Rattle.serde_json.specs.Data.{Data}
use Rattle.serde_json.specs.Find.{as_str}
use Rattle.jwt_document.specs.Said.{texts, text_of}

texts_at : (ds : List Data) (i : ℕ) → i < length ds → map text_of (take (suc i) ds) ≡ map text_of (take i ds) ++ unwrap_or (option_and_then as_str (slice_get ds i)) [] ∷ []
texts_at [] i lt = absurd (omega arith)
texts_at (d ∷ ds) zero lt = refl
texts_at (d ∷ ds) (suc i) lt = ap (λ (ts : List (List ℕ)). text_of d ∷ ts) (texts_at ds i (omega arith))

pub texts_push : (ds : List Data) (i : ℕ) (vs : List (Bor (List ℕ))) (v : Bor (List ℕ)) → i < length ds → texts vs ≡ map text_of (take i ds) → v.now ≡ unwrap_or (option_and_then as_str (slice_get ds i)) [] → texts (vs ++ v ∷ []) ≡ map text_of (take (i + 1) ds)
texts_push ds i vs v lt so_far here = rw (add-one, map-append (λ (t : Bor (List ℕ)). t.now) vs (v ∷ []), so_far, here) (sym (texts_at ds i lt))
