-- The first bad element of a list, place by place.
use Rattle.std.proofs.Common.{◌≡◌, ℕ, zero, suc, ◌+◌, ◌<◌, List, [], ◌∷◌, length, drop, slice_get, Option, Some, None, option_and_then, ap, subst, arith}
use Rattle.serde_json.specs.Data.{Data}
use Rattle.serde_json.specs.Find.{as_str}
use Rattle.jwt_document.specs.declared.rows.Form.{Form}
use Rattle.jwt_document.specs.declared.rows.Cause.{Cause}
use Rattle.jwt_document.specs.Tables.{element_cause, bad_or, first_bad}

pub bad_here : (f : Form) (ds : List Data) (n i : ℕ) (c : Cause) → i < length ds → element_cause f (option_and_then as_str (slice_get ds i)) ≡ Some c → first_bad f n (drop i ds) ≡ Some (record { cause = c; element = Some n })
bad_here f [] n i c lt h = absurd (omega arith)
bad_here f (d ∷ ds) n zero c lt h = ap (λ (o : Option Cause). bad_or n o (first_bad f (n + 1) ds)) h
bad_here f (d ∷ ds) n (suc i) c lt h = bad_here f ds n i c (omega arith) h

good_at : (f : Form) (ds : List Data) (n i : ℕ) → i < length ds → element_cause f (option_and_then as_str (slice_get ds i)) ≡ None → first_bad f n (drop i ds) ≡ first_bad f (n + 1) (drop (suc i) ds)
good_at f [] n i lt h = absurd (omega arith)
good_at f (d ∷ ds) n zero lt h = ap (λ (o : Option Cause). bad_or n o (first_bad f (n + 1) ds)) h
good_at f (d ∷ ds) n (suc i) lt h = good_at f ds n i (omega arith) h

pub good_here : (f : Form) (ds : List Data) (n i : ℕ) → i < length ds → element_cause f (option_and_then as_str (slice_get ds i)) ≡ None → first_bad f n (drop i ds) ≡ first_bad f (n + 1) (drop (i + 1) ds)
good_here f ds n i lt h =
    let next : suc i ≡ i + 1 = omega arith in
    subst (λ (k : ℕ). first_bad f n (drop i ds) ≡ first_bad f (n + 1) (drop k ds)) next (good_at f ds n i lt h)
