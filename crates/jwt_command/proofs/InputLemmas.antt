-- What a reading took and gave, where the source's octets are known.
use Rattle.std.proofs.Common.{◌≡◌, ◌≤◌, ◌⊎◌, inl, inr, ℕ, ◌+◌, ◌-◌, Bool, true, false, List, [], length, drop, Option, None, Some, Ok, Err, IfSome, refl, sym, ap, subst, ◌∙◌, drop_at, arith}
use Rattle.std.proofs.lemmas.List.{drop_all}
use Rattle.jwt_text.specs.Intake.{Bounded, Reads, TakesAtMost}
use Rattle.jwt_text.specs.declared.fault.TextFault.{TextFault}
use Rattle.jwt_text.specs.declared.fault.TextFault.TheVariants.{OutOfMemory, Read, TooLong, Base64, Json, NotObject, NameTwice}
use Rattle.jwt_command.specs.Input.{ReadsInput}

-- what a reading that ended early took
taken_by : (T : Type 0) (e : TextFault) (limit : ℕ) (new : Bounded) (x : List ℕ) (rest : Option (List ℕ)) (failed : Bool)
    → Reads {T = T} (Err e) (record { limit = limit; octets = [] }) new x rest → (e ≡ Read → failed ≡ true) → (failed ≡ true) ⊎ TakesAtMost (limit + 1) x rest
taken_by T Read limit new x rest failed h read = inl (read refl)
taken_by T TooLong limit new x rest failed h read =
    let all : limit + 1 - 0 ≡ limit + 1 = omega arith in
    inr (limit + 1, omega arith, h.1 ∙ ap (λ n. Some (drop n x)) all)
taken_by T OutOfMemory limit new x rest failed h read =
    let within : length new.octets ≤ limit + 1 = omega (arith, h.3) in
    inr (length new.octets, within, h.1 ∙ ap Some (sym (drop_at new.octets h.0 (length new.octets) refl)) ∙ ap (λ l. Some (drop (length new.octets) l)) h.2)
taken_by T Base64 limit new x rest failed h read = absurd h
taken_by T Json limit new x rest failed h read = absurd h
taken_by T NotObject limit new x rest failed h read = absurd h
taken_by T NameTwice limit new x rest failed h read = absurd h

abbrev pub empty_intake : ℕ → Bounded
empty_intake limit = record { limit = limit; octets = [] }

from_empty : (T : Type 0) (told : Option (List ℕ)) (e : TextFault) (limit : ℕ) (new : Bounded) (rest : Option (List ℕ)) (failed : Bool)
    → IfSome told (λ x. Reads {T = T} (Err e) (empty_intake limit) new x rest) → (e ≡ Read → failed ≡ true)
    → IfSome told (λ x. (failed ≡ true) ⊎ TakesAtMost (limit + 1) x rest)
from_empty T None e limit new rest failed h read = tt
from_empty T (Some x) e limit new rest failed h read = taken_by T e limit new x rest failed h read

pub takes_at_most : (T : Type 0) (told : Option (List ℕ)) (e : TextFault) (limit : ℕ) (old new : Bounded) (rest : Option (List ℕ)) (failed : Bool) → old ≡ empty_intake limit
    → IfSome told (λ x. Reads {T = T} (Err e) old new x rest) → (e ≡ Read → failed ≡ true)
    → IfSome told (λ x. (failed ≡ true) ⊎ TakesAtMost (limit + 1) x rest)
takes_at_most T told e limit old new rest failed is h read =
    from_empty T told e limit new rest failed (subst (λ (o : Bounded). IfSome told (λ x. Reads {T = T} (Err e) o new x rest)) is h) read

-- a new intake holds nothing
pub holds_nothing : (limit : ℕ) (old : Bounded) → old ≡ empty_intake limit → length old.octets ≤ old.limit
holds_nothing limit old is = subst (λ (o : Bounded). length o.octets ≤ o.limit) (sym is) (omega arith)

some_all : (T : Type 0) (told : Option (List ℕ)) (t : T) (limit : ℕ) (new : Bounded) (rest : Option (List ℕ)) (failed : Bool)
    → IfSome told (λ x. Reads {T = T} (Ok t) (empty_intake limit) new x rest) → IfSome told (λ x. (failed ≡ true) ⊎ TakesAtMost (limit + 1) x rest)
some_all T None t limit new rest failed h = tt
some_all T (Some x) t limit new rest failed h =
    let within : length x ≤ limit + 1 = omega (arith, h.2) in
    inr (length x, within, h.1 ∙ ap Some (sym (drop_all (length x) x (omega arith))))

-- what a reading to the end took
pub takes_all : (T : Type 0) (told : Option (List ℕ)) (t : T) (limit : ℕ) (old new : Bounded) (rest : Option (List ℕ)) (failed : Bool) → old ≡ empty_intake limit
    → IfSome told (λ x. Reads {T = T} (Ok t) old new x rest) → IfSome told (λ x. (failed ≡ true) ⊎ TakesAtMost (limit + 1) x rest)
takes_all T told t limit old new rest failed is h =
    some_all T told t limit new rest failed (subst (λ (o : Bounded). IfSome told (λ x. Reads {T = T} (Ok t) o new x rest)) is h)

-- what a reading that ended early gives
reads_by : (T : Type 0) (e : TextFault) (limit : ℕ) (new : Bounded) (x : List ℕ) (rest : Option (List ℕ)) (failed : Bool)
    → Reads {T = T} (Err e) (empty_intake limit) new x rest → (e ≡ Read → failed ≡ true) → (e ≡ TooLong → failed ≡ false) → ReadsInput limit failed x (Err e)
reads_by T Read limit new x rest failed h read long = read refl
reads_by T TooLong limit new x rest failed h read long = (long refl, h.2)
reads_by T OutOfMemory limit new x rest failed h read long = tt
reads_by T Base64 limit new x rest failed h read long = absurd h
reads_by T Json limit new x rest failed h read long = absurd h
reads_by T NotObject limit new x rest failed h read long = absurd h
reads_by T NameTwice limit new x rest failed h read long = absurd h

some_reads : (T : Type 0) (told : Option (List ℕ)) (e : TextFault) (limit : ℕ) (new : Bounded) (rest : Option (List ℕ)) (failed : Bool)
    → IfSome told (λ x. Reads {T = T} (Err e) (empty_intake limit) new x rest) → (e ≡ Read → failed ≡ true) → (e ≡ TooLong → failed ≡ false)
    → IfSome told (λ x. ReadsInput limit failed x (Err e))
some_reads T None e limit new rest failed h read long = tt
some_reads T (Some x) e limit new rest failed h read long = reads_by T e limit new x rest failed h read long

pub reads_input : (T : Type 0) (told : Option (List ℕ)) (e : TextFault) (limit : ℕ) (old new : Bounded) (rest : Option (List ℕ)) (failed : Bool) → old ≡ empty_intake limit
    → IfSome told (λ x. Reads {T = T} (Err e) old new x rest) → (e ≡ Read → failed ≡ true) → (e ≡ TooLong → failed ≡ false)
    → IfSome told (λ x. ReadsInput limit failed x (Err e))
reads_input T told e limit old new rest failed is h read long =
    some_reads T told e limit new rest failed (subst (λ (o : Bounded). IfSome told (λ x. Reads {T = T} (Err e) o new x rest)) is h) read long
