-- What is verified depends on which keys are there, and not on their order.
use Rattle.std.proofs.Common.{◌≡◌, ℕ, zero, suc, ◌+◌, Bool, true, false, cond, List, [], ◌∷◌, map, length, refl, sym, ◌∙◌, ap, arith, inl, inr, Option, None, Some}
use Rattle.std.specs.Prelude.{◌&&◌, ◌||◌, not, slice_get}
use Rattle.std.specs.List.{list_any, list_all, range_with_len, find}
use Rattle.std.specs.Option.{option_map_or}
use Rattle.std.proofs.lemmas.List.Folds.{Any-from_list_any, list_any_at}
use Rattle.std.proofs.lemmas.Simd.{map-map}
use Rattle.std.proofs.lemmas.Bool.{cases_Bool}
use Rattle.jwt_mac.specs.Verifying.{Meaning}
use Rattle.jwt_jws.specs.Token.{Token, SignatureParts, message_of}
use Rattle.jwt_keys.specs.Keys.{KeyParts}
use Rattle.jwt_policy.specs.declared.mode.Mode.{Mode}
use Rattle.jwt_policy.specs.declared.mode.Mode.TheVariants.{Any as AnyOf, All as AllOf}
use Rattle.jwt_policy.specs.declared.sig_fault.SigFault.{SigFault}
use Rattle.jwt_policy.specs.Settings.{Settings}
use Rattle.jwt_policy.specs.Eligible.{eligible_for}
use Rattle.jwt_verify.specs.declared.report.SigState.{SigState}
use Rattle.jwt_verify.specs.declared.report.SigState.TheVariants.{Barred, NoKey, BadSignature, Verified, NotReached}
use Rattle.jwt_verify.specs.Table.{Table, below, verifies, verified, reached, reached_in, state_at, states_at, outcome}
use Rattle.jwt_verify.proofs.SignedBy.{state_of}
use Rattle.jwt_verify.specs.Trying.{valid_by, table_of}
use Rattle.jwt_verify.specs.Laws.{unplaced, AreAmong, kind_of_state}
use Rattle.jwt_verify.proofs.Below.{map-agree}

same_bool : (a b : Bool) → (a ≡ true → b ≡ true) → (b ≡ true → a ≡ true) → a ≡ b
same_bool true b f h = sym (f refl)
same_bool false true f h = h refl
same_bool false false f h = refl

any_agree : {X : Type 0} (p q : X → Bool) → ((x : X) → p x ≡ q x) → (xs : List X) → list_any p xs ≡ list_any q xs
any_agree p q h [] = refl
any_agree p q h (x ∷ xs) = rw (h x, any_agree p q h xs) refl

all_agree : {X : Type 0} (p q : X → Bool) → ((x : X) → p x ≡ q x) → (xs : List X) → list_all p xs ≡ list_all q xs
all_agree p q h [] = refl
all_agree p q h (x ∷ xs) = rw (h x, all_agree p q h xs) refl

abbrev at_key : (KeyParts → Bool) → List KeyParts → ℕ → Bool
at_key p keys j = option_map_or p (slice_get keys j) false

shift : (q : ℕ → Bool) (a n : ℕ) → list_any q (range_with_len (suc a) n) ≡ list_any (λ j. q (suc j)) (range_with_len a n)
shift q a zero = refl
shift q a (suc n) =
    let e : suc a + 1 ≡ suc (a + 1) = omega arith in
    ap (λ b. q (suc a) || b) (ap (λ m. list_any q (range_with_len m n)) e ∙ shift q (a + 1) n)

-- a test of the keys by their numbers is the test of the keys
any_by_number : (p : KeyParts → Bool) (keys : List KeyParts) → list_any (at_key p keys) (range_with_len 0 (length keys)) ≡ list_any p keys
any_by_number p [] = refl
any_by_number p (k ∷ keys) = ap (λ b. p k || b) (shift (at_key p (k ∷ keys)) 0 (length keys) ∙ any_by_number p keys)

-- a test that doesn't look at a key's place
any_more : (p : KeyParts → Bool) → ((k : KeyParts) → p k ≡ p (unplaced k)) → (keys more : List KeyParts) → AreAmong more keys → list_any p keys ≡ true → list_any p more ≡ true
any_more p unseen keys more h t =
    let here = Any-from_list_any p keys t in
    let there = rw here.3 at (h here.0 here.1 here.2) in
    let o = there.0 in
    let yes : p o ≡ true = unseen o ∙ ap p there.2 ∙ sym (unseen here.1) ∙ here.4 in
    list_any_at p more there.1.0 o there.1.1 (ap p there.1.2 ∙ yes)

-- the kind of a state depends on whether a key was found
found_kind : (p : ℕ → Bool) (xs : List ℕ) (d : SigState) → kind_of_state (option_map_or Verified (find p xs) d) ≡ cond (list_any p xs) (Verified 0) (kind_of_state d)
found_kind p [] d = refl
found_kind p (x ∷ xs) d = elim (cases_Bool (p x)) [
  | inl t ↦ rw t refl
  | inr f ↦ rw f (found_kind p xs d)
]

abbrev barred_or : Option SigFault → SigState → SigState
barred_or (Some f) s = Barred f
barred_or None s = s

barred_kind : (o : Option SigFault) (seen : Bool) (p : ℕ → Bool) (xs : List ℕ) → kind_of_state (state_of o seen (find p xs)) ≡ barred_or o (cond (list_any p xs) (Verified 0) (kind_of_state (cond seen BadSignature NoKey)))
barred_kind (Some f) seen p xs = refl
barred_kind None seen p xs = found_kind p xs (cond seen BadSignature NoKey)

outcome_kind : (t : Table) (i : ℕ) → kind_of_state (outcome t i) ≡ barred_or (t.bar i) (cond (verified t i) (Verified 0) (kind_of_state (cond (list_any (t.eligible i) (below t.keys)) BadSignature NoKey)))
unfolding outcome verified
outcome_kind t i = barred_kind (t.bar i) (list_any (t.eligible i) (below t.keys)) (verifies t i) (below t.keys)

state_kind : (t : Table) (i : ℕ) → kind_of_state (state_at t None i) ≡ cond (reached t i) (kind_of_state (outcome t i)) NotReached
unfolding state_at
state_kind t i = elim (reached t i) as (λ b. kind_of_state (cond (b && true) (outcome t i) NotReached) ≡ cond b (kind_of_state (outcome t i)) NotReached) [ true ↦ refl | false ↦ refl ]

module _ (p : Settings) (v : List Meaning) (t : Token) where
  abbrev of : List KeyParts → Table
  of keys = table_of p v keys t

  -- the key is eligible for signature i; it is eligible and valid
  fits_at : ℕ → KeyParts → Bool
  fits_at i k = option_map_or (λ s. eligible_for p s k v) (slice_get t.signatures i) false

  passes_at : ℕ → KeyParts → Bool
  passes_at i k = option_map_or (λ s. eligible_for p s k v && valid_by v (message_of t s) s k) (slice_get t.signatures i) false

  fits_unseen : (i : ℕ) (k : KeyParts) → fits_at i k ≡ fits_at i (unplaced k)
  unfolding fits_at eligible_for
  fits_unseen i k = refl

  passes_unseen : (i : ℕ) (k : KeyParts) → passes_at i k ≡ passes_at i (unplaced k)
  unfolding passes_at eligible_for valid_by
  passes_unseen i k = refl

  fits_key : (keys : List KeyParts) (i j : ℕ) → (of keys).eligible i j ≡ at_key (fits_at i) keys j
  unfolding fits_at
  fits_key keys i j = go (slice_get t.signatures i) (slice_get keys j)
    where
      go : (s : Option SignatureParts) (k : Option KeyParts) → option_map_or (λ s. option_map_or (λ k. eligible_for p s k v) k false) s false
          ≡ option_map_or (λ k. option_map_or (λ s. eligible_for p s k v) s false) k false
      go None None = refl
      go None (Some k) = refl
      go (Some s) None = refl
      go (Some s) (Some k) = refl

  passes_key : (keys : List KeyParts) (i j : ℕ) → verifies (of keys) i j ≡ at_key (passes_at i) keys j
  unfolding verifies passes_at
  passes_key keys i j = go (slice_get t.signatures i) (slice_get keys j)
    where
      go : (s : Option SignatureParts) (k : Option KeyParts)
          → (option_map_or (λ s. option_map_or (λ k. eligible_for p s k v) k false) s false && option_map_or (λ s. option_map_or (λ k. valid_by v (message_of t s) s k) k false) s false)
          ≡ option_map_or (λ k. option_map_or (λ s. eligible_for p s k v && valid_by v (message_of t s) s k) s false) k false
      go None None = refl
      go None (Some k) = refl
      go (Some s) None = refl
      go (Some s) (Some k) = refl

  verified_of : (keys : List KeyParts) (i : ℕ) → verified (of keys) i ≡ list_any (passes_at i) keys
  unfolding verified below
  verified_of keys i = any_agree (verifies (of keys) i) (at_key (passes_at i) keys) (passes_key keys i) (range_with_len 0 (length keys)) ∙ any_by_number (passes_at i) keys

  eligible_of : (keys : List KeyParts) (i : ℕ) → list_any ((of keys).eligible i) (below (length keys)) ≡ list_any (fits_at i) keys
  unfolding below
  eligible_of keys i = any_agree ((of keys).eligible i) (at_key (fits_at i) keys) (fits_key keys i) (range_with_len 0 (length keys)) ∙ any_by_number (fits_at i) keys

  pub verified_more : (keys more : List KeyParts) → AreAmong more keys → (i : ℕ) → verified (of keys) i ≡ true → verified (of more) i ≡ true
  verified_more keys more h i y = verified_of more i ∙ any_more (passes_at i) (passes_unseen i) keys more h (sym (verified_of keys i) ∙ y)

  module _ (keys others : List KeyParts) (h : AreAmong others keys) (k : AreAmong keys others) where
    pub verified_same : (i : ℕ) → verified (of keys) i ≡ verified (of others) i
    verified_same i = same_bool (verified (of keys) i) (verified (of others) i) (verified_more keys others h i) (verified_more others keys k i)

    eligible_same : (i : ℕ) → list_any ((of keys).eligible i) (below (length keys)) ≡ list_any ((of others).eligible i) (below (length others))
    eligible_same i =
        eligible_of keys i
        ∙ same_bool (list_any (fits_at i) keys) (list_any (fits_at i) others) (any_more (fits_at i) (fits_unseen i) keys others h) (any_more (fits_at i) (fits_unseen i) others keys k)
        ∙ sym (eligible_of others i)

    reached_same : (m : Mode) (i : ℕ) → reached_in m (of keys) i ≡ reached_in m (of others) i
    unfolding reached_in
    reached_same AnyOf i = ap not (any_agree (verified (of keys)) (verified (of others)) verified_same (below i))
    reached_same AllOf i = all_agree (verified (of keys)) (verified (of others)) verified_same (below i)

    pub outcome_same : (i : ℕ) → kind_of_state (outcome (of keys) i) ≡ kind_of_state (outcome (of others) i)
    outcome_same i = rw (outcome_kind (of keys) i, outcome_kind (of others) i, verified_same i, eligible_same i) refl

    state_same : (i : ℕ) → kind_of_state (state_at (of keys) None i) ≡ kind_of_state (state_at (of others) None i)
    unfolding reached
    state_same i = rw (state_kind (of keys) i, state_kind (of others) i, reached_same p.run.mode i, outcome_same i) refl

    pub states_same : map kind_of_state (states_at (of keys) None) ≡ map kind_of_state (states_at (of others) None)
    unfolding states_at
    states_same = map-map _ _ (below (length t.signatures)) ∙ map-agree (λ i. kind_of_state (state_at (of keys) None i)) (λ i. kind_of_state (state_at (of others) None i)) (length t.signatures) (λ i l. state_same i) ∙ sym (map-map _ _ (below (length t.signatures)))
