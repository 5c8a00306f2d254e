-- A number that an option has, as `get_one` reads it and as `number_in` says.
use Rattle.std.proofs.Common.{◌≡◌, ◌≤◌, ℕ, Bool, true, false, List, Option, Some, None, refl, sym, ap, subst}
use Rattle.std.specs.Prelude.{Ok, Err, Result}
use Rattle.std.specs.Str.Parse.{ParsesUnsigned, ExplainsUnsignedError, HasUnsignedDigitsIfOk, digits_value, without_leading_plus}
use Rattle.clap.specs.Words.{ReadsOne}
use Rattle.clap.specs.ValueTests.{accepts}
use Rattle.clap.specs.declared.builder.ValueParser.TheVariants as vp
use Rattle.clap.proofs.ValueTestLemmas.{Accepts-accepts, accepts-Accepts}
use Rattle.jwt_words.specs.Words.{number_in}
use Rattle.std.specs.declared.num.ParseIntError.{ParseIntError}

module _ {E : Type 0} (G : List ℕ → Result ℕ E → Type 0) (only : (u : List ℕ) (x : Result ℕ E) → G u x → ParsesUnsigned 64 10 u x) (low high : ℕ) where
  in_range : (t : List ℕ) (v : ℕ) → ReadsOne G t (Some v) → low ≤ v → v ≤ high → number_in (vp.Unsigned low high) (Some t) ≡ Some v
  in_range t v h above below =
      let parsed = only t (Ok v) h in
      let is : v ≡ digits_value 10 (without_leading_plus t) = parsed.1 in
      let yes : accepts false (vp.Unsigned low high) t ≡ true = Accepts-accepts false (vp.Unsigned low high) t (parsed.0.0, parsed.0.1, subst (λ n. low ≤ n) is above, subst (λ n. n ≤ high) is below) in
      rw yes (ap Some (sym is))

  out_of_range : (t : List ℕ) (v : ℕ) → ReadsOne G t (Some v) → (low ≤ v → v ≤ high → ⊥) → number_in (vp.Unsigned low high) (Some t) ≡ None
  out_of_range t v h out = go (accepts false (vp.Unsigned low high) t) refl
    where
      go : (b : Bool) → accepts false (vp.Unsigned low high) t ≡ b → number_in (vp.Unsigned low high) (Some t) ≡ None
      go false e = rw e refl
      go true e =
          let is : v ≡ digits_value 10 (without_leading_plus t) = (only t (Ok v) h).1 in
          let a = accepts-Accepts false (vp.Unsigned low high) t e in
          absurd (out (subst (λ n. low ≤ n) (sym is) a.2) (subst (λ n. n ≤ high) (sym is) a.3))

  no_number : (t : List ℕ) → ReadsOne G t None → number_in (vp.Unsigned low high) (Some t) ≡ None
  no_number t h = go (accepts false (vp.Unsigned low high) t) refl
    where
      go : (b : Bool) → accepts false (vp.Unsigned low high) t ≡ b → number_in (vp.Unsigned low high) (Some t) ≡ None
      go false e = rw e refl
      go true e =
          let a = accepts-Accepts false (vp.Unsigned low high) t e in
          absurd (only t (Err h.0) h.1 (a.0, a.1))

  -- what `get_one` says of the text that it reads, and of an option that has none
  pub number_some : (o : Option (List ℕ)) (v : ℕ) → ((o ≡ None) → Some v ≡ None) → ((t : List ℕ) → o ≡ Some t → ReadsOne G t (Some v)) → low ≤ v → v ≤ high → number_in (vp.Unsigned low high) o ≡ Some v
  number_some None v none value above below = let bad = none refl in cc
  number_some (Some t) v none value above below = in_range t v (value t refl) above below

  pub number_out : (o : Option (List ℕ)) (v : ℕ) → ((t : List ℕ) → o ≡ Some t → ReadsOne G t (Some v)) → (low ≤ v → v ≤ high → ⊥) → number_in (vp.Unsigned low high) o ≡ None
  number_out None v value out = refl
  number_out (Some t) v value out = out_of_range t v (value t refl) out

  pub number_none : (o : Option (List ℕ)) → ((t : List ℕ) → o ≡ Some t → ReadsOne G t None) → number_in (vp.Unsigned low high) o ≡ None
  number_none None value = refl
  number_none (Some t) value = no_number t (value t refl)

-- what `from_str` of `u64` says of a text
abbrev pub ReadsU64 : List ℕ → Result ℕ ParseIntError → Type 0
ReadsU64 bs r = ParsesUnsigned 64 10 bs r × ExplainsUnsignedError 10 bs r × HasUnsignedDigitsIfOk bs r
