-- The payload of a token in compact form, whichever policy it is read by.
use Rattle.std.proofs.Common.{◌≡◌, ◌∙◌, ◌⊎◌, ◌↔◌, ℕ, suc, zero, ◌-◌, Bool, true, false, List, [], ◌∷◌, ◌++◌, length, take, slice_get, Option, Some, None, refl, sym, ap, subst, inl, inr, arith, append_assoc, option_and_then, option_map, Vec, IfSome, Ok}
use Rattle.std.specs.Prelude.{◌==◌, ◌&&◌, ◌||◌, not, if◌then◌else◌}
use Rattle.std.specs.List.{find}
use Rattle.std.specs.Option.{option_map_or, option_or}
use Rattle.std.proofs.lemmas.Bool.{eqb-true}
use Rattle.std.proofs.lemmas.List.Folds.{find-append}
use Rattle.std.proofs.lemmas.List.Elements.{All-append, All-cons, All-nil}
use Rattle.jwt_text.specs.Base64url.{Spells, octets_of}
use Rattle.jwt_jws.specs.Forms.{SpelledToken, CompactTexts, is_period, opens_object}
use Rattle.jwt_jws.specs.CompactForm.{IsCompact, PartsCompact}
use Rattle.jwt_jws.specs.SignedToken.{IsSpelledToken}
use Rattle.jwt_jws.specs.Token.{Token}
use Rattle.jwt_policy.specs.Settings.{Settings}
use Rattle.jwt_verify.specs.Asks.{IsToken}
use Rattle.jwt_verify.specs.Accepted.{TellsTokens}
use Rattle.jwt_verify.specs.Reports.{IsReadAs}
use Rattle.jwt_verify.specs.Verdict.{checked, without_line_feed}
use Rattle.jwt_verify.specs.declared.report.Verdict.{Verdict}
use Rattle.jwt_policy.specs.declared.claim_fault.ClaimFault.{ClaimFault}
use Rattle.jwt_jws.specs.Views.{token}
use Rattle.jwt_jws.specs.declared.signed.Signed.{Signed}
use Rattle.std.specs.Arc.{arc_value}
use Rattle.std.specs.Global.{Global}
use Rattle.jwt_memory.specs.declared.memory.Basis.{Basis}
use Rattle.jwt_memory.specs.declared.memory.MemoryEntry.{MemoryEntry}
use Rattle.jwt_memory.specs.declared.memory.Memory.{Memory}
use Rattle.jwt_memory.specs.declared.outcome.Outcome.{Outcome}
use Rattle.jwt_memory.specs.declared.outcome.Outcome.TheVariants.{Judged, Accepted, Remembered}
use Rattle.jwt_memory.specs.Entries.{Holds}
use Rattle.jwt_memory.specs.Outcomes.{payload_or, payload_unless}
use Rattle.jwt_memory.specs.Payloads.{IsAcceptance, IsCompactPayload, IsPayloadRead, HandsOut, HandsOutRead, SpellsCompactPayloads, ReadsCompactPayloads}

-- ---- the line feed that is dropped

abbrev ends_line : List ℕ → Bool
ends_line x = option_map_or (λ octet. octet == 10) (slice_get x (length x - 1)) false

last_at : (x : List ℕ) (n : ℕ) → length x ≡ suc n → option_map_or (λ octet. octet == 10) (slice_get x n) false ≡ true → x ≡ take n x ++ 10 ∷ []
last_at [] n e is = absurd (omega (arith, e))
last_at (o ∷ []) zero e is = ap (λ o. o ∷ []) (eqb-true o 10 is)
last_at (o ∷ []) (suc n) e is = absurd (omega (arith, e))
last_at (o ∷ y ∷ rest) zero e is = absurd (omega (arith, e))
last_at (o ∷ y ∷ rest) (suc n) e is = ap (λ x. o ∷ x) (last_at (y ∷ rest) n (omega (arith, e)) is)

last_is : (x : List ℕ) → ends_line x ≡ true → x ≡ take (length x - 1) x ++ 10 ∷ []
last_is [] is = absurd cc
last_is (o ∷ rest) is = last_at (o ∷ rest) (length (o ∷ rest) - 1) (omega arith) is

trimmed : (drops : Bool) (x : List ℕ) → (without_line_feed drops x ≡ x) ⊎ (x ≡ without_line_feed drops x ++ 10 ∷ [])
trimmed drops x = by (drops && ends_line x) (and_right drops)
  where
    and_right : (drops : Bool) → drops && ends_line x ≡ true → ends_line x ≡ true
    and_right true is = is
    and_right false is = absurd cc

    by : (b : Bool) → (b ≡ true → ends_line x ≡ true) → ((if b then take (length x - 1) x else x) ≡ x) ⊎ (x ≡ (if b then take (length x - 1) x else x) ++ 10 ∷ [])
    by true is = inr (last_is x (is refl))
    by false is = inl refl

-- ---- what opens an object

abbrev is_no_space : ℕ → Bool
is_no_space octet = not (octet == 9 || octet == 10 || octet == 13 || octet == 32)

abbrev is_brace : Option ℕ → Bool
is_brace first = option_map_or (λ octet. octet == 123) first false

opens_still : (y more : List ℕ) → opens_object y ≡ true → opens_object (y ++ more) ≡ true
opens_still y more opens = ap is_brace (find-append is_no_space y more) ∙ by (find is_no_space y) opens
  where
    by : (first : Option ℕ) → is_brace first ≡ true → is_brace (option_or first (find is_no_space more)) ≡ true
    by None is = absurd cc
    by (Some octet) is = is

opens_too : (drops : Bool) (x : List ℕ) → opens_object (without_line_feed drops x) ≡ true → opens_object x ≡ true
opens_too drops x opens = elim (trimmed drops x) [
  | inl same ↦ subst (λ x. opens_object x ≡ true) same opens
  | inr longer ↦ subst (λ x. opens_object x ≡ true) (sym longer) (opens_still (without_line_feed drops x) (10 ∷ []) opens)
]

-- ---- the texts between the periods

-- the same texts, with a line feed behind the last
longer_too : (y a b c : List ℕ) → opens_object (y ++ 10 ∷ []) ≡ false → IsCompact y a b c → IsCompact (y ++ 10 ∷ []) a b (c ++ 10 ∷ [])
longer_too y a b c closed is = record {
  joined = ap (λ y. y ++ 10 ∷ []) is.joined ∙ append_assoc a (46 ∷ (b ++ 46 ∷ c)) (10 ∷ []) ∙ ap (λ t. a ++ 46 ∷ t) (append_assoc b (46 ∷ c) (10 ∷ []));
  protected = is.protected;
  payload = is.payload;
  signature = All-append (λ o. is_period o ≡ false) c (10 ∷ []) is.signature (All-cons (λ o. is_period o ≡ false) 10 [] refl (All-nil (λ o. is_period o ≡ false)));
  no_object = closed;
}

compact_too : (drops : Bool) (x a b c : List ℕ) → opens_object x ≡ false → IsCompact (without_line_feed drops x) a b c → (end : List ℕ) × IsCompact x a b end
compact_too drops x a b c closed is = elim (trimmed drops x) [
  | inl same ↦ (c, subst (λ y. IsCompact y a b c) same is)
  | inr longer ↦ (
    c ++ 10 ∷ [],
    subst (λ x. IsCompact x a b (c ++ 10 ∷ [])) (sym longer)
        (longer_too (without_line_feed drops x) a b c (subst (λ x. opens_object x ≡ false) longer closed) is),
  )
]

inside : {A : Type 0} {x y : A} → Some x ≡ Some y → x ≡ y
inside e = cc e

abbrev Spelled : Type 0
Spelled = (text octets : List ℕ) → (octets_of text ≡ Some octets) ↔ Spells text octets

pub spells_compact_payloads : PartsCompact → Spelled → SpellsCompactPayloads
spells_compact_payloads parts spelled p x t closed (short, signed) = by signed.texts.1
  where
    by : IsSpelledToken p.run.max_signatures (without_line_feed p.run.line_feed x) signed.texts.0 → IsCompactPayload x t.payload
    by (inl (a, b, c, is, made)) =
        let there = compact_too p.run.line_feed x a b c closed is in
        let text : t.payload_text ≡ b = signed.texts.3 ∙ ap (λ (s : SpelledToken). s.payload) made in
        ap (option_and_then (λ (texts : CompactTexts). octets_of texts.payload)) ((parts x a b there.0 closed).1 there.1)
        ∙ (spelled b t.payload).1 (subst (λ text. Spells text t.payload) text signed.payload)
    by (inr json) = let opens = opens_too p.run.line_feed x json.opens in absurd cc

pub reads_compact_payloads : PartsCompact → Spelled → ReadsCompactPayloads
reads_compact_payloads parts spelled p x payload closed is token asks =
    inside (sym (spells_compact_payloads parts spelled p x token closed asks) ∙ is)

-- ---- what was read

read_once : TellsTokens → (p : Settings) (x : List ℕ) (one other : Token) → IsToken p x one → IsToken p x other → other ≡ one
read_once tells p x one other is too =
    let same : Ok other ≡ Ok one = sym ((tells p x other).1 too) ∙ (tells p x one).1 is in cc

pub hands_out_read : TellsTokens → HandsOutRead
hands_out_read tells p x v read None is from = tt
hands_out_read tells p x v None (Some payload) is from = absurd from
hands_out_read tells p x v (Some signed) (Some payload) is from =
    (from.0, λ other too. ap (λ (t : Token). t.payload) (read_once tells p x (token signed) other is too) ∙ sym from.1)

-- ---- what is kept of it

pub read_is_accepted : (v : Verdict) (read : Option Signed) (payload : Option (Vec ℕ Global)) → IsPayloadRead v read (option_map (λ o. o.items) payload) → IfSome payload (λ _. IsAcceptance v)
read_is_accepted v read None from = tt
read_is_accepted v None (Some payload) from = absurd from
read_is_accepted v (Some signed) (Some payload) from = from.0

pub read_is_spelled : SpellsCompactPayloads → (p : Settings) (x : List ℕ) (v : Verdict) (read : Option Signed) (payload : Option (Vec ℕ Global))
    → IsReadAs p x v read → IsPayloadRead v read (option_map (λ o. o.items) payload) → IfSome payload (λ o. opens_object x ≡ false → IsCompactPayload x o.items)
read_is_spelled spells p x v read None is from = tt
read_is_spelled spells p x v None (Some payload) is from = absurd from
read_is_spelled spells p x v (Some signed) (Some payload) is from =
    λ closed. subst (IsCompactPayload x) (sym from.1) (spells p x (token signed) closed is)

-- ---- what a memory hands out

pub recalled_payload : ReadsCompactPayloads → (p : Settings) (x : List ℕ) (w : ℕ) (b : Basis) (m : Memory) (o : Option ClaimFault)
    → ((e : MemoryEntry) × Holds m e × (e.octets.items ≡ x) × (e.ceiling ≡ w) × (arc_value e.basis ≡ b))
    → HandsOut p x (checked b.signature b.key b.claims o) (payload_unless o b.payload.items)
recalled_payload reads p x w b m None (e, held, same, under, by) = (
  tt,
  reads p x b.payload.items (subst (λ x. opens_object x ≡ false) same (m.compact e held))
      (subst (λ x. IsCompactPayload x b.payload.items) same (subst (λ (b : Basis). IsCompactPayload e.octets.items b.payload.items) by e.payload)),
)
recalled_payload reads p x w b m (Some fault) is = tt

pub handed_anew : (p : Settings) (x : List ℕ) (v u : Verdict) (o q : Option (List ℕ)) → v ≡ u → o ≡ q → HandsOut p x u q → HandsOut p x v o
handed_anew p x v u o q same too is = subst (λ v. HandsOut p x v o) (sym same) (subst (HandsOut p x u) (sym too) is)

-- what stands beside an outcome plays no part
pub shared_is_handed : (p : Settings) (x : List ℕ) (v : Verdict) (beside : Option (List ℕ)) (o : Outcome) → HandsOut p x v (payload_or beside o) → HandsOut p x v (payload_or None o)
shared_is_handed p x v beside (Judged r) h = tt
shared_is_handed p x v beside (Accepted b) h = h
shared_is_handed p x v beside (Remembered b f) h = h

pub compact_is_handed : ReadsCompactPayloads → (p : Settings) (x : List ℕ) (v : Verdict) (payload : Option (Vec ℕ Global))
    → IfSome payload (λ _. IsAcceptance v) → IfSome payload (λ _. opens_object x ≡ false) → IfSome payload (λ o. IsCompactPayload x o.items)
    → HandsOut p x v (option_map (λ o. o.items) payload)
compact_is_handed reads p x v None accepted closed is = tt
compact_is_handed reads p x v (Some payload) accepted closed is = (accepted, reads p x payload.items closed is)
