-- What is read, and where reading takes memory.
use Rattle.std.proofs.Common.{◌≡◌, ◌≢◌, ℕ, true, List, [], length, ◌⊎◌, inl, inr, Result, Ok, Err, IfOk, refl, sym, ◌∙◌, ap, subst}
use Rattle.std.specs.Prelude.{pos, IfErr}
use Rattle.std.proofs.lemmas.Bool.{cases_lt, lt-ltb, le-ltb}
use Rattle.jwt_jws.specs.declared.fault.FormFault.{FormFault}
use Rattle.jwt_jws.specs.declared.signed.Signed.{Signed}
use Rattle.jwt_text.specs.Answers.{Answers}
use Rattle.jwt_jws.specs.Token.{Token}
use Rattle.jwt_jws.specs.Views.{token}
use Rattle.jwt_jws.specs.Forms.{SpelledToken, opens_object, form_of}
use Rattle.jwt_jws.specs.CompactForm.{IsCompact}
use Rattle.jwt_jws.specs.SignedToken.{IsSpelledToken, ReadsSignedTokens}
use Rattle.jwt_jws.specs.FormFaults.{TellsFormFaults}
use Rattle.jwt_policy.specs.Settings.{Settings}
use Rattle.jwt_verify.specs.declared.report.Fault.{Fault}
use Rattle.jwt_verify.specs.declared.report.Fault.TheVariants.{OutOfMemory, Text, Form}
use Rattle.jwt_verify.specs.declared.report.InputFault.TheVariants.{TooLong}
use Rattle.jwt_verify.specs.declared.report.Verdict.{Verdict}
use Rattle.jwt_verify.specs.declared.report.Verdict.TheVariants.{Refused}
use Rattle.jwt_verify.specs.Verdict.{Terms, formed, token_of, without_line_feed}
use Rattle.jwt_verify.specs.Asks.{IsToken}
use Rattle.jwt_verify.specs.Accepted.{IsTokenFault, TellsTokens, TellsTokenFaults}
use Rattle.jwt_verify.specs.Reports.{TakesMemory}
use Rattle.jwt_verify.proofs.Judged.{too_long}
use Rattle.jwt_verify.proofs.Accepting.{token_is, is_token}

-- texts of a token are in JSON form or in compact form
in_form : (most : ℕ) (z : List ℕ) (w : SpelledToken) → IsSpelledToken most z w → (opens_object z ≡ true) ⊎ ((h m g : List ℕ) × IsCompact z h m g)
in_form most z w (inl c) = inr (c.0, c.1, c.2, c.3)
in_form most z w (inr j) = inl j.opens

-- of a token that was read
pub takes_of_token : ReadsSignedTokens → (q : Terms) (x : List ℕ) (t : Token) → token_of q.policy x ≡ Ok t → TakesMemory q.policy x
takes_of_token reads q x t e =
    let read = token_is q x t e in
    let signed = (reads _ _ t).0 read.1 in
    (read.0, in_form _ _ signed.texts.0 signed.texts.1)

-- the token that is read is the one that the octets are
pub read_words : ReadsSignedTokens → (q : Terms) (x : List ℕ) (t : Token) → token_of q.policy x ≡ Ok t → IsToken q.policy x t
read_words reads q x t e = let read = token_is q x t e in (read.0, (reads _ _ t).0 read.1)

-- and none where it has another fault than want of memory
pub read_none : ReadsSignedTokens → (q : Terms) (x : List ℕ) (f : Fault) (v : Verdict) → (f ≢ OutOfMemory → token_of q.policy x ≡ Err f) → v ≡ Refused f
    → v ≢ Refused OutOfMemory → (t : Token) → ¬ IsToken q.policy x t
read_none reads q x f v fault by found t is =
    let none = fault (λ wants. found (by ∙ ap Refused wants)) in
    let never = sym none ∙ is_token q x t (is.0, (reads _ _ t).1 is.1) in
    cc

formed_fault : (r : Result Token FormFault) (f : Fault) → formed r ≡ Err f → (e : FormFault) × (f ≡ Form e) × (r ≡ Err e)
formed_fault (Ok t) f h = cc
formed_fault (Err e) f h = let same : f ≡ Form e = cc in (e, same, refl)

-- why the octets are none
pub fault_words : TellsFormFaults → (p : Settings) (x : List ℕ) (f : Fault) → token_of p x ≡ Err f → IsTokenFault p x f
unfolding token_of
fault_words tells p x f h = elim (cases_lt p.run.limit (length x)) [
  | inl l ↦ (let e = rw (lt-ltb p.run.limit (length x) l) at h in
      let same : Text TooLong ≡ f = cc in
      subst (IsTokenFault p x) same l)
  | inr m ↦ (let e = rw (le-ltb p.run.limit (length x) m) at h in
      let k = formed_fault (form_of p.run.max_signatures (without_line_feed p.run.line_feed x)) f e in
      subst (IsTokenFault p x) (sym k.1) (m, (tells _ _ k.0).0 k.2))
]

-- the same of what reading answers

abbrev bare : Settings → Terms
bare p = record { policy = p; keys = []; now = pos 0; verifiers = [] }

pub token_words : ReadsSignedTokens → (p : Settings) (x : List ℕ) (r : Result Signed Fault) → Answers OutOfMemory token r (token_of p x) → IfOk r (λ signed. IsToken p x (token signed))
token_words reads p x (Ok signed) h = read_words reads (bare p) x (token signed) h
token_words reads p x (Err f) h = tt

pub why_none : TellsFormFaults → (p : Settings) (x : List ℕ) (r : Result Signed Fault) → Answers OutOfMemory token r (token_of p x) → IfErr r (λ f. f ≢ OutOfMemory → IsTokenFault p x f)
why_none tells p x (Ok signed) h = tt
why_none tells p x (Err f) h = λ found. fault_words tells p x f (h found)

pub tells_tokens : ReadsSignedTokens → TellsTokens
tells_tokens reads p x t = (read_words reads (bare p) x t, λ is. is_token (bare p) x t (is.0, (reads _ _ t).1 is.1))

words_fault : TellsFormFaults → (p : Settings) (x : List ℕ) (f : Fault) → IsTokenFault p x f → token_of p x ≡ Err f
unfolding token_of
words_fault tells p x (Text TooLong) h = too_long p x h
words_fault tells p x (Form f) h = rw (le-ltb p.run.limit (length x) h.0, (tells _ _ f).1 h.1) refl
words_fault tells p x _ h = absurd h

pub tells_faults : TellsFormFaults → TellsTokenFaults
tells_faults tells p x f = (fault_words tells p x f, words_fault tells p x f)

-- where reading it wanted memory
pub takes_refused : (p : Settings) (x : List ℕ) (r : Result Signed Fault) (f : Fault) (v : Verdict) → (r ≡ Err OutOfMemory → TakesMemory p x) → r ≡ Err f → v ≡ Refused f
    → v ≡ Refused OutOfMemory → TakesMemory p x
takes_refused p x r f v takes is by wants =
    let same : Refused f ≡ Refused OutOfMemory = sym by ∙ wants in
    let fault : f ≡ OutOfMemory = cc in
    takes (is ∙ ap Err fault)
