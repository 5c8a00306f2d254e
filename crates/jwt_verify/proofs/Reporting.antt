-- The report that the steps leave is the report in words.
use Rattle.std.proofs.Common.{◌≡◌, ◌≢◌, ℕ, ◌+◌, ◌*◌, ◌≤◌, ◌⊎◌, Bool, true, List, [], ◌∷◌, ◌++◌, length, take, get_or, Option, Some, Result, Ok, Err, refl, sym, ◌∙◌, ap, subst, inl, inr, arith, length-append, append_assoc}
use Rattle.std.specs.Prelude.{slice_get}
use Rattle.std.specs.List.{All, AllPairs, AllZip, sum_by}
use Rattle.std.proofs.lemmas.List.{nil_from_length, take_at, get_or_append_left}
use Rattle.std.proofs.lemmas.List.Elements.{All-nil, All-take, All-weaker}
use Rattle.std.proofs.Math.Nat.{mul-le-mul_right}
use Rattle.jwt_text.specs.Intake.{taken}
use Rattle.jwt_jws.specs.Token.{Token}
use Rattle.jwt_policy.specs.Laws.{IsEligible}
use Rattle.jwt_verify.specs.declared.report.Try.{Try}
use Rattle.jwt_verify.specs.declared.report.SigState.{SigState}
use Rattle.jwt_verify.specs.declared.report.InputFault.TheVariants.{TooLong, Read}
use Rattle.jwt_verify.specs.declared.report.Fault.{Fault}
use Rattle.jwt_verify.specs.declared.report.Fault.TheVariants.{OutOfMemory, Text, Form, WorkExceeded, CallsExceeded, VerifierMemory, Signature, Claim}
use Rattle.jwt_verify.specs.declared.report.Report.{Report}
use Rattle.jwt_verify.specs.declared.report.Verdict.{Verdict}
use Rattle.jwt_verify.specs.declared.report.Verdict.TheVariants.{Accepted, Refused}
use Rattle.jwt_verify.specs.Table.{Table, below, tries, work, paid, stop, states_at, states}
use Rattle.jwt_verify.specs.Trying.{at_pair, table_of}
use Rattle.jwt_verify.specs.Verdict.{Terms, token_of, table, token_verdict, verdict_of}
use Rattle.jwt_verify.specs.Paying.{IsFront, IsWithin, AreAllowed, ArePaid}
use Rattle.jwt_verify.specs.Asks.{AtPair, IsToken, IsTokenWithTable}
use Rattle.jwt_verify.specs.Laws.{IsBefore, common_cost, long_key}
use Rattle.jwt_verify.specs.Reports.{FoundMemory, IsStateAt, IsComplete, IsReport, IsJudged, IsCounted, IsCharged, AreEligible, IsBounded, TakesMemory}
use Rattle.jwt_verify.specs.Steps.{IsSourceFault, IsWhole, IsListed, ReportsInWords, ReportsOnTaken, TakenTokens, TellsReports}
use Rattle.jwt_verify.proofs.Bounds.{HasCost, rows_ordered, tries_eligible, length-tries, sum_bound, tries_bounded}
use Rattle.jwt_verify.proofs.Walking.{tries_are_rows}
use Rattle.jwt_verify.proofs.Paying.{work-append, work-nil}
use Rattle.jwt_verify.proofs.Judged.{no_paid, no_states, table_none, table_of_token, same_verdict, says_of_token, refused_says, refused_whole, front_none, octets_none}
use Rattle.jwt_verify.proofs.Taking.{token_taken}
use Rattle.jwt_verify.proofs.Ceilings.{table_cost}
use Rattle.jwt_verify.proofs.Accepting.{token_is, is_token}
use Rattle.jwt_verify.proofs.Allowing.{are_paid, paid_only, paid_allowed}
use Rattle.jwt_verify.proofs.States.{states_are, are_states}
use Rattle.jwt_verify.proofs.Pinning.{the_table}
use Rattle.jwt_verify.proofs.Words.{Laws, token_asks, asks_token, tells_in_words}

-- ---- a prefix of the tries

front_of : {X : Type 0} (xs es rest : List X) → xs ≡ es ++ rest → take (length es) xs ≡ es
front_of xs es rest e = ap (take (length es)) e ∙ take_at es rest (length es) refl

all_front : {X : Type 0} (P : X → Type 0) (xs es rest : List X) → xs ≡ es ++ rest → All P xs → All P es
all_front P xs es rest e h = subst (All P) (front_of xs es rest e) (All-take P (length es) xs h)

pairs_front : (xs es rest : List Try) → xs ≡ es ++ rest → AllPairs IsBefore xs → AllPairs IsBefore es
pairs_front xs es rest e h i j d l m =
    let longer : length es ≤ length xs = omega (arith, ap length e, length-append es rest) in
    let a : get_or xs i d ≡ get_or es i d = ap (λ ys. get_or ys i d) e ∙ get_or_append_left es rest d i (omega (arith, l, m)) in
    let b : get_or xs j d ≡ get_or es j d = ap (λ ys. get_or ys j d) e ∙ get_or_append_left es rest d j m in
    subst (λ y. IsBefore (get_or es i d) y) b (subst (λ y. IsBefore y (get_or xs j d)) a (h i j d l (omega (arith, m, longer))))

module _ (t : Table) (w : ℕ) (calls : Option ℕ) (es more : List Try) (front : paid t w calls ≡ es ++ more) where
  pub front_tries : IsFront t es
  front_tries = let r = (are_paid t w calls).front in (more ++ r.0, r.1 ∙ ap (λ ys. ys ++ r.0) front ∙ append_assoc es more r.0)

  pub front_allowed : AreAllowed w calls es
  front_allowed =
      let a = paid_allowed t w calls in
      let cost : work (paid t w calls) ≡ work es + work more = ap work front ∙ work-append es more in
      (omega (arith, a.0, cost), λ most e. (let n = a.1 most e in omega (arith, n, ap length front, length-append es more)))

  front_once : AllPairs IsBefore es
  front_once = pairs_front (tries t) es front_tries.0 front_tries.1 (tries_bounded t).0

  pub front_counted : (fed called : ℕ) → fed ≡ work es → called ≡ length es → IsCounted calls es fed called
  front_counted fed called octets count = record { once = front_once; octets = octets; calls = count; within = subst (IsWithin calls) (sym count) front_allowed.1 }

-- ---- what the run leaves

module _ (t : Table) (w : ℕ) (calls : Option ℕ) (es : List Try) (sts : List SigState) where
  completed : (es ≡ paid t w calls) × (sts ≡ states t w calls) → ArePaid t w calls es × AllZip (IsStateAt t (slice_get (tries t) (length es))) (below t.signatures) sts
  unfolding stop
  completed h =
      let same : sts ≡ states_at t (slice_get (tries t) (length es)) = h.1 ∙ ap (λ fs. states_at t (slice_get (tries t) (length fs))) (sym h.0) in
      (subst (ArePaid t w calls) (sym h.0) (are_paid t w calls), subst (AllZip (IsStateAt t (slice_get (tries t) (length es))) (below t.signatures)) (sym same) (states_are t (slice_get (tries t) (length es))))

  complete : (v : Verdict) → IsWhole t w calls es sts v → IsComplete t w calls es sts v
  complete (Accepted i j claims) h = completed h
  complete (Refused OutOfMemory) h = h
  complete (Refused (Text f)) h = completed h
  complete (Refused (Form f)) h = completed h
  complete (Refused (WorkExceeded i j)) h = completed h
  complete (Refused (Signature i f)) h = completed h
  complete (Refused (Claim f)) h = completed h
  complete (Refused VerifierMemory) (before, e, is, lack, states) = (before, e, is, lack, subst (AllZip (IsStateAt t (Some e)) (below t.signatures)) (sym states) (states_are t (Some e)))
  complete (Refused (CallsExceeded i j)) h = completed h

  left : ArePaid t w calls es × AllZip (IsStateAt t (slice_get (tries t) (length es))) (below t.signatures) sts → (es ≡ paid t w calls) × (sts ≡ states t w calls)
  unfolding stop
  left h = let e = paid_only t w calls es h.0 in (e, are_states t (slice_get (tries t) (length es)) sts h.1 ∙ ap (λ fs. states_at t (slice_get (tries t) (length fs))) e)

  found_left : (v : Verdict) → FoundMemory v → IsComplete t w calls es sts v → (es ≡ paid t w calls) × (sts ≡ states t w calls)
  found_left (Accepted i j claims) found h = left h
  found_left (Refused OutOfMemory) found h = absurd found
  found_left (Refused (Text f)) found h = left h
  found_left (Refused (Form f)) found h = left h
  found_left (Refused (WorkExceeded i j)) found h = left h
  found_left (Refused (Signature i f)) found h = left h
  found_left (Refused (Claim f)) found h = left h
  found_left (Refused VerifierMemory) found h = absurd found
  found_left (Refused (CallsExceeded i j)) found h = left h

  -- where there is no signature
  module _ (none : t.signatures ≡ 0) (nil : es ≡ []) where
    no_state : (es ≡ paid t w calls) × (sts ≡ states t w calls) → sts ≡ []
    no_state h = h.1 ∙ no_states t (stop t w calls) none

    blank_by : (v : Verdict) → IsWhole t w calls es sts v → (v ≡ Refused OutOfMemory) ⊎ (FoundMemory v × (sts ≡ []))
    blank_by (Accepted i j claims) h = inr (tt, no_state h)
    blank_by (Refused OutOfMemory) h = inl refl
    blank_by (Refused (Text f)) h = inr (tt, no_state h)
    blank_by (Refused (Form f)) h = inr (tt, no_state h)
    blank_by (Refused (WorkExceeded i j)) h = inr (tt, no_state h)
    blank_by (Refused (Signature i f)) h = inr (tt, no_state h)
    blank_by (Refused (Claim f)) h = inr (tt, no_state h)
    blank_by (Refused VerifierMemory) (before, e, is, lack, states) = absurd (omega (arith, ap length (sym nil ∙ is), length-append before (e ∷ [])))
    blank_by (Refused (CallsExceeded i j)) h = inr (tt, no_state h)

-- ---- nothing was tried

none_once : (es : List Try) → es ≡ [] → AllPairs IsBefore es
none_once es nil i j d l m = absurd (omega (arith, m, ap length nil))

none_within : (calls : Option ℕ) (n : ℕ) → n ≡ 0 → IsWithin calls n
none_within calls n z most e = omega (arith, z)

none_eligible : (q : Terms) (x : List ℕ) (es : List Try) → es ≡ [] → AreEligible q x es
none_eligible q x es nil token is = subst (All (λ e. AtPair token q.keys e.signature e.key (λ s key. IsEligible q.policy s key q.verifiers))) (sym nil) (All-nil _)

none_bounded : (q : Terms) (x : List ℕ) (es : List Try) (n : ℕ) → n ≡ 0 → IsBounded q x es n
none_bounded q x es n z token is = omega (arith, z)

pub none_counted : (calls : Option ℕ) (es : List Try) (fed called : ℕ) → es ≡ [] → fed ≡ 0 → called ≡ 0 → IsCounted calls es fed called
none_counted calls es fed called nil f c = record { once = none_once es nil; octets = octets_none fed es f nil; calls = c ∙ sym (ap length nil); within = none_within calls called c }

pub none_charged : (q : Terms) (x : List ℕ) (es : List Try) (fed called : ℕ) → es ≡ [] → fed ≡ 0 → called ≡ 0 → IsCharged q x es fed called
none_charged q x es fed called nil f c = record { counted = none_counted q.policy.max_calls es fed called nil f c; eligible = none_eligible q x es nil; bound = none_bounded q x es fed f }

memory_report : (q : Terms) (x : List ℕ) (w : ℕ) (r : Report) → r.tries.items ≡ [] → r.verdict ≡ Refused OutOfMemory → IsReport q x w r
memory_report q x w r nil memory = record {
  verdict = λ found. absurd (subst FoundMemory memory found);
  run = λ token t asks. (
    (tries t, ap (λ es. es ++ tries t) (sym nil)),
    (omega (arith, ap work nil, work-nil), none_within q.policy.max_calls (length r.tries.items) (ap length nil)),
    subst (IsComplete t w q.policy.max_calls r.tries.items r.states.items) (sym memory) tt,
  );
  blank = λ none. (nil, inl memory);
}

-- the source failed, or memory was refused before anything was tried
pub source_report : (q : Terms) (x : List ℕ) (w : ℕ) (r : Report) (before failed : Bool) (f : Fault) → IsSourceFault before failed f → r.verdict ≡ Refused f → r.tries.items ≡ []
    → r.verdict ≢ Refused (Text Read) → IsReport q x w r
source_report q x w r before failed OutOfMemory h v nil works = memory_report q x w r nil v
source_report q x w r before failed (Text Read) h v nil works = absurd (works v)
source_report q x w r before failed (Text TooLong) h v nil works = absurd h
source_report q x w r before failed (Form f) h v nil works = absurd h
source_report q x w r before failed (WorkExceeded i j) h v nil works = absurd h
source_report q x w r before failed (Signature i f) h v nil works = absurd h
source_report q x w r before failed (Claim f) h v nil works = absurd h
source_report q x w r before failed VerifierMemory h v nil works = absurd h
source_report q x w r before failed (CallsExceeded i j) h v nil works = absurd h

-- ---- the report

-- no try and no state is listed; after OutOfMemory nothing is said of the states
abbrev IsBlank : Report → Type 0
IsBlank r = (r.tries.items ≡ []) × ((r.verdict ≡ Refused OutOfMemory) ⊎ (FoundMemory r.verdict × (r.states.items ≡ [])))

-- of a token that was read
pub token_listed : (q : Terms) (x : List ℕ) (w : ℕ) (t : Token) (r : Report) → token_of q.policy x ≡ Ok t → (FoundMemory r.verdict → r.verdict ≡ token_verdict q w t)
    → IsWhole (table_of q.policy q.verifiers q.keys t) w q.policy.max_calls r.tries.items r.states.items r.verdict
    → (more : List Try) × (paid (table_of q.policy q.verifiers q.keys t) w q.policy.max_calls ≡ r.tries.items ++ more) → IsListed q x w r
token_listed q x w t r is verdict whole front =
    let same = table_of_token q x t is in record {
      verdict = λ found. verdict found ∙ says_of_token q x w t is;
      whole = subst (λ t. IsWhole t w q.policy.max_calls r.tries.items r.states.items r.verdict) same whole;
      front = (front.0, ap (λ t. paid t w q.policy.max_calls) (sym same) ∙ front.1);
    }

-- of octets that are none, or where memory was refused
pub refused_listed : (q : Terms) (x : List ℕ) (w : ℕ) (f : Fault) (r : Report) → (f ≢ OutOfMemory → token_of q.policy x ≡ Err f) → r.verdict ≡ Refused f → r.tries.items ≡ [] → r.states.items ≡ [] → IsListed q x w r
refused_listed q x w f r fault verdict tries states = record {
  verdict = rw verdict (refused_says q x w f fault);
  whole = rw (tries, states, verdict) (refused_whole q x w q.policy.max_calls f fault);
  front = front_none (paid (table q x) w q.policy.max_calls) r.tries.items tries;
}

-- what is listed is judged, and charged for
module _ (words : ReportsInWords) (q : Terms) (x : List ℕ) (w : ℕ) (r : Report) (listed : IsListed q x w r) where
  pub listed_judged : r.verdict ≢ Refused (Text Read) → (r.verdict ≡ Refused OutOfMemory → TakesMemory q.policy x) → IsJudged q x w r
  listed_judged read memory = record { report = (words q x w r listed).0; read = read; memory = memory }

  pub listed_charged : (fed called : ℕ) → fed ≡ work r.tries.items → called ≡ length r.tries.items → IsCharged q x r.tries.items fed called
  listed_charged fed called octets calls = record {
    counted = front_counted (table q x) w q.policy.max_calls r.tries.items listed.front.0 listed.front.1 fed called octets calls;
    eligible = (words q x w r listed).1;
    bound = subst (IsBounded q x r.tries.items) (sym octets) (words q x w r listed).2;
  }

-- what is charged for the octets that are taken is charged for all of them
pub taken_charged : TakenTokens → (q : Terms) (x : List ℕ) (es : List Try) (fed called : ℕ) → IsCharged q (taken x q.policy.run.limit) es fed called → IsCharged q x es fed called
taken_charged tokens q x es fed called h = record { counted = h.counted; eligible = λ token is. h.eligible token (tokens q x token is); bound = λ token is. h.bound token (tokens q x token is) }

module _ (laws : Laws) where
  listed_blank : (q : Terms) (x : List ℕ) (w : ℕ) (r : Report) → IsListed q x w r → ((token : Token) → ¬ IsToken q.policy x token) → IsBlank r
  listed_blank q x w r h none = go (token_of q.policy x) refl
    where
      go : (k : Result Token Fault) → k ≡ token_of q.policy x → IsBlank r
      go (Ok t) e = absurd (none t (token_asks laws q x t (token_is q x t (sym e))).0)
      go (Err f) e =
          let z = table_none q x f (sym e) in
          let p = sym h.front.1 ∙ no_paid (table q x) w q.policy.max_calls z in
          let nil : r.tries.items ≡ [] = nil_from_length r.tries.items (omega (arith, ap length p, length-append r.tries.items h.front.0)) in
          (nil, blank_by (table q x) w q.policy.max_calls r.tries.items r.states.items z nil r.verdict h.whole)

  listed_run : (q : Terms) (x : List ℕ) (w : ℕ) (r : Report) → IsListed q x w r → (token : Token) (t : Table) → IsTokenWithTable q x token t
      → IsFront t r.tries.items × AreAllowed w q.policy.max_calls r.tries.items × IsComplete t w q.policy.max_calls r.tries.items r.states.items r.verdict
  listed_run q x w r h token t asks =
      let T = table q x in
      let calls = q.policy.max_calls in
      subst (λ t. IsFront t r.tries.items × AreAllowed w calls r.tries.items × IsComplete t w calls r.tries.items r.states.items r.verdict) (sym (asks_token laws q x token t asks).1) (
        front_tries T w calls r.tries.items h.front.0 h.front.1,
        front_allowed T w calls r.tries.items h.front.0 h.front.1,
        complete T w calls r.tries.items r.states.items r.verdict h.whole,
      )

  listed_report : (q : Terms) (x : List ℕ) (w : ℕ) (r : Report) → IsListed q x w r → IsReport q x w r
  listed_report q x w r h = record {
    verdict = λ found. (tells_in_words laws q x w r.verdict).0 (sym (h.verdict found));
    run = listed_run q x w r h;
    blank = listed_blank q x w r h;
  }

  -- the table of a token that is read
  of_token : (q : Terms) (x : List ℕ) (token : Token) → IsToken q.policy x token → table_of q.policy q.verifiers q.keys token ≡ table q x
  of_token q x token is = table_of_token q x token (is_token q x token (is.0, (laws.signed_tokens _ _ token).1 is.1))

  module _ (q : Terms) (x : List ℕ) (es : List Try) (front : IsFront (table q x) es) (token : Token) (is : IsToken q.policy x token) where
    abbrev T : Table
    T = table_of q.policy q.verifiers q.keys token

    here : tries T ≡ es ++ front.0
    here = ap tries (of_token q x token is) ∙ front.1

    eligible_here : All (λ e. T.eligible e.signature e.key ≡ true) es
    eligible_here = all_front (λ e. T.eligible e.signature e.key ≡ true) (tries T) es front.0 here (tries_eligible T)

    costs_here : All (HasCost T) es
    costs_here = all_front (HasCost T) (tries T) es front.0 here (rw tries_are_rows (rows_ordered T T.signatures).costs)

    pub eligible_words : All (λ e. AtPair token q.keys e.signature e.key (λ s key. IsEligible q.policy s key q.verifiers)) es
    eligible_words = All-weaker (λ e. T.eligible e.signature e.key ≡ true) (λ e. AtPair token q.keys e.signature e.key (λ s key. IsEligible q.policy s key q.verifiers))
        (λ e h. ((the_table laws.eligible laws.bar q token).eligible e.signature e.key).0 h) es eligible_here

    pub bounded_words : work es ≤ length token.signatures * length q.keys * common_cost q.policy token + sum_by (λ e. at_pair long_key 0 token q.keys e.signature e.key) es
    unfolding work
    bounded_words =
        let common = common_cost q.policy token in
        let extra = at_pair long_key 0 token q.keys in
        let sum = sum_bound T common extra (table_cost (λ p s k v h. (laws.eligible p s k v).0 h) laws.no_bar q.policy q.verifiers q.keys token) es costs_here eligible_here in
        let few : length es ≤ T.signatures * T.keys = omega (arith, length-tries T, ap length here, length-append es front.0) in
        omega (arith, sum, mul-le-mul_right common few)

  pub reports_in_words : ReportsInWords
  reports_in_words q x w r h =
      let front = front_tries (table q x) w q.policy.max_calls r.tries.items h.front.0 h.front.1 in
      (listed_report q x w r h, eligible_words q x r.tries.items front, bounded_words q x r.tries.items front)

  -- ---- what is taken of x

  token_over : (q : Terms) (y x : List ℕ) → token_of q.policy y ≡ token_of q.policy x → (token : Token) → IsToken q.policy x token → IsToken q.policy y token
  token_over q y x e token is =
      let k = is_token q x token (is.0, (laws.signed_tokens _ _ token).1 is.1) in
      (token_asks laws q y token (token_is q y token (e ∙ k))).0

  pub reports_on_taken : ReportsOnTaken
  reports_on_taken q x w r h =
      let y = taken x q.policy.run.limit in
      let same : token_of q.policy y ≡ token_of q.policy x = token_taken q.policy x in
      record {
        verdict = λ found. (tells_in_words laws q x w r.verdict).0 (sym (same_verdict q y x w same) ∙ (tells_in_words laws q y w r.verdict).1 (h.verdict found));
        run = λ token t asks. h.run token t (token_over q y x same token asks.0, asks.1);
        blank = λ none. h.blank (λ token is. none token (token_over q x y (sym same) token is));
      }

  pub taken_tokens : TakenTokens
  taken_tokens q x token is = token_over q (taken x q.policy.run.limit) x (token_taken q.policy x) token is

  -- ---- back

  pub tells_reports : TellsReports
  tells_reports q x w r h found = go (token_of q.policy x) refl
    where
      verdict : r.verdict ≡ verdict_of q x w
      verdict = sym ((tells_in_words laws q x w r.verdict).1 (h.verdict found))

      nothing : (z : (table q x).signatures ≡ 0) → IsBlank r → (r.tries.items ≡ paid (table q x) w q.policy.max_calls) × (r.states.items ≡ states (table q x) w q.policy.max_calls)
      nothing z (nil, inl memory) = absurd (subst FoundMemory memory found)
      nothing z (nil, inr (f, none)) = (nil ∙ sym (no_paid (table q x) w q.policy.max_calls z), none ∙ sym (no_states (table q x) (stop (table q x) w q.policy.max_calls) z))

      go : (k : Result Token Fault) → k ≡ token_of q.policy x
          → (r.verdict ≡ verdict_of q x w) × (r.tries.items ≡ paid (table q x) w q.policy.max_calls) × (r.states.items ≡ states (table q x) w q.policy.max_calls)
      go (Ok t) e =
          let asks = token_asks laws q x t (token_is q x t (sym e)) in
          let l = found_left (table q x) w q.policy.max_calls r.tries.items r.states.items r.verdict found (h.run t (table q x) asks).2 in
          (verdict, l.0, l.1)
      go (Err f) e =
          let none : (token : Token) → ¬ IsToken q.policy x token = λ token is. (let never = e ∙ is_token q x token (is.0, (laws.signed_tokens _ _ token).1 is.1) in cc) in
          let l = nothing (table_none q x f (sym e)) (h.blank none) in
          (verdict, l.0, l.1)
