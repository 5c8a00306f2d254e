-- The laws of the verdict and of the tries hold in words.
use Rattle.std.proofs.Common.{◌≡◌, ℕ, ◌*◌, ◌≤◌, true, List, ◌∷◌, length, map, None, Result, Ok, Err, refl, sym, ◌∙◌, ap, subst, arith, length-append}
use Rattle.jwt_jws.specs.Token.{Token}
use Rattle.jwt_verify.specs.declared.report.Fault.{Fault}
use Rattle.jwt_verify.specs.declared.report.Fault.TheVariants.{WorkExceeded}
use Rattle.jwt_verify.specs.declared.report.Verdict.TheVariants.{Accepted, Refused}
use Rattle.jwt_verify.specs.Table.{Table, entry, tries, work, paid, stop, states_at, states}
use Rattle.jwt_verify.specs.Verdict.{Terms, token_of, table}
use Rattle.jwt_verify.specs.Asks.{IsToken}
use Rattle.jwt_verify.specs.Laws.{with_keys, kind_of_state, without_key, with_valid, verdict_by}
use Rattle.jwt_verify.specs.Verdicts.{PaidIsLongest, CallsSuffice, work_bound, WorkIsBounded, CeilingSuffices, IsUnstopped, MoreKeysAccept, SameKeysAgree, SparesNone, LeastTriesOfToken}
use Rattle.jwt_verify.proofs.Bounds.{length-tries}
use Rattle.jwt_verify.proofs.Judged.{unbarred_by, table_none, table_of_token}
use Rattle.jwt_verify.proofs.LeastVerdict.{least_tries_hold}
use Rattle.jwt_verify.proofs.Accepting.{token_is, is_token}
use Rattle.jwt_verify.proofs.Refusing.{no_stop, verdict_token}
use Rattle.jwt_verify.proofs.States.{are_states}
use Rattle.jwt_verify.proofs.Ceilings.{within_bound, suffices}
use Rattle.jwt_verify.proofs.Pinning.{table_is}
use Rattle.jwt_verify.proofs.Allowing.{are_paid, paid_only, words_unstopped}
use Rattle.jwt_verify.proofs.SameKeys.{more_keys_unstopped, same_keys_unstopped}
use Rattle.jwt_verify.proofs.Stepwise.{IsReadToken}
use Rattle.jwt_verify.proofs.Words.{Laws, token_asks, asks_token, tells_in_words}

pub paid_is_longest : PaidIsLongest
paid_is_longest t octets calls = (are_paid t octets calls, paid_only t octets calls)

module _ (laws : Laws) where
  read_in : (q : Terms) (x : List ℕ) (token : Token) → IsToken q.policy x token → IsReadToken q x token
  read_in q x token is = (is.0, (laws.signed_tokens _ _ token).1 is.1)

  pub calls_suffice : CallsSuffice
  calls_suffice q x w i j token is within (other, t, asks, (es, at, (most, e, beyond))) =
      let both = sym (read_in q x other asks.0).1 ∙ (read_in q x token is).1 in
      let same : other ≡ token = cc in
      let signatures : t.signatures ≡ length token.signatures = asks.1.signatures ∙ ap (λ (token : Token). length token.signatures) same in
      let few : length (tries t) ≤ length token.signatures * length q.keys =
      subst (λ n. length (tries t) ≤ n * length q.keys) signatures (subst (λ n. length (tries t) ≤ t.signatures * n) asks.1.keys (length-tries t)) in
      let room : length token.signatures * length q.keys ≤ most = within most e in
      absurd (omega (arith, few, room, beyond, ap length at.next.1, length-append es (entry t i j ∷ at.next.0)))

  pub work_is_bounded : WorkIsBounded
  work_is_bounded q x token t asks =
      subst (λ t. work (tries t) ≤ work_bound q token t) (sym (table_is laws.eligible laws.bar q token t asks.1))
      (within_bound (λ p s k v h. (laws.eligible p s k v).0 h) laws.no_bar q token)

  pub ceiling_suffices : CeilingSuffices
  ceiling_suffices q x w v token t asks least_w least_v =
      let b = work_is_bounded q x token t asks in
      let here : t ≡ table q x = (asks_token laws q x token t asks).1 in
      let enough : work (tries (table q x)) ≤ w = subst (λ t. work (tries t) ≤ w) here (omega (arith, b, least_w)) in
      let as_well : work (tries (table q x)) ≤ v = subst (λ t. work (tries t) ≤ v) here (omega (arith, b, least_v)) in
      let s = suffices q x w v enough as_well in (
        λ i j h. s.0 i j ((tells_in_words laws q x w (Refused (WorkExceeded i j))).1 h),
        λ u h. (tells_in_words laws q x v u).0 (sym s.1 ∙ (tells_in_words laws q x w u).1 h),
        subst (λ t. paid t w q.policy.max_calls ≡ paid t v q.policy.max_calls) (sym here) s.2,
        subst (λ t. states t w q.policy.max_calls ≡ states t v q.policy.max_calls) (sym here) s.3,
      )

  unstopped_none : (q : Terms) (x : List ℕ) (w : ℕ) → IsUnstopped q x w → stop (table q x) w q.policy.max_calls ≡ None
  unstopped_none q x w h = go (token_of q.policy x) refl
    where
      go : (r : Result Token Fault) → r ≡ token_of q.policy x → stop (table q x) w q.policy.max_calls ≡ None
      go (Ok t) e = words_unstopped (table q x) w q.policy.max_calls (h t (table q x) (token_asks laws q x t (token_is q x t (sym e))))
      go (Err f) e = no_stop (table q x) w q.policy.max_calls (table_none q x f (sym e))

  pub more_keys_accept : MoreKeysAccept
  more_keys_accept q more x w more_w i j claims among unstopped accepted =
      let p = with_keys q more in
      let m = more_keys_unstopped q more x w more_w i j claims among (unstopped_none p x more_w unstopped) ((tells_in_words laws q x w (Accepted i j claims)).1 accepted) in
      (m.0, m.1, (tells_in_words laws p x more_w (Accepted m.0 m.1 claims)).0 m.2)

  pub same_keys_agree : SameKeysAgree
  same_keys_agree q others x w other_w h k unstopped other_unstopped =
      let p = with_keys q others in
      let none = unstopped_none q x w unstopped in
      let other_none = unstopped_none p x other_w other_unstopped in
      let s = same_keys_unstopped q others x w other_w h k none other_none in (
        λ u v us vs. ap without_key (sym ((tells_in_words laws q x w u).1 us)) ∙ s.0 ∙ ap without_key ((tells_in_words laws p x other_w v).1 vs),
        λ token t o mine theirs asks other_asks here there. ap (map kind_of_state) (are_states t None mine here)
            ∙ ap (λ t. map kind_of_state (states_at t None)) (asks_token laws q x token t asks).1
            ∙ sym (ap (λ n. map kind_of_state (states_at (table q x) n)) none) ∙ s.1 ∙ ap (λ n. map kind_of_state (states_at (table p x) n)) other_none
            ∙ sym (ap (λ t. map kind_of_state (states_at t None)) (asks_token laws p x token o other_asks).1)
            ∙ sym (ap (map kind_of_state) (are_states o None theirs there)),
      )

  pub least_tries_of_token : LeastTriesOfToken
  least_tries_of_token q x w token t v asks = subst (λ t. SparesNone q x w token.payload t v) (sym same) here
    where
      T : Table
      T = table q x

      k : IsReadToken q x token × (t ≡ table q x)
      k = asks_token laws q x token t asks

      same : t ≡ table q x
      same = k.1

      read : token_of q.policy x ≡ Ok token
      read = is_token q x token k.0

      unbarred : (i j : ℕ) → (table q x).eligible i j ≡ true → (table q x).bar i ≡ None
      unbarred = subst (λ t. (i j : ℕ) → t.eligible i j ≡ true → t.bar i ≡ None) (table_of_token q x token read) (unbarred_by q.policy q.verifiers q.keys token)

      here : SparesNone q x w token.payload (table q x) v
      here =
          let l = least_tries_hold (table q x) v w q.policy.max_calls unbarred in (
            λ agree. (let a = l.0 agree in (
              a,
              (tells_in_words laws q x w (verdict_by (with_valid (table q x) v) w q.policy.max_calls q.policy q.now token.payload)).0
                  (verdict_token q x w token read ∙ sym (a.same_verdict q.policy q.now token.payload)),
            )),
            l.1,
          )
