use Rattle.std.proofs.Common.{◌∙◌, ◌++◌, ◌∷◌, [], ap, List, ℕ}
use Rattle.jwt_request.proofs.renewal.renewal.Renewal.wait.Goals as goal

pub returns-then-waits-clause-waits : goal.returns-then-waits-clause-waits
returns-then-waits-clause-waits c = λ h s. rw (← c.hear.ensures.times) (c.may_wait-waits.ensures.told _ (c.hear.ensures.stands h s))

pub returns-else-waits-clause-waits : goal.returns-else-waits-clause-waits
returns-else-waits-clause-waits c = λ h s. rw (← c.hear.ensures.times) (c.may_wait-waits.ensures.told _ (c.hear.ensures.stands h s))

pub returns-then-waits-clause-stands : goal.returns-then-waits-clause-stands
returns-then-waits-clause-stands c = λ h s.
    let st = c.hear.ensures.stands h s in
    let may = (c.may_wait-waits.ensures.told _ st).0 c.if-waits.true in
    rw c.if-waits.true (record {
      run = (may.0.0, may.1, may.2, st.run);
      keys = st.keys;
      keys_named = st.keys_named;
      begun = st.begun;
      named = st.named;
      is_open = st.is_open;
      waiting = c.with-self.ensures ∙ ap (λ (l : List ℕ). l ++ c.args.name ∷ []) st.waiting;
    })
