use Rattle.std.proofs.Common.{refl}
use Rattle.jwt_request.proofs.renewal.renewal.Renewal.failed.Goals as goal

pub returns-then-ends-clause-counts : goal.returns-then-ends-clause-counts
returns-then-ends-clause-counts c = λ h s. rw (← c.hear.ensures.times) (c.counts-ends.ensures _ (c.hear.ensures.stands h s))

pub returns-else-ends-clause-counts : goal.returns-else-ends-clause-counts
returns-else-ends-clause-counts c = λ h s. rw (← c.hear.ensures.times) (c.counts-ends.ensures _ (c.hear.ensures.stands h s))

pub returns-then-ends-clause-stands : goal.returns-then-ends-clause-stands
returns-then-ends-clause-stands c = λ h s.
    let st = c.hear.ensures.stands h s in
    rw c.if-ends.true (record {
      run = (((c.counts-ends.ensures _ st).0 c.if-ends.true).0, st.run);
      keys = st.keys;
      keys_named = st.keys_named;
      begun = st.begun;
      named = st.named;
      is_open = refl;
      waiting = c.none-self.ensures;
    })
