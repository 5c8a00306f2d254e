use Rattle.std.proofs.Common.{refl}
use Rattle.jwt_request.proofs.renewal.renewal.Renewal.took.Goals as goal

pub returns-then-counts-clause-counts : goal.returns-then-counts-clause-counts
returns-then-counts-clause-counts c = λ h s. rw (← c.hear.ensures.times) (c.counts-counts.ensures _ (c.hear.ensures.stands h s))

pub returns-else-counts-clause-counts : goal.returns-else-counts-clause-counts
returns-else-counts-clause-counts c = λ h s. rw (← c.hear.ensures.times) (c.counts-counts.ensures _ (c.hear.ensures.stands h s))

pub returns-then-counts-clause-stands : goal.returns-then-counts-clause-stands
returns-then-counts-clause-stands c = λ h s.
    let st = c.hear.ensures.stands h s in
    rw c.if-counts.true (record {
      run = (((c.counts-counts.ensures _ st).0 c.if-counts.true).0, st.run);
      keys = st.begun;
      keys_named = st.named;
      begun = st.begun;
      named = st.named;
      is_open = refl;
      waiting = c.none-self.ensures;
    })
