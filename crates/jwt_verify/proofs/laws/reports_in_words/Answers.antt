use Rattle.jwt_verify.proofs.Reporting.{reports_in_words, reports_on_taken, taken_tokens}
use Rattle.jwt_verify.proofs.laws.reports_in_words.Goals as goal

pub returns-clause-listed : goal.returns-clause-listed
returns-clause-listed c = reports_in_words (record {
  signed_tokens = c.signed_tokens.ensures;
  form_faults = c.form_faults.ensures;
  eligible = c.eligible_pairs.ensures;
  bar = c.bar_is_first_row.ensures.some;
  no_bar = λ p s v h. (c.bar_is_first_row.ensures.none p s v).0 h;
  objects = c.object_texts.ensures.object;
  claims_read = c.payload_claims.ensures.read;
  claims_kind = c.payload_claims.ensures.kind;
  claims_shape = c.payload_claims.ensures.shape;
  check = c.check_is_first_row.ensures.some;
  hold = c.claims_hold.ensures;
})

pub returns-clause-taken : goal.returns-clause-taken
returns-clause-taken c = reports_on_taken (record {
  signed_tokens = c.signed_tokens.ensures;
  form_faults = c.form_faults.ensures;
  eligible = c.eligible_pairs.ensures;
  bar = c.bar_is_first_row.ensures.some;
  no_bar = λ p s v h. (c.bar_is_first_row.ensures.none p s v).0 h;
  objects = c.object_texts.ensures.object;
  claims_read = c.payload_claims.ensures.read;
  claims_kind = c.payload_claims.ensures.kind;
  claims_shape = c.payload_claims.ensures.shape;
  check = c.check_is_first_row.ensures.some;
  hold = c.claims_hold.ensures;
})

pub returns-clause-token : goal.returns-clause-token
returns-clause-token c = taken_tokens (record {
  signed_tokens = c.signed_tokens.ensures;
  form_faults = c.form_faults.ensures;
  eligible = c.eligible_pairs.ensures;
  bar = c.bar_is_first_row.ensures.some;
  no_bar = λ p s v h. (c.bar_is_first_row.ensures.none p s v).0 h;
  objects = c.object_texts.ensures.object;
  claims_read = c.payload_claims.ensures.read;
  claims_kind = c.payload_claims.ensures.kind;
  claims_shape = c.payload_claims.ensures.shape;
  check = c.check_is_first_row.ensures.some;
  hold = c.claims_hold.ensures;
})
