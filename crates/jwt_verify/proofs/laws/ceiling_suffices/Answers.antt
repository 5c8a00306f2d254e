use Rattle.jwt_verify.proofs.Holding.{ceiling_suffices}
use Rattle.jwt_verify.proofs.laws.ceiling_suffices.Goals as goal

pub returns : goal.returns
returns c = ceiling_suffices (record {
  signed_tokens = c.signed_tokens.ensures;
  form_faults = c.form_faults.ensures;
  eligible = c.eligible_pairs.ensures;
  bar = c.bar_is_first_row.ensures.some;
  no_bar = λ p s v h. (c.bar_is_first_row.ensures.none p s v).0 h;
  objects = c.object_texts.ensures.object;
  claims_read = c.payload_claims.ensures.read;
  claims_kind = c.payload_claims.ensures.kind;
  claims_shape = c.payload_claims.ensures.shape;
  check = c.check_is_first_row.ensures.some;
  hold = c.claims_hold.ensures;
})
