use Rattle.jwt_policy.specs.ClaimKinds.{kind_rows, kind_fault}
use Rattle.jwt_policy.proofs.PayloadLemmas.{read, is_read, refused, is_refused, misshapen}
use Rattle.jwt_policy.proofs.laws.payload_claims.Goals as goal

pub returns-clause-read : goal.returns-clause-read
unfolding kind_fault
returns-clause-read c = λ payload ms. (λ e. let h = read payload ms e in ((c.object_texts.ensures.object payload ms).0 h.0, (c.first_rows.ensures.none (kind_rows ms)).0 h.1), λ h. is_read payload ms ((c.object_texts.ensures.object payload ms).1 h.0) ((c.first_rows.ensures.none (kind_rows ms)).1 h.1))

pub returns-clause-kind : goal.returns-clause-kind
unfolding kind_fault
returns-clause-kind c = λ payload ms fault text. let is = (c.object_texts.ensures.object payload ms).1 text in (λ e. (c.first_rows.ensures.some (kind_rows ms) fault).0 (refused payload ms fault is e), λ h. is_refused payload ms fault is ((c.first_rows.ensures.some (kind_rows ms) fault).1 h))

pub returns-clause-shape : goal.returns-clause-shape
returns-clause-shape c = λ payload none. misshapen payload (λ ms is. none ms ((c.object_texts.ensures.object payload ms).0 is))
