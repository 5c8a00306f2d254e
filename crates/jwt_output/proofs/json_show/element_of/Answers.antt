use Rattle.json.specs.Value.{value_view}
use Rattle.jwt_output.proofs.JsonLemmas.{at_writable, seen_writable}
use Rattle.jwt_output.proofs.json_show.element_of.Goals as goal

pub returns : goal.returns
returns c = record {
  writable = seen_writable (λ v. value_view v.now) c.at.result _ c.at.ensures (at_writable c.args.i (value_view c.args.value.now) c.requires);
}
