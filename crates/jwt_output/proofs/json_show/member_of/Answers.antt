use Rattle.json.specs.Value.{value_view}
use Rattle.jwt_output.proofs.JsonLemmas.{get_writable, seen_writable}
use Rattle.jwt_output.proofs.json_show.member_of.Goals as goal

pub returns : goal.returns
returns c = record {
  writable = seen_writable (λ v. value_view v.now) c.get.result _ c.get.ensures (get_writable c.args.name.now (value_view c.args.value.now) c.requires);
}
