use Rattle.jwt_jws.proofs.CompactLaws.{reads_compact, is_read_compact, parts_compact}
use Rattle.jwt_jws.proofs.laws.compact_form.Goals as goal

pub returns : goal.returns
returns c = record { reads = reads_compact; is_read = is_read_compact; parts = parts_compact }
