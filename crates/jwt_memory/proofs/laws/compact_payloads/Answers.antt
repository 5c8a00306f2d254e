use Rattle.jwt_memory.proofs.Payloads.{spells_compact_payloads, reads_compact_payloads}
use Rattle.jwt_memory.proofs.laws.compact_payloads.Goals as goal

pub returns-clause-spells : goal.returns-clause-spells
returns-clause-spells c = spells_compact_payloads c.compact_form.ensures.parts c.octets_are_spelled.ensures.octets

pub returns-clause-reads : goal.returns-clause-reads
returns-clause-reads c = reads_compact_payloads c.compact_form.ensures.parts c.octets_are_spelled.ensures.octets
