use Rattle.jwt_text.proofs.EntriesLemmas.{kept}
use Rattle.jwt_text.proofs.laws.entries_are_names.Goals as goal

pub returns : goal.returns
returns c = record { most = λ j d e. (kept j d e).0; all = λ j d e. (kept j d e).1 }
