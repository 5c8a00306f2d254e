use Rattle.jwt_text.proofs.SpellingLemmas.{spelling_quoted}
use Rattle.jwt_text.proofs.laws.spellings_are_plain.Goals as goal

pub returns : goal.returns
returns c = spelling_quoted
