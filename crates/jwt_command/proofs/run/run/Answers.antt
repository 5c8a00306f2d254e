use Rattle.std.proofs.Common.{map, ℕ, List, None}
use Rattle.std.specs.Borrow.{Bor}
use Rattle.jwt_words.specs.Words.{command_of}
use Rattle.jwt_command.proofs.Printing.{reading_of, run_with}
use Rattle.jwt_command.proofs.run.run.Goals as goal

pub returns : goal.returns
returns g c =
    let asked = command_of None (map (λ (w : Bor (List ℕ)). w.now) c.args.words.now) in
    let reading = reading_of c.read_words-words.result asked c.read_words-words.ensures.ok c.read_words-words.ensures.err in
    run_with _ _ _ _ _ _ _ _ c.none.ensures (c.run_read.ensures.run asked reading)
