use Rattle.std.proofs.Common.{◌∙◌, ap}
use Rattle.std.specs.Prelude.{is_some}
use Rattle.clap.specs.Words.{found_of}
use Rattle.clap.proofs.WalkLemmas.{first_value-rows}
use Rattle.jwt_words.proofs.chosen.is_named.Goals as goal

pub returns-in-None : goal.returns-in-None
returns-in-None c = ap (λ o. is_some o) (c.in-None.ensures ∙ first_value-rows (found_of c.args.options.now) c.args.name.now)

pub returns-in-Some : goal.returns-in-Some
returns-in-Some c = ap (λ o. is_some o) (c.in-Some.ensures ∙ first_value-rows (found_of c.args.options.now) c.args.name.now)
