use Rattle.std.proofs.Common.{◌∙◌, ap, Bool, Option, false}
use Rattle.std.specs.Prelude.{codes}
use Rattle.std.specs.Option.{option_map_or}
use Rattle.std.specs.Str.{bytes_eq}
use Rattle.clap.specs.Words.{Text, found_of}
use Rattle.clap.proofs.WalkLemmas.{first_value-rows}
use Rattle.jwt_words.proofs.chosen.is_set.Goals as goal

-- `is_set` of the value
abbrev is_true : Option Text → Bool
is_true value = option_map_or (λ t. bytes_eq t (codes "true")) value false

pub returns-in-None : goal.returns-in-None
returns-in-None c = ap is_true (c.in-None.ensures ∙ first_value-rows (found_of c.args.options.now) c.args.name.now)

pub returns-in-Some : goal.returns-in-Some
returns-in-Some c = c.eq.ensures ∙ ap is_true (c.in-Some.ensures ∙ first_value-rows (found_of c.args.options.now) c.args.name.now)
