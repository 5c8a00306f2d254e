use Rattle.std.proofs.Common.{◌∙◌, ap, ℕ, Option, List}
use Rattle.std.specs.Prelude.{codes, is_some, if◌then◌else◌}
use Rattle.clap.specs.Words.{Row, Text, found_of, one_of, rows_of}
use Rattle.clap.proofs.WalkLemmas.{first_value-rows}
use Rattle.jwt_settings.specs.Seen.{seconds_of}
use Rattle.jwt_words.specs.Options.{now_range}
use Rattle.jwt_words.specs.Words.{number_in}
use Rattle.jwt_words.proofs.chosen.chosen_moment.Goals as goal

-- `moment_in` of the value
abbrev moment_from : Option ℕ → List Row → Option Text → Option ℕ
moment_from clock rows value = if is_some value then number_in now_range (one_of (codes "now") rows) else clock

pub returns-in-None : goal.returns-in-None
returns-in-None c =
    let f = found_of c.args.options.now in
    ap (moment_from (seconds_of c.args.clock) (rows_of f)) (c.in-None.ensures ∙ first_value-rows f (codes "now"))

pub returns-in-Some : goal.returns-in-Some
returns-in-Some c =
    let f = found_of c.args.options.now in
    c.chosen_now.ensures ∙ ap (moment_from (seconds_of c.args.clock) (rows_of f)) (c.in-Some.ensures ∙ first_value-rows f (codes "now"))
