use Rattle.std.proofs.Common.{◌∙◌, ap, ℕ, Option, List, Some}
use Rattle.std.specs.Prelude.{codes, is_some, if◌then◌else◌, option_map}
use Rattle.clap.specs.Words.{Row, Text, found_of, one_of, rows_of}
use Rattle.clap.proofs.WalkLemmas.{first_value-rows}
use Rattle.jwt_settings.specs.Seen.{seconds_of}
use Rattle.jwt_words.specs.Options.{now_range}
use Rattle.jwt_words.specs.Words.{number_in}
use Rattle.jwt_words.proofs.pretty.chosen_shown_moment.Goals as goal

-- `shown_moment` of the value
abbrev shown_from : Option ℕ → List Row → Option Text → Option (Option ℕ)
shown_from clock rows value = if is_some value then option_map (λ now. Some now) (number_in now_range (one_of (codes "now") rows)) else Some clock

pub returns-in-None-chosen_now : goal.returns-in-None-chosen_now
returns-in-None-chosen_now c =
    let f = found_of c.args.options.now in
    ap (option_map (λ now. Some now)) c.in-None-chosen_now.ensures ∙ ap (shown_from (seconds_of c.args.clock) (rows_of f)) (c.in-Some.ensures ∙ first_value-rows f (codes "now"))

pub returns-in-None : goal.returns-in-None
returns-in-None c =
    let f = found_of c.args.options.now in
    ap (shown_from (seconds_of c.args.clock) (rows_of f)) (c.in-None.ensures ∙ first_value-rows f (codes "now"))

pub returns-in-Some-chosen_now : goal.returns-in-Some-chosen_now
returns-in-Some-chosen_now c =
    let f = found_of c.args.options.now in
    ap (option_map (λ now. Some now)) c.in-Some-chosen_now.ensures ∙ ap (shown_from (seconds_of c.args.clock) (rows_of f)) (c.in-Some.ensures ∙ first_value-rows f (codes "now"))
