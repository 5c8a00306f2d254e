use Rattle.std.proofs.Common.{◌∙◌, ap, ap₂, Option, ℕ}
use Rattle.std.specs.Prelude.{codes, option_and_then, option_map}
use Rattle.clap.specs.Words.{Text, found_of, one_of, rows_of}
use Rattle.clap.proofs.WalkLemmas.{first_value-rows}
use Rattle.jwt_words.specs.Options.{limit_range}
use Rattle.jwt_words.specs.Words.{Command, keyed, number_in}
use Rattle.jwt_words.specs.Seen.{command_view}
use Rattle.jwt_words.proofs.chosen.chosen_mac.Goals as goal

-- `mac_order` of the three values
abbrev order_from : Option ℕ → Option Text → Option Text → Option Command
order_from limit text name = option_and_then (keyed text name) limit

pub returns-in_err-limit-clause-command : goal.returns-in_err-limit-clause-command
returns-in_err-limit-clause-command c =
    let f = found_of c.args.options.now in
    ap (option_map command_view) c.from_residual.ensures
    ∙ ap (option_and_then (keyed (option_map (λ t. t.now) c.get_str-text.result) (option_map (λ t. t.now) c.get_str-name.result))) c.in_err-limit.ensures.number
    ∙ ap₂ (order_from (number_in limit_range (one_of (codes "limit") (rows_of f)))) (c.get_str-text.ensures ∙ first_value-rows f (codes "k")) (c.get_str-name.ensures ∙ first_value-rows f (codes "key-file"))

pub returns-clause-command : goal.returns-clause-command
returns-clause-command c =
    let f = found_of c.args.options.now in
    c.keyed.ensures.command
    ∙ ap (option_and_then (keyed (option_map (λ t. t.now) c.get_str-text.result) (option_map (λ t. t.now) c.get_str-name.result))) c.in_ok-limit.ensures.number
    ∙ ap₂ (order_from (number_in limit_range (one_of (codes "limit") (rows_of f)))) (c.get_str-text.ensures ∙ first_value-rows f (codes "k")) (c.get_str-name.ensures ∙ first_value-rows f (codes "key-file"))
