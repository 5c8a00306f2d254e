use Rattle.std.proofs.Common.{◌∙◌, ap}
use Rattle.std.specs.Prelude.{codes, option_and_then}
use Rattle.clap.specs.Words.{found_of}
use Rattle.clap.proofs.WalkLemmas.{first_value-rows}
use Rattle.jwt_words.specs.Words.{form_named}
use Rattle.jwt_words.proofs.chosen.chosen_form.Goals as goal

pub returns-in_err-get_str : goal.returns-in_err-get_str
returns-in_err-get_str c =
    c.from_residual.ensures ∙ ap (option_and_then form_named) (c.in_err-get_str.ensures ∙ first_value-rows (found_of c.args.options.now) (codes "form"))

pub returns : goal.returns
returns c =
    c.form_named.ensures ∙ ap (option_and_then form_named) (c.in_ok-get_str.ensures ∙ first_value-rows (found_of c.args.options.now) (codes "form"))
