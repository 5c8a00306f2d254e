use Rattle.std.proofs.Common.{◌∙◌, ap}
use Rattle.std.specs.Prelude.{codes, option_and_then}
use Rattle.clap.specs.Words.{found_of}
use Rattle.clap.proofs.WalkLemmas.{first_value-rows}
use Rattle.jwt_mac.specs.Algorithm.{alg_named}
use Rattle.jwt_words.proofs.chosen.chosen_alg.Goals as goal

pub returns-in_err-get_str : goal.returns-in_err-get_str
returns-in_err-get_str c =
    c.from_residual.ensures ∙ ap (option_and_then alg_named) (c.in_err-get_str.ensures ∙ first_value-rows (found_of c.args.options.now) (codes "alg"))

pub returns : goal.returns
returns c =
    c.from_text.ensures.is ∙ ap (option_and_then alg_named) (c.in_ok-get_str.ensures ∙ first_value-rows (found_of c.args.options.now) (codes "alg"))
