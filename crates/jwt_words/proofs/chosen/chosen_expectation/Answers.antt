use Rattle.std.proofs.Common.{◌∙◌, ap, sym, Some, option_map}
use Rattle.std.specs.Prelude.{codes}
use Rattle.clap.specs.Words.{found_of}
use Rattle.clap.proofs.WalkLemmas.{first_value-rows}
use Rattle.jwt_settings.specs.Seen.{expectation_view}
use Rattle.jwt_words.specs.Words.{expected_from}
use Rattle.jwt_words.proofs.chosen.chosen_expectation.Goals as goal

pub returns-in-Some-expectation_of : goal.returns-in-Some-expectation_of
returns-in-Some-expectation_of c =
    let f = found_of c.args.options.now in
    ap (λ o. option_map (λ e. Some e) (option_map expectation_view o)) (sym c.in-Some-expectation_of.is)
    ∙ ap (option_map (λ e. Some e)) c.expectation_of.ensures
    ∙ ap (λ o. expected_from (option_map (λ t. t.now) o)) (sym c.in-Some.is)
    ∙ ap expected_from (c.get_str.ensures ∙ first_value-rows f (codes "expect"))

pub returns-in-None-expectation_of : goal.returns-in-None-expectation_of
returns-in-None-expectation_of c =
    let f = found_of c.args.options.now in
    ap (λ o. option_map (λ e. Some e) (option_map expectation_view o)) (sym c.in-None-expectation_of.is)
    ∙ ap (option_map (λ e. Some e)) c.expectation_of.ensures
    ∙ ap (λ o. expected_from (option_map (λ t. t.now) o)) (sym c.in-Some.is)
    ∙ ap expected_from (c.get_str.ensures ∙ first_value-rows f (codes "expect"))

pub returns-in-None : goal.returns-in-None
returns-in-None c =
    let f = found_of c.args.options.now in
    ap (λ o. expected_from (option_map (λ t. t.now) o)) (sym c.in-None.is)
    ∙ ap expected_from (c.get_str.ensures ∙ first_value-rows f (codes "expect"))
