use Rattle.std.proofs.Common.{◌∙◌, ap₂, List, ℕ, Option, option_map}
use Rattle.std.specs.Prelude.{codes, option_and_then}
use Rattle.clap.specs.Words.{found_of, rows_of}
use Rattle.clap.proofs.WalkLemmas.{first_value-rows}
use Rattle.jwt_mac.specs.declared.algorithm.Alg.{Alg}
use Rattle.jwt_jws.specs.declared.fault.Form.{Form}
use Rattle.jwt_words.specs.Words.{Command, Files, Issue, alg_in, form_in}
use Rattle.jwt_words.specs.Seen.{files_view}
use Rattle.jwt_words.proofs.chosen.chosen_issue.Goals as goal

-- `issue_order` of the four values
abbrev order_from : Option (List ℕ) → Files → Option Alg → Option Form → Option Command
order_from typ files alg form = option_and_then (λ a. option_map (λ f. Issue a typ f files) form) alg

pub returns-clause-command : goal.returns-clause-command
returns-clause-command c =
    let f = found_of c.args.options.now in
    ap₂ (order_from (option_map (λ t. t.now) c.get_str-typ.result) (files_view c.chosen_keys_file-files.result)) c.in_ok-alg.ensures c.in_ok-form.ensures
    ∙ ap₂ (λ t k. order_from t k (alg_in (rows_of f)) (form_in (rows_of f))) (c.get_str-typ.ensures ∙ first_value-rows f (codes "typ")) c.chosen_keys_file-files.ensures
