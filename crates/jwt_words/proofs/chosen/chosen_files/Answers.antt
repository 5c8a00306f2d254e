use Rattle.std.proofs.Common.{◌∙◌, ap₂, option_map, None, Option}
use Rattle.std.specs.Prelude.{codes}
use Rattle.clap.specs.Words.{Text, found_of}
use Rattle.clap.proofs.WalkLemmas.{first_value-rows}
use Rattle.jwt_words.specs.Words.{Files}
use Rattle.jwt_words.proofs.chosen.chosen_files.Goals as goal

-- `files_in` of the three values
abbrev files_from : Option Text → Option Text → Option Text → Option Text → Files
files_from policy keys access token = record { policy = policy; keys = keys; access = access; token = token; key = None }

pub returns : goal.returns
returns c =
    let f = found_of c.args.options.now in
    ap₂ (λ p k. files_from p k (option_map (λ t. t.now) c.get_str-access.result) (option_map (λ t. t.now) c.get_str-token.result))
    (c.get_str-policy.ensures ∙ first_value-rows f (codes "policy")) (c.get_str-keys.ensures ∙ first_value-rows f (codes "keys"))
    ∙ ap₂ (files_from _ _) (c.get_str-access.ensures ∙ first_value-rows f (codes "access")) (c.get_str-token.ensures ∙ first_value-rows f (codes "token"))
