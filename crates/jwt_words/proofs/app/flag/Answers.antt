use Rattle.std.proofs.Common.{◌∙◌, ap, Some}
use Rattle.clap.specs.Words.{Rule, rule_of}
use Rattle.clap.specs.declared.builder.action.ArgAction.TheVariants.{SetTrue}
use Rattle.jwt_words.proofs.Settings.{is_global}
use Rattle.jwt_words.proofs.app.flag.Goals as goal

pub returns-clause-shape : goal.returns-clause-shape
returns-clause-shape c =
    let named = ap rule_of c.long.ensures ∙ ap (λ (r : Rule). record r { long = Some c.args.name.now }) c.new.ensures.rule in
    ap rule_of c.help.ensures ∙ ap rule_of c.action.ensures ∙ ap (λ (r : Rule). record r { action = Some SetTrue }) named

pub returns-clause-local : goal.returns-clause-local
returns-clause-local c = ap is_global c.help.ensures ∙ ap is_global c.action.ensures ∙ ap is_global c.long.ensures ∙ c.new.ensures.optional.1
