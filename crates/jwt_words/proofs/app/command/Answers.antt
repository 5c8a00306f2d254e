use Rattle.std.proofs.Common.{◌≡◌, ◌∙◌, ap₂}
use Rattle.std.proofs.lemmas.Result.{IfOk-weaker}
use Rattle.clap.specs.Words.{App, app_of, with_subcommand}
use Rattle.jwt_words.specs.Options.{jwt_app}
use Rattle.jwt_words.proofs.app.command.Goals as goal

-- a command with one more subcommand
abbrev more : App → App → App
more a s = with_subcommand a s.top

pub returns : goal.returns
returns c =
    let some = c.in_ok-with_token_commands.ensures in
    let five = c.in_ok-subcommand.ensures.shape c.in_ok-issue_command.ensures.local ∙ ap₂ more some c.in_ok-issue_command.ensures.shape in
    let six = c.in_ok-subcommand-2.ensures.shape c.in_ok-jwk_command.ensures.local ∙ ap₂ more five c.in_ok-jwk_command.ensures.shape in
    IfOk-weaker c.subcommand-3.result _ (λ r. app_of r ≡ jwt_app c.args.has_clock)
    (λ r adds. adds.shape c.in_ok-policy_command.ensures.local ∙ ap₂ more six c.in_ok-policy_command.ensures.shape) c.subcommand-3.ensures
