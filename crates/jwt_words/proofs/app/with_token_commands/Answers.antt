use Rattle.std.proofs.Common.{◌≡◌, ◌∙◌, ap₂}
use Rattle.std.proofs.lemmas.Result.{IfOk-weaker}
use Rattle.clap.specs.Words.{App, app_of, with_subcommand}
use Rattle.jwt_words.specs.Options.{token_apps}
use Rattle.jwt_words.proofs.app.with_token_commands.Goals as goal

-- a command with one more subcommand
abbrev more : App → App → App
more a s = with_subcommand a s.top

pub returns : goal.returns
returns c =
    let top = c.without_subcommands.ensures in
    let one = c.in_ok-subcommand.ensures.shape c.in_ok-mac_command.ensures.local ∙ ap₂ more top c.in_ok-mac_command.ensures.shape in
    let two = c.in_ok-subcommand-2.ensures.shape c.in_ok-keys_command.ensures.local ∙ ap₂ more one c.in_ok-keys_command.ensures.shape in
    let three = c.in_ok-subcommand-3.ensures.shape c.in_ok-show_command.ensures.local ∙ ap₂ more two c.in_ok-show_command.ensures.shape in
    IfOk-weaker c.subcommand-4.result _ (λ r. app_of r ≡ token_apps c.args.has_clock)
    (λ r adds. adds.shape c.in_ok-verify_command.ensures.local ∙ ap₂ more three c.in_ok-verify_command.ensures.shape) c.subcommand-4.ensures
