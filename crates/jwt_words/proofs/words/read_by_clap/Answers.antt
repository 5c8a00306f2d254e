use Rattle.std.proofs.Common.{◌≡◌, ◌∙◌, ap, sym, subst, ⊎_elim, map, List, []}
use Rattle.std.specs.Prelude.{is_some}
use Rattle.std.specs.Borrow.{Bor}
use Rattle.clap.specs.Words.{App, HasKind, Text, app_of, fault_of, is_simple, is_simple_and_free, kind_of, subcommand_of, subcommand_rows_of}
use Rattle.jwt_settings.specs.Seen.{seconds_of}
use Rattle.jwt_words.specs.Options.{jwt_app}
use Rattle.jwt_words.proofs.Orders.{command_accepted, command_refused, jwt_is_free, jwt_is_simple, moment_there}
use Rattle.jwt_words.proofs.words.read_by_clap.Goals as goal

pub returns-in-Some-clause-ok : goal.returns-in-Some-clause-ok
returns-in-Some-clause-ok c =
    let words : List Text = map (λ (w : Bor Text). w.now) c.args.words.now in
    let app_is : app_of c.in_ok-command.field-0 ≡ jwt_app (is_some (seconds_of c.args.clock)) = c.in_ok-command.ensures ∙ ap jwt_app (c.is_some.ensures ∙ moment_there c.args.clock) in
    let none = subst (λ (a : App). fault_of a words ≡ []) app_is (c.in-Ok.ensures.kinds (ap is_simple_and_free app_is ∙ jwt_is_free (is_some (seconds_of c.args.clock)))) in
    let rows = (c.in-Ok.ensures.matches (ap is_simple app_is ∙ jwt_is_simple (is_some (seconds_of c.args.clock)))).1 in
    command_accepted (seconds_of c.args.clock) words (subcommand_rows_of c.in-Ok.matches) none (rows ∙ ap (λ (a : App). subcommand_of a words) app_is)
    ∙ sym (c.in-Some.ensures.command)

pub returns-clause-err : goal.returns-clause-err
returns-clause-err c w =
    let words : List Text = map (λ (w : Bor Text). w.now) c.args.words.now in
    let app_is : app_of c.in_ok-command.field-0 ≡ jwt_app (is_some (seconds_of c.args.clock)) = c.in_ok-command.ensures ∙ ap jwt_app (c.is_some.ensures ∙ moment_there c.args.clock) in
    let kinds = subst (λ (a : App). HasKind (fault_of a words) c.in-Err.error) app_is (c.in-Err.ensures.kinds (ap is_simple_and_free app_is ∙ jwt_is_free (is_some (seconds_of c.args.clock)))) in
    ⊎_elim (λ h. absurd (c.in_default.not-OutOfMemory (c.kind.ensures ∙ h))) (λ h. command_refused (seconds_of c.args.clock) (kind_of c.in-Err.error) words h) kinds

pub returns-in-Ok-clause-err : goal.returns-in-Ok-clause-err
returns-in-Ok-clause-err c w =
    let words : List Text = map (λ (w : Bor Text). w.now) c.args.words.now in
    let app_is : app_of c.in_ok-command.field-0 ≡ jwt_app (is_some (seconds_of c.args.clock)) = c.in_ok-command.ensures ∙ ap jwt_app (c.is_some.ensures ∙ moment_there c.args.clock) in
    let none = subst (λ (a : App). fault_of a words ≡ []) app_is (c.in-Ok.ensures.kinds (ap is_simple_and_free app_is ∙ jwt_is_free (is_some (seconds_of c.args.clock)))) in
    let rows = (c.in-Ok.ensures.matches (ap is_simple app_is ∙ jwt_is_simple (is_some (seconds_of c.args.clock)))).1 in
    command_accepted (seconds_of c.args.clock) words (subcommand_rows_of c.in-Ok.matches) none (rows ∙ ap (λ (a : App). subcommand_of a words) app_is)
    ∙ sym (c.in-None.ensures.command)
