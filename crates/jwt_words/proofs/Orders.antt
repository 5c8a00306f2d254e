-- What `clap`'s clauses say of what words ask for.
use Rattle.std.proofs.Common.{◌≡◌, ap₂, ℕ, Bool, true, false, List, [], ◌∷◌, Option, None, Some, refl, sym}
use Rattle.std.specs.Prelude.{is_some, option_and_then}
use Rattle.clap.specs.Words.{IsAmong, Kinds, Row, Text, fault_of, is_simple, is_simple_and_free, subcommand_of}
use Rattle.clap.specs.declared.error.ErrorKind.{ErrorKind}
use Rattle.clap.proofs.OnLiterals.{clap_on_literals}
use Rattle.jwt_settings.specs.Seen.{seconds_of}
use Rattle.jwt_settings.specs.declared.moment.Moment.{Moment}
use Rattle.jwt_words.specs.Options.{jwt_app}
use Rattle.jwt_words.specs.Words.{clap_command, command_in, command_under}

-- the command is one of which `clap` says exactly what it takes
pub jwt_is_simple : (has_clock : Bool) → is_simple (jwt_app has_clock) ≡ true
unfolding clap_on_literals
jwt_is_simple true = refl
jwt_is_simple false = refl

pub jwt_is_free : (has_clock : Bool) → is_simple_and_free (jwt_app has_clock) ≡ true
unfolding clap_on_literals
jwt_is_free true = refl
jwt_is_free false = refl

pub command_accepted : (clock : Option ℕ) (words : List Text) (rows : Option (Text × List Row)) → fault_of (jwt_app (is_some clock)) words ≡ []
    → rows ≡ subcommand_of (jwt_app (is_some clock)) words → clap_command clock words ≡ option_and_then (λ m. command_in clock m.0 m.1) rows
command_accepted clock words rows none is = ap₂ (command_under clock) none (sym is)

among : (clock : Option ℕ) (k : ErrorKind) (faults : Kinds) (rows : Option (Text × List Row)) → IsAmong k faults → command_under clock faults rows ≡ None
among clock k [] rows h = absurd h
among clock k (f ∷ fs) rows h = refl

pub command_refused : (clock : Option ℕ) (k : ErrorKind) (words : List Text) → IsAmong k (fault_of (jwt_app (is_some clock)) words) → clap_command clock words ≡ None
command_refused clock k words h = among clock k (fault_of (jwt_app (is_some clock)) words) (subcommand_of (jwt_app (is_some clock)) words) h

-- a moment is there where its seconds are
pub moment_there : (m : Option Moment) → is_some m ≡ is_some (seconds_of m)
moment_there None = refl
moment_there (Some m) = refl
