-- The options of the command `jwt`, and the command line that they make, over `clap`'s own definitions.
use Rattle.std.specs.Prelude.{Bool, true, false, not, List, [], ◌∷◌, map, codes, Some}
use Rattle.clap.specs.Words.{App, Rule, Text as Name, new_app, new_rule, with_rule, with_subcommand}
use Rattle.clap.specs.declared.builder.action.ArgAction.TheVariants.{SetTrue}
use Rattle.clap.specs.declared.builder.value_parser.ValueParser.{ValueParser}
use Rattle.clap.specs.declared.builder.value_parser.ValueParser.TheVariants as vp
use Rattle.jwt_text.specs.declared.limits.TheConstants.{LONGEST_TOKEN}
use Rattle.jwt_settings.specs.Moments.{last_moment}
use Rattle.jwt_words.specs.declared.options.Takes.{Takes}
use Rattle.jwt_words.specs.declared.options.Takes.TheVariants.{Nothing, Text, Needed, Size, Form, Moment, MaybeMoment}

-- an option `--name VALUE`, and a flag `--name`
abbrev pub option : Name → Rule
option name = record (new_rule name) { long = Some name; value_names = 1 }

abbrev pub flag : Name → Rule
flag name = record (new_rule name) { long = Some name; action = Some SetTrue }

abbrev pub limit_range : ValueParser
limit_range = vp.Unsigned 1 LONGEST_TOKEN

abbrev pub now_range : ValueParser
now_range = vp.Unsigned 0 last_moment

-- an option by its name and what it takes; a moment may be left out where there is a clock
abbrev pub rule_for : Bool → Name → Takes → Rule
rule_for has_clock name Nothing = flag name
rule_for has_clock name Text = option name
rule_for has_clock name Needed = record (option name) { required = true }
rule_for has_clock name Size = record (option name) { parser = Some limit_range; defaults = codes "8192" ∷ [] }
rule_for has_clock name Form = record (option name) { defaults = codes "compact" ∷ [] }
rule_for has_clock name Moment = record (option name) { parser = Some now_range; required = not has_clock }
rule_for has_clock name MaybeMoment = record (option name) { parser = Some now_range }

-- a row of the table: a name, and what the option takes
abbrev pub Row : Type 0
Row = Name × Takes

abbrev pub rule_by : Bool → Row → Rule
rule_by has_clock row = rule_for has_clock row.0 row.1

abbrev pub with_rules : App → List Rule → App
with_rules app [] = app
with_rules app (rule ∷ rules) = with_rules (with_rule app rule) rules

-- a command by its rows
abbrev pub app_by : Bool → Name → List Row → App
app_by has_clock name rows = with_rules (new_app name) (map (rule_by has_clock) rows)

-- ---- the commands

abbrev pub mac_app : App
mac_app = app_by false (codes "mac") ((codes "k", Text) ∷ (codes "key-file", Text) ∷ (codes "limit", Size) ∷ [])

abbrev pub keys_app : App
keys_app = app_by false (codes "keys") ((codes "json", Nothing) ∷ [])

abbrev pub show_app : App
show_app = app_by false (codes "show") ((codes "limit", Size) ∷ (codes "json", Nothing) ∷ (codes "pretty", Nothing) ∷ (codes "now", MaybeMoment) ∷ [])

abbrev pub verify_app : Bool → App
verify_app has_clock = app_by has_clock (codes "verify") ((codes "now", Moment) ∷ (codes "public-keys", Nothing) ∷ (codes "policy", Text) ∷ (codes "keys", Text)
    ∷ (codes "token", Text) ∷ (codes "access", Text) ∷ (codes "expect", Text) ∷ (codes "lines", Nothing) ∷ (codes "json", Nothing) ∷ [])

abbrev pub issue_app : App
issue_app = app_by false (codes "issue") ((codes "alg", Needed) ∷ (codes "typ", Text) ∷ (codes "form", Form) ∷ (codes "keys", Text) ∷ [])

abbrev pub jwk_app : App
jwk_app = app_by false (codes "jwk") ((codes "file", Text) ∷ (codes "der", Nothing) ∷ (codes "kid", Text) ∷ (codes "kid-thumbprint", Nothing)
    ∷ (codes "alg", Text) ∷ (codes "bare", Nothing) ∷ (codes "new", Text) ∷ (codes "secret", Text) ∷ (codes "json", Nothing) ∷ [])

abbrev pub policy_app : App
policy_app = app_by false (codes "policy") ((codes "policy", Text) ∷ (codes "keys", Text) ∷ (codes "service", Text) ∷ (codes "json", Nothing) ∷ [])

abbrev pub top_app : App
top_app = record (new_app (codes "jwt")) { top = record (new_app (codes "jwt")).top { subcommand_required = true } }

-- the command line with the subcommands that take a token, and with all
abbrev pub token_apps : Bool → App
token_apps has_clock = with_subcommand (with_subcommand (with_subcommand (with_subcommand top_app mac_app.top) keys_app.top) show_app.top) (verify_app has_clock).top

abbrev pub jwt_app : Bool → App
jwt_app has_clock = with_subcommand (with_subcommand (with_subcommand (token_apps has_clock) issue_app.top) jwk_app.top) policy_app.top
