-- What the words of the command `jwt` ask for.
use Rattle.std.specs.Prelude.{◌≡◌, ◌≤◌, ℕ, Bool, ◌||◌, true, false, not, List, [], ◌∷◌, Option, Some, None, is_some, if◌then◌else◌, codes, option_and_then, option_map}
use Rattle.std.specs.Option.{option_map_or}
use Rattle.std.specs.Str.{bytes_eq}
use Rattle.std.specs.Str.Parse.{digits_value, without_leading_plus}
use Rattle.clap.specs.Words.{Kinds, Row, Text, fault_of, first_of, one_of, subcommand_of}
use Rattle.jwt_mac.specs.Algorithm.{alg_named, is_hmac_alg}
use Rattle.jwt_mac.specs.declared.algorithm.Alg.{Alg}
use Rattle.jwt_text.specs.declared.limits.TheConstants.{LONGEST_TOKEN}
use Rattle.jwt_jws.specs.declared.fault.Form.{Form}
use Rattle.jwt_jws.specs.declared.fault.Form.TheVariants.{Compact, Flattened, General}
use Rattle.clap.specs.Lexer.{name_and_value}
use Rattle.clap.specs.ValueTests.{accepts}
use Rattle.clap.specs.declared.builder.value_parser.ValueParser.{ValueParser}
use Rattle.jwt_settings.specs.Seen.{Expectation}
use Rattle.jwt_words.specs.Options.{jwt_app, limit_range, now_range}
use Rattle.jwt_settings.specs.declared.printing.Printing.{Printing}
use Rattle.jwt_settings.specs.declared.printing.Printing.TheVariants.{Json, Lines}

-- ---- what the words ask for

-- the files that are named
pub record Files : Type 0 where
  pub policy : Option Text
  pub keys : Option Text
  pub access : Option Text
  pub token : Option Text
  pub key : Option Text

abbrev pub no_files : Files
no_files = record { policy = None; keys = None; access = None; token = None; key = None }

-- what `verify --lines` asks for; with no moment, it is the clock's at each line
pub record LinesOrder : Type 0 where
  pub now : Option ℕ
  pub public_keys : Bool
  pub printing : Printing
  pub expected : Option Expectation
  pub files : Files

-- the `kid` that each key gets: none, this name, or its thumbprint
pub data KidChoice : Type 0 where
  NoKid : KidChoice
  KidNamed : Text → KidChoice
  KidThumbprint : KidChoice

-- what `jwk` asks for: the JWKs of public keys in PEM or in DER, in a key set, or one alone
pub record JwkOrder : Type 0 where
  pub printing : Printing
  pub der : Bool
  pub bare : Bool
  pub kid : KidChoice
  pub alg : Option Text
  pub files : Files

-- what `jwk --new` and `jwk --secret` ask for: a new secret, or that of a file, for this algorithm, in a key set, or its JWK alone, with this
-- `kid`, or else its thumbprint
pub record SecretOrder : Type 0 where
  pub printing : Printing
  pub bare : Bool
  pub alg : Alg
  pub kid : Option Text
  pub files : Files

-- what `policy` asks for: the file of the policy, and that of a key set, if any; or that of a service document
pub record PolicyOrder : Type 0 where
  pub printing : Printing
  pub files : Files

-- what `show --pretty` asks for: a token of at most so many octets, at a moment, where there is one
pub record PrettyOrder : Type 0 where
  pub limit : ℕ
  pub now : Option ℕ

-- what the words ask for, of each command: how its answer is printed, where it can be asked for in JSON, and its options
pub data Command : Type 0 where
  -- the text of the key
  Mac : Text → ℕ → Command
  -- the file of the key
  MacFile : Text → ℕ → Command
  Keys : Printing → Command
  Show : Printing → ℕ → Command
  Verify : Printing → ℕ → Bool → Option Expectation → Files → Command
  VerifyLines : LinesOrder → Command
  Issue : Alg → Option Text → Form → Files → Command
  Version : Command
  Jwk : JwkOrder → Command
  NewSecret : SecretOrder → Command
  Policy : PolicyOrder → Command
  Pretty : PrettyOrder → Command

-- the numbers of a command are in their ranges, and a secret is for HMAC
abbrev pub IsLimit : ℕ → Type 0
IsLimit limit = (1 ≤ limit) × (limit ≤ LONGEST_TOKEN)

abbrev pub HasRange : Command → Type 0
HasRange (Mac key limit) = IsLimit limit
HasRange (MacFile name limit) = IsLimit limit
HasRange (Show printing limit) = IsLimit limit
HasRange (Pretty order) = IsLimit order.limit
HasRange (NewSecret order) = is_hmac_alg order.alg ≡ true
HasRange command = Unit {0}

-- ---- what options say

-- the number that an option has, where its parser takes it
abbrev pub number_in : ValueParser → Option Text → Option ℕ
number_in range text = option_and_then (λ t. if accepts false range t then Some (digits_value 10 (without_leading_plus t)) else None) text

-- the key by its text, or by its file: one of the two
abbrev pub keyed : Option Text → Option Text → ℕ → Option Command
keyed (Some text) None limit = Some (Mac text limit)
keyed None (Some name) limit = Some (MacFile name limit)
keyed text name limit = None

abbrev pub mac_order : List Row → Option Command
mac_order rows = option_and_then (keyed (first_of (codes "k") rows) (first_of (codes "key-file") rows)) (number_in limit_range (one_of (codes "limit") rows))

-- a flag has the value `true` where it is used, and else `false`
abbrev pub is_set : Text → List Row → Bool
is_set name rows = option_map_or (λ t. bytes_eq t (codes "true")) (first_of name rows) false

-- in JSON where `--json` is used
abbrev pub printing_in : List Row → Printing
printing_in rows = if is_set (codes "json") rows then Json else Lines

-- the moment that `--now` names, else the clock's
abbrev pub moment_in : Option ℕ → List Row → Option ℕ
moment_in clock rows = if is_some (first_of (codes "now") rows) then number_in now_range (one_of (codes "now") rows) else clock

-- `show` without `--pretty` has no moment
abbrev pub show_order : List Row → Option Command
show_order rows = if is_some (first_of (codes "now") rows) then None else option_map (λ limit. Show (printing_in rows) limit) (number_in limit_range (one_of (codes "limit") rows))

abbrev pub files_in : List Row → Files
files_in rows = record { policy = first_of (codes "policy") rows; keys = first_of (codes "keys") rows; access = first_of (codes "access") rows; token = first_of (codes "token") rows; key = None }

-- a claim has to be a text, where `=` parts the two; its name ends before the first one
abbrev pub expectation_from : Text × Option Text → Option Expectation
expectation_from (claim, text) = option_map (λ t. record { claim = claim; text = t }) text

abbrev pub expectation_of : Text → Option Expectation
expectation_of word = expectation_from (name_and_value word)

-- what `--expect` says, if anything
abbrev pub expected_from : Option Text → Option (Option Expectation)
expected_from None = Some None
expected_from (Some word) = option_map (λ e. Some e) (expectation_of word)

abbrev pub expected_in : List Row → Option (Option Expectation)
expected_in rows = expected_from (first_of (codes "expect") rows)

abbrev pub verify_order : Option ℕ → List Row → Option Command
verify_order clock rows = option_and_then (λ now. option_map (λ expected. Verify (printing_in rows) now (is_set (codes "public-keys") rows) expected (files_in rows)) (expected_in rows)) (moment_in clock rows)

-- the form of a token that a text names
abbrev pub form_named : Text → Option Form
form_named text =
    if bytes_eq text (codes "compact") then Some Compact
    else if bytes_eq text (codes "json") then Some General
    else if bytes_eq text (codes "flattened") then Some Flattened
    else None

abbrev pub alg_in : List Row → Option Alg
alg_in rows = option_and_then alg_named (first_of (codes "alg") rows)

abbrev pub form_in : List Row → Option Form
form_in rows = option_and_then form_named (first_of (codes "form") rows)

abbrev pub keys_file_in : List Row → Files
keys_file_in rows = record { policy = None; keys = first_of (codes "keys") rows; access = None; token = None; key = None }

abbrev pub issue_order : List Row → Option Command
issue_order rows = option_and_then (λ alg. option_map (λ form. Issue alg (first_of (codes "typ") rows) form (keys_file_in rows)) (form_in rows)) (alg_in rows)

-- ---- a verdict for each line

-- the moment that `--now` names, if any
abbrev pub named_moment : List Row → Option (Option ℕ)
named_moment rows = if is_some (first_of (codes "now") rows) then option_map (λ now. Some now) (number_in now_range (one_of (codes "now") rows)) else Some None

abbrev pub is_named : Text → List Row → Bool
is_named name rows = is_some (first_of name rows)

-- the policy and the key set are in files, and there is no file of one token
abbrev pub lines_order : List Row → Option LinesOrder
lines_order rows =
    if is_named (codes "token") rows then None
    else (if is_named (codes "policy") rows
    then (if is_named (codes "keys") rows
    then option_and_then (λ now. option_map (λ expected. record { now = now; public_keys = is_set (codes "public-keys") rows; printing = printing_in rows; expected = expected; files = files_in rows }) (expected_in rows)) (named_moment rows)
    else None) else None)

-- ---- JWKs

-- one of the two, or none
abbrev pub kid_chosen : Option Text → Bool → Option KidChoice
kid_chosen None false = Some NoKid
kid_chosen None true = Some KidThumbprint
kid_chosen (Some name) false = Some (KidNamed name)
kid_chosen (Some name) true = None

abbrev pub kid_in : List Row → Option KidChoice
kid_in rows = kid_chosen (first_of (codes "kid") rows) (is_set (codes "kid-thumbprint") rows)

-- an algorithm by public keys
abbrev pub is_public_alg : Option Alg → Bool
is_public_alg None = false
is_public_alg (Some alg) = not (is_hmac_alg alg)

-- no `alg`, or the name of an algorithm by public keys
abbrev pub public_alg_chosen : Option Text → Option (Option Text)
public_alg_chosen None = Some None
public_alg_chosen (Some name) = if is_public_alg (alg_named name) then Some (Some name) else None

abbrev pub key_file_in : Option Text → Files
key_file_in name = record { policy = None; keys = None; access = None; token = None; key = name }

abbrev pub jwk_order : List Row → Option JwkOrder
jwk_order rows = option_and_then (λ alg. option_map (λ kid. record { printing = printing_in rows; der = is_set (codes "der") rows; bare = is_set (codes "bare") rows; kid = kid; alg = alg; files = key_file_in (first_of (codes "file") rows) }) (kid_in rows)) (public_alg_chosen (first_of (codes "alg") rows))

-- HMAC alone has secrets
abbrev pub secret_alg : Alg → Option Alg
secret_alg alg = if is_hmac_alg alg then Some alg else None

-- the HMAC algorithm that this option names
abbrev pub secret_alg_in : Text → List Row → Option Alg
secret_alg_in name rows = option_and_then secret_alg (option_and_then alg_named (first_of name rows))

-- options that a secret has no use for: those of an input, and the `kid` that it has anyhow
abbrev pub asks_of_public_keys : List Row → Bool
asks_of_public_keys rows = is_named (codes "file") rows || (is_set (codes "der") rows || is_set (codes "kid-thumbprint") rows)

abbrev pub secret_for : List Row → Option Text → Alg → SecretOrder
secret_for rows file alg = record { printing = printing_in rows; bare = is_set (codes "bare") rows; alg = alg; kid = first_of (codes "kid") rows; files = key_file_in file }

-- a new secret: `--new` names its algorithm, and its `kid` is its thumbprint
abbrev pub secret_order : List Row → Option SecretOrder
secret_order rows = if asks_of_public_keys rows || (is_named (codes "kid") rows || is_named (codes "alg") rows) then None else option_map (secret_for rows None) (secret_alg_in (codes "new") rows)

-- that of a file: `--alg` names its algorithm
abbrev pub kept_secret_order : List Row → Option SecretOrder
kept_secret_order rows = if asks_of_public_keys rows || is_named (codes "new") rows then None else option_map (secret_for rows (first_of (codes "secret") rows)) (secret_alg_in (codes "alg") rows)

-- ---- what a policy means

abbrev pub documents_in : Option Text → Option Text → Files
documents_in policy keys = record { policy = policy; keys = keys; access = None; token = None; key = None }

-- a policy, with a key set or without, or a service document: one of the two
abbrev pub meant_in : Option Text → Option Text → Option Text → Option Files
meant_in (Some policy) keys None = Some (documents_in (Some policy) keys)
meant_in None None (Some service) = Some (key_file_in (Some service))
meant_in policy keys service = None

abbrev pub policy_order : List Row → Option PolicyOrder
policy_order rows = option_map (λ files. record { printing = printing_in rows; files = files }) (meant_in (first_of (codes "policy") rows) (first_of (codes "keys") rows) (first_of (codes "service") rows))

-- ---- a token for a person

-- the moment that `--now` names, else the clock's, where there is one
abbrev pub shown_moment : Option ℕ → List Row → Option (Option ℕ)
shown_moment clock rows = if is_some (first_of (codes "now") rows) then option_map (λ now. Some now) (number_in now_range (one_of (codes "now") rows)) else Some clock

-- `--pretty` is never beside `--json`
abbrev pub pretty_order : Option ℕ → List Row → Option PrettyOrder
pretty_order clock rows = if is_set (codes "json") rows then None else option_and_then (λ limit. option_map (λ now. record { limit = limit; now = now }) (shown_moment clock rows)) (number_in limit_range (one_of (codes "limit") rows))

-- ---- the command that words ask for

-- `jwk`: the secret of a file, a new one, or the JWKs of public keys
abbrev pub jwk_or_secret : List Row → Option Command
jwk_or_secret rows = if is_named (codes "secret") rows then option_map (λ order. NewSecret order) (kept_secret_order rows) else if is_named (codes "new") rows then option_map (λ order. NewSecret order) (secret_order rows) else option_map (λ order. Jwk order) (jwk_order rows)

-- what a subcommand asks for
abbrev pub command_in : Option ℕ → Text → List Row → Option Command
command_in clock name rows =
    if is_set (codes "lines") rows then option_map (λ order. VerifyLines order) (lines_order rows)
    else if is_set (codes "pretty") rows then option_map (λ order. Pretty order) (pretty_order clock rows)
    else if bytes_eq name (codes "mac") then mac_order rows
    else if bytes_eq name (codes "keys") then Some (Keys (printing_in rows))
    else if bytes_eq name (codes "show") then show_order rows
    else if bytes_eq name (codes "verify") then verify_order clock rows
    else if bytes_eq name (codes "issue") then issue_order rows
    else if bytes_eq name (codes "jwk") then jwk_or_secret rows
    else if bytes_eq name (codes "policy") then option_map (λ order. Policy order) (policy_order rows)
    else None

-- what a subcommand with its matches asks for, where `clap` has no fault
abbrev pub command_under : Option ℕ → Kinds → Option (Text × List Row) → Option Command
command_under clock [] matches = option_and_then (λ m. command_in clock m.0 m.1) matches
command_under clock (fault ∷ faults) matches = None

-- what the words ask for by `clap`, where it accepts them
abbrev pub clap_command : Option ℕ → List Text → Option Command
clap_command clock words = let app = jwt_app (is_some clock) in command_under clock (fault_of app words) (subcommand_of app words)

-- behind the name of the program stands `--version` alone
abbrev pub asks_version : List Text → Bool
asks_version [] = false
asks_version (program ∷ []) = false
asks_version (program ∷ word ∷ []) = bytes_eq word (codes "--version")
asks_version (program ∷ word ∷ more ∷ words) = false

-- what the words ask for at the moment that a clock says, or without a clock
abbrev pub command_of : Option ℕ → List Text → Option Command
command_of clock words = if asks_version words then Some Version else clap_command clock words
