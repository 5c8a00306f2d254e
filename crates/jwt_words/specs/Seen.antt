-- The crate's own types as contracts see them.
use Rattle.std.specs.Prelude.{option_map}
use Rattle.jwt_settings.specs.Seen.{expectation_view, seconds_of}
use Rattle.jwt_words.specs.Words.{Command, Files, Issue, Jwk, JwkOrder, Keys, KidChoice, KidNamed, KidThumbprint, LinesOrder, Mac, MacFile, NewSecret, NoKid, Policy, PolicyOrder, Pretty, PrettyOrder, SecretOrder, Show, Verify, VerifyLines, Version}
use Rattle.jwt_words.specs.declared.jwk.JwkOrder.{JwkOrder as CodeJwk}
use Rattle.jwt_words.specs.declared.jwk.KidChoice.{KidChoice as CodeKid}
use Rattle.jwt_words.specs.declared.jwk.KidChoice.TheVariants as kid
use Rattle.jwt_words.specs.declared.jwk.SecretOrder.{SecretOrder as CodeSecret}
use Rattle.jwt_words.specs.declared.policy.PolicyOrder.{PolicyOrder as CodePolicy}
use Rattle.jwt_words.specs.declared.pretty.PrettyOrder.{PrettyOrder as CodePretty}
use Rattle.jwt_words.specs.declared.command.Command.{Command as CodeCommand}
use Rattle.jwt_words.specs.declared.command.Command.TheVariants as command
use Rattle.jwt_words.specs.declared.command.Files.{Files as CodeFiles}
use Rattle.jwt_words.specs.declared.command.LinesOrder.{LinesOrder as CodeLines}
use Rattle.jwt_words.specs.declared.command.Reads.{Reads as CodeReads}
use Rattle.jwt_words.specs.declared.words.WordsFault.{WordsFault}
use Rattle.jwt_words.specs.declared.words.WordsFault.TheVariants.{OutOfMemory, Wrong}
use Rattle.jwt_words.specs.InHand.{Held}
use Rattle.jwt_words.specs.Reading.{Reads}
use Rattle.jwt_words.specs.declared.in_hand.Held.{Held as CodeHeld}

abbrev pub files_view : CodeFiles → Files
files_view f = record { policy = option_map (λ t. t.now) f.policy; keys = option_map (λ t. t.now) f.keys; access = option_map (λ t. t.now) f.access; token = option_map (λ t. t.now) f.token; key = option_map (λ t. t.now) f.key }

abbrev pub lines_view : CodeLines → LinesOrder
lines_view o = record { now = seconds_of o.now; public_keys = o.public_keys; printing = o.printing; expected = option_map expectation_view o.expected; files = files_view o.files }

abbrev pub kid_view : CodeKid → KidChoice
kid_view kid.Absent = NoKid
kid_view (kid.Name text) = KidNamed text.now
kid_view kid.Thumbprint = KidThumbprint

abbrev pub jwk_view : CodeJwk → JwkOrder
jwk_view o = record { printing = o.printing; der = o.der; bare = o.bare; kid = kid_view o.kid; alg = option_map (λ t. t.now) o.alg; files = files_view o.files }

abbrev pub secret_view : CodeSecret → SecretOrder
secret_view o = record { printing = o.printing; bare = o.bare; alg = o.alg; kid = option_map (λ t. t.now) o.kid; files = files_view o.files }

abbrev pub policy_view : CodePolicy → PolicyOrder
policy_view o = record { printing = o.printing; files = files_view o.files }

abbrev pub pretty_view : CodePretty → PrettyOrder
pretty_view o = record { limit = o.limit; now = seconds_of o.now }

abbrev pub command_view : CodeCommand → Command
command_view (command.Mac key limit) = Mac key.now limit
command_view (command.MacFile name limit) = MacFile name.now limit
command_view (command.Keys printing) = Keys printing
command_view (command.Show printing limit) = Show printing limit
command_view (command.Verify printing now public_keys expected files) = Verify printing now.seconds public_keys (option_map expectation_view expected) (files_view files)
command_view (command.VerifyLines order) = VerifyLines (lines_view order)
command_view (command.Issue alg typ form files) = Issue alg (option_map (λ t. t.now) typ) form (files_view files)
command_view command.Version = Version
command_view (command.Jwk order) = Jwk (jwk_view order)
command_view (command.NewSecret order) = NewSecret (secret_view order)
command_view (command.Policy order) = Policy (policy_view order)
command_view (command.Pretty order) = Pretty (pretty_view order)

abbrev pub reads_view : CodeReads → Reads
reads_view r = record { printing = r.printing; files = files_view r.files; key_limit = r.key_limit; random = r.random; input = r.input }

-- the words are wrong, and memory was there
abbrev pub IsWrong : WordsFault → Type 0
IsWrong OutOfMemory = ⊥
IsWrong (Wrong text) = Unit {0}

abbrev pub held_view : CodeHeld → Held
held_view h = record { policy = option_map (λ t. t.now) h.policy; keys = option_map (λ t. t.now) h.keys; access = option_map (λ t. t.now) h.access; token = option_map (λ t. t.now) h.token; key = option_map (λ t. t.now) h.key; random = option_map (λ t. t.now) h.random }
