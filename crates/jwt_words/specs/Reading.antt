-- What each command reads, and how its answer is printed.
use Rattle.std.specs.Prelude.{ℕ, Bool, true, false, is_some, Some, if◌then◌else◌}
use Rattle.jwt_text.specs.declared.limits.TheConstants.{LONGEST_KEY_SET}
use Rattle.jwt_mac.specs.Algorithm.{digest_size}
use Rattle.jwt_words.specs.Words.{Command, Files, Issue, Jwk, Keys, Mac, MacFile, NewSecret, Policy, Pretty, Show, Verify, VerifyLines, Version, no_files}
use Rattle.jwt_settings.specs.declared.printing.Printing.{Printing}
use Rattle.jwt_settings.specs.declared.printing.Printing.TheVariants.{Lines}

pub record Reads : Type 0 where
  -- how the answer is printed
  pub printing : Printing
  -- the files that it names
  pub files : Files
  -- the most octets of the file of a key
  pub key_limit : ℕ
  -- octets of the system's random source
  pub random : ℕ
  -- whether it may read standard input
  pub input : Bool

-- files, and what of its documents no file has from standard input. The text of the key of `mac` spells 4,096 octets at most, and a line feed
-- may stand behind it.
abbrev pub files_and_input : Printing → Files → Reads
files_and_input printing files = record { printing = printing; files = files; key_limit = 5463; random = 0; input = true }

-- files alone
abbrev pub files_alone : Printing → Files → Reads
files_alone printing files = record (files_and_input printing files) { input = false }

-- A new secret takes as many octets of the random source as a digest of the hash function of its algorithm has (RFC 7518, section 3.2), where
-- no file has the secret.
abbrev pub reads : Command → Reads
reads (Mac key limit) = files_and_input Lines no_files
reads (MacFile name limit) = files_and_input Lines (record no_files { key = Some name })
reads (Keys printing) = files_and_input printing no_files
reads (Show printing limit) = files_and_input printing no_files
reads (Verify printing now public_keys expected files) = files_and_input printing files
reads (VerifyLines order) = files_and_input order.printing order.files
reads (Issue alg typ form files) = files_and_input Lines files
reads Version = files_alone Lines no_files
reads (Jwk order) = record (files_and_input order.printing order.files) { key_limit = LONGEST_KEY_SET }
reads (NewSecret order) = record (files_alone order.printing order.files) { key_limit = 4096; random = if is_some order.files.key then 0 else digest_size order.alg }
reads (Policy order) = record (files_alone order.printing order.files) { key_limit = LONGEST_KEY_SET }
reads (Pretty order) = files_and_input Lines no_files
