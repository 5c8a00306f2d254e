-- The amount that is taken of an input: nothing behind a line that is refused, and one octet past a limit.
use Rattle.std.specs.Prelude.{◌+◌, ℕ, List, Option, Some, None, Result, Ok, Err}
use Rattle.jwt_text.specs.declared.limits.TheConstants.{LONGEST_KEY_SET, LONGEST_POLICY, LONGEST_TOKEN}
use Rattle.jwt_keys.specs.KeySets.{KeyList, key_set_of}
use Rattle.jwt_keys.specs.declared.fault.KeysFault.{KeysFault}
use Rattle.jwt_policy.specs.Document.{policy_of}
use Rattle.jwt_policy.specs.Settings.{Settings}
use Rattle.jwt_policy.specs.declared.policy_fault.PolicyFault.{PolicyFault}
use Rattle.jwt_access.specs.Rules.{Rule}
use Rattle.jwt_access.specs.declared.access_fault.AccessFault.{AccessFault}
use Rattle.jwt_words.specs.InHand.{Held, unread}
use Rattle.jwt_words.specs.Reading.{reads}
use Rattle.jwt_command.specs.Access.{rule_in_hand}
use Rattle.jwt_command.specs.Documents.{behind, document, document_most, last_most}
use Rattle.jwt_command.specs.Mac.{behind_key, key_spelled, mac_most}
use Rattle.jwt_words.specs.Words.{Command, Issue, Jwk, Keys, Mac, MacFile, NewSecret, Policy, Pretty, Show, Verify, VerifyLines, Version}

-- behind the line of a key set, of so many octets at most
abbrev pub behind_keys : ℕ → Result KeyList KeysFault → ℕ
behind_keys most (Ok set) = most
behind_keys most (Err fault) = 0

-- a key set, in hand or a line, and what is behind it
abbrev pub keys_most : ℕ → Option (List ℕ) → List ℕ → ℕ
keys_most most held x = document_most LONGEST_KEY_SET held x + behind_keys most (key_set_of (document held x))

-- behind an access rule, of so many octets at most
abbrev pub behind_rule : ℕ → Result (Option Rule) AccessFault → ℕ
behind_rule most (Ok rule) = most
behind_rule most (Err fault) = 0

-- behind the key set of `verify`: one octet past the policy's limit
abbrev pub token_most : Held → Settings → ℕ
token_most held p = behind_rule (last_most (p.run.limit + 1) held.token) (rule_in_hand held.access)

-- behind a policy: a key set, and the token
abbrev pub behind_policy : Held → Result Settings PolicyFault → List ℕ → ℕ
behind_policy held (Ok p) x = keys_most (token_most held p) held.keys x
behind_policy held (Err fault) x = 0

abbrev pub verify_most : Held → List ℕ → ℕ
verify_most held x = document_most LONGEST_POLICY held.policy x + behind_policy held (policy_of (document held.policy x)) (behind held.policy x)

-- of a command whose files are in hand; with `verify --lines` any part may be taken
abbrev pub most_in_hand : Held → Command → List ℕ → Option ℕ
most_in_hand held (Mac key limit) x = Some (behind_key (key_spelled key) limit)
most_in_hand held (MacFile name limit) x = Some (mac_most held.key limit)
most_in_hand held (Keys printing) x = Some (LONGEST_KEY_SET + 1)
most_in_hand held (Show printing limit) x = Some (limit + 1)
most_in_hand held (Verify printing now public_keys expected files) x = Some (verify_most held x)
most_in_hand held (VerifyLines order) x = None
most_in_hand held (Issue alg typ form files) x = Some (keys_most (LONGEST_TOKEN + 1) held.keys x)
most_in_hand held Version x = Some 0
most_in_hand held (Jwk order) x = Some (last_most (LONGEST_KEY_SET + 1) held.key)
most_in_hand held (NewSecret order) x = Some 0
most_in_hand held (Policy order) x = Some 0
most_in_hand held (Pretty order) x = Some (order.limit + 1)

-- a file that is named and isn't in hand
abbrev pub lacking : Held → Option Command → Option (List ℕ)
lacking held (Some command) = unread (reads command).files held
lacking held None = None

-- nothing where a file can't be read
abbrev pub most_unless_unread : Option (List ℕ) → Option ℕ → Option ℕ
most_unless_unread (Some name) most = Some 0
most_unless_unread None most = most

-- of words that ask for a command, whose files may not be in hand, or for nothing
abbrev pub most_taken : Held → Option Command → List ℕ → Option ℕ
most_taken held (Some command) x = most_unless_unread (lacking held (Some command)) (most_in_hand held command x)
most_taken held None x = Some 0
