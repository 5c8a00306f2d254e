-- The keys by which tokens are issued.
use Rattle.std.specs.Prelude.{codes, Bool, false, ◌&&◌, if◌then◌else◌, Option, Some, None, option_and_then, slice_get, Result, Ok, Err}
use Rattle.std.specs.Option.{option_map_or}
use Rattle.serde_json.specs.Data.{Members}
use Rattle.jwt_text.specs.Answers.{some_or, ◌>>=◌}
use Rattle.jwt_text.specs.Members.{object_at}
use Rattle.jwt_mac.specs.declared.algorithm.Alg.{Alg}
use Rattle.jwt_mac.specs.Algorithm.{alg_named}
use Rattle.jwt_keys.specs.Keys.{KeyParts, permits_of}
use Rattle.jwt_keys.specs.KeySets.{KeyList, set_in_members}
use Rattle.jwt_keys.specs.declared.fault.KeysFault.{KeysFault}
use Rattle.jwt_policy.specs.Eligible.{is_for}
use Rattle.jwt_document.specs.declared.rows.Cause.TheVariants as cause
use Rattle.jwt_document.specs.declared.rows.Within.TheVariants as within
use Rattle.jwt_document.specs.declared.fault.ServiceFault.{ServiceFault}
use Rattle.jwt_document.specs.declared.fault.ServiceFault.TheVariants as fault
use Rattle.jwt_document.specs.Service.{rows_of, issue}
use Rattle.jwt_document.specs.Given.{secret_at, secret_set}
use Rattle.jwt_document.specs.Needs.{fault_at}
use Rattle.jwt_document.specs.Said.{number_in, text_in}

-- the set, where it can be read
abbrev pub if_read : Result KeyList KeysFault → Option KeyList
if_read (Ok keys) = Some keys
if_read (Err f) = None

-- the secret alone, else those of the set
abbrev pub secret_or_set : Option KeyList → Option KeyList → Option KeyList
secret_or_set (Some keys) set = Some keys
secret_or_set None set = set

abbrev pub keys_that_issue : Members → Option KeyList
keys_that_issue ms = secret_or_set (option_and_then (λ secret. Some (secret_set secret)) (secret_at ms)) (option_and_then (λ set. if_read (set_in_members set)) (object_at (codes "set") ms))

-- the key signs by the algorithm (RFC 7517, sections 4.2 to 4.4; RFC 7518, section 3.2)
abbrev pub signs_by : Option Alg → KeyParts → Bool
signs_by alg key = permits_of (codes "sign") key && option_map_or (is_for key) alg false

-- the key of the number that is written does
abbrev pub can_sign : Members → KeyList → Bool
can_sign ms keys = option_map_or (signs_by (alg_named (text_in (rows_of issue) (codes "alg") ms))) (slice_get keys.keys (number_in (rows_of issue) (codes "key") ms)) false

abbrev pub no_key : ServiceFault
no_key = fault.Member (fault_at within.Issue (codes "key") cause.NoKey)

abbrev pub unless_none_signs : Members → KeyList → Result (Option KeyList) ServiceFault
unless_none_signs ms keys = if can_sign ms keys then Ok (Some keys) else Err no_key

abbrev pub issuing_in : Members → Result (Option KeyList) ServiceFault
issuing_in ms = some_or no_key (keys_that_issue ms) >>= unless_none_signs ms

-- the keys by which tokens are issued, none where none are
abbrev pub issuing_if : Option Members → Result (Option KeyList) ServiceFault
issuing_if (Some ms) = issuing_in ms
issuing_if None = Ok None

abbrev pub issuing_of : Members → Result (Option KeyList) ServiceFault
issuing_of ms = issuing_if (object_at (codes "issue") ms)
