-- The keys that stand in the document, and the URL of those that don't.
use Rattle.std.specs.Prelude.{ℕ, List, codes, Bool, not, ◌&&◌, nat_lt, is_some, if◌then◌else◌, Option, Some, None, option_and_then, Result, Ok, Err, [], ◌∷◌, length}
use Rattle.std.specs.List.{list_any}
use Rattle.serde_json.specs.Data.{Members}
use Rattle.jwt_mac.specs.declared.algorithm.Alg.{Alg}
use Rattle.jwt_mac.specs.Algorithm.{is_hmac_alg, digest_size}
use Rattle.jwt_mac.specs.Verifying.{OctKey}
use Rattle.jwt_text.specs.Answers.{some_or, unless, ◌>>=◌}
use Rattle.jwt_text.specs.Members.{text_at, object_at}
use Rattle.jwt_keys.specs.Keys.{KeyParts, permits_of}
use Rattle.jwt_keys.specs.KeySets.{KeyList, set_in_members}
use Rattle.jwt_keys.specs.declared.fault.KeysFault.{KeysFault}
use Rattle.jwt_jwk.specs.Jwk.{is_size, read_key}
use Rattle.jwt_policy.specs.Settings.{Settings}
use Rattle.jwt_policy.specs.Eligible.{is_for}
use Rattle.jwt_request.specs.urls.Urls.{url_where}
use Rattle.jwt_document.specs.declared.entries.Source.{Source}
use Rattle.jwt_document.specs.declared.entries.Source.TheVariants as source
use Rattle.jwt_document.specs.declared.fault.ServiceFault.{ServiceFault}
use Rattle.jwt_document.specs.declared.fault.ServiceFault.TheVariants as fault
use Rattle.jwt_document.specs.Tables.{is_true_at}

-- the key verifies by one of these algorithms (RFC 7517, sections 4.2 to 4.4; RFC 7518, section 3.1)
abbrev pub is_usable_for : List Alg → KeyParts → Bool
is_usable_for algs key = permits_of (codes "verify") key && list_any (is_for key) algs

-- one of the keys does
abbrev pub has_usable : List Alg → List KeyParts → Bool
has_usable algs keys = list_any (is_usable_for algs) keys

-- the fault of a key set, with the number of its entry
abbrev pub of_set : ℕ → Result KeyList KeysFault → Result KeyList ServiceFault
of_set n (Ok keys) = Ok keys
of_set n (Err f) = Err (fault.Keys n f)

abbrev pub unless_usable : ℕ → List Alg → KeyList → Result (Option KeyList) ServiceFault
unless_usable n algs keys = if has_usable algs keys.keys then Ok (Some keys) else Err (fault.NoUsableKey n)

-- the keys of a set, of which one has to be of use
abbrev pub set_keys : ℕ → List Alg → Members → Result (Option KeyList) ServiceFault
set_keys n algs ms = of_set n (set_in_members ms) >>= unless_usable n algs

-- the secret, of 1 to 4,096 octets as its row says
abbrev pub secret_at : Members → Option (List ℕ)
secret_at ms = option_and_then (λ secret. if is_size (length secret) then Some secret else None) (text_at (codes "secret") ms)

-- the set of a secret, which has no name and no bound
abbrev pub secret_set : List ℕ → KeyList
secret_set secret = record { keys = read_key None None (OctKey secret) 0 ∷ []; skips = [] }

-- HMAC by the algorithm asks for a secret of more octets than so many (RFC 7518, section 3.2)
abbrev pub is_short : ℕ → Alg → Bool
is_short size alg = nat_lt size (digest_size alg)

abbrev pub secret_fault : ℕ → List Alg → List ℕ → Option ServiceFault
secret_fault n algs secret = if not (list_any is_hmac_alg algs) then Some (fault.NoUsableKey n) else (if list_any (is_short (length secret)) algs then Some (fault.ShortSecret n) else None)

-- a URL of `https`, or of `http` where that is allowed
abbrev pub url_fault : ℕ → Bool → List ℕ → Option ServiceFault
url_fault n http url = if is_some (url_where http url) then None else Some (fault.Url n)

-- the keys of an entry where they stand in the document as a set or a secret
abbrev pub keys_of : ℕ → Settings → Members → Source → Result (Option KeyList) ServiceFault
keys_of n s ms source.Set = some_or (fault.EntryKind n) (object_at (codes "set") ms) >>= set_keys n s.run.algs
keys_of n s ms source.Secret = some_or (fault.EntryKind n) (secret_at ms) >>= λ secret. unless (secret_fault n s.run.algs secret) (Ok (Some (secret_set secret)))
keys_of n s ms source.Url = some_or (fault.EntryKind n) (text_at (codes "url") ms) >>= λ url. unless (url_fault n (is_true_at (codes "http") ms) url) (Ok None)
keys_of n s ms _ = Ok None
