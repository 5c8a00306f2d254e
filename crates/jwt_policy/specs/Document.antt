-- The policy that a document says, or the first cause to refuse it.
use Rattle.std.specs.Prelude.{ℕ, ℤ, pos, negsuc, List, [], ◌∷◌, codes, Bool, false, not, ◌||◌, ◌&&◌, nat_lt, ◌==◌, if◌then◌else◌, Option, Some, None, Result, Ok, Err, length}
use Rattle.std.specs.List.{find}
use Rattle.std.specs.Str.{bytes_eq}
use Rattle.serde_json.specs.Data.{Members}
use Rattle.jwt_text.specs.Answers.{◌>>=◌}
use Rattle.jwt_text.specs.declared.fault.TextFault.{TextFault}
use Rattle.jwt_text.specs.declared.fault.TextFault.TheVariants.{NameTwice}
use Rattle.jwt_text.specs.declared.limits.TheConstants.{LONGEST_POLICY, LONGEST_TOKEN}
use Rattle.jwt_text.specs.ObjectText.{object_of}
use Rattle.jwt_text.specs.Members.{whole_at, member_names}
use Rattle.jwt_policy.specs.Settings.{RunSettings, HeaderSettings, ClaimSettings, Settings}
use Rattle.jwt_policy.specs.Texts.{some_passes, is_among}
use Rattle.jwt_policy.specs.MemberKinds.{optional, whole_of, whole_in, flag_in, mode_in, typ_in, texts_in, understood_in, algs_in}
use Rattle.jwt_policy.specs.declared.policy_fault.PolicyFault.{PolicyFault}
use Rattle.jwt_policy.specs.declared.policy_fault.PolicyFault.TheVariants as fault

-- ---- the members in order, each with its range and default

abbrev pub run_settings_of : Members → Result RunSettings PolicyFault
run_settings_of ms = do
  version ← whole_in 1 2 1 (codes "version") ms
  algs ← algs_in (codes "algs") ms
  mode ← mode_in (codes "mode") ms
  limit ← whole_in 1 LONGEST_TOKEN 8192 (codes "limit") ms
  work ← whole_in 0 1000000000000 1048576 (codes "work") ms
  max_signatures ← whole_in 1 32 8 (codes "max_signatures") ms
  line_feed ← flag_in (codes "line_feed") ms
  Ok (record { version = version; algs = algs; mode = mode; limit = limit; work = work; max_signatures = max_signatures; line_feed = line_feed })

abbrev pub header_settings_of : Members → Result HeaderSettings PolicyFault
header_settings_of ms = do
  typ ← typ_in (codes "typ") ms
  need_kid ← flag_in (codes "need_kid") ms
  thumb_kid ← flag_in (codes "thumb_kid") ms
  understood ← understood_in (codes "understood") ms
  Ok (record { typ = typ; need_kid = need_kid; thumb_kid = thumb_kid; understood = understood })

abbrev pub claim_settings_of : Members → Result ClaimSettings PolicyFault
claim_settings_of ms = do
  issuers ← texts_in (codes "issuers") ms
  audiences ← texts_in (codes "audiences") ms
  required ← texts_in (codes "required") ms
  leeway ← whole_in 0 86400 0 (codes "leeway") ms
  max_age ← optional (whole_of 1 4294967295) (codes "max_age") ms
  Ok (record { issuers = issuers; audiences = audiences; required = required; leeway = leeway; max_age = max_age })

abbrev pub settings_of : Members → Result Settings PolicyFault
settings_of ms = do
  run ← run_settings_of ms
  header ← header_settings_of ms
  claims ← claim_settings_of ms
  max_calls ← optional (whole_of 0 32768) (codes "max_calls") ms
  Ok (record { run = run; header = header; claims = claims; max_calls = max_calls })

-- ---- the names of the members

abbrev pub names_of_version_one : List (List ℕ)
names_of_version_one =
    codes "version" ∷ codes "algs" ∷ codes "mode" ∷ codes "limit" ∷ codes "work" ∷ codes "max_signatures" ∷ codes "line_feed"
    ∷ codes "typ" ∷ codes "need_kid" ∷ codes "thumb_kid" ∷ codes "understood" ∷ codes "issuers" ∷ codes "audiences"
    ∷ codes "required" ∷ codes "leeway" ∷ codes "max_age" ∷ []

abbrev pub is_two : ℤ → Bool
is_two (pos n) = n == 2
is_two (negsuc n) = false

-- `version` is the whole number 2
abbrev pub is_version_two : Members → Bool
is_version_two ms = some_passes is_two (whole_at (codes "version") ms)

-- a name of version 1, or, in version 2, `max_calls`
unfoldable pub is_known : Bool → List ℕ → Bool
is_known two t = is_among names_of_version_one t || (two && bytes_eq t (codes "max_calls"))

abbrev pub unknown_in : Bool → List (List ℕ) → Option (List ℕ)
unknown_in two ts = find (λ t. not (is_known two t)) ts

-- the first unknown name, in ascending byte order
abbrev pub first_unknown : Members → Option (List ℕ)
first_unknown ms = unknown_in (is_version_two ms) (member_names ms)

-- ---- the document

abbrev pub unless_unknown : Option (List ℕ) → Members → Result Settings PolicyFault
unless_unknown (Some t) ms = Err (fault.Member t)
unless_unknown None ms = settings_of ms

unfoldable pub policy_in : Members → Result Settings PolicyFault
policy_in ms = unless_unknown (first_unknown ms) ms

abbrev pub document_in : Result Members TextFault → Result Settings PolicyFault
document_in (Ok ms) = policy_in ms
document_in (Err NameTwice) = Err fault.NameTwice
document_in (Err _) = Err fault.Json

-- the policy of a document, or the first cause to refuse it
unfoldable pub policy_of : List ℕ → Result Settings PolicyFault
policy_of document = if nat_lt LONGEST_POLICY (length document) then Err fault.TooLong else document_in (object_of document)
