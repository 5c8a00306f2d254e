-- What follows on an answer.
use Rattle.std.specs.Prelude.{◌≡◌, ◌==◌, ◌+◌, ◌&&◌, nat_eq, nat_lt, length, ℕ, Bool, true, List, false, codes, is_some, option_map, if◌then◌else◌, Option, Some, None, Result, Ok, Err}
use Rattle.std.specs.Cmp.Lexicographic.{pointwise}
use Rattle.serde_json.specs.Data.{Members}
use Rattle.jwt_text.specs.declared.fault.TextFault.{TextFault}
use Rattle.jwt_text.specs.declared.limits.TheConstants.{LONGEST_KEY_SET}
use Rattle.jwt_text.specs.ObjectText.{object_of}
use Rattle.jwt_sources.specs.declared.step.Failure.{Failure}
use Rattle.jwt_sources.specs.declared.step.Failure.TheVariants.{Status, Redirection, TooOften as RedirectsTooOften, Metadata as NoMetadata, TooLong}
use Rattle.jwt_text.specs.Members.{text_at}
use Rattle.jwt_request.specs.declared.urls.answers.Asked.{Asked}
use Rattle.jwt_request.specs.declared.urls.answers.Asked.TheVariants.{Keys as KeySet, OpenId, OAuth}
use Rattle.jwt_request.specs.declared.urls.answers.Next.{Next}
use Rattle.jwt_request.specs.declared.urls.answers.Next.TheVariants.{Take, Follow, AskOAuth, TooOften, Fail}
use Rattle.jwt_request.specs.urls.Answers.{IsNext}
use Rattle.jwt_request.specs.urls.Urls.{url_where}
use Rattle.jwt_request.specs.urls.References.{redirection}
use Rattle.jwt_sources.specs.declared.place.Place.{Place}
use Rattle.jwt_sources.specs.declared.place.Place.TheVariants.{File, Url, Issuer}
use Rattle.jwt_sources.specs.declared.step.Target.{Target}
use Rattle.jwt_sources.specs.declared.step.Follows.{Follows}
use Rattle.jwt_sources.specs.declared.step.Follows.TheVariants.{Keys, Step as Further, Failed}
use Rattle.jwt_sources.specs.declared.step.Step.{Step}
use Rattle.jwt_sources.specs.declared.step.Step.TheVariants.{Nothing, Due, Out}
use Rattle.jwt_sources.specs.Places.{first_of, url_at}

-- what follows: the content is a key set; the fetch failed; or this is asked for, at this URL or where the source stands, after so many redirections
pub data Told : Type 0 where
  keys : Told
  failed : Failure → Told
  step : Asked → Option (List ℕ) → ℕ → Told

abbrev pub told_of : Follows → Told
told_of Keys = keys
told_of (Further it) = step it.asked (option_map (λ url. url.items) it.led) it.followed
told_of (Failed why) = failed why

-- the URL that was asked
abbrev pub url_led : List ℕ → Option (List ℕ) → List ℕ
url_led own None = own
url_led own (Some url) = url

abbrev pub url_of_target : Place → Target → List ℕ
url_of_target place it = url_led (url_at place it.asked) (option_map (λ url. url.items) it.led)

-- a redirection is followed where it leads to a URL of the same origin
abbrev pub led_to : Asked → ℕ → Option (List ℕ) → Told
led_to asked followed None = failed Redirection
led_to asked followed (Some url) = step asked (Some url) (followed + 1)

-- metadata lead to the keys where they name that very issuer, and the URL of a key set by https
abbrev pub keys_at : List ℕ → Option (List ℕ) → Option (List ℕ) → Told
keys_at name None uri = failed NoMetadata
keys_at name (Some issuer) None = failed NoMetadata
keys_at name (Some issuer) (Some uri) = if pointwise nat_eq issuer name && is_some (url_where false uri) then step KeySet (Some uri) 0 else failed NoMetadata

abbrev pub metadata_told : List ℕ → Result Members TextFault → Told
metadata_told name (Err fault) = failed NoMetadata
metadata_told name (Ok members) = keys_at name (text_at (codes "issuer") members) (text_at (codes "jwks_uri") members)

abbrev pub place_told : Place → Result Members TextFault → Told
place_told (File name) read = failed NoMetadata
place_told (Url url) read = failed NoMetadata
place_told (Issuer it) read = metadata_told it.name.items read

abbrev pub taken_told : Place → Asked → Result Members TextFault → Told
taken_told place KeySet read = keys
taken_told place OpenId read = place_told place read
taken_told place OAuth read = place_told place read

-- what follows by the status, the `Location`, and the object that the content is the text of
abbrev pub next_told : Next → Place → Target → List ℕ → Result Members TextFault → Told
next_told Take place it location read = taken_told place it.asked read
next_told Follow place it location read = led_to it.asked it.followed (redirection (url_of_target place it) location)
next_told AskOAuth place it location read = step OAuth None 0
next_told TooOften place it location read = failed RedirectsTooOften
next_told Fail place it location read = failed Status

abbrev pub IsAfterUrl : Place → Target → ℕ → List ℕ → Result Members TextFault → Told → Type 0
IsAfterUrl place it status location read told = (next : Next) × IsNext it.asked status it.followed next × (told ≡ next_told next place it location read)

-- a file is read or isn't, and leads nowhere
abbrev pub file_told : ℕ → Told
file_told status = if status == 200 then keys else failed Status

abbrev pub IsAfter : Place → Target → ℕ → List ℕ → Result Members TextFault → Told → Type 0
IsAfter (File name) it status location read told = told ≡ file_told status
IsAfter (Url url) it status location read told = IsAfterUrl (Url url) it status location read told
IsAfter (Issuer issuer) it status location read told = IsAfterUrl (Issuer issuer) it status location read told

-- a content that has more octets than a key set may have is a failed fetch
abbrev pub IsAfterSized : Bool → Place → Target → ℕ → List ℕ → List ℕ → Told → Type 0
IsAfterSized true place it status location octets told = told ≡ failed TooLong
IsAfterSized false place it status location octets told = IsAfter place it status location (object_of octets) told

abbrev pub IsAfterAll : Place → Target → ℕ → List ℕ → List ℕ → Told → Type 0
IsAfterAll place it status location octets told = IsAfterSized (nat_lt LONGEST_KEY_SET (length octets)) place it status location octets told

-- of a source that waits for an answer
abbrev pub IsAfterStep : Place → Step → ℕ → List ℕ → List ℕ → Told → Type 0
IsAfterStep place Nothing status location octets told = told ≡ failed Status
IsAfterStep place (Due it) status location octets told = told ≡ failed Status
IsAfterStep place (Out ticket it) status location octets told = IsAfterAll place it status location octets told

-- the URL, or the name of the file, of what is fetched; that at which the source stands where nothing is
abbrev pub url_of_step : Place → Step → List ℕ
url_of_step place Nothing = url_at place (first_of place)
url_of_step place (Due it) = url_of_target place it
url_of_step place (Out ticket it) = url_of_target place it

-- what is asked for; what is asked for first where nothing is
abbrev pub asked_by_step : Place → Step → Asked
asked_by_step place Nothing = first_of place
asked_by_step place (Due it) = it.asked
asked_by_step place (Out ticket it) = it.asked
