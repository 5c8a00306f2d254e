-- A fetch has few requests.
use Rattle.std.proofs.Common.{◌≡◌, ◌<◌, ◌≤◌, ◌+◌, ◌-◌, ◌*◌, ◌&&◌, nat_eq, nat_lt, is_some, length, ℕ, Bool, true, false, List, Option, Some, None, Result, Ok, Err, if◌then◌else◌, refl, ap, sym, ◌∙◌, subst, arith, codes}
use Rattle.std.specs.Cmp.Lexicographic.{pointwise}
use Rattle.serde_json.specs.Data.{Members}
use Rattle.jwt_text.specs.declared.fault.TextFault.{TextFault}
use Rattle.jwt_text.specs.declared.limits.TheConstants.{LONGEST_KEY_SET}
use Rattle.jwt_text.specs.Members.{text_at}
use Rattle.jwt_text.specs.ObjectText.{object_of}
use Rattle.jwt_request.specs.urls.Urls.{url_where}
use Rattle.jwt_request.specs.urls.References.{redirection}
use Rattle.jwt_request.specs.declared.urls.answers.Asked.{Asked}
use Rattle.jwt_request.specs.declared.urls.answers.Asked.TheVariants.{Keys as KeySet, OpenId, OAuth}
use Rattle.jwt_request.specs.declared.urls.answers.Next.{Next}
use Rattle.jwt_request.specs.declared.urls.answers.Next.TheVariants.{Take, Follow, AskOAuth, TooOften, Fail}
use Rattle.jwt_request.specs.urls.Answers.{IsNext}
use Rattle.jwt_sources.specs.declared.step.Failure.TheVariants.{Status, Metadata as NoMetadata}
use Rattle.jwt_request.specs.declared.renewal.answer.Fetch.{Fetch}
use Rattle.jwt_request.specs.declared.renewal.answer.Fetch.TheVariants.{Nothing as NoFetch, Begin, UnderWay}
use Rattle.jwt_sources.specs.declared.source.Came.{Came}
use Rattle.jwt_sources.specs.declared.source.Came.TheVariants.{Taken, Next as GoesOn, Failed, Late}
use Rattle.jwt_sources.specs.declared.step.Follows.{Follows}
use Rattle.jwt_sources.specs.declared.step.Follows.TheVariants.{Keys as KeysCame, Step as StepCame, Failed as FetchFailed}
use Rattle.jwt_sources.specs.declared.step.Step.{Step}
use Rattle.jwt_sources.specs.declared.step.Step.TheVariants.{Nothing, Due, Out}
use Rattle.jwt_sources.specs.Places.{first_of}
use Rattle.jwt_sources.specs.Runs.{begins}
use Rattle.jwt_sources.specs.Steps.{IsBegun, IsHanded, step_after}
use Rattle.jwt_sources.specs.declared.place.Place.{Place}
use Rattle.jwt_sources.specs.declared.place.Place.TheVariants.{File, Url, Issuer}
use Rattle.jwt_sources.specs.declared.step.Target.{Target}
use Rattle.jwt_sources.specs.Follows.{Told, keys, failed, step, led_to, keys_at, metadata_told, place_told, taken_told, next_told, IsAfterUrl, IsAfter, url_of_target, IsAfterSized, IsAfterStep, told_of}

-- how many requests of a fetch may follow on one, at most: those of the metadata of RFC 8414 and of the keys, six each, and the redirections that are left
abbrev pub weight : Asked → ℕ
weight OpenId = 12
weight OAuth = 6
weight KeySet = 0

abbrev pub left_for : Asked → ℕ → ℕ
left_for asked followed = weight asked + (5 - followed)

-- how many may come of a fetch as far as it is
abbrev pub left_in : Step → ℕ
left_in Nothing = 0
left_in (Due it) = left_for it.asked it.followed + 1
left_in (Out ticket it) = left_for it.asked it.followed

-- it is no step, or one with at most so much left
abbrev Ends : Told → ℕ → Type 0
Ends keys n = Unit {0}
Ends (failed why) n = Unit {0}
Ends (step asked led followed) n = left_for asked followed < n

by_choice : (b : Bool) (url : List ℕ) → Ends (if b then step KeySet (Some url) 0 else failed NoMetadata) 6
by_choice true url = omega arith
by_choice false url = tt

by_keys : (name : List ℕ) (issuer uri : Option (List ℕ)) → Ends (keys_at name issuer uri) 6
by_keys name None uri = tt
by_keys name (Some issuer) None = tt
by_keys name (Some issuer) (Some uri) = by_choice (pointwise nat_eq issuer name && is_some (url_where false uri)) uri

by_metadata : (name : List ℕ) (read : Result Members TextFault) → Ends (metadata_told name read) 6
by_metadata name (Err fault) = tt
by_metadata name (Ok members) = by_keys name (text_at (codes "issuer") members) (text_at (codes "jwks_uri") members)

by_place : (place : Place) (read : Result Members TextFault) → Ends (place_told place read) 6
by_place (File name) read = tt
by_place (Url url) read = tt
by_place (Issuer it) read = by_metadata it.name.items read

more : (told : Told) (n m : ℕ) → n ≤ m → Ends told n → Ends told m
more keys n m less ends = tt
more (failed why) n m less ends = tt
more (step asked led followed) n m less ends = omega (arith, less, ends)

by_taken : (place : Place) (asked : Asked) (followed : ℕ) (read : Result Members TextFault) → Ends (taken_told place asked read) (left_for asked followed)
by_taken place KeySet followed read = tt
by_taken place OpenId followed read = more (place_told place read) 6 (12 + (5 - followed)) (omega arith) (by_place place read)
by_taken place OAuth followed read = more (place_told place read) 6 (6 + (5 - followed)) (omega arith) (by_place place read)

by_led : (asked : Asked) (followed : ℕ) (to : Option (List ℕ)) → followed < 5 → Ends (led_to asked followed to) (left_for asked followed)
by_led asked followed None few = tt
by_led asked followed (Some url) few = omega (arith, few)

by_other : (asked : Asked) (followed : ℕ) → asked ≡ OpenId → Ends (step OAuth None 0) (left_for asked followed)
by_other asked followed same = subst (λ (a : Asked). Ends (step OAuth None 0) (left_for a followed)) (sym same) (omega arith)

by_next : (next : Next) (place : Place) (it : Target) (status : ℕ) (location : List ℕ) (read : Result Members TextFault) → IsNext it.asked status it.followed next
    → Ends (next_told next place it location read) (left_for it.asked it.followed)
by_next Take place it status location read is = by_taken place it.asked it.followed read
by_next Follow place it status location read is = by_led it.asked it.followed (redirection (url_of_target place it) location) (is.again.0 refl).1
by_next AskOAuth place it status location read is = by_other it.asked it.followed (is.other.0 refl).0
by_next TooOften place it status location read is = tt
by_next Fail place it status location read is = tt

by_url : (place : Place) (it : Target) (status : ℕ) (location : List ℕ) (read : Result Members TextFault) (told : Told) → IsAfterUrl place it status location read told
    → Ends told (left_for it.asked it.followed)
by_url place it status location read told is =
    subst (λ (t : Told). Ends t (left_for it.asked it.followed)) (sym is.2) (by_next is.0 place it status location read is.1)

by_file : (b : Bool) (n : ℕ) → Ends (if b then keys else failed Status) n
by_file true n = tt
by_file false n = tt

ends : (place : Place) (it : Target) (status : ℕ) (location : List ℕ) (read : Result Members TextFault) (told : Told) → IsAfter place it status location read told
    → Ends told (left_for it.asked it.followed)
ends (File name) it status location read told is = subst (λ (t : Told). Ends t (left_for it.asked it.followed)) (sym is) (by_file (nat_eq status 200) (left_for it.asked it.followed))
ends (Url url) it status location read told is = by_url (Url url) it status location read told is
ends (Issuer issuer) it status location read told is = by_url (Issuer issuer) it status location read told is

by_size : (long : Bool) (place : Place) (it : Target) (status : ℕ) (location octets : List ℕ) (told : Told) → IsAfterSized long place it status location octets told
    → Ends told (left_for it.asked it.followed)
by_size true place it status location octets told is = subst (λ t. Ends t (left_for it.asked it.followed)) (sym is) tt
by_size false place it status location octets told is = ends place it status location (object_of octets) told is

by_step : (place : Place) (step : Step) (status : ℕ) (location octets : List ℕ) (told : Told) → IsAfterStep place step status location octets told → Ends told (left_in step)
by_step place Nothing status location octets told is = subst (λ t. Ends t 0) (sym is) tt
by_step place (Due it) status location octets told is = subst (λ t. Ends t (left_in (Due it))) (sym is) tt
by_step place (Out ticket it) status location octets told is = by_size (nat_lt LONGEST_KEY_SET (length octets)) place it status location octets told is

by_came : (came : Came) (it : Follows) (n : ℕ) → Ends (told_of it) n → left_in (step_after came it) ≤ n
by_came Taken it n few = omega arith
by_came GoesOn KeysCame n few = omega arith
by_came GoesOn (StepCame target) n few = omega (arith, few)
by_came GoesOn (FetchFailed why) n few = omega arith
by_came (Failed why) it n few = omega arith
by_came Late it n few = omega arith

pub fewer : (place : Place) (old : Step) (status : ℕ) (location octets : List ℕ) (came : Came) (it : Follows) → IsAfterStep place old status location octets (told_of it)
    → left_in (step_after came it) ≤ left_in old
fewer place old status location octets came it is = by_came came it (left_in old) (by_step place old status location octets (told_of it) is)

first : (place : Place) → left_for (first_of place) 0 ≤ 17
first (File name) = omega arith
first (Url url) = omega arith
first (Issuer it) = omega arith

pub begun : (fetch : Fetch) (place : Place) (old new : Step) → IsBegun fetch place old new → left_in new ≤ left_in old + 18 * begins fetch
begun NoFetch place old new same = let is : left_in new ≡ left_in old = ap left_in same in omega (arith, is)
begun (Begin ticket) place old new due =
    let is : left_in new ≡ left_for (first_of place) 0 + 1 = ap left_in due in
    let few = first place in omega (arith, is, few)
begun (UnderWay ticket left) place old new same = let is : left_in new ≡ left_in old = ap left_in same in omega (arith, is)

pub handed : (old new : Step) (ticket : ℕ) → IsHanded old ticket new → left_in new + 1 ≡ left_in old
handed old new ticket is = ap (λ x. left_in x + 1) is.2 ∙ ap left_in (sym is.1)
