-- That each 401 has a challenge, and each value of `Authorization` one meaning.
use Rattle.std.specs.Prelude.{◌≡◌, ◌≢◌, ◌⊎◌, ℕ, List, [], Option}
use Rattle.jwt_request.specs.declared.scheme.Scheme.{Scheme}
use Rattle.jwt_request.specs.declared.scheme.Scheme.TheVariants.{Bearer, Dpop}
use Rattle.jwt_request.specs.declared.scheme.Schemes.{Schemes}
use Rattle.jwt_request.specs.declared.credentials.Credentials.{Credentials}
use Rattle.jwt_request.specs.declared.replies.Reply.{Reply}
use Rattle.jwt_request.specs.declared.replies.Outcome.{Outcome}
use Rattle.jwt_request.specs.declared.challenge.Challenge.{Challenge}
use Rattle.jwt_request.specs.Spelled.{IsFound}
use Rattle.jwt_request.specs.Replies.{IsReply}
use Rattle.jwt_request.specs.Challenges.{challenge_text}

-- there is a header WWW-Authenticate with this challenge: whatever it quotes, its text isn't empty
abbrev pub IsSent : Scheme → Challenge → Type 0
IsSent scheme challenge = (realm scope algs : List ℕ) → challenge_text scheme challenge realm scope algs ≢ []

-- whatever is answered with 401 has at least one (RFC 9110, section 15.5.2)
abbrev pub Challenged : Type 0
Challenged = (schemes : Schemes) (shown : Option Scheme) (outcome : Outcome) (reply : Reply) → IsReply schemes shown outcome reply
    → reply.status ≡ 401 → IsSent Bearer reply.bearer ⊎ IsSent Dpop reply.dpop

-- what is found in a value is one thing
abbrev pub OneFound : Type 0
OneFound = (schemes : Schemes) (value : List ℕ) (one other : Credentials) → IsFound schemes value one → IsFound schemes value other → other ≡ one
