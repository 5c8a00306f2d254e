-- What follows on an answer.
use Rattle.std.specs.Prelude.{◌≡◌, ◌⊎◌, ◌↔◌, ◌<◌, ◌≤◌, ℕ}
use Rattle.jwt_text.specs.declared.limits.TheConstants.{LONGEST_KEY_SET}
use Rattle.jwt_request.specs.declared.urls.answers.Asked.{Asked}
use Rattle.jwt_request.specs.declared.urls.answers.Asked.TheVariants.{OpenId}
use Rattle.jwt_request.specs.declared.urls.answers.Next.{Next}
use Rattle.jwt_request.specs.declared.urls.answers.Next.TheVariants.{Take, Follow, AskOAuth, TooOften, Fail}

-- an answer that has its content elsewhere, and says where (RFC 9110, section 15.4)
abbrev pub IsRedirection : ℕ → Type 0
IsRedirection status = (status ≡ 301) ⊎ (status ≡ 302) ⊎ (status ≡ 303) ⊎ (status ≡ 307) ⊎ (status ≡ 308)

pub record IsNext (asked : Asked) (status followed : ℕ) (next : Next) : Type 0 where
  -- an answer is taken whose status is 200, and else none
  pub taken : (next ≡ Take) ↔ (status ≡ 200)
  -- five redirections are followed
  pub again : (next ≡ Follow) ↔ (IsRedirection status × (followed < 5))
  pub often : (next ≡ TooOften) ↔ (IsRedirection status × (5 ≤ followed))
  -- the other metadata are asked for where the first aren't there, and else never
  pub other : (next ≡ AskOAuth) ↔ ((asked ≡ OpenId) × (status ≡ 404))

-- how many octets of an answer are taken, at most
abbrev pub most_of : Next → ℕ
most_of Take = LONGEST_KEY_SET
most_of Follow = 0
most_of AskOAuth = 0
most_of TooOften = 0
most_of Fail = 0
