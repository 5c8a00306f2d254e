-- How the parts of a renewal cross to C: as numbers.
use Rattle.std.specs.Prelude.{ℕ, Bool, ◌==◌, if◌then◌else◌, not, Option, Some, None}
use Rattle.jwt_request.specs.declared.renewal.renewal.Renewal.{Renewal}
use Rattle.jwt_request.specs.declared.renewal.times.Times.{Times}
use Rattle.jwt_request.specs.declared.renewal.asker.Asker.{Asker}
use Rattle.jwt_request.specs.declared.renewal.asker.Asker.TheVariants.{Token, Refused, Owner, Waited}
use Rattle.jwt_request.specs.declared.renewal.answer.Fetch.{Fetch}
use Rattle.jwt_request.specs.declared.renewal.answer.Fetch.TheVariants.{Nothing, Begin, UnderWay}
use Rattle.jwt_handles.specs.declared.renewal.FowRenewal.{FowRenewal}
use Rattle.jwt_handles.specs.declared.renewal.FowRenewalAnswer.{FowRenewalAnswer}

-- 0 is no
abbrev pub truth : ℕ → Bool
truth number = not (number == 0)

abbrev pub times_of : FowRenewal → Times
times_of it = record { refresh_after = it.refresh_after; cool_down = it.cool_down; max_age = it.max_age; timeout = it.timeout }

abbrev pub renewal_of : FowRenewal → Renewal
renewal_of it = record {
  times = times_of it;
  heard = it.heard;
  keys_age = it.keys_age;
  keys_ticket = it.keys_ticket;
  begun_age = it.begun_age;
  ticket = it.ticket;
  is_open = truth it.is_open;
  waiters = record { count = it.waiting; first = it.first; second = it.second; third = it.third; fourth = it.fourth };
}

abbrev pub asker_of : ℕ → ℕ → Asker
asker_of number keys = if number == 1 then Refused keys else (if number == 2 then Owner else (if number == 3 then Waited else Token))

abbrev pub keys_of : FowRenewalAnswer → Option ℕ
keys_of it = if it.has_keys == 1 then Some it.keys else None

abbrev pub fetch_of : FowRenewalAnswer → Fetch
fetch_of it = if it.fetch == 1 then Begin it.ticket else (if it.fetch == 2 then UnderWay it.ticket it.left else Nothing)
