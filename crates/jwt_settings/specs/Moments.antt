-- Moments, in whole seconds since 1970-01-01T00:00:00Z.
use Rattle.std.specs.Prelude.{ℕ, nat_le, if◌then◌else◌, Option, Some, None}

abbrev pub last_moment : ℕ
last_moment = 9223372036854775807

abbrev pub moment_at : ℕ → Option ℕ
moment_at seconds = if nat_le seconds last_moment then Some seconds else None
