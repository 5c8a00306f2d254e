use Rattle.std.proofs.Common.{◌≡◌, ◌<◌, ℕ, Some}
use Rattle.std.specs.List.{slice_get}
use Rattle.jwt_sources.specs.Changes.{IsLike}
use Rattle.jwt_sources.proofs.sources.Sources.place_like.Given as goal

abbrev pub invariant-loop-at : goal.invariant-loop-at
invariant-loop-at g l = (k : ℕ) (source : _) → k < l.at → slice_get l.self.sources.items k ≡ Some source → ¬ IsLike source l.other
