-- What is left of the room, with the text of all, is the room with the text of those that are left.
use Rattle.std.proofs.Common.{◌≡◌, ◌+◌, length, drop}
use Rattle.jwt_possession.specs.AlgNames.{algs_text}
use Rattle.jwt_possession.proofs.alg_names.fits.Given as goal

abbrev pub invariant-names : goal.invariant-names
invariant-names l = l.left + length (algs_text l.algs) ≡ l.room + length (algs_text (drop l.place l.algs))
