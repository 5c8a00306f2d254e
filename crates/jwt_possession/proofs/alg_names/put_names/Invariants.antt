-- What is written, with the text of those that are left, is the text of all; what stood behind it still does.
use Rattle.std.proofs.Common.{◌≡◌, ◌+◌, ◌++◌, length, take, drop}
use Rattle.jwt_possession.specs.AlgNames.{algs_text}
use Rattle.jwt_possession.proofs.alg_names.put_names.Given as goal

abbrev pub invariant-names : goal.invariant-names
invariant-names l =
    (take l.at l.out ++ algs_text (drop l.place l.algs) ≡ algs_text l.algs)
    × (l.at + length (algs_text (drop l.place l.algs)) ≡ length (algs_text l.algs))
    × (length l.out ≡ length l.fn.out)
    × (drop (length (algs_text l.algs)) l.out ≡ drop (length (algs_text l.algs)) l.fn.out)
