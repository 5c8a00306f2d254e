use Rattle.std.proofs.Common.{◌≡◌, ℕ, ◌+◌, ◌++◌, List, Bool, true, false, cond, length, arith}
use Rattle.std.proofs.lemmas.List.{length-append}
use Rattle.ecdsa.specs.Held.{HeldKey, with_key}

-- one more key is there, where it was added
pub one_more : (old new : List HeldKey) (added : Bool) (x y : List ℕ) → new ≡ old ++ with_key added x y → length new ≡ length old + cond added 1 0
one_more old new true x y is = grind (arith, length-append, is)
one_more old new false x y is = grind (arith, length-append, is)
