-- The URI of a request beside a proof.
use Rattle.std.specs.Prelude.{ℕ, ◌==◌, List, [], ◌∷◌, Bool, false, ◌++◌}
use Rattle.jwt_service.specs.declared.call.Call.{Call}
use Rattle.jwt_service.specs.declared.service.Proofs.{Proofs}

-- the service's own scheme and host, and the path as it came
abbrev pub uri_of : Proofs → Call → List ℕ
uri_of proofs call = proofs.origin.now ++ call.path.now

-- the path begins with `/`, so that no part of it is read as one of the host
abbrev pub begins_with_slash : List ℕ → Bool
begins_with_slash [] = false
begins_with_slash (octet ∷ rest) = octet == 47
