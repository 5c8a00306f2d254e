-- Octets are one token at most, and what is a token has no fault as one.
use Rattle.std.proofs.Common.{◌≡◌, ℕ, List, Ok, Err, sym, ◌∙◌}
use Rattle.jwt_jws.specs.Token.{Token}
use Rattle.jwt_policy.specs.Settings.{Settings}
use Rattle.jwt_verify.specs.Asks.{IsToken}
use Rattle.jwt_verify.specs.Accepted.{IsTokenFault, TellsTokens, TellsTokenFaults}
use Rattle.jwt_verify.specs.declared.report.Fault.{Fault}

pub one_token : TellsTokens → (policy : Settings) (octets : List ℕ) (a b : Token) → IsToken policy octets a → IsToken policy octets b → a ≡ b
one_token tells policy octets a b h g = let same : Ok a ≡ Ok b = sym ((tells policy octets a).1 h) ∙ (tells policy octets b).1 g in cc

pub no_token_fault : TellsTokens → TellsTokenFaults → (policy : Settings) (octets : List ℕ) (token : Token) (fault : Fault) → IsToken policy octets token → ¬ IsTokenFault policy octets fault
no_token_fault tells faults policy octets token fault h g =
    let both : Ok token ≡ Err fault = sym ((tells policy octets token).1 h) ∙ (faults policy octets fault).1 g in
    absurd cc
