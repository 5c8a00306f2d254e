use Rattle.jwt_jwk.proofs.set.+add_jwks.Given as goal

abbrev pub decreases-add_jwks : goal.decreases-add_jwks
decreases-add_jwks l = l.left
