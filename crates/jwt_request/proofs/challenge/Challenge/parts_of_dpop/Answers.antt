use Rattle.std.proofs.Common.{ap, ◌++◌, ◌∷◌}
use Rattle.std.specs.Prelude.{codes}
use Rattle.jwt_request.proofs.Pieces.{plain_text, error_text, scope_text}
use Rattle.jwt_request.proofs.challenge.Challenge.parts_of_dpop.Goals as goal
use Rattle.jwt_request.proofs.challenge.Challenge.parts_of_dpop.Goals.{in-Realm, in-InvalidRequest, in-InvalidToken, in-InsufficientScope, in-Scopes, in-InvalidProof, in-UseNonce}

pub returns-clause-text : goal.returns-clause-text
returns-clause-text c =
    elim c.match-self.branch [
      | in-Realm w ↦ rw w.t-7-is (rw w.in-Realm.is (ap (λ x. codes "DPoP algs=" ++ 34 ∷ x) (plain_text c.args.texts.now.algs.now)))
      | in-InvalidRequest w ↦ rw w.t-7-is (rw w.in-InvalidRequest.is (ap (λ x. codes "DPoP algs=" ++ 34 ∷ x) (error_text c.args.texts.now.algs.now (codes "invalid_request"))))
      | in-InvalidToken w ↦ rw w.t-7-is (rw w.in-InvalidToken.is (ap (λ x. codes "DPoP algs=" ++ 34 ∷ x) (error_text c.args.texts.now.algs.now (codes "invalid_token"))))
      | in-InsufficientScope w ↦ rw w.t-7-is (rw w.in-InsufficientScope.is (ap (λ x. codes "DPoP algs=" ++ 34 ∷ x) (error_text c.args.texts.now.algs.now (codes "insufficient_scope"))))
      | in-Scopes w ↦ rw w.t-7-is (rw w.in-Scopes.is (ap (λ x. codes "DPoP algs=" ++ 34 ∷ x) (scope_text c.args.texts.now.algs.now c.args.texts.now.scope.now)))
      | in-InvalidProof w ↦ rw w.t-7-is (rw w.in-InvalidProof.is (ap (λ x. codes "DPoP algs=" ++ 34 ∷ x) (error_text c.args.texts.now.algs.now (codes "invalid_dpop_proof"))))
      | in-UseNonce w ↦ rw w.t-7-is (rw w.in-UseNonce.is (ap (λ x. codes "DPoP algs=" ++ 34 ∷ x) (error_text c.args.texts.now.algs.now (codes "use_dpop_nonce"))))
    ]
