use Rattle.jwt_service.proofs.OneRequest.{passed_is_not_refused}
use Rattle.jwt_service.proofs.OneAnswer.{admits_exactly}
use Rattle.jwt_service.proofs.laws.one_answer.Goals as goal

pub returns-clause-passed : goal.returns-clause-passed
returns-clause-passed c =
    passed_is_not_refused (record { found = c.one_found.ensures; verdict = c.one_verdict.ensures; tokens = c.tells_tokens.ensures.token; unmet = c.one_unmet.ensures.none; proofs = c.proofs_have_no_fault.ensures; own_key = c.one_own_key.ensures })

pub returns-clause-admitted : goal.returns-clause-admitted
returns-clause-admitted c =
    admits_exactly (record { found = c.one_found.ensures; verdict = c.one_verdict.ensures; tokens = c.tells_tokens.ensures.token; unmet = c.one_unmet.ensures.none; proofs = c.proofs_have_no_fault.ensures; own_key = c.one_own_key.ensures })
