use Rattle.std.proofs.Common.{◌≡◌, ℕ, List, ◌∙◌, subst, arith}
use Rattle.jwt_handles.specs.declared.status.TheConstants.{FOW_OK, FOW_ABSENT}
use Rattle.jwt_handles.specs.Written.{Puts}
use Rattle.jwt_handles.proofs.access.put_denied.Goals as goal

-- what is written has another status
not_absent : (octets : List ℕ) (status size : ℕ) (old out : List ℕ) → Puts octets status size old out → status ≡ FOW_ABSENT → ⊥
not_absent octets status size old out h e = let other : status ≡ FOW_OK → ⊥ = λ ok. omega (arith, ok, e) in let short = h.1 other in omega (arith, short.0, e)

pub returns-in-Some-denial-clause-written : goal.returns-in-Some-denial-clause-written
returns-in-Some-denial-clause-written c =
    rw c.in-Some.is (
      λ e. absurd (not_absent c.as_bytes.result.now c.put.result c.put.new.written c.args.out.now c.put.new.out c.put.ensures.written e),
      λ _. (c.in-Some-denial.denial, c.in-Some-denial.ensures.first, subst (λ octets. Puts octets c.put.result c.put.new.written c.args.out.now c.put.new.out) (c.as_bytes.ensures.value ∙ c.denied.ensures) c.put.ensures.written),
    )
