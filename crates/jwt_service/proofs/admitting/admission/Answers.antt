use Rattle.std.proofs.Common.{Result, refl, subst}
use Rattle.jwt_possession.specs.declared.once.once.Taken.{Taken}
use Rattle.jwt_service.specs.declared.admission.Passed.{Passed}
use Rattle.jwt_service.specs.declared.admission.Refusal.{Refusal}
use Rattle.jwt_service.specs.Admission.{IsDecided}
use Rattle.jwt_service.specs.Taking.{IsEntryTaken}
use Rattle.jwt_service.proofs.Tests.{is_so, not_so}
use Rattle.jwt_service.proofs.admitting.admission.Goals as goal

pub returns-in-Err : goal.returns-in-Err
returns-in-Err c = λ service verifiers decided. (subst (λ (d : Result Passed Refusal). IsDecided service verifiers c.args.call.now d) c.in-Err.is decided, refl)

pub returns-then-not-is_new : goal.returns-then-not-is_new
returns-then-not-is_new c = λ service verifiers decided. record {
  passed = c.in-Ok.passed;
  holds = subst (λ (d : Result Passed Refusal). IsDecided service verifiers c.args.call.now d) c.in-Ok.is decided;
  proof = c.take-proof.ensures;
  is_old = not_so c.is_new.result c.is_new.ensures c.if-not-is_new.true;
  untouched = refl;
}

pub returns-then-not-is_new-2 : goal.returns-then-not-is_new-2
returns-then-not-is_new-2 c = λ service verifiers decided. record {
  passed = c.in-Ok.passed;
  holds = subst (λ (d : Result Passed Refusal). IsDecided service verifiers c.args.call.now d) c.in-Ok.is decided;
  its_scheme = refl;
  proof = subst (λ (t : Taken). IsEntryTaken c.in-Ok.passed.proof c.args.call.now c.args.books.now.proofs t c.take-proof.new.memory)
      (is_so c.is_new.result c.is_new.ensures c.if-not-is_new.false) c.take-proof.ensures;
  token = c.take-token.ensures;
  is_old = not_so c.is_new-2.result c.is_new-2.ensures c.if-not-is_new-2.true;
}

pub returns : goal.returns
returns c = λ service verifiers decided. record {
  passed = c.in-Ok.passed;
  holds = subst (λ (d : Result Passed Refusal). IsDecided service verifiers c.args.call.now d) c.in-Ok.is decided;
  its_claims = refl;
  proof = subst (λ (t : Taken). IsEntryTaken c.in-Ok.passed.proof c.args.call.now c.args.books.now.proofs t c.take-proof.new.memory)
      (is_so c.is_new.result c.is_new.ensures c.if-not-is_new.false) c.take-proof.ensures;
  token = subst (λ (t : Taken). IsEntryTaken c.in-Ok.passed.token c.args.call.now c.args.books.now.tokens t c.take-token.new.memory)
      (is_so c.is_new-2.result c.is_new-2.ensures c.if-not-is_new-2.false) c.take-token.ensures;
}
