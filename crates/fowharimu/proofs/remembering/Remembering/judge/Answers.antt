use Rattle.std.proofs.Common.{ap, subst, sym, w64}
use Rattle.std.proofs.lemmas.Int.{to_z-of_z}
use Rattle.jwt_verify.specs.Reports.{TakesMemory}
use Rattle.jwt_memory.specs.Outcomes.{KeepsOnly, report_in}
use Rattle.fowharimu.specs.Remembering.{WithMemory, terms_of_documents}
use Rattle.fowharimu.proofs.remembering.Remembering.judge.Goals as goal

pub invariant_of-self : goal.invariant_of-self
invariant_of-self g c =
    let t = c.built_in_terms-terms.ensures in
    let h = (rw (t.policy, t.keys) at c.judge_under.ensures.kept) in h

pub returns-clause-judged : goal.returns-clause-judged
returns-clause-judged g c =
    let t = c.built_in_terms-terms.ensures in
    let h = (rw (t.policy, t.keys, t.moment, to_z-of_z w64 c.args.now c.ranges.now) at c.judge_under.ensures.judged) in
    rw (← c.self.view_is) h

pub returns-clause-charged : goal.returns-clause-charged
returns-clause-charged g c =
    let t = c.built_in_terms-terms.ensures in
    let h = (rw (t.policy, t.keys, t.moment, to_z-of_z w64 c.args.now c.ranges.now) at c.judge_under.ensures.charged) in rw (← c.self.view_is) h

pub returns-in_default-clause-judged : goal.returns-in_default-clause-judged
returns-in_default-clause-judged g c =
    let same = sym (ap (λ (v : WithMemory). v.policy) c.self.view_is) in record {
      report = c.untried.ensures.report (terms_of_documents c.args.self.now c.args.now) (g.B.Budget.ceiling c.args.budget.now) same;
      read = c.untried.ensures.read;
      memory = λ wants. subst (λ p. TakesMemory p c.args.octets.now) (sym same) (c.untried.ensures.memory wants);
    }

pub returns-clause-held : goal.returns-clause-held
returns-clause-held g c =
    subst (λ (v : WithMemory). KeepsOnly c.args.octets.now (g.B.Budget.ceiling c.args.budget.now) (report_in c.judge_under.result) v.memory c.judge_under.new.memory) c.self.view_is c.judge_under.ensures.held
