use Rattle.std.proofs.Common.{rules, ◌≡◌, ◌∙◌, map, option_map, inl, inr, ap, sym, subst, arith, w64, to_z, of_z}
use Rattle.std.specs.Arc.{arc_value}
use Rattle.jwt_policy.specs.Checks.{check_of}
use Rattle.jwt_memory.specs.declared.memory.Basis.{Basis}
use Rattle.jwt_memory.specs.Outcomes.{IsFound, payload_in, report_in}
use Rattle.jwt_memory.proofs.Keeping.{recalled, may_be_kept, moved}
use Rattle.jwt_memory.proofs.Payloads.{recalled_payload, handed_anew, read_is_spelled}
use Rattle.jwt_memory.proofs.memory.Memory.judge_under.Goals as goal

pub kept-requires-clause-payload : goal.kept-requires-clause-payload
kept-requires-clause-payload g c =
    let judged = c.judge_under-judged in
    read_is_spelled c.compact_payloads.ensures.spells c.args.terms.now.policy.now c.args.octets.now judged.result.report.verdict judged.result.token c.payload_of-payload.result judged.ensures.token c.payload_of-payload.ensures

pub returns-in-Some-clause-judged : goal.returns-in-Some-clause-judged
returns-in-Some-clause-judged g c =
    let v = map (λ b. (goal.Verifier-dyn g (b.vtable, b.value)).meaning b.value) c.args.terms.now.verifiers.now in
    let w = g.B.Budget.ceiling c.args.budget.now in
    let b = arc_value c.in-Some.basis in
    let p = c.args.terms.now.policy.now in
    let same : c.left-ceiling.result ≡ w = omega (arith, c.left-ceiling.ensures, c.requires.no_octets) in
    let f = c.in-Some.ensures.found in
    let z : to_z w64 (of_z w64 c.args.terms.now.moment) ≡ c.args.terms.now.moment = search rules in
    let is : c.check-fault.result ≡ check_of p b.claims c.args.terms.now.moment =
    c.check-fault.ensures ∙ ap (λ (a : Basis). check_of p a.claims (to_z w64 (of_z w64 c.args.terms.now.moment))) c.deref.ensures ∙ ap (check_of p b.claims) z in
    recalled p c.args.terms.now.keys.now v c.args.octets.now w b c.args.self.now c.args.terms.now.moment c.check-fault.result c.requires.kept (f.0, f.1, f.2, f.3 ∙ same, f.4) is

pub returns-in-Some-clause-payload : goal.returns-in-Some-clause-payload
returns-in-Some-clause-payload g c =
    let w = g.B.Budget.ceiling c.args.budget.now in
    let same : c.left-ceiling.result ≡ w = omega (arith, c.left-ceiling.ensures, c.requires.no_octets) in
    let f = c.in-Some.ensures.found in
    recalled_payload c.compact_payloads.ensures.reads c.args.terms.now.policy.now c.args.octets.now w (arc_value c.in-Some.basis) c.args.self.now c.check-fault.result (f.0, f.1, f.2, f.3 ∙ same, f.4)

pub returns-in-None-clause-payload : goal.returns-in-None-clause-payload
returns-in-None-clause-payload g c =
    let p = c.args.terms.now.policy.now in let x = c.args.octets.now in let judged = c.judge_under-judged in let payload = option_map (λ o. o.items) c.payload_of-payload.result in
    handed_anew p x (report_in c.kept.result.outcome).verdict judged.result.report.verdict (payload_in c.kept.result) payload (ap (λ r. r.verdict) c.kept.ensures.report) c.kept.ensures.payload
    (c.read_payloads.ensures p x judged.result.report.verdict judged.result.token payload judged.ensures.token c.payload_of-payload.ensures)

pub returns-in-Some-clause-found : goal.returns-in-Some-clause-found
returns-in-Some-clause-found g c =
    let same : c.left-ceiling.result ≡ g.B.Budget.ceiling c.args.budget.now = omega (arith, c.left-ceiling.ensures, c.requires.no_octets) in
    let f = c.in-Some.ensures.found in (f.0, f.1, f.2, f.3 ∙ same)

pub returns-in-None-clause-found : goal.returns-in-None-clause-found
returns-in-None-clause-found g c = subst (λ b. IsFound b c.args.self.now c.args.octets.now (g.B.Budget.ceiling c.args.budget.now)) (sym c.kept.ensures.anew) tt

pub returns-in-Some-clause-kept : goal.returns-in-Some-clause-kept
returns-in-Some-clause-kept g c e h = c.requires.kept e (c.in-Some.ensures.held e h)

pub returns-in-Some-clause-held : goal.returns-in-Some-clause-held
returns-in-Some-clause-held g c e h = inl (c.in-Some.ensures.held e h)

pub returns-in-None-clause-judged : goal.returns-in-None-clause-judged
returns-in-None-clause-judged g c = rw c.kept.ensures.report c.judge_under-judged.ensures.judged

pub returns-in-None-clause-kept : goal.returns-in-None-clause-kept
returns-in-None-clause-kept g c e h =
    let v = map (λ b. (goal.Verifier-dyn g (b.vtable, b.value)).meaning b.value) c.args.terms.now.verifiers.now in
    let w = g.B.Budget.ceiling c.args.budget.now in
    let same : c.left-ceiling.result ≡ w = omega (arith, c.left-ceiling.ensures, c.requires.no_octets) in
    elim (c.kept.ensures.held e h) [
      | inl old ↦ c.requires.kept e (c.in-None.ensures.held e old)
      | inr new ↦ moved c.args.terms.now.policy.now c.args.terms.now.keys.now v e c.args.octets.now w new.0 (new.1 ∙ same)
          (may_be_kept c.args.terms.now.policy.now c.args.terms.now.keys.now v c.args.octets.now w (arc_value e.basis) c.accepted_ever.ensures c.args.terms.now.moment c.judge_under-judged.result.report
          c.judge_under-judged.ensures.judged.report (sym c.kept.ensures.report ∙ new.2))
    ]

pub returns-in-None-clause-held : goal.returns-in-None-clause-held
returns-in-None-clause-held g c e h =
    let same : c.left-ceiling.result ≡ g.B.Budget.ceiling c.args.budget.now = omega (arith, c.left-ceiling.ensures, c.requires.no_octets) in
    elim (c.kept.ensures.held e h) [
      | inl old ↦ inl (c.in-None.ensures.held e old)
      | inr new ↦ inr (new.0, new.1 ∙ same, new.2, new.3)
    ]
