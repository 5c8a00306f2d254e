use Rattle.std.proofs.Common.{rules, ◌≡◌, ◌≢◌, [], refl, sym, subst}
use Rattle.jwt_policy.specs.Settings.{Settings}
use Rattle.jwt_verify.specs.declared.report.Fault.TheVariants.{OutOfMemory}
use Rattle.jwt_verify.specs.declared.report.Report.{Report}
use Rattle.jwt_verify.specs.declared.report.Verdict.TheVariants.{Refused}
use Rattle.jwt_verify.specs.Accepted.{IsTokenFault}
use Rattle.jwt_memory.proofs.Blank.{never_read, no_token_then, untried}
use Rattle.jwt_memory.proofs.unread.untried.Goals as goal

pub returns-clause-report : goal.returns-clause-report
returns-clause-report c q w same =
    let f = c.fault_of.result in let r : Report = record { verdict = Refused f; states = c.new.result; tries = c.new-2.result } in
    let tries : r.tries.items ≡ [] = search rules in let states : r.states.items ≡ [] = search rules in
    untried c.tells_tokens.ensures.token c.tells_tokens.ensures.fault q c.args.octets.now w r tries states f refl
    (subst (λ (p : Settings). f ≢ OutOfMemory → IsTokenFault p c.args.octets.now f) (sym same) c.fault_of.ensures.fault)

pub returns-clause-read : goal.returns-clause-read
returns-clause-read c = never_read c.args.policy.now c.args.octets.now c.fault_of.result c.fault_of.ensures.fault

pub returns-clause-token : goal.returns-clause-token
returns-clause-token c = no_token_then c.tells_tokens.ensures.token c.tells_tokens.ensures.fault c.args.policy.now c.args.octets.now c.fault_of.result c.fault_of.ensures.fault
