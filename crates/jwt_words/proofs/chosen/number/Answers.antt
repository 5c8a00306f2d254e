use Rattle.std.proofs.Common.{◌∙◌, ◌≤◌, ap, sym, ⊎_elim, arith}
use Rattle.clap.specs.Words.{found_of, one_text}
use Rattle.clap.specs.declared.builder.ValueParser.TheVariants.{Unsigned}
use Rattle.clap.proofs.WalkLemmas.{one_text-rows}
use Rattle.jwt_words.specs.Words.{number_in}
use Rattle.jwt_words.proofs.Numbers.{ReadsU64, number_none, number_out, number_some}
use Rattle.jwt_words.proofs.chosen.number.Goals as goal

pub returns-in_err-n-clause-number : goal.returns-in_err-n-clause-number
returns-in_err-n-clause-number c =
    let f = found_of c.args.options.now in
    let id = c.args.id.now in
    c.from_residual.ensures
    ∙ sym (ap (number_in (Unsigned c.args.low c.args.high)) (sym (one_text-rows f id))
    ∙ number_none ReadsU64 (λ u x g. g.0) c.args.low c.args.high (one_text f id) c.in_err-n.ensures.value)

pub returns-then-n-high-clause-number : goal.returns-then-n-high-clause-number
returns-then-n-high-clause-number c =
    let f = found_of c.args.options.now in
    let id = c.args.id.now in
    sym (ap (number_in (Unsigned c.args.low c.args.high)) (sym (one_text-rows f id))
    ∙ number_some ReadsU64 (λ u x g. g.0) c.args.low c.args.high (one_text f id) c.in_ok-n.n c.in_ok-n.ensures.none c.in_ok-n.ensures.value c.if-low-n.true c.if-n-high.true)

pub returns-else-low-n-clause-number : goal.returns-else-low-n-clause-number
returns-else-low-n-clause-number c =
    let f = found_of c.args.options.now in
    let id = c.args.id.now in
    let out : c.args.low ≤ c.in_ok-n.n → c.in_ok-n.n ≤ c.args.high → ⊥ = λ above below. ⊎_elim (λ x. absurd (omega arith)) (λ x. absurd (omega arith)) c.else-low-n.either in
    sym (ap (number_in (Unsigned c.args.low c.args.high)) (sym (one_text-rows f id))
    ∙ number_out ReadsU64 (λ u x g. g.0) c.args.low c.args.high (one_text f id) c.in_ok-n.n c.in_ok-n.ensures.value out)
