use Rattle.std.proofs.Common.{Some, None, arith, ap, sym, ◌∙◌}
use Rattle.std.proofs.lemmas.Str.Pattern.{split_parts}
use Rattle.clap.proofs.LexerLemmas.{name_and_value-at, name_and_value-without}
use Rattle.jwt_words.specs.Words.{expectation_from, expectation_of}
use Rattle.jwt_words.proofs.expectation.expectation_of.Goals as goal

pub returns-in-Some : goal.returns-in-Some
returns-in-Some c =
    let parts = split_parts 61 c.args.word.now (Some (c.in-Some.claim, c.in-Some.text)) c.in-Some.ensures.cases (omega arith) in
    sym (ap expectation_of parts.0 ∙ ap expectation_from (name_and_value-at c.in-Some.claim.now c.in-Some.text.now parts.1))

pub returns-in-None : goal.returns-in-None
returns-in-None c =
    let lacks = split_parts 61 c.args.word.now None c.in-None.ensures.cases (omega arith) in
    sym (ap expectation_from (name_and_value-without c.args.word.now lacks))
