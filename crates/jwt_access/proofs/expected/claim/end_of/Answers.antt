use Rattle.std.proofs.Common.{◌≡◌, None, option_and_then, sym, ap, ◌∙◌, arith, rules}
use Rattle.std.proofs.lemmas.Str.Pattern.{split_parts}
use Rattle.serde_json.specs.Find.{as_object}
use Rattle.jwt_access.specs.expected.Views.{walked}
use Rattle.jwt_access.proofs.Tokens.{lacks}
use Rattle.jwt_access.proofs.Walks.{walked_more, walked_last}
use Rattle.jwt_access.proofs.expected.claim.end_of.Goals as goal

pub name_of-requires : goal.name_of-requires
name_of-requires c =
    let cut = rw c.in-Some.is at (split_parts 47 c.tokens.rest.now c.split_once.result c.split_once.ensures.cases (omega arith)) in
    lacks 47 c.in-Some.token.now cut.1

pub returns-in_err-name : goal.returns-in_err-name
returns-in_err-name c =
    let l = c.tokens in
    let token = c.in-Some.token.now in
    let more = c.in-Some.more.now in
    let cut = rw c.in-Some.is at (split_parts 47 l.rest.now c.split_once.result c.split_once.ensures.cases (omega arith)) in
    let gone : c.from_residual.result ≡ None = grind arith in
    let turn = sym l.invariant.0 ∙ walked_more l.rest.now token more l.home cut.0 (lacks 47 token cut.1) in
    rw gone (sym (turn ∙ ap (λ o. option_and_then (λ home. walked more home) (option_and_then as_object o)) (sym c.in_err-name.ensures)))

pub returns-in_err-home : goal.returns-in_err-home
returns-in_err-home c =
    let l = c.tokens in
    let token = c.in-Some.token.now in
    let more = c.in-Some.more.now in
    let cut = rw c.in-Some.is at (split_parts 47 l.rest.now c.split_once.result c.split_once.ensures.cases (omega arith)) in
    let gone : c.from_residual-in_err-home.result ≡ None = grind arith in
    let turn = sym l.invariant.0 ∙ walked_more l.rest.now token more l.home cut.0 (lacks 47 token cut.1) in
    rw gone (sym (turn
    ∙ ap (λ o. option_and_then (λ home. walked more home) (option_and_then as_object o)) (sym c.in_ok-name.ensures)
    ∙ ap (λ o. option_and_then (λ home. walked more home) o) (sym c.in_err-home.ensures)))

pub tokens-preserved : goal.tokens-preserved
tokens-preserved c =
    let l = c.tokens in
    let token = c.in-Some.token.now in
    let more = c.in-Some.more.now in
    let cut = rw c.in-Some.is at (split_parts 47 l.rest.now c.split_once.result c.split_once.ensures.cases (omega arith)) in
    let turn = sym l.invariant.0 ∙ walked_more l.rest.now token more l.home cut.0 (lacks 47 token cut.1) in (
      sym (turn
          ∙ ap (λ o. option_and_then (λ home. walked more home) (option_and_then as_object o)) (sym c.in_ok-name.ensures)
          ∙ ap (λ o. option_and_then (λ home. walked more home) o) (sym c.in_ok-home.ensures)),
      search rules,
    )

pub name_of-requires-2 : goal.name_of-requires-2
name_of-requires-2 c =
    let none = rw c.in_default.is at (split_parts 47 c.tokens.rest.now c.split_once.result c.split_once.ensures.cases (omega arith)) in
    lacks 47 c.tokens.rest.now none

pub returns-in_err-own : goal.returns-in_err-own
returns-in_err-own c =
    let l = c.tokens in
    let none = rw c.in_default.is at (split_parts 47 l.rest.now c.split_once.result c.split_once.ensures.cases (omega arith)) in
    let gone : c.from_residual-in_err-own.result ≡ None = grind arith in
    rw gone (sym (sym l.invariant.0 ∙ walked_last l.rest.now l.home (lacks 47 l.rest.now none) ∙ sym c.in_err-own.ensures))

pub returns : goal.returns
returns c =
    let l = c.tokens in
    let none = rw c.in_default.is at (split_parts 47 l.rest.now c.split_once.result c.split_once.ensures.cases (omega arith)) in
    c.in_ok-own.ensures ∙ sym (walked_last l.rest.now l.home (lacks 47 l.rest.now none)) ∙ l.invariant.0
