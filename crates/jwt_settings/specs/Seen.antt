-- The crate's own types as contracts see them.
use Rattle.std.specs.Prelude.{ℕ, List, Option, option_map}
use Rattle.jwt_settings.specs.declared.expectation.Expectation.{Expectation as CodeExpectation}
use Rattle.jwt_settings.specs.declared.moment.Moment.{Moment}

-- the seconds of a moment, where there is one
abbrev pub seconds_of : Option Moment → Option ℕ
seconds_of moment = option_map (λ m. m.seconds) moment

-- a claim, and the text that it has to be
pub record Expectation : Type 0 where
  pub claim : List ℕ
  pub text : List ℕ

abbrev pub expectation_view : CodeExpectation → Expectation
expectation_view e = record { claim = e.claim.now; text = e.text.now }
