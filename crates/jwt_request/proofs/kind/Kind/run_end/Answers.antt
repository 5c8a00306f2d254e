use Rattle.std.proofs.Common.{◌≡◌, ℕ, ◌+◌, ◌-◌, ◌≤◌, ◌<◌, List, length, take, drop, arith, true, ap, ◌∙◌, subst, inl, inr}
use Rattle.std.specs.Prelude.{slice_index}
use Rattle.std.proofs.lemmas.Bool.{cases_lt}
use Rattle.std.proofs.lemmas.List.{get_or-take, get_or-drop, length-drop, length-take-le}
use Rattle.jwt_request.specs.Spelled.{is_of}
use Rattle.jwt_request.proofs.kind.Kind.run_end.Goals as goal

-- an octet of a piece is one of the whole
in_piece : (at width k : ℕ) (xs : List ℕ) → at ≤ k → k < at + width → slice_index (take (at + width - at) (drop at xs)) (k - at) ≡ slice_index xs k
in_piece at width k xs low high =
    get_or-take (at + width - at) (drop at xs) (k - at) 0 (omega (arith, low, high)) ∙ get_or-drop at xs (k - at) 0
    ∙ ap (slice_index xs) (let same : at + (k - at) ≡ k = omega (arith, low) in same)

piece_len : (at width : ℕ) (xs : List ℕ) → at + width ≤ length xs → length (take (at + width - at) (drop at xs)) ≡ width
piece_len at width xs within =
    let rest = length-drop at xs in
    let same : at + width - at ≡ width = omega arith in
    length-take-le (at + width - at) (drop at xs) (omega (arith, rest, within)) ∙ same

pub loop-at-preserved : goal.loop-at-preserved
loop-at-preserved c =
    let within : c.loop-at.at + 64 ≤ length c.args.value.now = omega (arith, c.loop-at-test.true, c.loop-at.invariant.within) in
    record {
      after = omega (arith, c.loop-at.invariant.after);
      within = within;
      all = λ k low high. elim (cases_lt k c.loop-at.at) [
        | inl less ↦ c.loop-at.invariant.all k low less
        | inr more ↦ (
            let size = piece_len c.loop-at.at 64 c.args.value.now within in
            let here = c.has_all.ensures c.if-has_all.true (k - c.loop-at.at) (omega arith) (omega (arith, size, high, more)) in
            subst (λ o. is_of c.args.self o ≡ true) (in_piece c.loop-at.at 64 k c.args.value.now more high) here)
      ];
    }
