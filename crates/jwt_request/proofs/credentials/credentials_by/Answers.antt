use Rattle.std.proofs.Common.{rules, arith, ◌≡◌, ◌⊎◌, ◌+◌, ◌<◌, true, false, length, inl, inr, subst, sym, ap, refl, ◌∙◌, ◌≤◌}
use Rattle.std.specs.Prelude.{slice_index}
use Rattle.jwt_request.specs.declared.kind.Kind.TheVariants.{Blank, Space}
use Rattle.jwt_request.specs.Spelled.{is_of, IsRun, IsScheme, end_of, letters_of}
use Rattle.jwt_request.proofs.Places.{same_scheme, laid_there, IsRead}
use Rattle.jwt_request.proofs.credentials.credentials_by.Goals as goal
use Rattle.jwt_request.proofs.credentials.credentials_by.Goals.{else-from-behind-via-then-from-behind+else-rest-value, else-from-behind-via-else-from-behind, then-from-behind-2-via-then-from-behind-2, then-from-behind-2-via-else-from-behind-2+then-pads-from, then-from-behind-2-via-else-from-behind-2+else-pads-from+then-end-value}

pub returns-then-not-is_at : goal.returns-then-not-is_at
returns-then-not-is_at c = λ (at, names).
    let is : at ≡ c.run_end-at.result = same_scheme c.args.scheme c.args.value.now c.run_end-at.result at c.run_end-at.ensures.all c.run_end-at.ensures.ends names.before names.named in
    let there : IsScheme c.args.scheme c.args.value.now c.run_end-at.result = subst (λ x. IsScheme c.args.scheme c.args.value.now x) is names.named in
    let yes : c.is_at.result ≡ true = c.is_at.ensures.1 there in
    let other : c.is_at.result ≡ false = search rules in
    let clash : true ≡ false = sym yes ∙ other in cc

pub returns-then-rest-value : goal.returns-then-rest-value
returns-then-rest-value c = λ (at, names).
    let is : at ≡ c.run_end-at.result = same_scheme c.args.scheme c.args.value.now c.run_end-at.result at c.run_end-at.ensures.all c.run_end-at.ensures.ends names.before names.named in
    let size : length c.letters.result.now ≡ length (letters_of c.args.scheme) = ap length c.letters.ensures.letters in
    let there : c.run_end-from.result ≡ end_of c.args.scheme at = omega (arith, is, size, c.if-from-behind.true) in
    let past : end_of c.args.scheme at ≤ c.run_end-rest.result = omega (arith, is, size, c.run_end-rest.ensures.after) in
    elim names.ends [
      | inl (less, space) ↦
          let other : is_of Space (slice_index c.args.value.now (end_of c.args.scheme at)) ≡ false = subst (λ x. is_of Space (slice_index c.args.value.now x) ≡ false) there c.run_end-from.ensures.ends in
          let clash : true ≡ false = sym space ∙ other in cc
      | inr blank ↦
          let yes : is_of Blank (slice_index c.args.value.now c.run_end-rest.result) ≡ true = blank c.run_end-rest.result past c.if-rest-value.true in
          let clash : true ≡ false = sym yes ∙ c.run_end-rest.ensures.ends in cc
    ]

pub returns-then-from-behind-2 : goal.returns-then-from-behind-2
returns-then-from-behind-2 c =
    let behind : c.run_end-at.result + length c.letters.result.now ≡ end_of c.args.scheme c.run_end-at.result = ap (λ x. c.run_end-at.result + length x) c.letters.ensures.letters in
    let spaces : IsRun Space c.args.value.now (end_of c.args.scheme c.run_end-at.result) c.run_end-from.result = subst (λ x. IsRun Space c.args.value.now x c.run_end-from.result) behind c.run_end-from.ensures.all in
    let named : IsScheme c.args.scheme c.args.value.now c.run_end-at.result = c.is_at.ensures.0 (search rules) in
    let ends : ((end_of c.args.scheme c.run_end-at.result < length c.args.value.now) × (is_of Space (slice_index c.args.value.now (end_of c.args.scheme c.run_end-at.result)) ≡ true)) ⊎ IsRun Blank c.args.value.now (end_of c.args.scheme c.run_end-at.result) (length c.args.value.now) =
    elim c.else-from-behind.branch [
      | else-from-behind-via-then-from-behind+else-rest-value w ↦
          let is : c.run_end-rest.result ≡ length c.args.value.now = omega (arith, w.if-rest-value.false, c.run_end-rest.ensures.within) in
          inr (subst (λ x. IsRun Blank c.args.value.now (end_of c.args.scheme c.run_end-at.result) x) is (subst (λ x. IsRun Blank c.args.value.now x c.run_end-rest.result) behind c.run_end-rest.ensures.all))
      | else-from-behind-via-else-from-behind w ↦
          let more : end_of c.args.scheme c.run_end-at.result < c.run_end-from.result = omega (arith, behind, w.if-from-behind.false, c.run_end-from.ensures.after) in
          inl (omega (arith, more, c.run_end-from.ensures.within), spaces (end_of c.args.scheme c.run_end-at.result) (omega arith) more)
    ] in
    let read : IsRead c.args.scheme c.args.value.now c.run_end-at.result c.run_end-from.result c.run_end-pads.result c.run_end-to.result = record {
      before = c.run_end-at.ensures.all;
      before_ends = c.run_end-at.ensures.ends;
      after = omega (arith, behind, c.run_end-from.ensures.after);
      spaces = spaces;
      spaces_end = c.run_end-from.ensures.ends;
      further = c.run_end-pads.ensures.after;
      plain = c.run_end-pads.ensures.all;
      plain_ends = c.run_end-pads.ensures.ends;
      padded = c.run_end-to.ensures.after;
      padding = c.run_end-to.ensures.all;
      padding_ends = c.run_end-to.ensures.ends;
    } in (
      refl,
      (c.run_end-at.result, record { before = c.run_end-at.ensures.all; named = named; ends = ends }),
      λ from to (at, pads, laid).
          let there = laid_there c.args.scheme c.args.value.now c.run_end-at.result c.run_end-from.result c.run_end-pads.result c.run_end-to.result at from pads to read laid in
          elim c.then-from-behind-2.branch [
            | then-from-behind-2-via-then-from-behind-2 w ↦ omega (arith, behind, w.if-from-behind-2.true, there.some_spaces)
            | then-from-behind-2-via-else-from-behind-2+then-pads-from w ↦ omega (arith, w.if-pads-from.true, there.some_plain)
            | then-from-behind-2-via-else-from-behind-2+else-pads-from+then-end-value w ↦
                let yes : is_of Blank (slice_index c.args.value.now c.run_end-end.result) ≡ true = there.behind c.run_end-end.result c.run_end-end.ensures.after w.if-end-value.true in
                let clash : true ≡ false = sym yes ∙ c.run_end-end.ensures.ends in cc
          ],
    )

pub returns : goal.returns
returns c =
    let behind : c.run_end-at.result + length c.letters.result.now ≡ end_of c.args.scheme c.run_end-at.result = ap (λ x. c.run_end-at.result + length x) c.letters.ensures.letters in
    let past : c.run_end-end.result ≡ length c.args.value.now = omega (arith, c.if-end-value.false, c.run_end-end.ensures.within) in (
      refl,
      (
        c.run_end-at.result,
        c.run_end-pads.result,
        record {
          before = c.run_end-at.ensures.all;
          named = c.is_at.ensures.0 (search rules);
          some_spaces = omega (arith, behind, c.if-from-behind-2.false, c.run_end-from.ensures.after);
          spaces = subst (λ x. IsRun Space c.args.value.now x c.run_end-from.result) behind c.run_end-from.ensures.all;
          some_plain = omega (arith, c.if-pads-from.false, c.run_end-pads.ensures.after);
          plain = c.run_end-pads.ensures.all;
          padded = c.run_end-to.ensures.after;
          padding = c.run_end-to.ensures.all;
          within = c.run_end-to.ensures.within;
          behind = subst (λ x. IsRun Blank c.args.value.now c.run_end-to.result x) past c.run_end-end.ensures.all;
        },
      ),
    )
