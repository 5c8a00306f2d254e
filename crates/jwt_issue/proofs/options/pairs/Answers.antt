use Rattle.std.proofs.Common.{◌<◌, ◌++◌, ◌∷◌, [], ◌∙◌, ap, sym, arith, length}
use Rattle.std.proofs.lemmas.List.{map-append}
use Rattle.jwt_issue.specs.Views.{pair_parts}
use Rattle.jwt_keys.specs.KeySets.{key_set}
use Rattle.jwt_keys.specs.Views.{key_parts}
use Rattle.jwt_issue.specs.Issued.{signing_pair}
use Rattle.jwt_issue.proofs.Lists.{map_more, slice_within}
use Rattle.jwt_issue.proofs.options.pairs.Goals.{in-Some+in_ok-push, in_default}
use Rattle.jwt_issue.proofs.options.pairs.Goals as goal

pub keys-preserved : goal.keys-preserved
keys-preserved c =
    let xs = (key_set c.args.keys.now).keys in
    let l : c.keys.j < length xs = omega (arith, c.keys-test.true, c.len-j-end.ensures.count) in
    elim c.match-key.branch [
      | in-Some+in_ok-push w ↦ (let e = rw w.in-Some.is at c.key.ensures.key in
          rw (w.pairs-is, w.in_ok-push.ensures.items) (map-append pair_parts c.keys.pairs.items _ ∙ ap (λ ps. ps ++ signing_pair c.args.alg (key_parts w.in-Some.key.now) ∷ []) c.keys.invariant ∙ sym (map_more (signing_pair c.args.alg) xs c.keys.j (key_parts w.in-Some.key.now) (sym e))))
      | in_default w ↦ (let e = rw w.in_default.is at c.key.ensures.key in absurd (slice_within xs c.keys.j l (sym e)))
    ]
