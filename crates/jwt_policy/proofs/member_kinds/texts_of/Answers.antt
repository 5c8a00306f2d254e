use Rattle.std.proofs.Common.{◌≡◌, ◌∷◌, [], ◌++◌, Some, map, string_bytes, sym, ◌∙◌, arith, option_and_then, slice_get}
use Rattle.std.proofs.lemmas.Grind.{common_steps}
use Rattle.serde_json.specs.Find.{as_str}
use Rattle.jwt_policy.proofs.AllSome.{joined_more}
use Rattle.jwt_policy.proofs.member_kinds.texts_of.Goals as goal

pub loop-place-preserved : goal.loop-place-preserved
loop-place-preserved c =
    let l = c.loop-place in
    let t = c.in-Some-text.text.now in
    let found : option_and_then as_str (slice_get c.in-Some.list l.place) ≡ Some t = grind arith in
    let pushed : map string_bytes c.push.new.self.items ≡ map string_bytes l.copies.items ++ t ∷ [] = grind (arith, common_steps) in
    rw pushed (sym (joined_more as_str (map string_bytes l.copies.items) c.in-Some.list l.place t found) ∙ l.invariant)
