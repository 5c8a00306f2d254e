use Rattle.std.proofs.Common.{◌≡◌, ap, false, ◌<◌, ◌≤◌, length, Some, sym, ◌∙◌, arith}
use Rattle.std.specs.Prelude.{map, slice_get}
use Rattle.std.proofs.lemmas.List.{get_or-map, length-map}
use Rattle.jwt_keys.specs.Views.{key_parts}
use Rattle.jwt_keys.specs.Keys.{has_name}
use Rattle.jwt_keys.proofs.Least.{none_more, none_at_all}
use Rattle.jwt_keys.proofs.Ascending.{slice_get-some}
use Rattle.jwt_keys.proofs.set.KeySet.search_kid.Goals as goal

pub loop-j-preserved : goal.loop-j-preserved
loop-j-preserved c =
    let items = c.args.self.now.keys.items in
    let keys = map key_parts items in
    let j = c.loop-j.j in
    let within : j < length items = omega (arith, c.args.self.now.keys.ok, c.len-j-end.ensures, c.loop-j-test.true) in
    let far : j < length keys = rw (length-map items key_parts) within in
    let k = key_parts c.index.result.now in
    let here : slice_get keys j ≡ Some k = slice_get-some keys j k far ∙ ap Some (get_or-map key_parts items j c.index.result.now k within ∙ ap key_parts (sym c.index.ensures)) in
    let fails : has_name c.args.kid.now c.args.thumb k ≡ false = sym c.is_named.ensures ∙ c.if-is_named.false in
    none_more (has_name c.args.kid.now c.args.thumb) keys c.args.from j k here fails c.loop-j.invariant

pub returns : goal.returns
returns c =
    let keys = map key_parts c.args.self.now.keys.items in
    let past : length keys ≤ c.loop-j.j = rw (length-map c.args.self.now.keys.items key_parts) (omega (arith, c.args.self.now.keys.ok, c.len-j-end.ensures, c.loop-j-test.false)) in
    none_at_all (has_name c.args.kid.now c.args.thumb) keys c.args.from c.loop-j.j past c.loop-j.invariant
