use Rattle.std.proofs.Common.{rules, ◌≡◌, false, map, is_some, option_map, sym, ap, ◌∙◌, arith}
use Rattle.serde_json.specs.Data.{array, string}
use Rattle.serde_json.specs.View.{view}
use Rattle.serde_json.specs.declared.value.Value.{String, the_lemmas}
use Rattle.serde_json.proofs.Views.{view-Array}
use Rattle.jwt_text.specs.Flat.{node_data, most}
use Rattle.jwt_text.proofs.LookupLemmas.{no_texts, as_str_is, one_more_text, all_of_them}
use Rattle.jwt_text.proofs.compact.list_of.Goals as goal

pub loop-place-init : goal.loop-place-init
loop-place-init c = ap (map view) c.new-values.ensures.items

pub returns-in_default : goal.returns-in_default
returns-in_default c =
    let none : is_some (option_map (λ t. t.now) c.text_at.result) ≡ false = grind arith in
    no_texts (node_data most c.args.store.now) c.args.nodes.now c.loop-place.place _ c.loop-place-test.true (ap is_some (sym c.text_at.ensures) ∙ none)

pub loop-place-preserved : goal.loop-place-preserved
loop-place-preserved c =
    let f = node_data most c.args.store.now in
    let s = c.in_ok-from_str.field-0 in
    let seen : view (String s) ≡ string c.in-Some.text.now = search (rules, the_lemmas) in
    ap (map view) c.in_ok-push.ensures.items
    ∙ one_more_text f c.args.nodes.now c.loop-place.values.items (String s) c.loop-place.place _ c.loop-place-test.true c.loop-place.invariant (seen ∙ as_str_is _ c.in-Some.text.now c.in-Some.ensures)

pub returns : goal.returns
returns c = view-Array c.loop-place.values ∙ ap array (all_of_them (node_data most c.args.store.now) c.args.nodes.now c.loop-place.values.items c.loop-place.place c.loop-place-test.false c.loop-place.invariant)
