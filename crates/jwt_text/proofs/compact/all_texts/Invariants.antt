use Rattle.std.proofs.Common.{◌≡◌, drop}
use Rattle.serde_json.specs.View.{items_view}
use Rattle.jwt_text.specs.Members.{elements, are_texts}
use Rattle.jwt_text.proofs.compact.all_texts.Given as goal

abbrev pub invariant-loop-item : goal.invariant-loop-item
invariant-loop-item l =
    are_texts (elements (items_view (drop l.item-index l.item-items))) ≡ are_texts (elements (items_view l.item-items))
