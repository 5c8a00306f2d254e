-- A text, and a list of texts, hold no float.
use Rattle.std.proofs.Common.{◌≡◌, true, false, refl}
use Rattle.serde_json.specs.Data.{Data, null, boolean, number, string, array, object, Items, no_items, item}
use Rattle.serde_json.specs.Written.{has_float, items_have_float}
use Rattle.jwt_text.specs.Members.{elements, are_texts, is_text_or_texts}

texts_no_float : (ds : Items) → are_texts (elements ds) ≡ true → items_have_float ds ≡ false
texts_no_float no_items h = refl
texts_no_float (item (string s) ds) h = texts_no_float ds h
texts_no_float (item null ds) h = cc
texts_no_float (item (boolean b) ds) h = cc
texts_no_float (item (number n) ds) h = cc
texts_no_float (item (array es) ds) h = cc
texts_no_float (item (object ms) ds) h = cc

pub text_or_texts_no_float : (d : Data) → is_text_or_texts d ≡ true → has_float d ≡ false
text_or_texts_no_float (string s) h = refl
text_or_texts_no_float (array ds) h = texts_no_float ds h
text_or_texts_no_float null h = cc
text_or_texts_no_float (boolean b) h = cc
text_or_texts_no_float (number n) h = cc
text_or_texts_no_float (object ms) h = cc
