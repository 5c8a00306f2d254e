-- What a redirection leads to.
use Rattle.std.proofs.Common.{◌≡◌, ◌&&◌, ◌==◌, ◌++◌, ◌-◌, ℕ, List, [], ◌∷◌, Bool, true, false, not, length, drop, take, slice_index, if◌then◌else◌, Option, Some, None, refl, sym, subst, ap, ◌∙◌, inl, inr, true≢false}
use Rattle.std.proofs.lemmas.List.{append_assoc, take-append-drop}
use Rattle.std.proofs.lemmas.Bool.{and_left, and_right, and_parts, eqb-true, eq-eqb, ne_eqb, not-true}
use Rattle.std.proofs.lemmas.Option.{none-some, same_Some}
use Rattle.std.specs.Str.{str_eq_ignore_ascii_case}
use Rattle.jwt_request.specs.declared.urls.url.Url.{Url}
use Rattle.jwt_request.specs.urls.Urls.{host_of, is_target, same_scheme, url_where}
use Rattle.jwt_request.specs.urls.References.{folder_len, followed, is_reference, is_whole, is_within, path_of, redirection, referred}
use Rattle.jwt_request.specs.urls.Laws.{AreOfOneOrigin, IsFolder, IsTransformed, LeadsWithin, Transforms, location_text, text_referred}
use Rattle.jwt_request.proofs.Fronts.{target_of}
use Rattle.jwt_request.proofs.Seams.{folder_front, folder_some, path_begins, segment_behind}
use Rattle.jwt_request.proofs.Parts.{seam_of_none, seam_of_path, seam_of_query, seam_of_some, text_by}

same_by : (b c : Bool) → (if b then c else not c) ≡ true → c ≡ b
same_by true c is = is
same_by false c is = not-true c is

within_by : (next_is : Option Url) (at : Url) (url next : List ℕ) → url_where true url ≡ Some at → url_where true next ≡ next_is
    → is_within at url next next_is ≡ true → AreOfOneOrigin url next
within_by None at url next some there within = absurd (true≢false (sym within))
within_by (Some at_next) at url next some there within =
    let outer = and_parts (same_scheme at at_next && at.port == at_next.port) (str_eq_ignore_ascii_case (host_of at url) (host_of at_next next)) within in
    let inner = and_parts (same_scheme at at_next) (at.port == at_next.port) outer.0 in
    record {
      at = at;
      at_next = at_next;
      is_url = some;
      next_is_url = there;
      scheme = same_by at.is_https at_next.is_https inner.0;
      host = outer.1;
      port = sym (eqb-true at.port at_next.port inner.1);
    }

followed_by : (b : Bool) (at : Url) (url location next : List ℕ)
    → (is_reference location && is_within at url (referred at url location) (url_where true (referred at url location))) ≡ b
    → (if b then Some (referred at url location) else None) ≡ Some next
    → (referred at url location ≡ next) × (is_within at url next (url_where true next) ≡ true)
followed_by false at url location next is some = absurd (none-some next some)
followed_by true at url location next is some =
    let text : referred at url location ≡ next = same_Some (referred at url location) next some in
    let within = (and_parts (is_reference location) (is_within at url (referred at url location) (url_where true (referred at url location))) is).1 in
    (text, subst (λ xs. is_within at url xs (url_where true xs) ≡ true) text within)

leads_by : (url_is : Option Url) (url location next : List ℕ) → url_where true url ≡ url_is → followed url_is url location ≡ Some next
    → (text_referred url_is url location ≡ Some next) × AreOfOneOrigin url next
leads_by None url location next is leads = absurd (none-some next leads)
leads_by (Some at) url location next is leads =
    let it = followed_by (is_reference location && is_within at url (referred at url location) (url_where true (referred at url location))) at url location next refl leads in
    (ap (λ xs. Some xs) it.0, within_by (url_where true next) at url next is refl it.1)

pub leads_within : LeadsWithin
unfolding location_text redirection
leads_within url location next leads = leads_by (url_where true url) url location next refl leads

-- the text by section 5.2.2
folder_of : (path : List ℕ) → slice_index path 0 ≡ 47 → IsFolder path (take (folder_len path) path)
folder_of path begins =
    inr (
      take (folder_len path - 1) path,
      drop (folder_len path) path,
      folder_front path (folder_some path begins),
      sym (take-append-drop (folder_len path) path),
      segment_behind path,
    )

named : (at : Url) (url location : List ℕ) → is_target (drop at.target url) ≡ true → is_whole location ≡ false
    → (slice_index location 0 == 47) ≡ false → (slice_index location 0 == 63) ≡ false
    → (folder : List ℕ) × IsFolder (path_of at url) folder × (referred at url location ≡ take at.target url ++ folder ++ location)
named at url location target whole slash query =
    elim (path_begins (drop at.target url) target) [
      | inl empty ↦ (
        47 ∷ [],
        inl (empty, refl),
        (seam_of_none at url location empty whole slash query).text ∙ sym (append_assoc (take at.target url) (47 ∷ []) location),
      )
      | inr begins ↦ (
        take (folder_len (path_of at url)) (path_of at url),
        folder_of (path_of at url) begins,
        (seam_of_some at url location target begins whole slash query).text
            ∙ sym (append_assoc (take at.target url) (take (folder_len (path_of at url)) (path_of at url)) location),
      )
    ]

none_of : (x y n : Bool) → y ≡ false → (x && y && n) ≡ false
none_of x y n is = and_left (x && y) n (and_right x y is)

transformed : (at : Url) (url location : List ℕ) → is_target (drop at.target url) ≡ true → IsTransformed at url location (referred at url location)
transformed at url location target =
    record {
      scheme = λ whole. text_by 0 false at url location (rw whole refl)
          (and_left (length (path_of at url) == 0 && not (is_whole location) && not (slice_index location 0 == 47)) (not (slice_index location 0 == 63))
          (none_of (length (path_of at url) == 0) (not (is_whole location)) (not (slice_index location 0 == 47)) (ap not whole)));
      authority = λ whole slash other. text_by (at.host - 2) false at url location (rw (whole, slash, other) refl)
          (and_left (length (path_of at url) == 0 && not (is_whole location) && not (slice_index location 0 == 47)) (not (slice_index location 0 == 63))
          (and_right (length (path_of at url) == 0 && not (is_whole location)) (not (slice_index location 0 == 47)) (ap (λ c. not (c == 47)) slash)));
      path = λ whole slash other. (seam_of_path at url location whole (eq-eqb (slice_index location 0) 47 slash) (ne_eqb (slice_index location 1) 47 other)).text;
      query = λ whole mark.
          (seam_of_query at url location target whole (ap (λ c. c == 47) mark) (eq-eqb (slice_index location 0) 63 mark)).text
          ∙ sym (append_assoc (take at.target url) (path_of at url) location);
      name = λ whole slash mark. named at url location target whole (ne_eqb (slice_index location 0) 47 slash) (ne_eqb (slice_index location 0) 63 mark);
    }

transforms_by : (url_is : Option Url) (at : Url) (url location text : List ℕ) → url_is ≡ Some at → is_target (drop at.target url) ≡ true
    → text_referred url_is url location ≡ Some text → IsTransformed at url location text
transforms_by None at url location text is target gives = absurd (none-some at is)
transforms_by (Some it) at url location text is target gives =
    let same : it ≡ at = same_Some it at is in
    let text_is : referred at url location ≡ text = ap (λ x. referred x url location) (sym same) ∙ same_Some (referred it url location) text gives in
    subst (IsTransformed at url location) text_is (transformed at url location target)

pub transforms : Transforms
unfolding location_text
transforms at url location text is gives = transforms_by (url_where true url) at url location text is (target_of at url is) gives
