-- What isn't shown is one thing.
use Rattle.std.proofs.Common.{◌≡◌, ◌∙◌, ℕ, Bool, true, false, not, ◌&&◌, List, [], ◌∷◌, ◌++◌, codes, Option, None, Some, Bor, refl, sym, ap}
use Rattle.std.specs.Option.{option_map_or}
use Rattle.std.specs.Prelude.{option_map}
use Rattle.std.specs.Str.{bytes_eq}
use Rattle.serde_json.specs.Data.{Members}
use Rattle.jwt_text.specs.Rows.{Row, ◌⇒◌, first_row}
use Rattle.jwt_policy.specs.Texts.{some_passes}
use Rattle.jwt_possession.specs.Bindings.{bound_key, bound_certificate, digest_text}
use Rattle.jwt_possession.specs.Possessions.{proved}
use Rattle.jwt_possession.specs.Shown.{is_known, binds, is_key_shown, is_certificate_shown, binding_rows}
use Rattle.jwt_possession.specs.declared.binding.BindingFault.{BindingFault}
use Rattle.jwt_possession.specs.declared.binding.BindingFault.TheVariants.{Unknown, OtherKey, OtherCertificate}
use Rattle.jwt_possession.specs.declared.binding.Shown.{Shown}
use Rattle.jwt_possession.specs.declared.possession.Possession.{Possession}
use Rattle.jwt_service.specs.declared.call.Call.{Call}
use Rattle.jwt_service.specs.declared.service.Service.{Service}
use Rattle.jwt_service.specs.Unshown.{lacks_certificate, ShowsThese, HasUnshown}

asks_alike : (f : List ℕ → Bool) (a b : Option (Bor (List ℕ))) → option_map (λ k. k.now) b ≡ option_map (λ k. k.now) a → option_map_or (λ k. f k.now) b false ≡ option_map_or (λ k. f k.now) a false
asks_alike f None None e = refl
asks_alike f None (Some y) e = let no : Some y.now ≡ None = e in absurd cc
asks_alike f (Some x) None e = let no : None ≡ Some x.now = e in absurd cc
asks_alike f (Some x) (Some y) e = let some : Some y.now ≡ Some x.now = e in let same : y.now ≡ x.now = cc in ap f same

abbrev rows_with : Members → Bool → Bool → List (Row BindingFault)
rows_with claims key certificate =
    (not (is_known claims) ⇒ Unknown)
    ∷ (binds (codes "jkt") claims && not key ⇒ OtherKey)
    ∷ (binds (codes "x5t#S256") claims && not certificate ⇒ OtherCertificate)
    ∷ []

rows_alike : (claims : Members) (a b : Shown) → option_map (λ k. k.now) b.key ≡ option_map (λ k. k.now) a.key
    → option_map (λ c. c.now) b.certificate ≡ option_map (λ c. c.now) a.certificate → binding_rows claims b ≡ binding_rows claims a
rows_alike claims a b keys certificates =
    let key : is_key_shown claims b ≡ is_key_shown claims a = asks_alike (λ t. some_passes (λ text. bytes_eq text t) (bound_key claims)) a.key b.key keys in
    let certificate : is_certificate_shown claims b ≡ is_certificate_shown claims a =
    asks_alike (λ t. some_passes (λ text. bytes_eq text (digest_text t)) (bound_certificate claims)) a.certificate b.certificate certificates in
    ap (λ (k : Bool). rows_with claims k (is_certificate_shown claims b)) key ∙ ap (λ (c : Bool). rows_with claims (is_key_shown claims a) c) certificate

pub one_unshown : (service : Service) (call : Call) (claims : Members) (p q : Option Possession) (a b : Option BindingFault)
    → option_map (λ it. (proved it).thumbprint) q ≡ option_map (λ it. (proved it).thumbprint) p → HasUnshown service call claims p a → HasUnshown service call claims q b → b ≡ a
one_unshown service call claims p q a b keys (shown, shows, is) (shown', shows', is') =
    let rows = rows_alike claims shown shown' (shows'.key ∙ keys ∙ sym shows.key) (shows'.certificate ∙ sym shows.certificate) in
    sym is' ∙ ap (λ (rows : List (Row BindingFault)). first_row (rows ++ (lacks_certificate service claims ⇒ OtherCertificate) ∷ [])) rows ∙ is

-- ---- with one more row

last_then : (a b c : Bool) (last : List (Row BindingFault)) → None ≡ first_row ((a ⇒ Unknown) ∷ (b ⇒ OtherKey) ∷ (c ⇒ OtherCertificate) ∷ [])
    → first_row ((a ⇒ Unknown) ∷ (b ⇒ OtherKey) ∷ (c ⇒ OtherCertificate) ∷ last) ≡ first_row last
last_then true b c last is = let no : None ≡ Some Unknown = is in absurd cc
last_then false true c last is = let no : None ≡ Some OtherKey = is in absurd cc
last_then false false true last is = let no : None ≡ Some OtherCertificate = is in absurd cc
last_then false false false last is = refl

first_then : (a b c : Bool) (last : List (Row BindingFault)) (fault : BindingFault) → Some fault ≡ first_row ((a ⇒ Unknown) ∷ (b ⇒ OtherKey) ∷ (c ⇒ OtherCertificate) ∷ [])
    → first_row ((a ⇒ Unknown) ∷ (b ⇒ OtherKey) ∷ (c ⇒ OtherCertificate) ∷ last) ≡ Some fault
first_then true b c last fault is = sym is
first_then false true c last fault is = sym is
first_then false false true last fault is = sym is
first_then false false false last fault is = let no : Some fault ≡ None = is in absurd cc

pub told_last : (service : Service) (call : Call) (claims : Members) (possession : Option Possession) (shown : Shown) (last : Option BindingFault)
    → ShowsThese service call possession shown → None ≡ first_row (binding_rows claims shown) → last ≡ first_row ((lacks_certificate service claims ⇒ OtherCertificate) ∷ [])
    → HasUnshown service call claims possession last
told_last service call claims possession shown last shows none is = (
  shown,
  shows,
  last_then (not (is_known claims)) (binds (codes "jkt") claims && not (is_key_shown claims shown)) (binds (codes "x5t#S256") claims && not (is_certificate_shown claims shown))
      ((lacks_certificate service claims ⇒ OtherCertificate) ∷ []) none ∙ sym is,
)

pub told_first : (service : Service) (call : Call) (claims : Members) (possession : Option Possession) (shown : Shown) (fault : BindingFault)
    → ShowsThese service call possession shown → Some fault ≡ first_row (binding_rows claims shown) → HasUnshown service call claims possession (Some fault)
told_first service call claims possession shown fault shows is = (
  shown,
  shows,
  first_then (not (is_known claims)) (binds (codes "jkt") claims && not (is_key_shown claims shown)) (binds (codes "x5t#S256") claims && not (is_certificate_shown claims shown))
      ((lacks_certificate service claims ⇒ OtherCertificate) ∷ []) fault is,
)
