-- What a call has to expect, and the one rule by which it is measured.
use Rattle.std.proofs.Common.{◌≡◌, ◌<◌, ◌∙◌, ℕ, true, List, get_or, Option, None, Some, Bor, refl, sym, ap}
use Rattle.std.specs.Prelude.{find}
use Rattle.std.specs.Str.{bytes_eq}
use Rattle.jwt_service.specs.declared.call.Call.{Call}
use Rattle.jwt_service.specs.declared.service.NamedRule.{NamedRule}
use Rattle.jwt_service.specs.declared.service.Service.{Service}
use Rattle.jwt_service.specs.Asking.{IsRuleOf, expects}

-- ---- each name before this place is expected

abbrev pub ExpectsBefore : Call → List (Bor (List ℕ)) → ℕ → Type 0
ExpectsBefore call names place = (at : ℕ) (d : Bor (List ℕ)) → at < place → expects call (get_or names at d).now ≡ true

-- ---- one rule

pub one_rule : (service : Service) (call : Call) (a b : Option NamedRule) → IsRuleOf service call a → IsRuleOf service call b → b ≡ a
one_rule service call None None h g = refl
one_rule service call None (Some b) h (name, is, found) = let no : Some name ≡ None = sym is ∙ h.1 in absurd cc
one_rule service call (Some a) None (name, is, found) g = let no : Some name ≡ None = sym is ∙ g.1 in absurd cc
one_rule service call (Some a) (Some b) (name, is, found) (name', is', found') =
    let both : Some name' ≡ Some name = sym is' ∙ is in
    let same : name' ≡ name = cc in
    sym found' ∙ ap (λ (n : Bor (List ℕ)). find (λ it. bytes_eq it.name.now n.now) service.rules.now) same ∙ found
