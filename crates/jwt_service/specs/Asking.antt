-- What the program itself has to ask by.
use Rattle.std.specs.Prelude.{◌≡◌, ℕ, List, [], Bool, true, false, Option, Some, None, Result, Ok, Err, find, int_lt}
use Rattle.std.specs.Borrow.{Bor}
use Rattle.std.specs.List.{list_any, Contains}
use Rattle.std.specs.Str.{bytes_eq}
use Rattle.jwt_service.specs.declared.asking.AskingFault.{AskingFault}
use Rattle.jwt_service.specs.declared.asking.AskingFault.TheVariants.{NoMoment, NoRule, Unasked}
use Rattle.jwt_service.specs.declared.call.Call.{Call}
use Rattle.jwt_service.specs.declared.service.NamedRule.{NamedRule}
use Rattle.jwt_service.specs.declared.service.Service.{Service}

-- the rule by which a call is measured: the first of the name that it gives; none where the service has none and the call names none
abbrev pub IsRuleOf : Service → Call → Option NamedRule → Type 0
IsRuleOf service call None = (service.rules.now ≡ []) × (call.rule ≡ None)
IsRuleOf service call (Some rule) = (name : Bor (List ℕ)) × (call.rule ≡ Some name) × (find (λ it. bytes_eq it.name.now name.now) service.rules.now ≡ Some rule)

-- the call expects something of the claim of this name
abbrev pub expects : Call → List ℕ → Bool
expects call name = list_any (λ it. bytes_eq it.claim.now name) call.expected.now

-- the program asks as it has to: at a moment that isn't before the service's first, by a rule that is there, and expecting something of each claim of which it has to
pub record IsAsked (service : Service) (call : Call) : Type 0 where
  pub moment : int_lt call.moment service.earliest ≡ false
  pub rule : (rule : Option NamedRule) × IsRuleOf service call rule
  pub expected : (name : Bor (List ℕ)) → Contains service.expects.now name → expects call name.now ≡ true

-- it doesn't, for this cause
abbrev pub IsMisasked : Service → Call → AskingFault → Type 0
IsMisasked service call NoMoment = int_lt call.moment service.earliest ≡ true
IsMisasked service call NoRule = (rule : Option NamedRule) → ¬ IsRuleOf service call rule
IsMisasked service call (Unasked name) = Contains service.expects.now name × (expects call name.now ≡ false)

-- ---- Cited by contracts of private functions alone

abbrev pub IsRuleAs : Service → Call → Result (Option NamedRule) AskingFault → Type 0
IsRuleAs service call (Ok rule) = IsRuleOf service call rule
IsRuleAs service call (Err fault) = IsMisasked service call fault

abbrev pub HasUnasked : Service → Call → Option (Bor (List ℕ)) → Type 0
HasUnasked service call None = (name : Bor (List ℕ)) → Contains service.expects.now name → expects call name.now ≡ true
HasUnasked service call (Some name) = IsMisasked service call (Unasked name)

abbrev pub IsAskedAs : Service → Call → Result (Option NamedRule) AskingFault → Type 0
IsAskedAs service call (Ok rule) = IsAsked service call × IsRuleOf service call rule
IsAskedAs service call (Err fault) = IsMisasked service call fault
