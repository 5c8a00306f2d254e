use Rattle.std.proofs.Common.{◌≡◌, Option, Some, None, option_map, sym, subst, refl}
use Rattle.std.specs.Prelude.{IfSome}
use Rattle.std.specs.Option.{ForSome}

-- what holds of a kept value holds of it where it is lent
pub lent : {A B : Type 0} (now : A → B) (P : B → Type 0) (given : Option A) (kept : Option B) → option_map now given ≡ kept → IfSome kept P → IfSome given (λ t. P (now t))
lent now P given kept is held = at given (subst (λ o. IfSome o P) (sym is) held)
  where
    at : (o : Option _) → IfSome (option_map now o) P → IfSome o (λ t. P (now t))
    at None holds = holds
    at (Some t) holds = holds

-- and of whatever a value is known to be
pub for_some : {A : Type 0} (P : A → Type 0) (o : Option A) → IfSome o P → ForSome o P
for_some P o holds x is = subst (λ o. IfSome o P) is holds

pub if_some : {A : Type 0} (P : A → Type 0) (o : Option A) → ForSome o P → IfSome o P
if_some P None holds = record {}
if_some P (Some x) holds = holds x refl
