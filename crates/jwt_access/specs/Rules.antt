-- Access rules: what a document asks of claims.
use Rattle.std.specs.Prelude.{ℕ, ℤ, List, ◌++◌, Bool}

-- a value that is allowed: a text, true or false, or a whole number
pub data Allowed : Type 0 where
  text : List ℕ → Allowed
  flag : Bool → Allowed
  whole : ℤ → Allowed

-- what is asked of one claim: its name, and the values of which it has to have one
pub record Demand : Type 0 where
  pub name : List ℕ
  pub allowed : List Allowed

-- what else may be asked of a claim: that it is absent; that it is one of these values, or a list of them alone; that it is an object;
-- that it is a date, at most so many seconds old; that it is a text of at most so many octets, all of ASCII
pub data Asked : Type 0 where
  absent : Asked
  only : List Allowed → Asked
  an_object : Asked
  aged : ℕ → Asked
  ascii : ℕ → Asked

-- what else is asked of one claim
pub record Further : Type 0 where
  pub name : List ℕ
  pub asked : Asked

-- the scopes that have to be granted, the name of the claim that carries scopes, what is asked of claims, and, member by member, what else
-- is
pub record Rule : Type 0 where
  pub scopes : List (List ℕ)
  pub scope_claim : List ℕ
  pub claims : List Demand
  pub absent_claims : List Further
  pub only_claims : List Further
  pub object_claims : List Further
  pub aged_claims : List Further
  pub ascii_claims : List Further

-- what else is asked of claims, in its order
abbrev pub further_of : Rule → List Further
further_of rule = rule.absent_claims ++ (rule.only_claims ++ (rule.object_claims ++ (rule.aged_claims ++ rule.ascii_claims)))
