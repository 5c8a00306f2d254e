-- The tables of members of a document: a member is one row.
use Rattle.std.specs.Prelude.{ℕ, List, [], ◌∷◌, codes}
use Rattle.jwt_document.specs.declared.rows.Form.{Form}
use Rattle.jwt_document.specs.declared.rows.Within.{Within}
use Rattle.jwt_document.specs.declared.rows.Within.TheVariants as within

-- what the value of a member has to be: true or false; true; a whole number, of at least and at most so much; a text of a form, of at
-- least and at most so many octets; a list of at least and at most so many texts of a form, none of them empty; one of some texts; an object; a
-- list of at most so many elements
pub data Kind : Type 0 where
  flag : Kind
  given : Kind
  whole : ℕ → ℕ → Kind
  text : Form → ℕ → ℕ → Kind
  texts : Form → ℕ → ℕ → Kind
  word : List (List ℕ) → Kind
  an_object : Kind
  items : ℕ → Kind

-- what holds where it is absent: the document is refused; nothing is asked, or false; this number; this text; these texts
pub data Absent : Type 0 where
  refused : Absent
  nothing : Absent
  number : ℕ → Absent
  said : List ℕ → Absent
  listed : List (List ℕ) → Absent

pub record Row : Type 0 where
  pub name : List ℕ
  pub kind : Kind
  pub absent : Absent

-- the names that lead to an object, each in the object of the one before, from the whole, or from its entry
abbrev pub path : Within → List (List ℕ)
path within.Whole = []
path within.Rules = codes "rules" ∷ []
path within.Remember = codes "remember" ∷ []
path within.Dpop = codes "dpop" ∷ []
path within.Nonce = codes "dpop" ∷ codes "nonce" ∷ []
path within.Memory = codes "memory" ∷ []
path within.Issue = codes "issue" ∷ []
path within.Onward = codes "onward" ∷ []
path within.Entry = []
path within.Keys = codes "keys" ∷ []

-- the members of an object
pub record Table : Type 0 where
  pub within : Within
  pub rows : List Row
