-- The parts of a rule as contracts see them. Only private clauses and the view of a rule cite it.
use Rattle.std.specs.Prelude.{ℕ, List, map, string_bytes, Option, Result}
use Rattle.serde_json.specs.Data.{Data, Members}
use Rattle.serde_json.specs.Find.{get_member}
use Rattle.jwt_access.specs.Rules.{Allowed, text, flag, whole, Demand, Asked, absent, only, an_object, aged, ascii, Further}
use Rattle.jwt_access.specs.MemberKinds.{only_of, age_of, ascii_of}
use Rattle.jwt_access.specs.declared.access_fault.AccessFault.{AccessFault}
use Rattle.jwt_access.specs.declared.claim_rule.ClaimValue.{ClaimValue}
use Rattle.jwt_access.specs.declared.claim_rule.ClaimValue.TheVariants.{Text, Flag, Whole}
use Rattle.jwt_access.specs.declared.claim_rule.ClaimRule.{ClaimRule}
use Rattle.jwt_access.specs.declared.further.FurtherAsked.{FurtherAsked}
use Rattle.jwt_access.specs.declared.further.FurtherAsked.TheVariants.{Absent, Only, Object, Aged, Ascii}
use Rattle.jwt_access.specs.declared.further.FurtherRule.{FurtherRule}
use Rattle.jwt_access.specs.declared.further_kinds.NamesKind.{NamesKind}
use Rattle.jwt_access.specs.declared.further_kinds.NamesKind.TheVariants as names
use Rattle.jwt_access.specs.declared.further_kinds.ValuesKind.{ValuesKind}
use Rattle.jwt_access.specs.declared.further_kinds.ValuesKind.TheVariants as values
use Rattle.jwt_access.specs.declared.place.ClaimPlace.{ClaimPlace}
use Rattle.jwt_access.specs.declared.spot.Spot.{Spot}

abbrev pub allowed : ClaimValue → Allowed
allowed (Text wanted) = text (string_bytes wanted)
allowed (Flag wanted) = flag wanted
allowed (Whole wanted) = whole wanted

-- the name of a claim, as it stands in the rule
abbrev pub named_claim : ClaimPlace → List ℕ
named_claim place = string_bytes place.name

abbrev pub demand : ClaimRule → Demand
demand rule = record { name = named_claim rule.place; allowed = map allowed rule.allowed.items }

abbrev pub asked : FurtherAsked → Asked
asked Absent = absent
asked (Only values) = only (map allowed values.items)
asked Object = an_object
asked (Aged seconds) = aged seconds
asked (Ascii octets) = ascii octets

abbrev pub further : FurtherRule → Further
further rule = record { name = named_claim rule.place; asked = asked rule.asked }

-- what the names of a list are asked
abbrev pub names_asked : NamesKind → Asked
names_asked names.Absent = absent
names_asked names.Object = an_object

-- what the members of an object say
abbrev pub values_asked : ValuesKind → Members → List ℕ → Result Asked AccessFault
values_asked values.Only = only_of
values_asked values.Age = age_of
values_asked values.Ascii = ascii_of

-- the claim that stands at a spot, if any
abbrev pub found : Spot → Option Data
found spot = get_member spot.own.now spot.home
