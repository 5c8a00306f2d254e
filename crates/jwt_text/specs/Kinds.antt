-- The kinds of a node.
use Rattle.std.specs.Prelude.{◌^◌, ℤ, pos, Option, Some, None, nat_lt, if◌then◌else◌}
use Rattle.std.specs.Prelude as spec
use Rattle.serde_json.specs.Data.{Num, unsigned, negative, float}
use Rattle.jwt_text.specs.declared.number.Number.{Number}
use Rattle.jwt_text.specs.declared.node.Span.{Span}
use Rattle.jwt_text.specs.declared.node.Node.{Node}
use Rattle.jwt_text.specs.declared.node.Node.TheVariants.{Null, Bool, Unsigned, Negative, Float, Text, List as ListOf, Object as ObjectOf}

abbrev pub as_flag : Node → Option spec.Bool
as_flag Null = None
as_flag (Bool b) = Some b
as_flag (Unsigned n) = None
as_flag (Negative z) = None
as_flag (Float x) = None
as_flag (Text p) = None
as_flag (ListOf p) = None
as_flag (ObjectOf p) = None

abbrev pub as_whole : Node → Option ℤ
as_whole Null = None
as_whole (Bool b) = None
as_whole (Unsigned n) = if nat_lt n (2 ^ 63) then Some (pos n) else None
as_whole (Negative z) = Some z
as_whole (Float x) = None
as_whole (Text p) = None
as_whole (ListOf p) = None
as_whole (ObjectOf p) = None

abbrev pub is_numeric : Node → spec.Bool
is_numeric Null = spec.false
is_numeric (Bool b) = spec.false
is_numeric (Unsigned n) = spec.true
is_numeric (Negative z) = spec.true
is_numeric (Float x) = spec.true
is_numeric (Text p) = spec.false
is_numeric (ListOf p) = spec.false
is_numeric (ObjectOf p) = spec.false

abbrev pub as_text : Node → Option Span
as_text Null = None
as_text (Bool b) = None
as_text (Unsigned n) = None
as_text (Negative z) = None
as_text (Float x) = None
as_text (Text p) = Some p
as_text (ListOf p) = None
as_text (ObjectOf p) = None

abbrev pub as_list : Node → Option Span
as_list Null = None
as_list (Bool b) = None
as_list (Unsigned n) = None
as_list (Negative z) = None
as_list (Float x) = None
as_list (Text p) = None
as_list (ListOf p) = Some p
as_list (ObjectOf p) = None

abbrev pub as_entries : Node → Option Span
as_entries Null = None
as_entries (Bool b) = None
as_entries (Unsigned n) = None
as_entries (Negative z) = None
as_entries (Float x) = None
as_entries (Text p) = None
as_entries (ListOf p) = None
as_entries (ObjectOf p) = Some p

-- ---- numbers

abbrev pub num_of : Number → Num
num_of (Number.Unsigned n) = unsigned n
num_of (Number.Negative z) = negative z
num_of (Number.Float x) = float x

abbrev pub node_of : Number → Node
node_of (Number.Unsigned n) = Unsigned n
node_of (Number.Negative z) = Negative z
node_of (Number.Float x) = Float x
