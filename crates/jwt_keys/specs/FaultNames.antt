-- The names of faults and of reasons.
use Rattle.std.specs.Prelude.{ℕ, List, codes}
use Rattle.jwt_keys.specs.declared.fault.KeysFault.{KeysFault}
use Rattle.jwt_keys.specs.declared.fault.KeysFault.TheVariants as keys
use Rattle.jwt_keys.specs.declared.skip.SkipReason.{SkipReason}
use Rattle.jwt_keys.specs.declared.skip.SkipReason.TheVariants as skip

abbrev pub keys_fault_name : KeysFault → List ℕ
keys_fault_name keys.OutOfMemory = codes "OutOfMemory"
keys_fault_name keys.Json = codes "Json"
keys_fault_name keys.NotKeySet = codes "NotKeySet"
keys_fault_name keys.NameTwice = codes "NameTwice"
keys_fault_name keys.TooManyKeys = codes "TooManyKeys"
keys_fault_name keys.TooLong = codes "TooLong"

abbrev pub reason_name : SkipReason → List ℕ
reason_name skip.NotObject = codes "NotObject"
reason_name skip.MemberMissing = codes "MemberMissing"
reason_name skip.MemberKind = codes "MemberKind"
reason_name skip.KtyUnknown = codes "KtyUnknown"
reason_name skip.CrvUnknown = codes "CrvUnknown"
reason_name skip.Base64 = codes "Base64"
reason_name skip.Length = codes "Length"
