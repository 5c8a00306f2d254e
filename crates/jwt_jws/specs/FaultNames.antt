-- The names of faults.
use Rattle.std.specs.Prelude.{ℕ, List, codes}
use Rattle.jwt_jws.specs.declared.fault.FormFault.{FormFault}
use Rattle.jwt_jws.specs.declared.fault.FormFault.TheVariants as form

abbrev pub form_fault_name : FormFault → List ℕ
form_fault_name form.OutOfMemory = codes "OutOfMemory"
form_fault_name form.Empty = codes "Empty"
form_fault_name form.Encrypted = codes "Encrypted"
form_fault_name form.Segments = codes "Segments"
form_fault_name form.Json = codes "Json"
form_fault_name form.NameTwice = codes "NameTwice"
form_fault_name form.Members = codes "Members"
form_fault_name form.TooManySignatures = codes "TooManySignatures"
form_fault_name (form.Base64 _) = codes "Base64"
form_fault_name (form.Header _) = codes "Header"
form_fault_name (form.UnprotectedKind _) = codes "UnprotectedKind"
form_fault_name (form.NamesOverlap _) = codes "NamesOverlap"
