-- What says that a call's fault is another.
use Rattle.std.proofs.Common.{◌≡◌, Result, Ok, Err, ap}
use Rattle.jwt_jwk.specs.declared.text_blocks.fault.PemFault.{PemFault}

abbrev pub gives : {T : Type 0} → T → Result T PemFault
gives x = Ok x

abbrev pub fails : {T : Type 0} → PemFault → Result T PemFault
fails e = Err e

pub value_is_no_fault : {T : Type 0} (x : T) (e : PemFault) → gives x ≡ fails e → ⊥
value_is_no_fault x e h = cc

fault_is : {T : Type 0} (f e : PemFault) → fails {T = T} f ≡ fails e → f ≡ e
fault_is f e h = cc

pub same_fault : {T U : Type 0} (f e : PemFault) → fails {T = T} f ≡ fails e → fails {T = U} f ≡ fails e
same_fault {T} {U} f e h = ap (fails {T = U}) (fault_is {T = T} f e h)
