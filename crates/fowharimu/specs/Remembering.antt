-- The grounds of a verdict with a memory.
use Rattle.std.specs.Prelude.{ℤ, List, [], ◌∷◌}
use Rattle.jwt_mac.specs.Verifying.{Meaning}
use Rattle.jwt_built_in.specs.Meanings.{built_in_meaning}
use Rattle.jwt_keys.specs.Keys.{KeyParts}
use Rattle.jwt_policy.specs.Settings.{Settings}
use Rattle.jwt_verify.specs.Verdict.{Terms}
use Rattle.jwt_memory.specs.declared.memory.Memory.{Memory}

-- the verifier that is built in
abbrev pub built_in : List Meaning
built_in = built_in_meaning ∷ []

-- a policy and its keys, with the memory of the tokens that they accepted
pub record WithMemory : Type 0 where
  pub policy : Settings
  pub keys : List KeyParts
  pub memory : Memory

-- a policy and its keys, at a moment, by the verifier that is built in
abbrev pub terms_of_documents : WithMemory → ℤ → Terms
terms_of_documents documents now = record { policy = documents.policy; keys = documents.keys; now = now; verifiers = built_in }
