use Rattle.std.proofs.Common.{inl, inr, ◌∙◌}
use Rattle.jwt_memory.proofs.memory.Memory.accepted.Goals as goal

pub returns-in-Ok-clause-held : goal.returns-in-Ok-clause-held
returns-in-Ok-clause-held c e h = elim (c.keep.ensures.held e h) [
  | inl old ↦ inl old
  | inr new ↦ inr (new.0, new.1, new.2 ∙ c.in-Ok.ensures.ok)
]
