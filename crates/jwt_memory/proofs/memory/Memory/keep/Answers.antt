use Rattle.std.proofs.Common.{◌≤◌, length, inl, inr, ap, sym, ◌∙◌, arith, rules}
use Rattle.std.specs.Arc.{arc_value}
use Rattle.jwt_jws.specs.Forms.{opens_object}
use Rattle.jwt_memory.specs.declared.memory.MemoryEntry.{MemoryEntry}
use Rattle.jwt_memory.proofs.Holding.{had_or_put}
use Rattle.jwt_memory.proofs.memory.Memory.keep.Goals as goal

pub invariant_of-self : goal.invariant_of-self
invariant_of-self c = record {
  short = λ e h. elim (had_or_put c.push.result c.args.self.now.table c.push.new.self c.mark_of.result _ c.push.ensures.entries c.push.ensures.err e h) [
    | inl old ↦ c.args.self.now.short e old
    | inr put ↦ (let l : length e.octets.items ≤ c.args.self.now.longest = omega (arith, ap (λ (x : MemoryEntry). length x.octets.items) put, ap length c.in-Ok.ensures.items) in l)
  ];
  compact = λ e h. elim (had_or_put c.push.result c.args.self.now.table c.push.new.self c.mark_of.result _ c.push.ensures.entries c.push.ensures.err e h) [
    | inl old ↦ c.args.self.now.compact e old
    | inr put ↦ ap (λ (x : MemoryEntry). opens_object x.octets.items) put ∙ ap opens_object c.in-Ok.ensures.items ∙ sym c.opens_object.ensures ∙ search rules
  ];
}

pub returns-clause-held : goal.returns-clause-held
returns-clause-held c e h = elim (had_or_put c.push.result c.args.self.now.table c.push.new.self c.mark_of.result _ c.push.ensures.entries c.push.ensures.err e h) [
  | inl old ↦ inl old
  | inr put ↦ inr (ap (λ (x : MemoryEntry). x.octets.items) put ∙ c.in-Ok.ensures.items, ap (λ (x : MemoryEntry). x.ceiling) put, ap (λ (x : MemoryEntry). arc_value x.basis) put ∙ c.in-Some.ensures)
]
