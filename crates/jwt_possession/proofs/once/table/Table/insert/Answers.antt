use Rattle.std.proofs.Common.{Some, refl, inl, inr, sym, ap, ◌∙◌}
use Rattle.std.specs.Ordering.{is_eq}
use Rattle.std.specs.Option.{option_map}
use Rattle.std.specs.List.{list_any}
use Rattle.std.proofs.lemmas.Cmp.{nat_list_cmp_total}
use Rattle.std.proofs.lemmas.Map.Lookups.{btree_map_from_get, exact_bytes}
use Rattle.jwt_possession.specs.declared.once.table.Holding.{Holding}
use Rattle.jwt_possession.specs.once.Tables.{by_turn}
use Rattle.jwt_possession.proofs.Queue.{others, undone, named, told, more_queued, more_named}
use Rattle.jwt_possession.proofs.Numbers.{more}
use Rattle.jwt_possession.proofs.once.table.Table.insert.Goals as goal

pub invariant_of-self-in-Ok : goal.invariant_of-self-in-Ok
invariant_of-self-in-Ok c =
    let m = c.args.self.now.held in
    let n = c.insert.new.self in
    let t = c.args.self.now.turns in
    let s = c.insert-2.new.self in
    record {
      queued = more_queued m n t s c.args.mark c.args.its c.in_ok-insert.ensures.updates.0 c.in-Ok.ensures.updates.0 c.args.self.now.queued;
      named = told n s (more_named m n t s c.args.mark c.args.its c.in_ok-insert.ensures.updates.0 c.in-Ok.ensures.updates.0 c.requires (named m t c.args.self.now.named));
      ordered = c.insert.ensures.ordered;
    }

pub invariant_of-self-in-Err : goal.invariant_of-self-in-Err
invariant_of-self-in-Err c =
    let same = undone c.args.self.now.held c.insert.new.self c.remove.new.self c.args.mark (Some c.args.its) c.in_ok-insert.ensures.updates.0 c.remove.ensures.updates.0 c.requires in
    record {
      queued = λ q its h. ap (list_any (λ k. is_eq (by_turn (its.moment, q) k))) c.in-Err.ensures.err ∙ c.args.self.now.queued q its (sym (same q) ∙ h);
      named = λ q u h. ap (option_map (λ (its : Holding). its.moment)) (same q) ∙ c.args.self.now.named q u (sym (ap (list_any (λ k. is_eq (by_turn (u, q) k))) c.in-Err.ensures.err) ∙ h);
      ordered = c.remove.ensures.ordered;
    }

pub returns-in-Ok-clause-others : goal.returns-in-Ok-clause-others
returns-in-Ok-clause-others c other = elim (others c.args.self.now.held c.insert.new.self c.args.mark (Some c.args.its) c.in_ok-insert.ensures.updates.0 other) [
  | inl same ↦ inl same
  | inr here ↦ inr (refl, here)
]

pub returns-in-Ok-clause-numbers : goal.returns-in-Ok-clause-numbers
returns-in-Ok-clause-numbers c = more c.args.self.now.held c.insert.new.self c.args.mark c.args.its c.args.self.now.ordered c.in_ok-insert.ensures.entries c.requires

pub returns-in-Err-clause-others : goal.returns-in-Err-clause-others
returns-in-Err-clause-others c other = inl (undone c.args.self.now.held c.insert.new.self c.remove.new.self c.args.mark (Some c.args.its) c.in_ok-insert.ensures.updates.0 c.remove.ensures.updates.0 c.requires other)

pub returns-in-Err-clause-unchanged : goal.returns-in-Err-clause-unchanged
returns-in-Err-clause-unchanged c =
    btree_map_from_get nat_list_cmp_total c.remove.new.self c.args.self.now.held c.remove.ensures.ordered c.args.self.now.ordered
    (undone c.args.self.now.held c.insert.new.self c.remove.new.self c.args.mark (Some c.args.its) c.in_ok-insert.ensures.updates.0 c.remove.ensures.updates.0 c.requires) exact_bytes
