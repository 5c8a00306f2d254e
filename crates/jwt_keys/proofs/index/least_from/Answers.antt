use Rattle.std.proofs.Common.{◌≡◌, ltb, get_or, Some, None, sym, ◌∙◌, arith, rules}
use Rattle.std.specs.Prelude.{slice_get}
use Rattle.std.proofs.lemmas.Bool.{ltb-true, ltb-false, le-leb}
use Rattle.std.proofs.lemmas.List.Sorted.{IsPartitionPoint-from_clause, IsPartitionedBy-ltb}
use Rattle.jwt_keys.proofs.Ascending.{not_from, found_at, slice_get-some, slice_get-none}
use Rattle.jwt_keys.proofs.index.least_from.Goals as goal

pub returns-then-at-numbers : goal.returns-then-at-numbers
returns-then-at-numbers c =
    let xs = c.args.numbers.now in
    let from = c.args.from in
    let at = c.partition_point-at.result in
    let parted = IsPartitionedBy-ltb (λ n. n) xs from c.requires in
    let point = IsPartitionPoint-from_clause (λ n. ltb n from) xs at c.partition_point-at.ensures.partitioned parted (λ a r q k. search rules) in
    let e = found_at from xs at (λ k lt. not_from from (get_or xs k 0) (ltb-true _ _ (point.0 k 0 (omega arith) lt))) (λ lt. le-leb _ _ (ltb-false _ _ (point.1 at 0 (omega arith) lt))) c.partition_point-at.ensures.bound in
    let here : slice_get xs at ≡ Some (get_or xs at 0) = slice_get-some xs at 0 c.if-at-numbers.true in
    sym (e ∙ here)

pub returns-else-at-numbers : goal.returns-else-at-numbers
returns-else-at-numbers c =
    let xs = c.args.numbers.now in
    let from = c.args.from in
    let at = c.partition_point-at.result in
    let parted = IsPartitionedBy-ltb (λ n. n) xs from c.requires in
    let point = IsPartitionPoint-from_clause (λ n. ltb n from) xs at c.partition_point-at.ensures.partitioned parted (λ a r q k. search rules) in
    let e = found_at from xs at (λ k lt. not_from from (get_or xs k 0) (ltb-true _ _ (point.0 k 0 (omega arith) lt))) (λ lt. absurd (omega (arith, c.if-at-numbers.false, lt))) c.partition_point-at.ensures.bound in
    let past : slice_get xs at ≡ None = slice_get-none xs at c.if-at-numbers.false in
    sym (e ∙ past)
