use Rattle.std.proofs.lemmas.List.Sorted.{IsPermutation-trans}
use Rattle.jwt_text.proofs.arrange.arrange.Goals as goal

pub returns-then-is_ok-2-clause-permutation : goal.returns-then-is_ok-2-clause-permutation
returns-then-is_ok-2-clause-permutation c =
    IsPermutation-trans c.args.entries.now c.sort_by_cached_key-by_heads.new.self c.sort_by-sorted.new.self c.sort_by_cached_key-by_heads.ensures.permutation c.sort_by-sorted.ensures.permutation
