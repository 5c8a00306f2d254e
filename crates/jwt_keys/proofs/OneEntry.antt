-- The keys and the skips of one entry.
use Rattle.std.proofs.Common.{◌≡◌, List, [], ◌∷◌, ◌++◌, Some, map, ap, sym, ◌∙◌}
use Rattle.std.proofs.lemmas.List.{append-nil}
use Rattle.serde_json.specs.Data.{Members, object}
use Rattle.jwt_keys.specs.declared.key.Key.{Key}
use Rattle.jwt_keys.specs.declared.skip.Skip.{Skip}
use Rattle.jwt_keys.specs.declared.set.KeySet.{KeySet}
use Rattle.jwt_keys.specs.Views.{key_parts}
use Rattle.jwt_keys.specs.Entries.{key_in, key_by_steps, key_if, skip_if}
use Rattle.jwt_keys.specs.KeySets.{key_list, key_set}
use Rattle.jwt_keys.proofs.SkipTable.{key_in_is}

pub one_entry : (ms : Members) (set : KeySet) (no_keys keys : List Key) (no_skips skips : List Skip)
    → no_keys ≡ [] → no_skips ≡ [] → set.keys.items ≡ keys → set.skipped.items ≡ skips
    → map key_parts keys ≡ map key_parts no_keys ++ key_if (key_by_steps 0 (Some ms)) → skips ≡ no_skips ++ skip_if 0 (key_by_steps 0 (Some ms))
    → key_set set ≡ key_list (object ms ∷ [])
one_entry ms set no_keys keys no_skips skips nk ns k s ek es =
    let is = key_in_is 0 (Some ms) in
    let p : map key_parts set.keys.items ≡ key_if (key_in 0 (Some ms)) ++ [] = ap (map key_parts) k ∙ ek ∙ ap (λ x. map key_parts x ++ key_if (key_by_steps 0 (Some ms))) nk ∙ ap key_if (sym is) ∙ sym (append-nil (key_if (key_in 0 (Some ms)))) in
    let q : set.skipped.items ≡ skip_if 0 (key_in 0 (Some ms)) ++ [] = s ∙ es ∙ ap (λ x. x ++ skip_if 0 (key_by_steps 0 (Some ms))) ns ∙ ap (skip_if 0) (sym is) ∙ sym (append-nil (skip_if 0 (key_in 0 (Some ms)))) in
    λ i. record { keys = p i; skips = q i }
