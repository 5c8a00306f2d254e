-- A path without dot segments is its own.
use Rattle.std.proofs.Common.{◌≡◌, ◌⊎◌, ℕ, zero, suc, ◌-◌, ◌==◌, Bool, true, false, cond, List, [], ◌∷◌, ◌++◌, length, take, Some, codes, bytes_eq, refl, sym, ap, subst, ◌∙◌, inl, inr, append-nil, append_assoc}
use Rattle.std.specs.List.{AllByRecursion, slice_split, onto_first}
use Rattle.std.proofs.lemmas.Option.{same_Some}
use Rattle.std.proofs.lemmas.List.Elements.{All-from_recursion}
use Rattle.std.proofs.lemmas.List.Splits.{slice_split_none, slice_split_at}
use Rattle.jwt_possession.specs.Uris.{normal_triplet, decoded, without_last, ended, gone_on, left, joined, normal_path}
use Rattle.jwt_possession.proofs.Decoding.{plain}
use Rattle.jwt_possession.proofs.Segments.{some_part}
use Rattle.jwt_possession.proofs.Settled.{map_some, differs, one_decoded, Settled, settled_three, settled_append, of_decoded}
use Rattle.jwt_possession.proofs.Lacking.{Lacks, lacks_append, lacks_decoded}

-- ---- texts, each of which is so

each_append : (P : List ℕ → Type 0) (xs ys : List (List ℕ)) → AllByRecursion P xs → AllByRecursion P ys → AllByRecursion P (xs ++ ys)
each_append P [] ys h k = k
each_append P (x ∷ xs) ys (is, h) k = (is, each_append P xs ys h k)

each_take : (P : List ℕ → Type 0) (n : ℕ) (xs : List (List ℕ)) → AllByRecursion P xs → AllByRecursion P (take n xs)
each_take P zero xs h = tt
each_take P (suc n) [] h = tt
each_take P (suc n) (x ∷ xs) (is, h) = (is, each_take P n xs h)

each_both : (P Q : List ℕ → Type 0) (xs : List (List ℕ)) → AllByRecursion P xs → AllByRecursion Q xs → AllByRecursion (λ x. P x × Q x) xs
each_both P Q [] h k = tt
each_both P Q (x ∷ xs) (p, h) (q, k) = ((p, q), each_both P Q xs h k)

pub each_so : (P Q : List ℕ → Type 0) → ((x : List ℕ) → P x → Q x) → (xs : List (List ℕ)) → AllByRecursion P xs → AllByRecursion Q xs
each_so P Q so [] h = tt
each_so P Q so (x ∷ xs) (is, h) = (so x is, each_so P Q so xs h)

-- ---- the segments of a path

onto_each : (P : List ℕ → Type 0) (x : ℕ) → P [] → ((s : List ℕ) → P s → P (x ∷ s)) → (parts : List (List ℕ)) → AllByRecursion P parts → AllByRecursion P (onto_first x parts)
onto_each P x none so [] h = (so [] none, tt)
onto_each P x none so (s ∷ parts) (is, h) = (so s is, h)

split_one : (P : List ℕ → Type 0) (x : ℕ) (xs : List ℕ) → P [] → ((x == 47) ≡ false → (s : List ℕ) → P s → P (x ∷ s))
    → AllByRecursion P (slice_split (λ x. x == 47) xs) → AllByRecursion P (slice_split (λ x. x == 47) (x ∷ xs))
split_one P x xs none so h = by (x == 47) refl
  where
    by : (b : Bool) → (x == 47) ≡ b → AllByRecursion P (cond b ([] ∷ slice_split (λ x. x == 47) xs) (onto_first x (slice_split (λ x. x == 47) xs)))
    by true is = (none, h)
    by false off = onto_each P x none (so off) (slice_split (λ x. x == 47) xs) h

split_slash : (xs : List ℕ) → AllByRecursion (Lacks 47) (slice_split (λ x. x == 47) xs)
split_slash [] = (tt, tt)
split_slash (x ∷ xs) = split_one (Lacks 47) x xs tt (λ off s h. (off, h)) (split_slash xs)

split_lacks : (c : ℕ) (xs : List ℕ) → Lacks c xs → AllByRecursion (Lacks c) (slice_split (λ x. x == 47) xs)
split_lacks c [] h = (tt, tt)
split_lacks c (x ∷ xs) (off, h) = split_one (Lacks c) x xs tt (λ _ s h. (off, h)) (split_lacks c xs h)

onto_three : (b c : ℕ) → normal_triplet b c ≡ Some (37 ∷ b ∷ c ∷ []) → (parts : List (List ℕ)) → AllByRecursion Settled parts
    → AllByRecursion Settled (onto_first 37 (onto_first b (onto_first c parts)))
onto_three b c is [] h = (settled_three b c [] is refl, tt)
onto_three b c is (s ∷ parts) (so, h) = (settled_three b c s is so, h)

split_settled : (xs ys : List ℕ) → decoded xs ≡ Some ys → AllByRecursion Settled (slice_split (λ x. x == 47) ys)
split_settled = of_decoded (λ ys. AllByRecursion Settled (slice_split (λ x. x == 47) ys)) (refl, tt)
    (λ a xs other so. split_one Settled a xs refl (λ _ s is. one_decoded a s s other is) so)
    (λ b c xs high low is so.
    let second = differs b 47 high refl in
    let third = differs c 47 low refl in
    rw second (rw third (onto_three b c is (slice_split (λ x. x == 47) xs) so)))

-- ---- what is left of them

-- it is no dot segment
abbrev pub IsPlain : List ℕ → Type 0
IsPlain segment = (bytes_eq segment (codes ".") ≡ false) × (bytes_eq segment (codes "..") ≡ false)

module _ (P Q : List ℕ → Type 0) (none : Q []) (so : (s : List ℕ) → P s → IsPlain s → Q s) where
  pushed : (done : List (List ℕ)) (s : List ℕ) → AllByRecursion Q done → Q s → AllByRecursion Q (done ++ s ∷ [])
  pushed done s h is = each_append Q done (s ∷ []) h (is, tt)

  ended_each : (done : List (List ℕ)) (s : List ℕ) → AllByRecursion Q done → P s → AllByRecursion Q (ended done s)
  ended_each done s h is = by (bytes_eq s (codes ".")) (bytes_eq s (codes "..")) refl refl
    where
      by : (b d : Bool) → bytes_eq s (codes ".") ≡ b → bytes_eq s (codes "..") ≡ d
          → AllByRecursion Q (cond b (done ++ [] ∷ []) (cond d (without_last done ++ [] ∷ []) (done ++ s ∷ [])))
      by true d one two = pushed done [] h none
      by false true one two = pushed (without_last done) [] (each_take Q (length done - 1) done h) none
      by false false one two = pushed done s h (so s is (one, two))

  gone_each : (done : List (List ℕ)) (s : List ℕ) → AllByRecursion Q done → P s → AllByRecursion Q (gone_on done s)
  gone_each done s h is = by (bytes_eq s (codes ".")) (bytes_eq s (codes "..")) refl refl
    where
      by : (b d : Bool) → bytes_eq s (codes ".") ≡ b → bytes_eq s (codes "..") ≡ d
          → AllByRecursion Q (cond b done (cond d (without_last done) (done ++ s ∷ [])))
      by true d one two = h
      by false true one two = each_take Q (length done - 1) done h
      by false false one two = pushed done s h (so s is (one, two))

  left_each : (done segments : List (List ℕ)) → AllByRecursion Q done → AllByRecursion P segments → AllByRecursion Q (left done segments)
  left_each done [] h k = h
  left_each done (s ∷ []) h (is, k) = ended_each done s h is
  left_each done (s ∷ t ∷ more) h (is, k) = left_each (gone_on done s) (t ∷ more) (gone_each done s h is) k

some_pushed : (done : List (List ℕ)) (s : List ℕ) → (x : List ℕ) × (xs : List (List ℕ)) × (done ++ s ∷ [] ≡ x ∷ xs)
some_pushed [] s = (s, [], refl)
some_pushed (d ∷ done) s = (d, done ++ s ∷ [], refl)

some_ended : (done : List (List ℕ)) (s : List ℕ) → (x : List ℕ) × (xs : List (List ℕ)) × (ended done s ≡ x ∷ xs)
some_ended done s = by (bytes_eq s (codes ".")) (bytes_eq s (codes ".."))
  where
    by : (b d : Bool) → (x : List ℕ) × (xs : List (List ℕ)) × (cond b (done ++ [] ∷ []) (cond d (without_last done ++ [] ∷ []) (done ++ s ∷ [])) ≡ x ∷ xs)
    by true d = some_pushed done []
    by false true = some_pushed (without_last done) []
    by false false = some_pushed done s

some_left : (done : List (List ℕ)) (s : List ℕ) (segments : List (List ℕ)) → (x : List ℕ) × (xs : List (List ℕ)) × (left done (s ∷ segments) ≡ x ∷ xs)
some_left done s [] = some_ended done s
some_left done s (t ∷ more) = some_left (gone_on done s) t more

-- where there are no dot segments, all is left
left_plain : (done segments : List (List ℕ)) → AllByRecursion IsPlain segments → left done segments ≡ done ++ segments
left_plain done [] h = sym (append-nil done)
left_plain done (s ∷ []) ((one, two), h) = rw one (rw two refl)
left_plain done (s ∷ t ∷ more) ((one, two), h) =
    let here : gone_on done s ≡ done ++ s ∷ [] = rw one (rw two refl) in
    ap (λ d. left d (t ∷ more)) here ∙ left_plain (done ++ s ∷ []) (t ∷ more) h ∙ append_assoc done (s ∷ []) (t ∷ more)

split_joined : (d : List ℕ) (ds : List (List ℕ)) → AllByRecursion (Lacks 47) (d ∷ ds) → slice_split (λ x. x == 47) (d ++ joined ds) ≡ d ∷ ds
split_joined d [] (is, h) = ap (slice_split (λ x. x == 47)) (append-nil d) ∙ slice_split_none (λ x. x == 47) d (All-from_recursion (λ x. (x == 47) ≡ false) d is)
split_joined d (e ∷ es) (is, h) =
    slice_split_at (λ x. x == 47) d 47 (e ++ joined es) (All-from_recursion (λ x. (x == 47) ≡ false) d is) refl ∙ ap (λ s. d ∷ s) (split_joined e es h)

joined_settled : (ds : List (List ℕ)) → AllByRecursion Settled ds → Settled (joined ds)
joined_settled [] h = refl
joined_settled (d ∷ ds) (is, h) = settled_append (47 ∷ d) (joined ds) (one_decoded 47 d d refl is) (joined_settled ds h)

joined_lacks : (c : ℕ) (ds : List (List ℕ)) → (47 == c) ≡ false → AllByRecursion (Lacks c) ds → Lacks c (joined ds)
joined_lacks c [] other h = tt
joined_lacks c (d ∷ ds) other (is, h) = (other, lacks_append c d (joined ds) is (joined_lacks c ds other h))

-- ---- a normal path

-- it begins with a slash, is its own normal path, is settled, and has no octet of query or fragment
pub record IsNormalPath (path : List ℕ) : Type 0 where
  pub rest : List ℕ
  pub slash : path ≡ 47 ∷ rest
  pub own : normal_path path ≡ path
  pub settled : Settled path
  pub no_query : Lacks 63 path
  pub no_fragment : Lacks 35 path
  pub plain : AllByRecursion IsPlain (slice_split (λ x. x == 47) path)

abbrev Kept : List ℕ → Type 0
Kept s = (Settled s × Lacks 47 s) × (Lacks 63 s × Lacks 35 s)

normal_joined : (d : List ℕ) (ds : List (List ℕ)) → AllByRecursion (λ s. Kept s × IsPlain s) (d ∷ ds) → IsNormalPath (joined (d ∷ ds))
normal_joined d ds h = record {
  rest = d ++ joined ds;
  slash = refl;
  own = ap (λ s. joined (left [] s)) (split_joined d ds (each_so (λ s. Kept s × IsPlain s) (Lacks 47) (λ s is. is.0.0.1) (d ∷ ds) h))
      ∙ ap joined (left_plain [] (d ∷ ds) (each_so (λ s. Kept s × IsPlain s) IsPlain (λ s is. is.1) (d ∷ ds) h));
  settled = joined_settled (d ∷ ds) (each_so (λ s. Kept s × IsPlain s) Settled (λ s is. is.0.0.0) (d ∷ ds) h);
  no_query = joined_lacks 63 (d ∷ ds) refl (each_so (λ s. Kept s × IsPlain s) (Lacks 63) (λ s is. is.0.1.0) (d ∷ ds) h);
  no_fragment = joined_lacks 35 (d ∷ ds) refl (each_so (λ s. Kept s × IsPlain s) (Lacks 35) (λ s is. is.0.1.1) (d ∷ ds) h);
  plain = subst (AllByRecursion IsPlain) (sym (ap (λ s. [] ∷ s) (split_joined d ds (each_so (λ s. Kept s × IsPlain s) (Lacks 47) (λ s is. is.0.0.1) (d ∷ ds) h))))
      ((refl, refl), each_so (λ s. Kept s × IsPlain s) IsPlain (λ s is. is.1) (d ∷ ds) h);
}

behind_slash : (text path : List ℕ) → decoded text ≡ Some path → Lacks 63 path → Lacks 35 path → IsNormalPath (joined (left [] (slice_split (λ x. x == 47) path)))
behind_slash text path is query fragment =
    let segments = slice_split (λ x. x == 47) path in
    let kept = each_both (λ s. Settled s × Lacks 47 s) (λ s. Lacks 63 s × Lacks 35 s) segments
    (each_both Settled (Lacks 47) segments (split_settled text path is) (split_slash path))
    (each_both (Lacks 63) (Lacks 35) segments (split_lacks 63 path query) (split_lacks 35 path fragment)) in
    let each = left_each Kept (λ s. Kept s × IsPlain s) (((refl, tt), (tt, tt)), (refl, refl)) (λ s is plain. (is, plain)) [] segments tt kept in
    let part = some_part (λ x. x == 47) path in
    let some = some_left [] part.0 part.1 in
    let whole = ap (left []) part.2 ∙ some.2 in
    subst (λ s. IsNormalPath (joined s)) (sym whole) (normal_joined some.0 some.1 (subst (AllByRecursion (λ s. Kept s × IsPlain s)) whole each))

-- the normal path of what is decoded
pub path_is_normal : (text path : List ℕ) → (text ≡ []) ⊎ ((rest : List ℕ) × (text ≡ 47 ∷ rest)) → decoded text ≡ Some path → Lacks 63 text → Lacks 35 text → IsNormalPath (normal_path path)
path_is_normal text path (inl none) is query fragment =
    subst (λ p. IsNormalPath (normal_path p)) (same_Some [] path (sym (ap decoded none) ∙ is)) (record { rest = []; slash = refl; own = refl; settled = refl; no_query = (refl, tt); no_fragment = (refl, tt); plain = ((refl, refl), ((refl, refl), tt)) })
path_is_normal text path (inr (rest, some)) is query fragment =
    let cut : decoded (47 ∷ rest) ≡ Some path = sym (ap decoded some) ∙ is in
    let tail = map_some (λ more. 47 ∷ more) (decoded rest) path (sym (plain 47 rest refl) ∙ cut) in
    let no_query = (subst (Lacks 63) some query).1 in
    let no_fragment = (subst (Lacks 35) some fragment).1 in
    subst (λ p. IsNormalPath (normal_path p)) tail.2
    (behind_slash rest tail.0 tail.1 (lacks_decoded 63 rest tail.0 refl refl tail.1 no_query) (lacks_decoded 35 rest tail.0 refl refl tail.1 no_fragment))
