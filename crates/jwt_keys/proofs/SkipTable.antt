-- The entry's reading answers the first row of the table.
use Rattle.std.proofs.Common.{◌≡◌, ℕ, true, false, cond, List, [], ◌∷◌, ◌++◌, Option, Some, None, refl, sym, ◌∙◌}
use Rattle.std.specs.Prelude.{MatchResult, Result, Ok, Err, is_none, option_and_then}
use Rattle.serde_json.specs.Data.{Members}
use Rattle.jwt_text.specs.Answers.{unless, some_or}
use Rattle.jwt_text.specs.Rows.{Row, first_row, NoRow, IsFirstRow}
use Rattle.jwt_keys.specs.Keys.{KeyParts}
use Rattle.jwt_keys.specs.Kinds.{kind_at}
use Rattle.jwt_keys.specs.SkipTable.{skip_rows, shape_rows, octet_rows, octet_rows_of, shape_skip_of, octet_skip_of}
use Rattle.jwt_keys.specs.Entries.{key_with, key_in, key_of, key_of_kind, key_by_steps, parts_of}
use Rattle.jwt_keys.specs.Laws.{IsKeyOf, SkipsByTheTable}
use Rattle.jwt_keys.specs.declared.skip.SkipReason.{SkipReason}
use Rattle.jwt_keys.specs.declared.skip.SkipReason.TheVariants.{NotObject}
use Rattle.jwt_keys.specs.declared.kind.KeyKind.{KeyKind}
use Rattle.jwt_keys.proofs.FirstRows.{no_row, first_row_is}

abbrev or_first : {F : Type 0} → Option F → Option F → Option F
or_first None b = b
or_first (Some a) b = Some a

first_row-append : {F : Type 0} (rs ss : List (Row F)) → first_row (rs ++ ss) ≡ or_first (first_row rs) (first_row ss)
first_row-append [] ss = refl
first_row-append (r ∷ rs) ss = elim r.holds as (λ b. cond b (Some r.answer) (first_row (rs ++ ss)) ≡ or_first (cond b (Some r.answer) (first_row rs)) (first_row ss)) [
  | true ↦ refl
  | false ↦ first_row-append rs ss
]

-- an answer by these rows
abbrev pub ByRows : List (Row SkipReason) → Result KeyParts SkipReason → Type 0
ByRows rs answer = MatchResult answer (λ k. first_row rs ≡ None) (λ reason. first_row rs ≡ Some reason)

of_octets : (place : ℕ) (kind : KeyKind) (ms : Members) (o : Option SkipReason) → first_row (octet_rows kind ms) ≡ o → ByRows (octet_rows kind ms) (unless o (Ok (parts_of place kind ms)))
of_octets place kind ms None e = e
of_octets place kind ms (Some r) e = e

of_kind : (place : ℕ) (ms : Members) (k : Option KeyKind) → is_none k ≡ false → ByRows (octet_rows_of k ms) (key_of_kind place k ms)
unfolding octet_skip_of
of_kind place ms None e = absurd (cc e)
of_kind place ms (Some kind) e = of_octets place kind ms (first_row (octet_rows kind ms)) refl

kind_is_there : (ms : Members) → first_row (shape_rows ms) ≡ None → is_none (kind_at ms) ≡ false
kind_is_there ms e = no_row (shape_rows ms) e 5 _ refl

after_shape : (rs ss : List (Row SkipReason)) (o : Option SkipReason) (answer : Result KeyParts SkipReason) → first_row rs ≡ o → (o ≡ None → ByRows ss answer) → ByRows (rs ++ ss) (unless o answer)
after_shape rs ss None (Ok k) e h = first_row-append rs ss ∙ rw e (h refl)
after_shape rs ss None (Err r) e h = first_row-append rs ss ∙ rw e (h refl)
after_shape rs ss (Some r) answer e h = first_row-append rs ss ∙ rw e refl

of_members : (place : ℕ) (ms : Members) → ByRows (shape_rows ms ++ octet_rows_of (kind_at ms) ms) (key_of place ms)
unfolding key_of shape_skip_of
of_members place ms = after_shape (shape_rows ms) (octet_rows_of (kind_at ms) ms) (first_row (shape_rows ms)) (key_of_kind place (kind_at ms) ms) refl (λ e. of_kind place ms (kind_at ms) (kind_is_there ms e))

by_steps : (place : ℕ) (entry : Option Members) → ByRows (skip_rows entry) (key_by_steps place entry)
by_steps place None = refl
by_steps place (Some ms) = of_members place ms

module _ (place : ℕ) (ms : Members) (k : KeyParts) where
  of_rows : (o : Option SkipReason) (kind : KeyKind) → kind_at ms ≡ Some kind → unless o (Ok (parts_of place kind ms)) ≡ Ok k → IsKeyOf place (Some ms) k
  of_rows None kind is e = let same : parts_of place kind ms ≡ k = cc in (ms, kind, refl, is, sym same)
  of_rows (Some reason) kind is e = absurd cc

  of_shape : (o : Option SkipReason) (kind : Option KeyKind) → kind_at ms ≡ kind → unless o (key_of_kind place kind ms) ≡ Ok k → IsKeyOf place (Some ms) k
  of_shape (Some reason) kind is e = absurd cc
  of_shape None None is e = absurd cc
  of_shape None (Some kind) is e = of_rows (octet_skip_of kind ms) kind is e

key_of_steps : (place : ℕ) (entry : Option Members) (k : KeyParts) → key_by_steps place entry ≡ Ok k → IsKeyOf place entry k
unfolding key_of
key_of_steps place None k e = absurd cc
key_of_steps place (Some ms) k e = of_shape place ms k (shape_skip_of ms) (kind_at ms) refl e

of_key : (place : ℕ) (entry : Option Members) (k : KeyParts) → IsKeyOf place entry k → some_or NotObject (option_and_then (key_with place) entry) ≡ Ok k
of_key place entry k (ms, kind, there, known, is) = rw (there, known, is) refl

-- the key of an entry by the table is its key by steps
unless_row : (place : ℕ) (entry : Option Members) (answer : Result KeyParts SkipReason) → key_by_steps place entry ≡ answer → ByRows (skip_rows entry) answer
    → unless (first_row (skip_rows entry)) (some_or NotObject (option_and_then (key_with place) entry)) ≡ answer
unless_row place entry (Ok k) e h = rw h (of_key place entry k (key_of_steps place entry k e))
unless_row place entry (Err r) e h = rw h refl

pub key_in_is : (place : ℕ) (entry : Option Members) → key_in place entry ≡ key_by_steps place entry
unfolding key_in
key_in_is place entry = unless_row place entry (key_by_steps place entry) refl (by_steps place entry)

pub by_rows : (place : ℕ) (entry : Option Members) → ByRows (skip_rows entry) (key_in place entry)
by_rows place entry = rw (key_in_is place entry) (by_steps place entry)

is_key : (place : ℕ) (entry : Option Members) (k : KeyParts) → key_in place entry ≡ Ok k → IsKeyOf place entry k
is_key place entry k e = key_of_steps place entry k (sym (key_in_is place entry) ∙ e)

told : (place : ℕ) (entry : Option Members) (answer : Result KeyParts SkipReason) → key_in place entry ≡ answer → ByRows (skip_rows entry) answer
    → MatchResult answer (λ k. NoRow (skip_rows entry) × IsKeyOf place entry k) (λ reason. IsFirstRow (skip_rows entry) reason)
told place entry (Ok k) e h = (no_row (skip_rows entry) h, is_key place entry k e)
told place entry (Err r) e h = first_row_is (skip_rows entry) r h

pub skips_by_the_table : SkipsByTheTable
skips_by_the_table place entry = told place entry (key_in place entry) refl (by_rows place entry)
