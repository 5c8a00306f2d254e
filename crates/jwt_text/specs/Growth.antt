-- A store that has grown at its ends.
use Rattle.std.specs.Prelude.{◌≡◌, ℕ, ◌+◌, ◌≤◌, List, ◌++◌, length}
use Rattle.jwt_text.specs.Flat.{piece, run_of, IsRun, text_of, IsText}
use Rattle.jwt_text.specs.declared.node.Span.{Span}
use Rattle.jwt_text.specs.declared.node.Node.{Node}
use Rattle.jwt_text.specs.declared.node.Entry.{Entry}
use Rattle.jwt_text.specs.declared.store.Store.{Store}

-- the store t holds all that s holds where it stands in s, and more behind it
pub record Extends (s t : Store) : Type 0 where
  pub octets : List ℕ
  pub entries : List Entry
  pub octets_are : t.text.items ≡ s.text.items ++ octets
  pub entries_are : t.entries.items ≡ s.entries.items ++ entries
  pub lists_are : (p : Span) → IsRun s p → IsRun t p × (run_of t p ≡ run_of s p)

-- ---- one more run at the end

pub record AddsText (s t : Store) (xs : List ℕ) (p : Span) : Type 0 where
  pub grows : Extends s t
  pub holds : IsText t p
  pub is : text_of t p ≡ xs

pub record AddsNodes (s t : Store) (ns : List Node) (p : Span) : Type 0 where
  pub grows : Extends s t
  pub within : IsRun t p
  pub is : run_of t p ≡ ns

pub record AddsEntries (s t : Store) (es : List Entry) (p : Span) : Type 0 where
  pub grows : Extends s t
  pub within : p.start + p.len ≤ length t.entries.items
  pub is : piece t.entries.items p ≡ es
