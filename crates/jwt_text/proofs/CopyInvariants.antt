-- The invariant of the loop that copies the entries of an object.
use Rattle.std.specs.Prelude.{◌≡◌, ℕ, List, map}
use Rattle.jwt_text.specs.Flat.{IsText, Each, IsNode}
use Rattle.jwt_text.specs.Growth.{Extends}
use Rattle.jwt_text.specs.Reads.{pair}
use Rattle.jwt_text.specs.declared.node.Entry.{Entry}
use Rattle.jwt_text.specs.declared.store.Store.{Store}

pub record CopiesPairs (depth : ℕ) (source : Store) (entries : List Entry) (before after : Store) (copies : List Entry) : Type 0 where
  pub is : map (pair depth after) copies ≡ map (pair depth source) entries
  pub holds : Each (λ e. IsText after e.name × IsNode depth after e.node) copies
  pub grows : Extends before after
