-- A text that is there under two conditions, or under one.
use Rattle.std.proofs.Common.{◌≡◌, ◌&&◌, List, ℕ, Bool, true, false, Some, None, if◌then◌else◌, refl}

pub chosen : (a b : Bool) (text : List ℕ) → a ≡ true → b ≡ true → (if a && b then Some text else None) ≡ Some text
chosen a b text one other = rw (one, other) refl

pub left_out : (a b : Bool) (text : List ℕ) → a ≡ false → (if a && b then Some text else None) ≡ None
left_out a b text isnt = rw isnt refl

pub left_out_too : (a b : Bool) (text : List ℕ) → b ≡ false → (if a && b then Some text else None) ≡ None
left_out_too true b text isnt = rw isnt refl
left_out_too false b text isnt = refl

pub chosen_by : (a : Bool) (text : List ℕ) → a ≡ true → (if a then Some text else None) ≡ Some text
chosen_by a text is = rw is refl
