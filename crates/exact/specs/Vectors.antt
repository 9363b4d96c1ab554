-- Vectors of whole numbers, and how long they are at most, without square roots.
-- Assumes nothing.
use Rattle.std.specs.Prelude.{ℕ, ◌*◌, ℤ, pos, ◌+ℤ◌, ◌*ℤ◌, ◌≤ℤ◌}

-- (x, y) is no longer than a: x² + y² ≤ a²
pub record Within (x y : ℤ) (a : ℕ) : Type 0 where
  pub most : (x *ℤ x +ℤ y *ℤ y) ≤ℤ pos (a * a)
