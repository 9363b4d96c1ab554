-- The worked figures that are proved, as one table.
use Rattle.std.specs.Prelude.{◌≡◌, Bool, true, false, List, [], ◌∷◌, ℕ, pos, negsuc, Ok, Err, Result}
use Rattle.enclosure.specs.declared.refusal.Refusal.{Refusal}
use Rattle.enclosure.specs.declared.refusal.Refusal.TheVariants.{ZeroDivisor, OffScale}
use Rattle.enclosure.specs.Discs.{U, L, Ball, ball, size, product, reciprocal, touches}

pub data Figure : Type 0 where
  size_is : Ball → ℕ → Figure
  product_is : Ball → Ball → Result Ball Refusal → Figure
  reciprocal_is : Ball → Result Ball Refusal → Figure
  touch_is : Ball → Ball → Bool → Figure

abbrev pub Right : Figure → Type 0
Right (size_is a n) = size a ≡ n
Right (product_is a b o) = product a b ≡ o
Right (reciprocal_is a o) = reciprocal a ≡ o
Right (touch_is a b t) = touches a b ≡ t

abbrev pub AllRight : List Figure → Type 0
AllRight [] = Unit {0}
AllRight (f ∷ fs) = Right f × AllRight fs

abbrev pub table : List Figure
table =
    size_is (ball (pos 3) (pos 4) 0) 5
    ∷ size_is (ball (pos 1) (pos 1) 0) 2
    ∷ product_is (ball (pos U) (pos 0) 0) (ball (pos U) (pos 0) 0) (Ok (ball (pos U) (pos 0) 2))
    -- negsuc 0 is -1
    ∷ product_is (ball (negsuc 0) (pos 0) 0) (ball (pos 1) (pos 0) 0) (Ok (ball (negsuc 0) (pos 0) 2))
    ∷ reciprocal_is (ball (pos U) (pos 0) 8388608) (Ok (ball (pos 22369621) (pos 0) 11184813))
    ∷ reciprocal_is (ball (pos 262144) (pos 0) 0) (Ok (ball (pos L) (pos 0) 2))
    ∷ reciprocal_is (ball (pos 262143) (pos 0) 0) (Err OffScale)
    ∷ reciprocal_is (ball (pos 5) (pos 0) 5) (Err ZeroDivisor)
    ∷ touch_is (ball (pos 0) (pos 0) 3) (ball (pos 3) (pos 4) 2) true
    ∷ touch_is (ball (pos 0) (pos 0) 2) (ball (pos 3) (pos 4) 2) false
    ∷ []
