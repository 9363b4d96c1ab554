-- Discs as values of a type that has only those in range: its arithmetic, by their numbers.
-- Assumes nothing.
use Rattle.std.specs.Prelude.{◌≡◌, Bool, true, false, Ok, Err, Result, refl}
use Rattle.enclosure.specs.Arithmetic.{◌>>=◌, Arithmetic}
use Rattle.enclosure.specs.Discs.{Ball, in_range, one, sum, difference, product, reciprocal, touches}
use Rattle.enclosure.specs.declared.refusal.Refusal.{Refusal}
use Rattle.enclosure.specs.declared.refusal.Refusal.TheVariants.{OffScale}

-- an answer by what its value stands for
abbrev pub answer : {X Y E : Type 0} → (X → Y) → Result X E → Result Y E
answer f (Ok x) = Ok (f x)
answer f (Err e) = Err e

-- x, which may use that the test is true, or else y
abbrev pub if_true : {X : Type 0} (t : Bool) → (t ≡ true → X) → X → X
if_true true x y = x refl
if_true false x y = y

module _ {X : Type 0} (numbers : X → Ball) (disc : (b : Ball) → in_range b ≡ true → X) where
  -- the disc of three numbers, or off scale where they are not in range
  unfoldable pub fit : Ball → Result X Refusal
  fit b = if_true (in_range b) (λ h. Ok (disc b h)) (Err OffScale)

  -- each operation answers the disc of the numbers that it works out
  abbrev pub fitted : Arithmetic X
  fitted = record {
    unit = disc one refl;
    plus = λ a b. sum (numbers a) (numbers b) >>= fit;
    minus = λ a b. difference (numbers a) (numbers b) >>= fit;
    times = λ a b. product (numbers a) (numbers b) >>= fit;
    reciprocal = λ a. reciprocal (numbers a) >>= fit;
    touches = λ a b. touches (numbers a) (numbers b);
  }
