-- Steps one after the other may be grouped as one likes.
-- Assumes nothing.
use Rattle.std.proofs.Common.{◌≡◌, Ok, Err, Result, refl}
use Rattle.enclosure.specs.Arithmetic.{◌>>=◌}

pub bind_assoc : {E A B C : Type 0} (r : Result A E) (f : A → Result B E) (g : B → Result C E) → (r >>= f >>= g) ≡ (r >>= λ a. f a >>= g)
bind_assoc (Ok a) f g = refl
bind_assoc (Err e) f g = refl

pub bind_ok : {E A : Type 0} (r : Result A E) → (r >>= Ok) ≡ r
bind_ok (Ok a) = refl
bind_ok (Err e) = refl
