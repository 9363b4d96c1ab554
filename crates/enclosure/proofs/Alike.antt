-- Two arithmetics whose operations answer alike on alike values.
-- Assumes nothing.
use Rattle.std.proofs.Common.{◌≡◌, Ok, Err, Result, IfOk, refl, sym, ap}
use Rattle.enclosure.specs.Arithmetic.{◌>>=◌, Arithmetic, quotient}
use Rattle.enclosure.specs.Fitted.{answer}

-- two answers that are alike, or the same refusal twice
pub data Both {E A B : Type 0} (P : A → B → Type 0) : Result A E → Result B E → Type 0 where
  both : {a : A} {b : B} → P a b → Both P (Ok a) (Ok b)
  neither : {e : E} → Both P (Err e) (Err e)

-- alike steps after them
pub then_both : {E A B C D : Type 0} {P : A → B → Type 0} {Q : C → D → Type 0} {r : Result A E} {s : Result B E}
    {f : A → Result C E} {g : B → Result D E} → Both P r s → ((a : A) (b : B) → P a b → Both Q (f a) (g b)) → Both Q (r >>= f) (s >>= g)
then_both (both {a = a} {b = b} h) k = k a b h
then_both neither k = neither

module _ {A B : Type 0} (R : Arithmetic A) (S : Arithmetic B) (◌~◌ : A → B → Type 0) where
  infix 20 ◌~◌
  -- the operations of both answer alike on alike values
  pub record AnswerAlike : Type 0 where
    pub unit_alike : R.unit ~ S.unit
    pub sum_alike : (a b : A) (x y : B) → a ~ x → b ~ y → Both ◌~◌ (R.plus a b) (S.plus x y)
    pub difference_alike : (a b : A) (x y : B) → a ~ x → b ~ y → Both ◌~◌ (R.minus a b) (S.minus x y)
    pub product_alike : (a b : A) (x y : B) → a ~ x → b ~ y → Both ◌~◌ (R.times a b) (S.times x y)
    pub reciprocal_alike : (a : A) (x : B) → a ~ x → Both ◌~◌ (R.reciprocal a) (S.reciprocal x)

  pub quotient_alike : AnswerAlike → (a b : A) (x y : B) → a ~ x → b ~ y → Both ◌~◌ (quotient R a b) (quotient S x y)
  quotient_alike L a b x y p q = then_both (L.reciprocal_alike b y q) λ i j k. L.product_alike a i x j p k

-- ---- alike by a function of values

-- f makes the one answer the other
abbrev pub Gives : {X Y E : Type 0} → (X → Y) → Result X E → Result Y E → Type 0
Gives f r s = Both (λ x y. f x ≡ y) r s

pub given : {X Y E : Type 0} {f : X → Y} {r : Result X E} {s : Result Y E} → Gives f r s → answer f r ≡ s
given (both h) = ap Ok h
given neither = refl

pub gives : {X Y E : Type 0} {f : X → Y} (r : Result X E) {o : Result Y E} → answer f r ≡ o → Gives f r o
gives (Ok x) {o = Ok y} e = both cc
gives (Ok x) {o = Err k} e = cc
gives (Err k) {o = Ok y} e = cc
gives (Err k) {o = Err l} e = rw (← e) neither

-- what is true of what f makes of an accepted answer
pub told : {X Y E : Type 0} (f : X → Y) (P : Y → Type 0) (r : Result X E) {o : Result Y E} → answer f r ≡ o → ((y : Y) → o ≡ Ok y → P y) → IfOk r λ x. P (f x)
told f P (Ok x) e h = h (f x) (sym e)
told f P (Err k) e h = tt

-- the operations of both answer alike on values and what f makes of them
abbrev pub Maps : {A B : Type 0} → Arithmetic A → Arithmetic B → (A → B) → Type 0
Maps R S f = AnswerAlike R S (λ a b. f a ≡ b)

pub of_quotient : {A B : Type 0} (R : Arithmetic A) (S : Arithmetic B) (f : A → B) → Maps R S f → (a b : A) → answer f (quotient R a b) ≡ quotient S (f a) (f b)
of_quotient R S f L a b = given (quotient_alike R S (λ x y. f x ≡ y) L a b (f a) (f b) refl refl)
