-- From an answer that equals the arithmetic's to what it holds.
-- Assumes nothing.
use Rattle.std.proofs.Common.{◌≡◌, Bool, Ok, Err, Result, IfOk, sym, ◌∙◌}
use Rattle.exact.specs.Numbers.{Exact, exacts, add, subtract, multiply, invert}
use Rattle.enclosure.specs.Arithmetic.{Arithmetic, Encloses}
use Rattle.enclosure.specs.Holding.{HoldsEach, HoldsInverses, HoldsQuotients, TouchIfCommon}
use Rattle.enclosure.specs.declared.refusal.Refusal.{Refusal}

-- what follows from an answer is true of an accepted one
pub kept : {E X : Type 0} (P : X → Type 0) (r : Result X E) {o : Result X E} → r ≡ o → ((x : X) → o ≡ Ok x → P x) → IfOk r P
kept P (Ok x) e f = f x (sym e)
kept P (Err k) e f = tt

-- the product with a value that holds the inverses holds the quotients
pub quotient_holds : {A : Type 0} (◌∋◌ : A → Exact → Type 0) (a b i : A) (r : Result A Refusal)
    → HoldsInverses ◌∋◌ b (Ok i) → HoldsEach ◌∋◌ multiply a i r → HoldsQuotients ◌∋◌ a b r
quotient_holds ◌∋◌ a b i (Ok d) h k x y p q = let g = h y q in (g.0, k x (invert y) p g.1)
quotient_holds ◌∋◌ a b i (Err e) h k x y p q = tt

module _ {A : Type 0} (R : Arithmetic A) (◌∋◌ : A → Exact → Type 0) (L : Encloses R exacts invert ◌∋◌) where
  infix 20 ◌∋◌
  pub sum_kept : (a b : A) (r : Result A Refusal) → r ≡ R.plus a b → HoldsEach ◌∋◌ add a b r
  sum_kept a b r e x y h k = kept _ r e λ d. L.sum_held a b d x y h k

  pub difference_kept : (a b : A) (r : Result A Refusal) → r ≡ R.minus a b → HoldsEach ◌∋◌ subtract a b r
  difference_kept a b r e x y h k = kept _ r e λ d. L.difference_held a b d x y h k

  pub product_kept : (a b : A) (r : Result A Refusal) → r ≡ R.times a b → HoldsEach ◌∋◌ multiply a b r
  product_kept a b r e x y h k = kept _ r e λ d. L.product_held a b d x y h k

  pub inverse_kept : (a : A) (r : Result A Refusal) → r ≡ R.reciprocal a → HoldsInverses ◌∋◌ a r
  inverse_kept a r e x h = kept _ r e λ d. L.inverse_held a d x h

  pub touch_kept : (a b : A) (t : Bool) → t ≡ R.touches a b → TouchIfCommon ◌∋◌ a b t
  touch_kept a b t e x h k = e ∙ L.common_touch a b x h k

  pub quotient_kept : (a b i : A) (r : Result A Refusal) → Ok i ≡ R.reciprocal b → r ≡ R.times a i → HoldsQuotients ◌∋◌ a b r
  quotient_kept a b i r e f = quotient_holds ◌∋◌ a b i r (inverse_kept b (Ok i) e) (product_kept a i r f)
