-- Discs of a type that has only those in range, and their numbers, answer alike.
-- Assumes nothing.
use Rattle.std.proofs.Common.{◌≡◌, ◌*◌, nat_le, Bool, true, false, cond, Ok, Err, Result, refl, sym, ◌∙◌, ap}
use Rattle.std.proofs.lemmas.Bool.{cond_both}
use Rattle.exact.specs.Numbers.{exacts, invert}
use Rattle.enclosure.specs.Arithmetic.{◌>>=◌, Encloses}
use Rattle.enclosure.specs.Discs.{Ball, Holds, in_range, ranged, square, sum, difference, product, reciprocal, reciprocal_by, one, discs}
use Rattle.enclosure.specs.Fitted.{answer, if_true, fit, fitted}
use Rattle.enclosure.specs.declared.refusal.Refusal.{Refusal}
use Rattle.enclosure.specs.declared.refusal.Refusal.TheVariants.{ZeroDivisor, OffScale}
use Rattle.enclosure.proofs.Alike.{Maps, gives}
use Rattle.enclosure.proofs.Enclosing.{discs_enclose}

-- what both ways of a test meet
both_ways : {X : Type 0} (P : Bool → X → Type 0) (t : Bool) (x : t ≡ true → X) (y : X) → ((h : t ≡ true) → P true (x h)) → P false y → P t (if_true t x y)
both_ways P true x y h k = h refl
both_ways P false x y h k = k

module _ {X : Type 0} (numbers : X → Ball) (disc : (b : Ball) → in_range b ≡ true → X) (same : (b : Ball) (h : in_range b ≡ true) → numbers (disc b h) ≡ b) where
  -- the numbers of the disc of b are b
  fit_is : (b : Ball) → answer numbers (fit numbers disc b) ≡ ranged OffScale b
  unfolding fit ranged
  fit_is b = both_ways (λ t r. answer numbers r ≡ cond t (Ok b) (Err OffScale)) (in_range b) _ _ (λ h. ap Ok (same b h)) refl

  -- so the operations answer discs of the numbers that are worked out ..
  of_ranged : (b : Ball) → answer numbers (ranged OffScale b >>= fit numbers disc) ≡ ranged OffScale b
  unfolding ranged
  of_ranged b = go (in_range b) (fit_is b)
    where
      go : (t : Bool) → answer numbers (fit numbers disc b) ≡ cond t (Ok b) (Err OffScale)
          → answer numbers (cond t (Ok b) (Err OffScale) >>= fit numbers disc) ≡ cond t (Ok b) (Err OffScale)
      go true e = e
      go false e = refl

  of_sum : (a b : Ball) → answer numbers (sum a b >>= fit numbers disc) ≡ sum a b
  unfolding sum
  of_sum a b = of_ranged _

  of_difference : (a b : Ball) → answer numbers (difference a b >>= fit numbers disc) ≡ difference a b
  unfolding difference
  of_difference a b = of_ranged _

  of_product : (a b : Ball) → answer numbers (product a b >>= fit numbers disc) ≡ product a b
  unfolding product
  of_product a b = of_ranged _

  of_reciprocal : (a : Ball) → answer numbers (reciprocal a >>= fit numbers disc) ≡ reciprocal a
  unfolding reciprocal reciprocal_by
  of_reciprocal a = cond_both (nat_le (square a) (a.radius * a.radius)) (Err ZeroDivisor) _
      (λ o. answer numbers (o >>= fit numbers disc) ≡ o) (λ _. refl) (λ _. of_ranged _)

  pub fitted_alike : Maps (fitted numbers disc) discs numbers
  fitted_alike = record {
    unit_alike = same one refl;
    sum_alike = λ a b x y p q. rw (← p, ← q) (gives _ (of_sum (numbers a) (numbers b)));
    difference_alike = λ a b x y p q. rw (← p, ← q) (gives _ (of_difference (numbers a) (numbers b)));
    product_alike = λ a b x y p q. rw (← p, ← q) (gives _ (of_product (numbers a) (numbers b)));
    reciprocal_alike = λ a x p. rw (← p) (gives _ (of_reciprocal (numbers a)));
  }

  only : (b c : Ball) → ranged OffScale b ≡ Ok c → b ≡ c
  unfolding ranged
  only b c e = go (in_range b) e
    where
      go : (t : Bool) → cond t (Ok b) (Err OffScale) ≡ Ok c → b ≡ c
      go true e = cc
      go false e = cc

  -- .. and an accepted answer has the numbers that were worked out
  fitted_is : (o : Result Ball Refusal) (x : X) → (o >>= fit numbers disc) ≡ Ok x → o ≡ Ok (numbers x)
  fitted_is (Ok b) x e = ap Ok (only b (numbers x) (sym (fit_is b) ∙ ap (answer numbers) e))
  fitted_is (Err k) x e = cc

  pub fitted_encloses : Encloses (fitted numbers disc) exacts invert (λ x. Holds (numbers x))
  fitted_encloses = record {
    some_held = λ a. discs_enclose.some_held (numbers a);
    same_held = λ a. discs_enclose.same_held (numbers a);
    unit_held = rw (same one refl) discs_enclose.unit_held;
    sum_held = λ a b c x y h k e. discs_enclose.sum_held (numbers a) (numbers b) (numbers c) x y h k (fitted_is _ c e);
    difference_held = λ a b c x y h k e. discs_enclose.difference_held (numbers a) (numbers b) (numbers c) x y h k (fitted_is _ c e);
    product_held = λ a b c x y h k e. discs_enclose.product_held (numbers a) (numbers b) (numbers c) x y h k (fitted_is _ c e);
    inverse_held = λ a c x h e. discs_enclose.inverse_held (numbers a) (numbers c) x h (fitted_is _ c e);
    common_touch = λ a b. discs_enclose.common_touch (numbers a) (numbers b);
  }

-- where a disc is that of its own numbers too, an answer with the numbers that were worked out is what the arithmetic answers
module _ {X : Type 0} (numbers : X → Ball) (disc : (b : Ball) → in_range b ≡ true → X)
    (inside : (x : X) → in_range (numbers x) ≡ true) (again : (x : X) (h : in_range (numbers x) ≡ true) → disc (numbers x) h ≡ x) where
  fit_again : (x : X) → fit numbers disc (numbers x) ≡ Ok x
  unfolding fit
  fit_again x = both_ways (λ t r. t ≡ true → r ≡ Ok x) (in_range (numbers x)) _ _ (λ h e. ap Ok (again x h)) (λ e. cc) (inside x)

  pub fits : (r : Result X Refusal) (o : Result Ball Refusal) → answer numbers r ≡ o → r ≡ (o >>= fit numbers disc)
  fits (Ok x) o e = rw (← e) (sym (fit_again x))
  fits (Err k) o e = rw (← e) refl
