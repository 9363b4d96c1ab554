-- Equations worked out in two arithmetics whose operations answer alike on alike values: by induction over the equations and their formulas.
-- Assumes nothing.
use Rattle.std.proofs.Common.{◌≡◌, refl, ap, ℕ, Bool, true, false, cond, List, [], ◌∷◌, ◌==◌}
use Rattle.enclosure.specs.Arithmetic.{Arithmetic}
use Rattle.enclosure.proofs.Alike.{Both, both, then_both, AnswerAlike, quotient_alike, Gives, Maps}
use Rattle.equations.specs.Formula.{Term, Equation, Open, value, sum, difference, product, the, one, ◌≔◌, number, keep, all, products, finish, bracket, addend, factor, brackets, work, run, worked}
use Rattle.equations.specs.Formula as F

module _ {A B : Type 0} (R : Arithmetic A) (S : Arithmetic B) (◌~◌ : A → B → Type 0) where
  infix 20 ◌~◌
  -- what is left of a formula, of the same shape with alike values
  data Shaped : Open A → Open B → Type 0 where
    sval : {a : A} {x : B} → a ~ x → Shaped (value a) (value x)
    sadd : {r s : Open A} {x y : Open B} → Shaped r x → Shaped s y → Shaped (sum r s) (sum x y)
    ssub : {r s : Open A} {x y : Open B} → Shaped r x → Shaped s y → Shaped (difference r s) (difference x y)
    smul : {r s : Open A} {x y : Open B} → Shaped r x → Shaped s y → Shaped (product r s) (product x y)

  either : (b : Bool) {v a : A} {x y : B} → v ~ x → a ~ y → cond b v a ~ cond b x y
  either true h k = h
  either false h k = k

  keep_alike : (t : Term) (v : A) (w : B) (ρ : ℕ → A) (σ : ℕ → B) → v ~ w → ((n : ℕ) → ρ n ~ σ n)
      → (n : ℕ) → keep t v ρ n ~ keep t w σ n
  keep_alike t v w ρ σ p h n = either (n == number t) p (h n)

  module _ (L : AnswerAlike R S ◌~◌) where
    open L use {unit_alike, sum_alike, difference_alike, product_alike, reciprocal_alike}

    -- each stage of the order of work keeps them alike
    all_alike : {r : Open A} {x : Open B} → Shaped r x → Both ◌~◌ (all R r) (all S x)
    all_alike (sval h) = both h
    all_alike (sadd h k) = then_both (all_alike h) λ a x p. then_both (all_alike k) λ b y q. sum_alike a b x y p q
    all_alike (ssub h k) = then_both (all_alike h) λ a x p. then_both (all_alike k) λ b y q. difference_alike a b x y p q
    all_alike (smul h k) = then_both (all_alike h) λ a x p. then_both (all_alike k) λ b y q. product_alike a b x y p q

    products_alike : {r : Open A} {x : Open B} → Shaped r x → Both Shaped (products R r) (products S x)
    products_alike (sval h) = both (sval h)
    products_alike (sadd h k) = then_both (products_alike h) λ a x p. then_both (products_alike k) λ b y q. both (sadd p q)
    products_alike (ssub h k) = then_both (products_alike h) λ a x p. then_both (products_alike k) λ b y q. both (ssub p q)
    products_alike (smul h k) = then_both (all_alike (smul h k)) λ a x p. both (sval p)

    finish_alike : {r : Open A} {x : Open B} → Shaped r x → Both ◌~◌ (finish R r) (finish S x)
    finish_alike h = then_both (products_alike h) λ a x p. all_alike p

    bracket_alike : {r : Open A} {x : Open B} → Shaped r x → Both Shaped (bracket R r) (bracket S x)
    bracket_alike h = then_both (finish_alike h) λ a x p. both (sval p)

    addend_alike : {r : Open A} {x : Open B} → Shaped r x → Both Shaped (addend R r) (addend S x)
    addend_alike (sval h) = both (sval h)
    addend_alike (sadd h k) = bracket_alike (sadd h k)
    addend_alike (ssub h k) = bracket_alike (ssub h k)
    addend_alike (smul h k) = both (smul h k)

    factor_alike : {r : Open A} {x : Open B} → Shaped r x → Both Shaped (factor R r) (factor S x)
    factor_alike (sval h) = both (sval h)
    factor_alike (sadd h k) = bracket_alike (sadd h k)
    factor_alike (ssub h k) = bracket_alike (ssub h k)
    factor_alike (smul h k) = bracket_alike (smul h k)

    module _ {ρ : ℕ → A} {σ : ℕ → B} (h : (n : ℕ) → ρ n ~ σ n) where
      brackets_alike : (t : Term) → Both Shaped (brackets R t ρ) (brackets S t σ)
      brackets_alike (the n) = both (sval (h n))
      brackets_alike one = both (sval unit_alike)
      brackets_alike (F.◌⊕◌ a b) =
          then_both (brackets_alike a) λ r x p. then_both (brackets_alike b) λ s y q. then_both (addend_alike q) λ s' y' q'. both (sadd p q')
      brackets_alike (F.◌⊖◌ a b) =
          then_both (brackets_alike a) λ r x p. then_both (brackets_alike b) λ s y q. then_both (addend_alike q) λ s' y' q'. both (ssub p q')
      brackets_alike (F.◌⊗◌ a b) =
          then_both (brackets_alike a) λ r x p. then_both (addend_alike p) λ r' x' p'.
          then_both (brackets_alike b) λ s y q. then_both (factor_alike q) λ s' y' q'. both (smul p' q')
      brackets_alike (F.◌⊘◌ a b) =
          then_both (brackets_alike a) λ r x p. then_both (finish_alike p) λ r' x' p'.
          then_both (brackets_alike b) λ s y q. then_both (finish_alike q) λ s' y' q'.
          then_both (quotient_alike R S ◌~◌ L r' s' x' y' p' q') λ e z k. both (sval k)

      work_alike : (t : Term) → Both ◌~◌ (work R t ρ) (work S t σ)
      work_alike t = then_both (brackets_alike t) λ r x p. finish_alike p

    pub run_alike : (es : List Equation) (ρ : ℕ → A) (σ : ℕ → B) → ((n : ℕ) → ρ n ~ σ n)
        → Both (λ ρ' σ'. (n : ℕ) → ρ' n ~ σ' n) (run R es ρ) (run S es σ)
    run_alike [] ρ σ h = both h
    run_alike ((x ≔ t) ∷ es) ρ σ h = then_both (work_alike h t) λ v w p. run_alike es (keep x v ρ) (keep x w σ) (keep_alike x v w ρ σ p h)

    -- and answers read alike from their quantities
    pub worked_alike : {X Y : Type 0} (P : X → Y → Type 0) (es : List Equation) (ρ : ℕ → A) (σ : ℕ → B)
        (read : (ℕ → A) → X) (read' : (ℕ → B) → Y) → ((n : ℕ) → ρ n ~ σ n)
        → ((ρ' : ℕ → A) (σ' : ℕ → B) → ((n : ℕ) → ρ' n ~ σ' n) → P (read ρ') (read' σ'))
        → Both P (worked R es ρ read) (worked S es σ read')
    worked_alike P es ρ σ read read' h k = then_both (run_alike es ρ σ h) λ ρ' σ' p. both (k ρ' σ' p)

-- ---- by a function of values

module _ {A B : Type 0} (R : Arithmetic A) (S : Arithmetic B) (f : A → B) (L : Maps R S f) where
  pub through : (b : Bool) (x y : A) → f (cond b x y) ≡ cond b (f x) (f y)
  through true x y = refl
  through false x y = refl

  -- from quantities and what f makes of them; the answers are read alike
  pub equations : {X Y : Type 0} (g : X → Y) (es : List Equation) (ρ : ℕ → A) (σ : ℕ → B) (read : (ℕ → A) → X) (read' : (ℕ → B) → Y)
      → ((n : ℕ) → f (ρ n) ≡ σ n) → ((ρ' : ℕ → A) → g (read ρ') ≡ read' (λ n. f (ρ' n)))
      → Gives g (worked R es ρ read) (worked S es σ read')
  equations g es ρ σ read read' h k = worked_alike R S (λ x y. f x ≡ y) L (λ x y. g x ≡ y) es ρ σ read read' h λ ρ' σ' p.
      rw (k ρ') (ap read' (λ i n. p n i))
