-- Equations worked out from values that hold exact numbers: by induction over the equations and their formulas.
-- Assumes nothing.
use Rattle.std.proofs.Common.{◌≡◌, ℕ, Bool, true, false, cond, List, [], ◌∷◌, ◌==◌, Ok, Err, Result, refl}
use Rattle.exact.specs.Ring.{Ops}
use Rattle.enclosure.specs.Arithmetic.{◌>>=◌, Arithmetic, quotient, Encloses}
use Rattle.equations.specs.Formula.{Term, Equation, Open, value, sum, difference, product, the, one, ◌≔◌, number, keep, all, products, finish, bracket, addend, factor, brackets, work, run}
use Rattle.equations.specs.Formula as F
use Rattle.equations.specs.Exactly.{exactly, run_exactly, Defined, AllDefined}

-- what is true of the answer, if there is one
pub data OfAnswer {E A : Type 0} (P : A → Type 0) : Result A E → Type 0 where
  yields : {a : A} → P a → OfAnswer P (Ok a)
  none : {e : E} → OfAnswer P (Err e)

pub of : {E A : Type 0} {P : A → Type 0} (r : Result A E) → ((a : A) → r ≡ Ok a → P a) → OfAnswer P r
of (Ok a) h = yields (h a refl)
of (Err e) h = none

pub next : {E A B : Type 0} {P : A → Type 0} {Q : B → Type 0} {r : Result A E} {f : A → Result B E}
    → OfAnswer P r → ((a : A) → P a → OfAnswer Q (f a)) → OfAnswer Q (r >>= f)
next (yields {a = a} h) g = g a h
next none g = none

pub weaken : {E A : Type 0} {P Q : A → Type 0} {r : Result A E} → OfAnswer P r → ((a : A) → P a → Q a) → OfAnswer Q r
weaken (yields {a = a} h) g = yields (g a h)
weaken none g = none

pub yielded : {E A : Type 0} {P : A → Type 0} {r : Result A E} {a : A} → OfAnswer P r → r ≡ Ok a → P a
yielded (yields {a = a} h) e = let same : a ≡ _ = cc in rw same at h
yielded none e = cc

module _ {A : Type 0} (R : Arithmetic A) (O : Ops) (inv : O.C → O.C) (◌∋◌ : A → O.C → Type 0) where
  open O use {C, ◌≈◌, 𝟘, 𝟙, ◌+◌, ◌*◌, neg}

  infix 20 ◌≈◌
  infix 20 ◌∋◌
  infixl 60 ◌+◌
  infixl 70 ◌*◌
  -- what is left of a formula, with a number that each of its values holds, makes a number
  data Held : Open A → C → Type 0 where
    hval : {a : A} {x : C} → a ∋ x → Held (value a) x
    hadd : {r s : Open A} {x y : C} → Held r x → Held s y → Held (sum r s) (x + y)
    hsub : {r s : Open A} {x y : C} → Held r x → Held s y → Held (difference r s) (x + neg y)
    hmul : {r s : Open A} {x y : C} → Held r x → Held s y → Held (product r s) (x * y)

  module _ (L : Encloses R O inv ◌∋◌) where
    open L use {unit_held, sum_held, difference_held, product_held, inverse_held}

    -- each stage of the order of work keeps that number
    all_holds : {r : Open A} {x : C} → Held r x → OfAnswer (λ a. a ∋ x) (all R r)
    all_holds (hval h) = yields h
    all_holds (hadd h k) = next (all_holds h) λ a p. next (all_holds k) λ b q. of (R.plus a b) λ c. sum_held a b c _ _ p q
    all_holds (hsub h k) = next (all_holds h) λ a p. next (all_holds k) λ b q. of (R.minus a b) λ c. difference_held a b c _ _ p q
    all_holds (hmul h k) = next (all_holds h) λ a p. next (all_holds k) λ b q. of (R.times a b) λ c. product_held a b c _ _ p q

    products_hold : {r : Open A} {x : C} → Held r x → OfAnswer (λ s. Held s x) (products R r)
    products_hold (hval h) = yields (hval h)
    products_hold (hadd h k) = next (products_hold h) λ a p. next (products_hold k) λ b q. yields (hadd p q)
    products_hold (hsub h k) = next (products_hold h) λ a p. next (products_hold k) λ b q. yields (hsub p q)
    products_hold (hmul h k) = next (all_holds (hmul h k)) λ a p. yields (hval p)

    finish_holds : {r : Open A} {x : C} → Held r x → OfAnswer (λ a. a ∋ x) (finish R r)
    finish_holds h = next (products_hold h) λ s p. all_holds p

    bracket_holds : {r : Open A} {x : C} → Held r x → OfAnswer (λ s. Held s x) (bracket R r)
    bracket_holds h = next (finish_holds h) λ a p. yields (hval p)

    addend_holds : {r : Open A} {x : C} → Held r x → OfAnswer (λ s. Held s x) (addend R r)
    addend_holds (hval h) = yields (hval h)
    addend_holds (hadd h k) = bracket_holds (hadd h k)
    addend_holds (hsub h k) = bracket_holds (hsub h k)
    addend_holds (hmul h k) = yields (hmul h k)

    factor_holds : {r : Open A} {x : C} → Held r x → OfAnswer (λ s. Held s x) (factor R r)
    factor_holds (hval h) = yields (hval h)
    factor_holds (hadd h k) = bracket_holds (hadd h k)
    factor_holds (hsub h k) = bracket_holds (hsub h k)
    factor_holds (hmul h k) = bracket_holds (hmul h k)

    quotient_holds : {x y : A} {u v : C} → x ∋ u → y ∋ v → OfAnswer (λ q. (¬ (v ≈ 𝟘)) × (q ∋ u * inv v)) (quotient R x y)
    quotient_holds p q = next (of _ λ c. inverse_held _ c _ q) λ i g. weaken (of _ λ c. product_held _ i c _ _ p g.1) λ c k. (g.0, k)

    module _ {ρ : ℕ → A} {ε : ℕ → C} (h : (n : ℕ) → ρ n ∋ ε n) where
      brackets_hold : (t : Term) → OfAnswer (λ r. Held r (exactly O inv t ε) × Defined O inv t ε) (brackets R t ρ)
      brackets_hold (the n) = yields (hval (h n), tt)
      brackets_hold one = yields (hval unit_held, tt)
      brackets_hold (F.◌⊕◌ a b) =
          next (brackets_hold a) λ r p. next (brackets_hold b) λ s q. next (addend_holds q.0) λ s' q'. yields (hadd p.0 q', (p.1, q.1))
      brackets_hold (F.◌⊖◌ a b) =
          next (brackets_hold a) λ r p. next (brackets_hold b) λ s q. next (addend_holds q.0) λ s' q'. yields (hsub p.0 q', (p.1, q.1))
      brackets_hold (F.◌⊗◌ a b) =
          next (brackets_hold a) λ r p. next (addend_holds p.0) λ r' p'.
          next (brackets_hold b) λ s q. next (factor_holds q.0) λ s' q'. yields (hmul p' q', (p.1, q.1))
      brackets_hold (F.◌⊘◌ a b) =
          next (brackets_hold a) λ r p. next (finish_holds p.0) λ x p'.
          next (brackets_hold b) λ s q. next (finish_holds q.0) λ y q'. next (quotient_holds p' q') λ e k. yields (hval k.1, (p.1, q.1, k.0))

      work_holds : (t : Term) → OfAnswer (λ a. (a ∋ exactly O inv t ε) × Defined O inv t ε) (work R t ρ)
      work_holds t = next (brackets_hold t) λ r p. weaken (finish_holds p.0) λ a q. (q, p.1)

    either : (b : Bool) {v a : A} {x y : C} → v ∋ x → a ∋ y → cond b v a ∋ cond b x y
    either true h k = h
    either false h k = k

    pub keep_holds : (t : Term) (v : A) (x : C) (ρ : ℕ → A) (ε : ℕ → C) → v ∋ x → ((n : ℕ) → ρ n ∋ ε n) → (n : ℕ) → keep t v ρ n ∋ keep t x ε n
    keep_holds t v x ρ ε p h n = either (n == number t) p (h n)

    pub run_holds : (es : List Equation) (ρ : ℕ → A) (ε : ℕ → C) → ((n : ℕ) → ρ n ∋ ε n)
        → OfAnswer (λ ρ'. AllDefined O inv es ε × ((n : ℕ) → ρ' n ∋ run_exactly O inv es ε n)) (run R es ρ)
    run_holds [] ρ ε h = yields (tt, h)
    run_holds ((x ≔ t) ∷ es) ρ ε h = next (work_holds h t) λ v p.
        weaken (run_holds es (keep x v ρ) (keep x (exactly O inv t ε) ε) (keep_holds x v _ ρ ε p.0 h)) λ ρ' q. ((p.1, q.0), q.1)
