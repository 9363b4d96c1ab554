-- What discs hold, where one is u units.
-- Assumes nothing.
use Rattle.std.proofs.Common.{◌≡◌, ℕ, zero, ◌+◌, ◌*◌, ◌<◌, ◌≤◌, ℤ, pos, ◌+ℤ◌, ◌-ℤ◌, ◌*ℤ◌, neg_ℤ, refl, mul-le-mul_left, arith}
use Rattle.std.proofs.lemmas.Int.{ints}
use Rattle.exact.specs.Numbers.{Exact, ◌≃◌, add, multiply, negate}
use Rattle.exact.proofs.Normaliser.{var, ◌⊕◌, ◌⊗◌, ⊝, ◌⊖◌, solve, lin, done, times}
use Rattle.exact.proofs.Whole.{ℤR, ◌◃◌, end}
use Rattle.exact.specs.Vectors.{Within}
use Rattle.enclosure.specs.Discs.{Ball, ball}
use Rattle.exact.proofs.Vectors.{recast, plus, minus, multiplied, scale, unscale, widen, near, nowhere}

-- (u p - re d)² + (u q - im d)² ≤ (r d)²
abbrev pub HoldsAt : ℕ → Ball → Exact → Type 0
HoldsAt u b x = Within (pos u *ℤ x.p -ℤ b.re *ℤ pos x.d) (pos u *ℤ x.q -ℤ b.im *ℤ pos x.d) (b.radius * x.d)

module _ (u : ℕ) where
  -- ---- the centre

  pub middle_held : (x y : ℤ) (a : ℕ) → Within (pos u *ℤ x -ℤ x *ℤ pos u) (pos u *ℤ y -ℤ y *ℤ pos u) a
  middle_held x y a = recast (nowhere a) (omega (arith, ints)) (omega (arith, ints)) refl

  -- ---- equal numbers

  -- if p/d and p'/d' are equal, so are (u p - x d)/d and (u p' - x d')/d'
  same_part : (p p' x : ℤ) (d d' : ℕ) → p *ℤ pos d' ≡ p' *ℤ pos d → pos d' *ℤ (pos u *ℤ p -ℤ x *ℤ pos d) ≡ pos d *ℤ (pos u *ℤ p' -ℤ x *ℤ pos d')
  same_part p p' x d d' h =
      let U = var 0 in let P = var 1 in let P' = var 2 in let X = var 3 in let D = var 4 in let D' = var 5 in
      lin ℤR (pos u ◃ p ◃ p' ◃ x ◃ pos d ◃ pos d' ◃ end) (times U (P ⊗ D') (P' ⊗ D) done) (h, tt)
      (D' ⊗ (U ⊗ P ⊖ X ⊗ D)) (D ⊗ (U ⊗ P' ⊖ X ⊗ D')) refl

  pub same : (a : Ball) (x y : Exact) → x ≃ y → HoldsAt u a x → HoldsAt u a y
  same a x y e h = unscale x.d x.d_above (recast (scale y.d h) (same_part x.p y.p a.re x.d y.d e.real) (same_part x.q y.q a.im x.d y.d e.imag) (omega arith))

  -- ---- sums

  sum_part : (p p' x x' : ℤ) (d d' : ℕ) →
      pos d' *ℤ (pos u *ℤ p -ℤ x *ℤ pos d) +ℤ pos d *ℤ (pos u *ℤ p' -ℤ x' *ℤ pos d') ≡ pos u *ℤ (p *ℤ pos d' +ℤ p' *ℤ pos d) -ℤ (x +ℤ x') *ℤ pos (d * d')
  sum_part p p' x x' d d' =
      let U = var 0 in let P = var 1 in let P' = var 2 in let X = var 3 in let X' = var 4 in let D = var 5 in let D' = var 6 in
      solve ℤR (pos u ◃ p ◃ p' ◃ x ◃ x' ◃ pos d ◃ pos d' ◃ end)
      (D' ⊗ (U ⊗ P ⊖ X ⊗ D) ⊕ D ⊗ (U ⊗ P' ⊖ X' ⊗ D')) (U ⊗ (P ⊗ D' ⊕ P' ⊗ D) ⊖ (X ⊕ X') ⊗ (D ⊗ D')) refl

  pub sum_holds : (a b : Ball) (x y : Exact) → HoldsAt u a x → HoldsAt u b y → HoldsAt u (ball (a.re +ℤ b.re) (a.im +ℤ b.im) (a.radius + b.radius)) (add x y)
  sum_holds a b x y h k = recast (plus (scale y.d h) (scale x.d k)) (sum_part x.p y.p a.re b.re x.d y.d) (sum_part x.q y.q a.im b.im x.d y.d) (omega arith)

  negative_part : (p x : ℤ) (d : ℕ) → neg_ℤ (pos u *ℤ p -ℤ x *ℤ pos d) ≡ pos u *ℤ neg_ℤ p -ℤ neg_ℤ x *ℤ pos d
  negative_part p x d = solve ℤR (pos u ◃ p ◃ x ◃ pos d ◃ end) (⊝ (var 0 ⊗ var 1 ⊖ var 2 ⊗ var 3)) (var 0 ⊗ ⊝ (var 1) ⊖ ⊝ (var 2) ⊗ var 3) refl

  pub negative_holds : (a : Ball) (x : Exact) → HoldsAt u a x → HoldsAt u (ball (neg_ℤ a.re) (neg_ℤ a.im) a.radius) (negate x)
  negative_holds a x h = recast (minus h) (negative_part x.p a.re x.d) (negative_part x.q a.im x.d) refl

  -- ---- products

  pub product_holds : (a b : Ball) (x y : Exact) (X Y : ℤ) (n n' f g s : ℕ) → zero < u
      → a.re *ℤ b.re -ℤ a.im *ℤ b.im ≡ X *ℤ pos u +ℤ pos f → a.re *ℤ b.im +ℤ a.im *ℤ b.re ≡ Y *ℤ pos u +ℤ pos g
      → Within a.re a.im n → Within b.re b.im n'
      → n * b.radius + n' * a.radius + a.radius * b.radius + (f + g) ≤ u * s
      → HoldsAt u a x → HoldsAt u b y → HoldsAt u (ball X Y s) (multiply x y)
  product_holds a b x y X Y n n' f g s u-pos hX hY ca cb hs h k =
      let sum = plus (plus (plus (scale x.d (multiplied ca k)) (scale y.d (multiplied cb h))) (multiplied h k)) (scale (x.d * y.d) (near f g)) in
      let values = pos u ◃ x.p ◃ x.q ◃ y.p ◃ y.q ◃ a.re ◃ a.im ◃ b.re ◃ b.im ◃ X ◃ Y ◃ pos x.d ◃ pos y.d ◃ pos f ◃ pos g ◃ end in
      let U = var 0 in let P = var 1 in let Q = var 2 in let P' = var 3 in let Q' = var 4 in let A = var 5 in let B = var 6 in let A' = var 7 in let B' = var 8 in
      let C = var 9 in let C' = var 10 in let D = var 11 in let D' = var 12 in let F = var 13 in let G = var 14 in
      let S = U ⊗ P ⊖ A ⊗ D in let T = U ⊗ Q ⊖ B ⊗ D in let S' = U ⊗ P' ⊖ A' ⊗ D' in let T' = U ⊗ Q' ⊖ B' ⊗ D' in
      unscale u u-pos (recast (widen (omega (arith, mul-le-mul_left (x.d * y.d) hs)) sum)
      (lin ℤR values (times (⊝ (D ⊗ D')) (A ⊗ A' ⊖ B ⊗ B') (C ⊗ U ⊕ F) done) (hX, tt)
      (D ⊗ (A ⊗ S' ⊖ B ⊗ T') ⊕ D' ⊗ (A' ⊗ S ⊖ B' ⊗ T) ⊕ (S ⊗ S' ⊖ T ⊗ T') ⊕ (D ⊗ D') ⊗ F)
      (U ⊗ (U ⊗ (P ⊗ P' ⊖ Q ⊗ Q') ⊖ C ⊗ (D ⊗ D'))) refl)
      (lin ℤR values (times (⊝ (D ⊗ D')) (A ⊗ B' ⊕ B ⊗ A') (C' ⊗ U ⊕ G) done) (hY, tt)
      (D ⊗ (A ⊗ T' ⊕ B ⊗ S') ⊕ D' ⊗ (A' ⊗ T ⊕ B' ⊗ S) ⊕ (S ⊗ T' ⊕ T ⊗ S') ⊕ (D ⊗ D') ⊗ G)
      (U ⊗ (U ⊗ (P ⊗ Q' ⊕ Q ⊗ P') ⊖ C' ⊗ (D ⊗ D'))) refl)
      refl)

  -- ---- discs that hold a common number

  touch_part : (p x x' : ℤ) (d : ℕ) → (pos u *ℤ p -ℤ x' *ℤ pos d) +ℤ neg_ℤ (pos u *ℤ p -ℤ x *ℤ pos d) ≡ pos d *ℤ (x -ℤ x')
  touch_part p x x' d = solve ℤR (pos u ◃ p ◃ x ◃ x' ◃ pos d ◃ end) ((var 0 ⊗ var 1 ⊖ var 3 ⊗ var 4) ⊕ ⊝ (var 0 ⊗ var 1 ⊖ var 2 ⊗ var 4)) (var 4 ⊗ (var 2 ⊖ var 3)) refl

  pub near_enough : (a b : Ball) (x : Exact) → HoldsAt u a x → HoldsAt u b x → Within (a.re -ℤ b.re) (a.im -ℤ b.im) (a.radius + b.radius)
  near_enough a b x h k = unscale x.d x.d_above (recast (plus k (minus h)) (touch_part x.p a.re b.re x.d) (touch_part x.q a.im b.im x.d) (omega arith))
