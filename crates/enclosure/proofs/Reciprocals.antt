-- The reciprocal of a disc holds one by each number that the disc holds.
-- Assumes nothing.
use Rattle.std.proofs.Common.{◌≡◌, ℕ, zero, suc, ◌+◌, ◌*◌, ◌<◌, ◌≤◌, ℤ, pos, ◌+ℤ◌, ◌-ℤ◌, ◌*ℤ◌, neg_ℤ, refl, sym, ap, ◌∙◌, mul-le-mul_left, arith}
use Rattle.std.proofs.Math.IntN.{+ℤ_idr}
use Rattle.std.proofs.lemmas.Int.{ints}
use Rattle.exact.specs.Numbers.{Exact, ◌≃◌, nought, norm, invert_by, invert}
use Rattle.exact.proofs.Normaliser.{var, ◌⊕◌, ◌⊗◌, ⊝, ◌⊖◌, lin, done, times}
use Rattle.exact.proofs.Whole.{ℤR, ◌◃◌, end}
use Rattle.exact.proofs.Order.{norm_is, norm_zero}
use Rattle.exact.specs.Vectors.{Within}
use Rattle.enclosure.specs.Discs.{Ball, ball, origin}
use Rattle.enclosure.proofs.Holding.{HoldsAt, same, near_enough}
use Rattle.exact.proofs.Vectors.{gap, since, recast, plus, scale, unscale, widen, near, nowhere}

module _ (u e : ℕ) (e-pos : zero < e) (a : Ball) (e-is : a.re *ℤ a.re +ℤ a.im *ℤ a.im ≡ pos e +ℤ pos (a.radius * a.radius)) where
  -- zero is not among the numbers: a disc that holds it would touch the point 0
  pub not_nought : (x : Exact) → HoldsAt u a x → ¬ (x ≃ nought)
  not_nought x h z =
      let zero_held : HoldsAt u origin nought = recast (nowhere 0) (omega (arith, ints)) (omega (arith, ints)) refl in
      let meet = near_enough u a origin x h (same u origin nought x (record { real = sym z.real; imag = sym z.imag }) zero_held) in
      let w = rw (+ℤ_idr a.re, +ℤ_idr a.im) at meet in
      omega (arith, ints, w.most)

  -- conj Z (e d - conj c Z), with Z for u x, is within r |Z|²
  key : (x : Exact) (n : ℕ) → x.p *ℤ x.p +ℤ x.q *ℤ x.q ≡ pos n → HoldsAt u a x →
      Within (pos e *ℤ (pos u *ℤ (x.p *ℤ pos x.d)) -ℤ a.re *ℤ pos (u * u) *ℤ pos n) (pos e *ℤ (pos u *ℤ neg_ℤ (x.q *ℤ pos x.d)) -ℤ neg_ℤ a.im *ℤ pos (u * u) *ℤ pos n) (a.radius * (u * u * n))
  key x n n-is h =
      let U = var 0 in let P = var 1 in let Q = var 2 in let D = var 3 in let A = var 4 in let B = var 5 in let R = var 6 in let e' = var 7 in let M = var 8 in let N = var 9 in
      let V = e' ⊗ (U ⊗ (P ⊗ D)) ⊖ A ⊗ (U ⊗ U) ⊗ N in let W = e' ⊗ (U ⊗ ⊝ (Q ⊗ D)) ⊖ ⊝ B ⊗ (U ⊗ U) ⊗ N in
      since (u * u * n * (e * (gap h).0))
      (lin ℤR (pos u ◃ x.p ◃ x.q ◃ pos x.d ◃ a.re ◃ a.im ◃ pos a.radius ◃ pos e ◃ pos (gap h).0 ◃ pos n ◃ end)
      (times (U ⊗ U ⊗ N ⊗ e') ((R ⊗ D) ⊗ (R ⊗ D)) ((U ⊗ P ⊖ A ⊗ D) ⊗ (U ⊗ P ⊖ A ⊗ D) ⊕ (U ⊗ Q ⊖ B ⊗ D) ⊗ (U ⊗ Q ⊖ B ⊗ D) ⊕ M)
      (times (U ⊗ U ⊗ U ⊗ U ⊗ N ⊗ e' ⊖ e' ⊗ e' ⊗ U ⊗ U ⊗ D ⊗ D) (P ⊗ P ⊕ Q ⊗ Q) N
      (times (U ⊗ U ⊗ N ⊗ e' ⊗ D ⊗ D ⊖ U ⊗ U ⊗ U ⊗ U ⊗ N ⊗ N) (A ⊗ A ⊕ B ⊗ B) (e' ⊕ R ⊗ R) done)))
      ((gap h).1, (n-is, (e-is, tt)))
      ((R ⊗ (U ⊗ U ⊗ N)) ⊗ (R ⊗ (U ⊗ U ⊗ N))) (V ⊗ V ⊕ W ⊗ W ⊕ U ⊗ U ⊗ N ⊗ (e' ⊗ M)) refl)

  -- a part of it, with what rounding down leaves
  part : (t x X : ℤ) (n f : ℕ) → x *ℤ pos (u * u) ≡ X *ℤ pos e +ℤ pos f →
      pos e *ℤ (pos u *ℤ t) -ℤ x *ℤ pos (u * u) *ℤ pos n +ℤ pos n *ℤ pos f ≡ pos e *ℤ (pos u *ℤ t -ℤ X *ℤ pos n)
  part t x X n f h = lin ℤR (pos u ◃ t ◃ x ◃ X ◃ pos n ◃ pos f ◃ pos e ◃ end)
      (times (⊝ (var 4)) (var 2 ⊗ (var 0 ⊗ var 0)) (var 3 ⊗ var 6 ⊕ var 5) done) (h, tt)
      (var 6 ⊗ (var 0 ⊗ var 1) ⊖ var 2 ⊗ (var 0 ⊗ var 0) ⊗ var 4 ⊕ var 4 ⊗ var 5) (var 6 ⊗ (var 0 ⊗ var 1 ⊖ var 3 ⊗ var 4)) refl

  pub reciprocal_holds : (x : Exact) (X Y : ℤ) (f g s : ℕ)
      → a.re *ℤ pos (u * u) ≡ X *ℤ pos e +ℤ pos f → neg_ℤ a.im *ℤ pos (u * u) ≡ Y *ℤ pos e +ℤ pos g
      → a.radius * (u * u) + (f + g) ≤ e * s
      → HoldsAt u a x → HoldsAt u (ball X Y s) (invert x)
  reciprocal_holds x X Y f g s hX hY hs h = go (norm x) refl
    where
      go : (n : ℕ) → norm x ≡ n → HoldsAt u (ball X Y s) (invert_by x n)
      go zero z = let o = norm_zero x.p x.q z in absurd (not_nought x h (record { real = omega (arith, ints); imag = omega (arith, ints) }))
      go (suc n) z = unscale e e-pos (recast (widen (omega (arith, mul-le-mul_left (suc n) hs)) (plus (key x (suc n) (norm_is x.p x.q ∙ ap pos z) h) (scale (suc n) (near f g))))
          (part (x.p *ℤ pos x.d) a.re X (suc n) f hX)
          (part (neg_ℤ (x.q *ℤ pos x.d)) (neg_ℤ a.im) Y (suc n) g hY)
          refl)
