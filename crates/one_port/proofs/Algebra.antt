-- Over any field the one-port equations give back the terms and the device.
-- Assumes nothing.
use Rattle.std.proofs.Common.{◌≡◌, ℕ, refl}
use Rattle.exact.specs.Ring.{Ops, Field}
use Rattle.exact.proofs.Normaliser.{E, norm, var, 𝟎, 𝟏, ◌⊕◌, ◌⊗◌, ⊝, ◌⊖◌, lin, done, times, ◌◂◌, none}
use Rattle.equations.specs.Exactly.{run_exactly}
use Rattle.equations.specs.Formula.{at}
use Rattle.one_port.specs.Equations.{ED, ES, ER, P3, a1, a2, b1, b2, V, z, m, S, solve, correct, from_standards, from_raw}
use Rattle.one_port.specs.declared.Sol.{Sol}
use Rattle.one_port.specs.declared.ThreeTerms.{ThreeTerms}
use Rattle.one_port.specs.Truth.{raw, RawExists, raws, RawsExist}

-- the expressions as operations, so that the equations can be quoted
abbrev quoted : Ops
quoted = record { C = E; ◌≈◌ = λ a b. norm a ≡ norm b; 𝟘 = 𝟎; 𝟙 = 𝟏; ◌+◌ = ◌⊕◌; ◌*◌ = ◌⊗◌; neg = ⊝ }

-- the quantities of solve: the standards 0 to 2, their readings 3 to 5, the terms 6 to 8, and 9 the inverse of V
abbrev q : ℕ → E
q n = run_exactly quoted (λ _. var 9) solve (from_standards (record { short = var 0; «open» = var 1; load = var 2 }) (record { short = var 3; «open» = var 4; load = var 5 })) n

abbrev ed : E
ed = var 6

abbrev es : E
es = var 7

abbrev er : E
er = var 8

-- m (1 - ES g) = ED (1 - ES g) + ER g
abbrev left : E → E → E
left g m = m ⊗ (𝟏 ⊖ es ⊗ g)

abbrev right : E → E
right g = ed ⊗ (𝟏 ⊖ es ⊗ g) ⊕ er ⊗ g

module _ (F : Field) where
  open F.ring.ops use {C, ◌≈◌, 𝟘, 𝟙, ◌+◌, ◌*◌, neg}

  infix 20 ◌≈◌
  infixl 60 ◌+◌
  infixl 70 ◌*◌
  infixr 40 ◌◃◌
  abbrev ◌◃◌ : C → (ℕ → C) → ℕ → C
  x ◃ ρ = ◌◂◌ F.ring x ρ

  abbrev divisor : ThreeTerms C → C → C
  divisor t s = 𝟙 + neg (t.es * s)

  -- a raw value without division
  raw_is : (t : ThreeTerms C) (s : C) → RawExists F.ring.ops F.inv t s
      → raw F.ring.ops F.inv t s * divisor t s ≈ t.ed * divisor t s + t.er * s
  raw_is t s h =
      let d = 𝟏 ⊖ var 2 ⊗ var 3 in
      lin F.ring (t.ed ◃ t.er ◃ t.es ◃ s ◃ F.inv (divisor t s) ◃ none F.ring)
      (times (var 1 ⊗ var 3) (d ⊗ var 4) 𝟏 done) (F.inverts (divisor t s) h.0.1.2, tt)
      ((var 0 ⊕ (var 1 ⊗ var 3) ⊗ var 4) ⊗ d) (var 0 ⊗ d ⊕ var 1 ⊗ var 3) refl

  abbrev found : Sol C → Sol C → ℕ → C
  found g r = run_exactly F.ring.ops F.inv solve (from_standards g r)

  pub terms_are : (t : ThreeTerms C) (g : Sol C) → RawsExist F.ring.ops F.inv t g
      → let e = found g (raws F.ring.ops F.inv t g) in
      ¬ (at e V ≈ 𝟘) → (at e ED ≈ t.ed) × (at e ES ≈ t.es) × (at e ER ≈ t.er)
  terms_are t g h nv =
      let r = raws F.ring.ops F.inv t g in let e = found g r in
      let ρ : ℕ → C = g.short ◃ g.«open» ◃ g.load ◃ r.short ◃ r.«open» ◃ r.load ◃ t.ed ◃ t.es ◃ t.er ◃ F.inv (at e V) ◃ none F.ring in
      let h1 = raw_is t g.short h.0 in
      let h2 = raw_is t g.«open» h.1 in
      let h3 = raw_is t g.load h.2 in
      let hv = F.inverts (at e V) nv in
      let es-is : at e ES ≈ t.es = lin F.ring ρ
      (times (var 9 ⊗ at q b2) (left (var 0) (var 3)) (right (var 0)) (times (⊝ (var 9 ⊗ at q b1)) (left (var 1) (var 4)) (right (var 1))
      (times (var 9 ⊗ (at q b1 ⊖ at q b2)) (left (var 2) (var 5)) (right (var 2)) (times es (at q V ⊗ var 9) 𝟏 done))))
      (h1, (h2, (h3, (hv, tt)))) (at q ES) es refl in
      let z-is : at e z ≈ t.er + neg (t.ed * t.es) = lin F.ring ρ
      (times (⊝ (var 9 ⊗ at q a2)) (left (var 0) (var 3)) (right (var 0)) (times (var 9 ⊗ at q a1) (left (var 1) (var 4)) (right (var 1))
      (times (var 9 ⊗ (at q a2 ⊖ at q a1)) (left (var 2) (var 5)) (right (var 2)) (times (er ⊖ ed ⊗ es) (at q V ⊗ var 9) 𝟏 done))))
      (h1, (h2, (h3, (hv, tt)))) (at q z) (er ⊖ ed ⊗ es) refl in
      let ed-is : at e ED ≈ t.ed = lin F.ring ρ
      (times 𝟏 (left (var 2) (var 5)) (right (var 2)) (times (⊝ (at q P3)) (at q ES) es (times (⊝ (var 2)) (at q z) (er ⊖ ed ⊗ es) done)))
      (h3, (es-is, (z-is, tt))) (at q ED) ed refl in
      let er-is : at e ER ≈ t.er = lin F.ring ρ
      (times 𝟏 (at q z) (er ⊖ ed ⊗ es) (times (at q ES) (at q ED) ed (times ed (at q ES) es done)))
      (z-is, (ed-is, (es-is, tt))) (at q ER) er refl in
      (ed-is, es-is, er-is)

  abbrev back : ThreeTerms C → C → ℕ → C
  back t r = run_exactly F.ring.ops F.inv correct (from_raw t r)

  pub device_is : (t : ThreeTerms C) (s : C) → RawExists F.ring.ops F.inv t s
      → let e = back t (raw F.ring.ops F.inv t s) in ¬ (t.er + at e m * t.es ≈ 𝟘) → at e S ≈ s
  device_is t s h nd =
      let r = raw F.ring.ops F.inv t s in let d = t.er + at (back t r) m * t.es in
      lin F.ring (s ◃ r ◃ t.ed ◃ t.es ◃ t.er ◃ F.inv d ◃ none F.ring)
      (times (var 5) (var 1 ⊗ (𝟏 ⊖ var 3 ⊗ var 0)) (var 2 ⊗ (𝟏 ⊖ var 3 ⊗ var 0) ⊕ var 4 ⊗ var 0)
      (times (var 0) ((var 4 ⊕ (var 1 ⊖ var 2) ⊗ var 3) ⊗ var 5) 𝟏 done))
      (raw_is t s h, (F.inverts d nd, tt)) ((var 1 ⊖ var 2) ⊗ var 5) (var 0) refl
