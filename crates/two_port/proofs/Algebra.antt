-- Over any field the two-port equations give back the terms of a direction and the device.
-- Assumes nothing.
use Rattle.std.proofs.Common.{ℕ, refl}
use Rattle.exact.specs.Ring.{Ops, Field}
use Rattle.exact.proofs.Normaliser.{E, var, 𝟏, ◌⊕◌, ◌⊗◌, ⊝, ◌⊖◌, lin, done, times, ◌◂◌, none}
use Rattle.equations.specs.Exactly.{run_exactly, AllDefined}
use Rattle.equations.specs.Formula.{at}
use Rattle.two_port.specs.Equations.{thru, correct, both, exchange, reflection, from_thru, from_raw, ELF, ETF, a, b, c, d, D, S11, S21, S12, S22}
use Rattle.two_port.specs.declared.Direction.{Direction}
use Rattle.two_port.specs.declared.TwelveTerms.{TwelveTerms}
use Rattle.two_port.specs.declared.embed.Seen.{Seen}
use Rattle.two_port.specs.declared.parameters.SParameters.{SParameters}
use Rattle.two_port.specs.Truth.{sees, SeenExists, raw, RawExists}

module _ (F : Field) where
  open F.ring.ops use {C, ◌≈◌, 𝟘, 𝟙, ◌+◌, ◌*◌, neg}

  infix 20 ◌≈◌
  infixl 60 ◌+◌ ◌-◌
  infixl 70 ◌*◌
  infixr 40 ◌◃◌
  abbrev ◌◃◌ : C → (ℕ → C) → ℕ → C
  x ◃ ρ = ◌◂◌ F.ring x ρ

  abbrev ◌-◌ : C → C → C
  x - y = x + neg y

  abbrev O : Ops
  O = F.ring.ops

  abbrev determinant : SParameters C → C
  determinant s = s.s11 * s.s22 - s.s21 * s.s12

  -- the divisor Q of what f sees of s
  abbrev divisor : Direction C → SParameters C → C
  divisor f s = 𝟙 - f.es * s.s11 - f.el * s.s22 + f.es * f.el * determinant s

  divisor_regular : (f : Direction C) (s : SParameters C) → SeenExists O F.inv f s → ¬ (divisor f s ≈ 𝟘)
  divisor_regular f s h = h.1.1.0.1.2

  -- ---- the thru

  -- the reading of the other direction, w, does not matter
  abbrev start : Direction C → SParameters C → Seen C → ℕ → C
  start f s w = from_thru (reflection f) f.ex s (both (sees O F.inv f s) w)

  pub thru_is : (f : Direction C) (s : SParameters C) (w : Seen C) → SeenExists O F.inv f s
      → let e = run_exactly O F.inv thru (start f s w) in
      AllDefined O F.inv thru (start f s w) → (at e ELF ≈ f.el) × (at e ETF ≈ f.et)
  thru_is f s w exists defined =
      let e = run_exactly O F.inv thru (start f s w) in
      let k = determinant s in let q = divisor f s in let r = (sees O F.inv f s).reflected - f.ed in
      let n = r * (s.s22 - f.es * k) - f.er * k in
      let q-inverts = F.inverts q (divisor_regular f s exists) in
      -- 0 to 4 are S11, S21, S22, K and 1/Q, 5 to 10 the terms
      let s11 = var 0 in let s21 = var 1 in let s22 = var 2 in let K = var 3 in let 1/Q = var 4 in
      let ED = var 5 in let ES = var 6 in let ER = var 7 in let EX = var 8 in let EL = var 9 in let ET = var 10 in
      let Q : E → E = λ el. 𝟏 ⊖ ES ⊗ s11 ⊖ el ⊗ s22 ⊕ ES ⊗ el ⊗ K in
      let m = ED ⊕ ER ⊗ (s11 ⊖ EL ⊗ K) ⊗ 1/Q ⊖ ED in
      let N = m ⊗ (s22 ⊖ ES ⊗ K) ⊖ ER ⊗ K in
      let ρ : (ℕ → C) → ℕ → C = λ more. s.s11 ◃ s.s21 ◃ s.s22 ◃ k ◃ F.inv q ◃ f.ed ◃ f.es ◃ f.er ◃ f.ex ◃ f.el ◃ f.et ◃ more in
      let el-is : at e ELF ≈ f.el = lin F.ring (ρ (F.inv n ◃ none F.ring))
      (times (var 11 ⊗ ER ⊗ (s11 ⊖ EL ⊗ K)) (Q EL ⊗ 1/Q) 𝟏 (times EL (N ⊗ var 11) 𝟏 done))
      (q-inverts, (F.inverts n defined.1.1.0.2, tt))
      ((m ⊗ (𝟏 ⊖ ES ⊗ s11) ⊖ ER ⊗ s11) ⊗ var 11) EL refl in
      let et-is : at e ETF ≈ f.et = lin F.ring (ρ (F.inv s.s21 ◃ at e ELF ◃ none F.ring))
      (times (ET ⊗ s21 ⊗ var 11) (Q EL ⊗ 1/Q) 𝟏 (times ET (s21 ⊗ var 11) 𝟏
      (times (ET ⊗ s21 ⊗ 1/Q ⊗ var 11 ⊗ (ES ⊗ K ⊖ s22)) (var 12) EL done)))
      (q-inverts, (F.inverts s.s21 defined.1.1.1.1.0.2, (el-is, tt)))
      ((EX ⊕ (ET ⊗ s21) ⊗ 1/Q ⊖ EX) ⊗ Q (var 12) ⊗ var 11) ET refl in
      (el-is, et-is)

  -- ---- the device

  -- what is seen, less e and by t
  less_by : (e t n q : C) → ¬ (q ≈ 𝟘) → ¬ (t ≈ 𝟘) → (e + (t * n) * F.inv q - e) * F.inv t * q ≈ n
  less_by e t n q nq nt = lin F.ring (e ◃ t ◃ n ◃ q ◃ F.inv q ◃ F.inv t ◃ none F.ring)
      (times (var 2 ⊗ var 1 ⊗ var 5) (var 3 ⊗ var 4) 𝟏 (times (var 2) (var 1 ⊗ var 5) 𝟏 done))
      (F.inverts q nq, (F.inverts t nt, tt)) ((var 0 ⊕ (var 1 ⊗ var 2) ⊗ var 4 ⊖ var 0) ⊗ var 5 ⊗ var 3) (var 2) refl

  -- n/v is s where p q v is t and p q n is s t
  ratio : (p q n v s t : C) → ¬ (p ≈ 𝟘) → ¬ (q ≈ 𝟘) → ¬ (v ≈ 𝟘) → p * q * v ≈ t → p * q * n ≈ s * t → n * F.inv v ≈ s
  ratio p q n v s t np nq nv h g = lin F.ring (p ◃ q ◃ n ◃ v ◃ s ◃ t ◃ F.inv p ◃ F.inv q ◃ F.inv v ◃ none F.ring)
      (let p⁻ = var 6 in let q⁻ = var 7 in let v⁻ = var 8 in let w = var 2 ⊗ v⁻ ⊖ var 4 ⊗ var 3 ⊗ v⁻ in
      times (p⁻ ⊗ q⁻ ⊗ v⁻) (var 0 ⊗ var 1 ⊗ var 2) (var 4 ⊗ var 5)
      (times (⊝ (var 4 ⊗ p⁻ ⊗ q⁻ ⊗ v⁻)) (var 0 ⊗ var 1 ⊗ var 3) (var 5)
      (times (⊝ w) (var 0 ⊗ p⁻) 𝟏 (times (⊝ (w ⊗ var 0 ⊗ p⁻)) (var 1 ⊗ q⁻) 𝟏
      (times (var 4) (var 3 ⊗ v⁻) 𝟏 done)))))
      (g, (h, (F.inverts p np, (F.inverts q nq, (F.inverts v nv, tt))))) (var 2 ⊗ var 8) (var 4) refl

  abbrev found : TwelveTerms C → SParameters C → ℕ → C
  found t s = run_exactly O F.inv correct (from_raw t (raw O F.inv t s))

  pub device_is : (t : TwelveTerms C) (s : SParameters C) → RawExists O F.inv t s
      → AllDefined O F.inv correct (from_raw t (raw O F.inv t s))
      → let e = found t s in (at e S11 ≈ s.s11) × (at e S21 ≈ s.s21) × (at e S12 ≈ s.s12) × (at e S22 ≈ s.s22)
  device_is t s exist defined =
      let f = t.forward in let r = t.reverse in let z = exchange s in
      let e = found t s in
      let p = divisor f s in let q = divisor r z in
      let np = divisor_regular f s exist.0 in
      let nq = divisor_regular r z exist.1 in
      let nv = defined.1.1.1.1.1.0.2 in
      let a-is : at e a * p ≈ s.s11 - f.el * determinant s = less_by f.ed f.er _ p np defined.0.2 in
      let b-is : at e b * q ≈ s.s22 - r.el * determinant z = less_by r.ed r.er _ q nq defined.1.0.2 in
      let c-is : at e c * p ≈ s.s21 = less_by f.ex f.et _ p np defined.1.1.0.2 in
      let d-is : at e d * q ≈ s.s12 = less_by r.ex r.et _ q nq defined.1.1.1.0.2 in
      let ρ : ℕ → C = s.s11 ◃ s.s21 ◃ s.s12 ◃ s.s22 ◃ f.es ◃ f.el ◃ r.es ◃ r.el ◃ at e a ◃ at e b ◃ at e c ◃ at e d ◃ none F.ring in
      let s11 = var 0 in let s21 = var 1 in let s12 = var 2 in let s22 = var 3 in
      let ESF = var 4 in let ELF = var 5 in let ESR = var 6 in let ELR = var 7 in
      let A = var 8 in let B = var 9 in let G = var 10 in let H = var 11 in
      let K = s11 ⊗ s22 ⊖ s21 ⊗ s12 in let K' = s22 ⊗ s11 ⊖ s12 ⊗ s21 in
      let P = 𝟏 ⊖ ESF ⊗ s11 ⊖ ELF ⊗ s22 ⊕ ESF ⊗ ELF ⊗ K in
      let Q = 𝟏 ⊖ ESR ⊗ s22 ⊖ ELR ⊗ s11 ⊕ ESR ⊗ ELR ⊗ K' in
      let X = s11 ⊖ ELF ⊗ K in let Y = s22 ⊖ ELR ⊗ K' in
      -- P Q D = T
      let T = 𝟏 ⊖ ELR ⊗ s11 ⊖ ELF ⊗ s22 ⊕ ELF ⊗ ELR ⊗ K in
      let D-is = lin F.ring ρ
      (times (ESF ⊗ (Q ⊕ B ⊗ Q ⊗ ESR)) (A ⊗ P) X (times ((P ⊕ X ⊗ ESF) ⊗ ESR) (B ⊗ Q) Y
      (times (⊝ (ELF ⊗ ELR ⊗ H ⊗ Q)) (G ⊗ P) s21 (times (⊝ (ELF ⊗ ELR ⊗ s21)) (H ⊗ Q) s12 done))))
      (a-is, (b-is, (c-is, (d-is, tt)))) (P ⊗ Q ⊗ ((𝟏 ⊕ A ⊗ ESF) ⊗ (𝟏 ⊕ B ⊗ ESR) ⊖ G ⊗ H ⊗ ELF ⊗ ELR)) T refl in (
        ratio p q _ (at e D) s.s11 _ np nq nv D-is (lin F.ring ρ
            (times (Q ⊕ B ⊗ Q ⊗ ESR) (A ⊗ P) X (times (X ⊗ ESR) (B ⊗ Q) Y
            (times (⊝ (ELF ⊗ H ⊗ Q)) (G ⊗ P) s21 (times (⊝ (ELF ⊗ s21)) (H ⊗ Q) s12 done))))
            (a-is, (b-is, (c-is, (d-is, tt)))) (P ⊗ Q ⊗ (A ⊗ (𝟏 ⊕ B ⊗ ESR) ⊖ ELF ⊗ G ⊗ H)) (s11 ⊗ T) refl),
        ratio p q _ (at e D) s.s21 _ np nq nv D-is (lin F.ring ρ
            (times (Q ⊕ B ⊗ Q ⊗ (ESR ⊖ ELF)) (G ⊗ P) s21 (times (s21 ⊗ (ESR ⊖ ELF)) (B ⊗ Q) Y done))
            (c-is, (b-is, tt)) (P ⊗ Q ⊗ (G ⊗ (𝟏 ⊕ B ⊗ (ESR ⊖ ELF)))) (s21 ⊗ T) refl),
        ratio p q _ (at e D) s.s12 _ np nq nv D-is (lin F.ring ρ
            (times (P ⊕ A ⊗ P ⊗ (ESF ⊖ ELR)) (H ⊗ Q) s12 (times (s12 ⊗ (ESF ⊖ ELR)) (A ⊗ P) X done))
            (d-is, (a-is, tt)) (P ⊗ Q ⊗ (H ⊗ (𝟏 ⊕ A ⊗ (ESF ⊖ ELR)))) (s12 ⊗ T) refl),
        ratio p q _ (at e D) s.s22 _ np nq nv D-is (lin F.ring ρ
            (times (P ⊕ A ⊗ P ⊗ ESF) (B ⊗ Q) Y (times (Y ⊗ ESF) (A ⊗ P) X
            (times (⊝ (ELR ⊗ G ⊗ P)) (H ⊗ Q) s12 (times (⊝ (ELR ⊗ s12)) (G ⊗ P) s21 done))))
            (b-is, (a-is, (d-is, (c-is, tt)))) (P ⊗ Q ⊗ (B ⊗ (𝟏 ⊕ A ⊗ ESF) ⊖ ELR ⊗ G ⊗ H)) (s22 ⊗ T) refl),
      )
