-- The truth at a point of two ports, in every arithmetic that encloses a field.
-- Assumes nothing.
use Rattle.std.proofs.Common.{◌≡◌, ℕ, Some, None, Option, Ok, Result}
use Rattle.exact.specs.Ring.{Ops, Field}
use Rattle.enclosure.specs.Arithmetic.{Arithmetic, Encloses}
use Rattle.enclosure.specs.declared.refusal.Refusal.{Refusal}
use Rattle.equations.specs.Formula.{Term, number, keep}
use Rattle.one_port.specs.Equations as OnePort
use Rattle.one_port.specs.declared.ThreeTerms.{ThreeTerms}
use Rattle.one_port.specs.Truth as OnePortTruth
use Rattle.two_port.specs.Equations.{EDF, ESF, ERF, EXF, ELF, ETF, EDR, ESR, ERR, EXR, ELR, ETR, S11, S21, S12, S22, M11, M21, M12, M22, T11, T21, T12, T22, R11, R21, thru, correct, embed, exchange, both, reflection, with_forward, with_reverse, from_thru, from_raw, from_device, leakage, directed, seen, solved, corrected, embedded}
use Rattle.stage.specs.Stages.{at_stage}
use Rattle.stage.specs.declared.Stage.{Stage}
use Rattle.stage.specs.declared.Stage.TheVariants.{Port1, Port2, ForwardThru, ReverseThru, Correct, Embed}
use Rattle.two_port.specs.declared.Direction.{Direction}
use Rattle.two_port.specs.declared.Readings.{Readings}
use Rattle.two_port.specs.declared.Standards.{Standards}
use Rattle.two_port.specs.declared.TwelveTerms.{TwelveTerms}
use Rattle.two_port.specs.declared.embed.Seen.{Seen}
use Rattle.two_port.specs.declared.parameters.SParameters.{SParameters}
use Rattle.two_port.specs.Truth.{sees, SeenExists, raw, RawExists, SParametersHeld, DirectionHeld, TermsHeld, LeakageHeld, TermsTrue, DeviceTrue, RawTrue, ComesBack}
use Rattle.equations.proofs.Enclosed.{OfAnswer, yields, none, of, next, yielded, keep_holds, run_holds}
use Rattle.one_port.proofs.Truths as OnePorts
use Rattle.two_port.proofs.Algebra.{thru_is, device_is}

pub noted : {A : Type 0} {P : A → Type 0} {r : Result A Refusal} (s : Stage) → OfAnswer P r → OfAnswer P (at_stage s r)
noted s (yields h) = yields h
noted s none = none

module _ {A : Type 0} (R : Arithmetic A) (F : Field) (◌∋◌ : A → F.ring.ops.C → Type 0) (L : Encloses R F.ring.ops F.inv ◌∋◌) where
  open F.ring.ops use {C, ◌≈◌, 𝟘}
  open F.ring.laws use {symm}
  open L use {some_held, same_held}

  infix 20 ◌∋◌
  abbrev O : Ops
  O = F.ring.ops

  abbrev SPHeld : SParameters A → SParameters C → Type 0
  SPHeld = SParametersHeld O ◌∋◌

  kept : (x : Term) {v : A} {c : C} {ρ : ℕ → A} {ε : ℕ → C} → v ∋ c → ((n : ℕ) → ρ n ∋ ε n) → (n : ℕ) → keep x v ρ n ∋ keep x c ε n
  kept x {v} {c} {ρ} {ε} p h = keep_holds R O F.inv ◌∋◌ L x v c ρ ε p h

  forward_held : {X : Direction A} {f : Direction C} {ρ : ℕ → A} {ε : ℕ → C} → DirectionHeld O ◌∋◌ X f → ((n : ℕ) → ρ n ∋ ε n)
      → (n : ℕ) → with_forward X ρ n ∋ with_forward f ε n
  forward_held h i = kept EDF h.ed_held (kept ESF h.es_held (kept ERF h.er_held (kept EXF h.ex_held (kept ELF h.el_held (kept ETF h.et_held i)))))

  reverse_held : {X : Direction A} {f : Direction C} {ρ : ℕ → A} {ε : ℕ → C} → DirectionHeld O ◌∋◌ X f → ((n : ℕ) → ρ n ∋ ε n)
      → (n : ℕ) → with_reverse X ρ n ∋ with_reverse f ε n
  reverse_held h i = kept EDR h.ed_held (kept ESR h.es_held (kept ERR h.er_held (kept EXR h.ex_held (kept ELR h.el_held (kept ETR h.et_held i)))))

  exchanged_held : {S : SParameters A} {s : SParameters C} → SPHeld S s → SPHeld (exchange S) (exchange s)
  exchanged_held h = record { s11_held = h.s22_held; s21_held = h.s12_held; s12_held = h.s21_held; s22_held = h.s11_held }

  -- ---- the terms

  leakage_held : (Z : A) → Z ∋ 𝟘 → (o : Option A) (x : C) → LeakageHeld O ◌∋◌ o x → leakage Z o ∋ x
  leakage_held Z z (Some X) x h = h
  leakage_held Z z None x h = same_held _ _ _ (symm h) z

  -- of one direction; the reading of the other, w, does not matter
  directed_holds : (T : ThreeTerms A) (X : A) (G N : SParameters A) (f : Direction C) (g : SParameters C) (w : Seen C) → SeenExists O F.inv f g
      → OnePortTruth.TermsHeld O ◌∋◌ T (reflection f) → X ∋ f.ex → SPHeld G g → SPHeld N (both (sees O F.inv f g) w)
      → OfAnswer (λ D. DirectionHeld O ◌∋◌ D f) (directed R T X G N)
  directed_holds T X G N f g w exists t x h k =
      next (run_holds R O F.inv ◌∋◌ L thru (from_thru T X G N) (from_thru (reflection f) f.ex g (both (sees O F.inv f g) w))
      (kept EDF t.ed_held (kept ESF t.es_held (kept ERF t.er_held (kept EXF x
      (kept T11 h.s11_held (kept T21 h.s21_held (kept T12 h.s12_held (kept T22 h.s22_held
      (kept R11 k.s11_held (kept R21 k.s21_held (λ _. x)))))))))))) λ ρ e.
      let v = thru_is F f g w exists e.0 in
      yields (record {
        ed_held = t.ed_held;
        es_held = t.es_held;
        er_held = t.er_held;
        ex_held = x;
        el_held = same_held _ _ _ v.0 (e.1 (number ELF));
        et_held = same_held _ _ _ v.1 (e.1 (number ETF));
      })

  pub terms_true : (Z : A) → Z ∋ 𝟘 → (G : Standards A) (N : Readings A) (T : TwelveTerms A) → solved R Z G N ≡ Ok T → TermsTrue R O F.inv ◌∋◌ G N T
  terms_true Z z G N T a t g exist held read = yielded {P = λ T. TermsHeld O ◌∋◌ T t}
      (next (noted Port1 (of (OnePort.solved R G.port1 N.port1) λ P e.
      OnePorts.terms_true R F ◌∋◌ L _ _ P e (reflection t.forward) g.port1 exist.port1_exist held.port1_held read.port1_read)) λ P p.
      next (noted Port2 (of (OnePort.solved R G.port2 N.port2) λ Q e.
      OnePorts.terms_true R F ◌∋◌ L _ _ Q e (reflection t.reverse) g.port2 exist.port2_exist held.port2_held read.port2_read)) λ Q q.
      next (noted ForwardThru (directed_holds P _ G.thru N.thru t.forward g.thru _ exist.thru_exists.0
      p (leakage_held Z z _ _ read.forward_leakage) held.thru_held read.thru_read)) λ D f.
      next (noted ReverseThru (directed_holds Q _ (exchange G.thru) (exchange N.thru) t.reverse (exchange g.thru) _ exist.thru_exists.1
      q (leakage_held Z z _ _ read.reverse_leakage) (exchanged_held held.thru_held) (exchanged_held read.thru_read))) λ B r.
      yields (record { forward_held = f; reverse_held = r }))
      a

  -- ---- the device

  pub device_true : (T : TwelveTerms A) (N S : SParameters A) → corrected R T N ≡ Ok S → DeviceTrue R O F.inv ◌∋◌ T N S
  device_true T N S a t s exist held k = yielded {P = λ S. SPHeld S s}
      (noted Correct (next (run_holds R O F.inv ◌∋◌ L correct (from_raw T N) (from_raw t (raw O F.inv t s))
      (forward_held held.forward_held (reverse_held held.reverse_held
      (kept M11 k.s11_held (kept M21 k.s21_held (kept M12 k.s12_held (kept M22 k.s22_held (λ _. k.s22_held)))))))) λ ρ e.
      let v = device_is F t s exist e.0 in
      yields (record {
        s11_held = same_held _ _ _ v.0 (e.1 (number S11));
        s21_held = same_held _ _ _ v.1 (e.1 (number S21));
        s12_held = same_held _ _ _ v.2 (e.1 (number S12));
        s22_held = same_held _ _ _ v.3 (e.1 (number S22));
      })))
      a

  -- ---- the raw values

  record SeenHeld (f : Direction C) (s : SParameters C) (V : Seen A) : Type 0 where
    exists : SeenExists O F.inv f s
    reflected_held : V.reflected ∋ (sees O F.inv f s).reflected
    transmitted_held : V.transmitted ∋ (sees O F.inv f s).transmitted

  seen_holds : (X : Direction A) (S : SParameters A) (f : Direction C) (s : SParameters C) → DirectionHeld O ◌∋◌ X f → SPHeld S s
      → OfAnswer (SeenHeld f s) (seen R X S)
  seen_holds X S f s h k =
      next (run_holds R O F.inv ◌∋◌ L embed (from_device X S) (from_device f s)
      (forward_held h (kept S11 k.s11_held (kept S21 k.s21_held (kept S12 k.s12_held (kept S22 k.s22_held (λ _. k.s22_held))))))) λ ρ e.
      yields (record { exists = e.0; reflected_held = e.1 (number M11); transmitted_held = e.1 (number M21) })

  pub raw_true : (T : TwelveTerms A) (S N : SParameters A) → embedded R T S ≡ Ok N → RawTrue R O F.inv ◌∋◌ T S N
  raw_true T S N a t s held k = yielded {P = λ N. RawExists O F.inv t s × SPHeld N (raw O F.inv t s)}
      (noted Embed (next (seen_holds T.forward S t.forward s held.forward_held k) λ V v.
      next (seen_holds T.reverse (exchange S) t.reverse (exchange s) held.reverse_held (exchanged_held k)) λ W w.
      yields (
        (v.exists, w.exists),
        record { s11_held = v.reflected_held; s21_held = v.transmitted_held; s12_held = w.transmitted_held; s22_held = w.reflected_held },
      )))
      a

  -- ---- there and back

  -- a member of each term
  members : (X : Direction A) → (f : Direction C) × DirectionHeld O ◌∋◌ X f
  members X =
      let d = some_held X.ed in let s = some_held X.es in let r = some_held X.er in
      let x = some_held X.ex in let l = some_held X.el in let t = some_held X.et in (
        record { ed = d.0; es = s.0; er = r.0; ex = x.0; el = l.0; et = t.0 },
        record { ed_held = d.1; es_held = s.1; er_held = r.1; ex_held = x.1; el_held = l.1; et_held = t.1 },
      )

  -- any members of the terms serve
  pub comes_back : (T : TwelveTerms A) (N S : SParameters A) → corrected R T N ≡ Ok S → ComesBack R O F.inv ◌∋◌ T N S
  comes_back T N S a E b s h =
      let f = members T.forward in let r = members T.reverse in
      let t : TwelveTerms C = record { forward = f.0; reverse = r.0 } in
      let held : TermsHeld O ◌∋◌ T t = record { forward_held = f.1; reverse_held = r.1 } in
      let back = raw_true T E N b t s held h in
      device_true T N S a t s back.0 held back.1
