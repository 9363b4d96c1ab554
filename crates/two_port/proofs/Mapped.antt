-- Where two arithmetics answer alike on values and what f makes of them, so do the calls of two ports.
-- Assumes nothing.
use Rattle.std.proofs.Common.{◌≡◌, option_map, Some, None, Option, Result, refl, ap}
use Rattle.enclosure.specs.Arithmetic.{Arithmetic}
use Rattle.enclosure.specs.Fitted.{answer}
use Rattle.enclosure.specs.declared.refusal.Refusal.{Refusal}
use Rattle.enclosure.proofs.Alike.{Both, both, neither, then_both, Gives, given, Maps}
use Rattle.equations.proofs.Alike.{through, equations, worked_alike}
use Rattle.one_port.specs.Mapped.{terms}
use Rattle.one_port.specs.declared.ThreeTerms.{ThreeTerms}
use Rattle.one_port.proofs.Mapped.{three_terms}
use Rattle.stage.specs.Stages.{at_stage}
use Rattle.stage.specs.declared.Stage.{Stage}
use Rattle.stage.specs.declared.Stage.TheVariants.{Port1, Port2, ForwardThru, ReverseThru, Correct, Embed}
use Rattle.two_port.specs.Equations as Model
use Rattle.two_port.specs.Mapped.{parameters, direction, twelve, standards, readings}
use Rattle.two_port.specs.declared.Direction.{Direction}
use Rattle.two_port.specs.declared.Readings.{Readings}
use Rattle.two_port.specs.declared.Standards.{Standards}
use Rattle.two_port.specs.declared.TwelveTerms.{TwelveTerms}
use Rattle.two_port.specs.declared.parameters.SParameters.{SParameters}

noted : {X Y : Type 0} {P : X → Y → Type 0} {r : Result X Refusal} {s : Result Y Refusal} (n : Stage)
    → Both P r s → Both P (at_stage n r) (at_stage n s)
noted n (both h) = both h
noted n neither = neither

module _ {A B : Type 0} (R : Arithmetic A) (S : Arithmetic B) (f : A → B) (L : Maps R S f) where
  directed : (t : ThreeTerms A) (x : A) (g m : SParameters A) {u : ThreeTerms B} {y : B} → terms f t ≡ u → f x ≡ y
      → Gives (direction f) (Model.directed R t x g m) (Model.directed S u y (parameters f g) (parameters f m))
  directed t x g m p q = rw (← p, ← q) (equations R S f L (direction f) Model.thru
      (Model.from_thru t x g m) (Model.from_thru (terms f t) (f x) (parameters f g) (parameters f m))
      (Model.direction_in t x) (Model.direction_in (terms f t) (f x)) (λ n. simp (through R S f L)) (λ ρ. refl))

  -- a reading that was not taken stays so
  leakage : (origin : A) (o : Option A) → f (Model.leakage origin o) ≡ Model.leakage (f origin) (option_map f o)
  leakage origin None = refl
  leakage origin (Some x) = refl

  pub of_twelve_terms : (origin : A) (g : Standards A) (m : Readings A)
      → answer (twelve f) (Model.solved R origin g m) ≡ Model.solved S (f origin) (standards f g) (readings f m)
  of_twelve_terms origin g m = given
      (then_both (noted Port1 (three_terms R S f L g.port1 m.port1)) λ t t' p. then_both (noted Port2 (three_terms R S f L g.port2 m.port2)) λ u u' q.
      then_both (noted ForwardThru (directed t _ g.thru m.thru p (leakage origin m.isolation.forward))) λ d d' h.
      then_both (noted ReverseThru (directed u _ (Model.exchange g.thru) (Model.exchange m.thru) q (leakage origin m.isolation.reverse))) λ e e' k.
      both (λ i. record { forward = h i; reverse = k i }))

  pub of_corrected_device : (t : TwelveTerms A) (raw : SParameters A)
      → answer (parameters f) (Model.corrected R t raw) ≡ Model.corrected S (twelve f t) (parameters f raw)
  of_corrected_device t raw = given (noted Correct (equations R S f L (parameters f) Model.correct
      (Model.from_raw t raw) (Model.from_raw (twelve f t) (parameters f raw))
      Model.device_in Model.device_in (λ n. simp (through R S f L)) (λ ρ. refl)))

  -- what one direction sees, said of the parameters that two such directions make
  seen : (d : Direction A) (s : SParameters A)
      → Both (λ v w. parameters f (Model.both v v) ≡ Model.both w w) (Model.seen R d s) (Model.seen S (direction f d) (parameters f s))
  seen d s = worked_alike R S (λ x y. f x ≡ y) L _ Model.embed
      (Model.from_device d s) (Model.from_device (direction f d) (parameters f s)) Model.seen_in Model.seen_in
      (λ n. simp (through R S f L)) λ ρ σ p. ap (λ ρ'. Model.both (Model.seen_in ρ') (Model.seen_in ρ')) (λ i n. p n i)

  pub of_embedded_device : (t : TwelveTerms A) (actual : SParameters A)
      → answer (parameters f) (Model.embedded R t actual) ≡ Model.embedded S (twelve f t) (parameters f actual)
  of_embedded_device t actual = given (noted Embed
      (then_both (seen t.forward actual) λ v w p. then_both (seen t.reverse (Model.exchange actual)) λ x y q.
      both (λ i. record { s11 = (p i).s11; s21 = (p i).s21; s12 = (q i).s12; s22 = (q i).s22 })))
