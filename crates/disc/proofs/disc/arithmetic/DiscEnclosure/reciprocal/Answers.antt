use Rattle.std.proofs.Common.{◌≡◌, Err, FitsSigned, w64, refl, sym, ◌∙◌, arith}
use Rattle.std.proofs.lemmas.Bool.{cond-false, lt-leb}
use Rattle.std.proofs.lemmas.Int.{ints}
use Rattle.std.proofs.lemmas.Grind.{common_steps}
use Rattle.enclosure.specs.Discs.{ranged, reciprocal, reciprocal_by}
use Rattle.enclosure.specs.Fitted.{answer}
use Rattle.enclosure.specs.declared.refusal.Refusal.TheVariants.{ZeroDivisor, OffScale}
use Rattle.enclosure.proofs.Keeping.{inverse_kept}
use Rattle.disc.specs.Meaning.{meaning, Has, disc_arithmetic}
use Rattle.disc.proofs.Fitting.{fits, disc_encloses}
use Rattle.disc.proofs.Parts.{same_scaled, same_down, held, converted, not_converted, im_off_scale}
use Rattle.disc.proofs.disc.arithmetic.DiscEnclosure.reciprocal.Goals as goal

equal : (c : goal.After-on_scale) → answer meaning c.on_scale.result ≡ reciprocal (meaning c.args.self)
unfolding reciprocal reciprocal_by
equal c =
    let x : held c.in_ok-re.re ≡ c.floor_by-re.result = let p = converted _ _ _ _ _ c.try_from.ensures c.in_ok-re.ensures.cases in omega (arith, ints, p.0, p.1) in
    let y : held c.in_ok-im.im ≡ c.floor_by-im.result = let p = converted _ _ _ _ _ c.try_from-2.ensures c.in_ok-im.ensures.cases in omega (arith, ints, p.0, p.1) in
    let s = c.square-s.ensures.value in
    same_scaled c.on_scale.ensures
    (x ∙ c.floor_by-re.ensures ∙ same_down (omega (arith, ints)) (rw s))
    (y ∙ c.floor_by-im.ensures ∙ same_down (omega (arith, ints)) (rw s))
    ((converted _ _ _ _ _ c.try_from-3.ensures c.in_ok-radius.ensures.cases).1 ∙ rw (c.div_ceil-radius.ensures, c.from.ensures, c.from-2.ensures, c.from-3.ensures, s))
    ∙ sym (cond-false _ _ _ (lt-leb _ _ (rw s at c.if-s-t.false)))

pub returns-then-s-t-clause-value : goal.returns-then-s-t-clause-value
unfolding reciprocal
returns-then-s-t-clause-value c = grind (arith, common_steps)

pub returns-then-s-t-clause-fitted : goal.returns-then-s-t-clause-fitted
returns-then-s-t-clause-fitted c = fits (Err ZeroDivisor) _ (returns-then-s-t-clause-value c)

pub returns-in_err-re-clause-value : goal.returns-in_err-re-clause-value
unfolding reciprocal reciprocal_by ranged
returns-in_err-re-clause-value c = grind (arith, common_steps)

pub returns-in_err-re-clause-fitted : goal.returns-in_err-re-clause-fitted
returns-in_err-re-clause-fitted c = fits _ _ (returns-in_err-re-clause-value c)

pub returns-in_err-im-clause-value : goal.returns-in_err-im-clause-value
unfolding reciprocal reciprocal_by
returns-in_err-im-clause-value c =
    let s = c.square-s.ensures.value in
    let n = not_converted _ _ _ c.try_from-2.ensures c.in_err-im.ensures.variant in
    let w : FitsSigned w64 c.floor_by-im.result → ⊥ = λ h. n (omega (arith, ints, h)) in
    let q : c.from_residual-in_err-im.result ≡ Err OffScale = grind (arith, common_steps) in
    same_scaled (rw q (im_off_scale _ c.floor_by-im.result _ w)) refl (c.floor_by-im.ensures ∙ same_down (omega (arith, ints)) (rw s)) refl
    ∙ sym (cond-false _ _ _ (lt-leb _ _ (rw s at c.if-s-t.false)))

pub returns-in_err-im-clause-fitted : goal.returns-in_err-im-clause-fitted
returns-in_err-im-clause-fitted c = fits _ _ (returns-in_err-im-clause-value c)

pub returns-in_err-radius-clause-value : goal.returns-in_err-radius-clause-value
unfolding reciprocal reciprocal_by ranged
returns-in_err-radius-clause-value c = grind (arith, common_steps)

pub returns-in_err-radius-clause-fitted : goal.returns-in_err-radius-clause-fitted
returns-in_err-radius-clause-fitted c = fits _ _ (returns-in_err-radius-clause-value c)

pub returns : goal.returns
returns c = let e = fits _ _ (equal c) in record { value = equal c; encloses = inverse_kept disc_arithmetic Has disc_encloses c.args.self _ e; fitted = e }
