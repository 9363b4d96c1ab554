use Rattle.std.proofs.Common.{◌≡◌, w64, rules, refl, ◌∙◌}
use Rattle.std.proofs.lemmas.Int.{to_z-of_z}
use Rattle.enclosure.specs.Discs.{product}
use Rattle.enclosure.specs.Fitted.{answer}
use Rattle.enclosure.proofs.Keeping.{product_kept}
use Rattle.disc.specs.Meaning.{meaning, Has, disc_arithmetic}
use Rattle.disc.proofs.Fitting.{fits, disc_encloses}
use Rattle.disc.proofs.Parts.{same_scaled, same_down, product_held, real_held, imaginary_held}
use Rattle.disc.proofs.disc.arithmetic.DiscEnclosure.times.Goals as goal

equal : (c : goal.After-on_scale) → answer meaning c.on_scale.result ≡ product (meaning c.args.self) (meaning c.args.b)
unfolding product
equal c = same_scaled c.on_scale.ensures
    (to_z-of_z w64 c.floor_units-re.result (search rules) ∙ c.floor_units-re.ensures ∙ same_down (real_held c.args.self c.args.b).1 refl)
    (to_z-of_z w64 c.floor_units-im.result (search rules) ∙ c.floor_units-im.ensures ∙ same_down (imaginary_held c.args.self c.args.b).1 refl)
    c.product_radius.ensures

pub overflow_sub-self : goal.overflow_sub-self
overflow_sub-self c = (real_held c.args.self c.args.b).0

pub overflow_mul-self-3 : goal.overflow_mul-self-3
overflow_mul-self-3 c = (product_held c.args.self.re c.args.b.im c.args.self.re_fits c.args.b.im_fits).0

pub overflow_mul-self-4 : goal.overflow_mul-self-4
overflow_mul-self-4 c = (product_held c.args.self.im c.args.b.re c.args.self.im_fits c.args.b.re_fits).0

pub overflow_add-self : goal.overflow_add-self
overflow_add-self c = (imaginary_held c.args.self c.args.b).0

pub returns : goal.returns
returns c = let e = fits _ _ (equal c) in record { value = equal c; encloses = product_kept disc_arithmetic Has disc_encloses c.args.self c.args.b _ e; fitted = e }
