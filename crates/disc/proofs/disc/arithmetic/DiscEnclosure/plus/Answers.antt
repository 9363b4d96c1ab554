use Rattle.std.proofs.Common.{◌≡◌, refl, arith}
use Rattle.std.proofs.lemmas.Int.{ints}
use Rattle.enclosure.specs.Discs.{sum}
use Rattle.enclosure.specs.Fitted.{answer}
use Rattle.enclosure.proofs.Keeping.{sum_kept}
use Rattle.disc.specs.Meaning.{meaning, Has, disc_arithmetic}
use Rattle.disc.proofs.Fitting.{fits, disc_encloses}
use Rattle.disc.proofs.Parts.{same_scaled}
use Rattle.disc.proofs.disc.arithmetic.DiscEnclosure.plus.Goals as goal

equal : (c : goal.After-on_scale) → answer meaning c.on_scale.result ≡ sum (meaning c.args.self) (meaning c.args.b)
unfolding sum
equal c = same_scaled c.on_scale.ensures (omega (arith, ints)) (omega (arith, ints)) refl

pub returns : goal.returns
returns c = let e = fits _ _ (equal c) in record { value = equal c; encloses = sum_kept disc_arithmetic Has disc_encloses c.args.self c.args.b _ e; fitted = e }
