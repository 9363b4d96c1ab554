use Rattle.std.proofs.Common.{◌≡◌, ◌^◌, ◌≤◌, ◌-ℤ◌, unsigned_abs, mul-le-mul, arith}
use Rattle.std.proofs.lemmas.Int.{ints}
use Rattle.enclosure.specs.Discs.{touches}
use Rattle.enclosure.proofs.Keeping.{touch_kept}
use Rattle.disc.specs.Meaning.{Has, disc_arithmetic}
use Rattle.disc.proofs.Fitting.{disc_encloses}
use Rattle.disc.proofs.disc.arithmetic.DiscEnclosure.touches.Goals as goal

pub overflow_add-result : goal.overflow_add-result
overflow_add-result c =
    let x : c.abs_diff-x.result ≤ 2 ^ 31 = omega (arith, ints) in
    let y : c.abs_diff-y.result ≤ 2 ^ 31 = omega (arith, ints) in
    omega (arith, mul-le-mul x x, mul-le-mul y y)

pub returns : goal.returns
unfolding touches
returns c =
    let x : c.abs_diff-x.result ≡ unsigned_abs (c.args.self.re -ℤ c.args.b.re) = omega (arith, ints) in
    let y : c.abs_diff-y.result ≡ unsigned_abs (c.args.self.im -ℤ c.args.b.im) = omega (arith, ints) in
    record { value = rw (x, y); encloses = touch_kept disc_arithmetic Has disc_encloses c.args.self c.args.b _ (rw (x, y)) }
