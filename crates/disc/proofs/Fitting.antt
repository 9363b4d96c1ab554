-- A disc and its numbers.
use Rattle.std.proofs.Common.{◌≡◌, ◌∙◌, ap, sym, true, Ok, Err, Result, refl}
use Rattle.std.proofs.lemmas.Bool.{and_from, le-leb}
use Rattle.std.specs.Coded.{le_prop}
use Rattle.exact.specs.Numbers.{exacts, invert}
use Rattle.enclosure.specs.Arithmetic.{◌>>=◌, Encloses}
use Rattle.enclosure.specs.Discs.{Ball, L, discs, in_range}
use Rattle.enclosure.specs.Fitted.{answer, fit}
use Rattle.enclosure.specs.declared.refusal.Refusal.{Refusal}
use Rattle.enclosure.proofs.Alike.{Maps}
use Rattle.enclosure.proofs.Fitting as Fitting
use Rattle.disc.specs.Meaning.{meaning, Has, disc, disc_arithmetic}
use Rattle.disc.specs.declared.disc.Disc.{Disc}

inside : (d : Disc) → in_range (meaning d) ≡ true
inside d = and_from _ _ (le-leb _ L d.re_fits) (and_from _ _ (le-leb _ L d.im_fits) (le-leb _ L d.radius_fits))

again : (d : Disc) (h : in_range (meaning d) ≡ true) → disc (meaning d) h ≡ d
again d h i =
    let e = disc (meaning d) h in
    record {
      re = d.re;
      im = d.im;
      radius = d.radius;
      re_fits = le_prop e.re_fits d.re_fits i;
      im_fits = le_prop e.im_fits d.im_fits i;
      radius_fits = le_prop e.radius_fits d.radius_fits i;
    }

pub fits : (r : Result Disc Refusal) (o : Result Ball Refusal) → answer meaning r ≡ o → r ≡ (o >>= fit meaning disc)
fits = Fitting.fits meaning disc inside again

-- discs of the same numbers are one, so an answer is known by its numbers
one_meaning : (d e : Disc) → meaning d ≡ meaning e → d ≡ e
one_meaning d e p =
    let q : ◌≡◌ {A = Result Disc Refusal} (Ok d) (Ok e) =
    fits (Ok d) (Ok (meaning d)) refl ∙ ap (fit meaning disc) p ∙ sym (fits (Ok e) (Ok (meaning e)) refl) in
    cc

pub same_answers : {E : Type 0} (r s : Result Disc E) → answer meaning r ≡ answer meaning s → r ≡ s
same_answers (Ok d) (Ok e) h = ap Ok (one_meaning d e cc)
same_answers (Ok d) (Err k) h = cc
same_answers (Err k) (Ok e) h = cc
same_answers (Err k) (Err l) h = cc

pub disc_encloses : Encloses disc_arithmetic exacts invert Has
disc_encloses = Fitting.fitted_encloses meaning disc (λ b h. refl)

-- what the arithmetic of discs answers has the numbers that the rules work out
pub alike : Maps disc_arithmetic discs meaning
alike = Fitting.fitted_alike meaning disc (λ b h. refl)
