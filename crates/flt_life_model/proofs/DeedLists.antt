-- The deeds of steps, one before others.
use Rattle.std.proofs.Common.{◌≡◌, Bool, true, false, List, ◌++◌, refl}
use Rattle.flt_step.specs.declared.step.Step.{Step}
use Rattle.flt_life_model.specs.Answers.{Told}
use Rattle.flt_life_model.specs.Ordered.{Deed, deed_if}

pub deed_if-append : (b : Bool) (step : Step) (told : Told) (deeds more : List Deed) → deed_if b step told (deeds ++ more) ≡ deed_if b step told deeds ++ more
deed_if-append true step told deeds more = refl
deed_if-append false step told deeds more = refl
