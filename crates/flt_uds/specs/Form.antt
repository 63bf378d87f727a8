-- What follows a sub-function, as the model defines it.
use Rattle.flt_model.specs.Request.{Form as Meant, Plain, Masked, Recorded, Optioned}
use Rattle.flt_model.specs.declared.request.Request.TheVariants as request
use Rattle.flt_uds.specs.declared.form.Form.{Form}
use Rattle.flt_uds.specs.declared.form.Form.TheVariants as form

-- The form that a row of the code's table means.
abbrev pub meant : Form → Meant
meant (form.Plain asked) = Plain asked
meant form.Count = Masked (λ mask. request.Count mask)
meant form.ByMask = Masked (λ mask. request.ByMask mask)
meant form.Snapshot = Recorded (λ dtc number. request.Snapshot dtc number)
meant form.Extended = Recorded (λ dtc number. request.Extended dtc number)
meant (form.Optioned asked) = Optioned asked
