-- A read that is answered by the drains before it.
use Rattle.std.proofs.Common.{◌≡◌, ℕ, List, map, refl}
use Rattle.flt_flash.specs.Content.{Content, missing, bytes as holding}
use Rattle.flt_store_model.specs.Layout.{application_number}
use Rattle.flt_queue.specs.Queue.{History}
use Rattle.flt_life_model.specs.Answers.{Told}
use Rattle.flt_life_model.specs.Applications.{GetsBy, MayHold, jobs_told, up_to_done}
use Rattle.flt_life_model.specs.Ordered.{Deed}
use Rattle.flt_life_model.specs.declared.action.Action.{Action}
use Rattle.flt_life_model.specs.declared.action.Action.TheVariants as action
use Rattle.flt_life_model.specs.declared.answer.StepAnswer.TheVariants as answers

-- It is answered so by other blocks and drains too, where these may have left what those may.
pub gets_also : (first other : ℕ → Content) (queue past : History) (earlier : List Deed) (does : Action) (told : Told) → ((block : ℕ) (found : Content) → does ≡ action.Get block → MayHold block (first (application_number block)) (up_to_done (jobs_told (map (λ (d : Deed). d.1) earlier)) queue) found
    → MayHold block (other (application_number block)) (up_to_done (jobs_told (map (λ (d : Deed). d.1) earlier)) past) found) → GetsBy first queue earlier does told → GetsBy other past earlier does told
gets_also first other queue past earlier (action.Get block) (answers.Bytes found) may gets = may block (holding found.items) refl gets
gets_also first other queue past earlier (action.Get block) answers.NoBlock may gets = may block missing refl gets
gets_also first other queue past earlier (action.Get block) (answers.Dem reply) may gets = tt
gets_also first other queue past earlier (action.Get block) (answers.Saved number) may gets = tt
gets_also first other queue past earlier (action.Get block) (answers.SaveFailed fault) may gets = tt
gets_also first other queue past earlier (action.Get block) (answers.Queue reply) may gets = tt
gets_also first other queue past earlier (action.Get block) (answers.Drained written failed) may gets = tt
gets_also first other queue past earlier (action.Get block) answers.BlockFlash may gets = tt
gets_also first other queue past earlier (action.Get block) answers.Armed may gets = tt
gets_also first other queue past earlier (action.Get block) answers.Dark may gets = tt
gets_also first other queue past earlier (action.Call op) told may gets = tt
gets_also first other queue past earlier (action.Queue op) told may gets = tt
gets_also first other queue past earlier action.Save told may gets = tt
gets_also first other queue past earlier action.Drain told may gets = tt
gets_also first other queue past earlier (action.Arm arm) told may gets = tt
