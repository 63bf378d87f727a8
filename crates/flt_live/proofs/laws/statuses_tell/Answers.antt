use Rattle.std.proofs.Common.{inl, inr, refl}
use Rattle.flt_file.specs.declared.opening.OpenFault.TheVariants as shelves
use Rattle.flt_restore.specs.declared.fault.StartFault.TheVariants as faults
use Rattle.flt_life_model.specs.declared.life.Boot.TheVariants as boots
use Rattle.flt_live.specs.Laws.{MayEndSo}
use Rattle.flt_live.specs.Session.{Closed, Ended, Other, Refused, SessionEnd, Unread, Unreadable, status_due}
use Rattle.flt_live.proofs.laws.statuses_tell.Goals as goal

tell : (end : SessionEnd) → MayEndSo (status_due end) end
tell Unreadable = inl refl
tell (Refused fault) = inr (fault, refl)
tell Other = inl refl
tell (Closed (shelves.Size found needed)) = (found, needed, refl)
tell (Closed shelves.InUse) = refl
tell (Closed shelves.Memory) = refl
tell (Closed shelves.NoFolder) = (_, tt, refl)
tell (Closed shelves.NoFile) = (_, tt, refl)
tell (Closed shelves.ReadOnly) = (_, tt, refl)
tell (Closed (shelves.Make error)) = (_, tt, refl)
tell (Closed (shelves.Open error)) = (_, tt, refl)
tell (Closed (shelves.Folder error)) = (_, tt, refl)
tell (Closed (shelves.Store fault)) = (_, tt, refl)
tell Unread = inr refl
tell (Ended (boots.Started number state)) = (number, state, refl)
tell (Ended boots.Dark) = inl refl
tell (Ended (boots.Refused faults.Flash)) = inr refl
tell (Ended (boots.Refused (faults.Damaged place))) = (_, tt, refl)
tell (Ended (boots.Refused (faults.OtherConfig found wanted))) = (_, tt, refl)
tell (Ended (boots.Refused faults.SequenceSpent)) = refl

pub returns : goal.returns
returns c = tell
